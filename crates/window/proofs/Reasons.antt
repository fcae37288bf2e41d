-- Why a load answers as it does: where it goes is bad, or the walk over its lines has found the line that decides, or none.
-- Assumes nothing.
use mathlib.Core.Path.{◌≡◌, refl, ap, ◌∙◌}
use Prim.Native.Nat.{ℕ}
use native.Mathlib.Omega.{arith}
use mathlib.Core.Bool.{Bool, true, false, ◌||◌}
use mathlib.Core.Option.{Option, none, some}
use mathlib.Core.List.{List, [], ◌∷◌}
use lib.Dec.{eqb}
use borrow.Author.Tests.{eq-eqb}
use Rattle.digits.proofs.Tests.{or_true}
use lib.ListN.{length}
use Rattle.std.specs.Prelude.{if◌then◌else◌}
use Rattle.record.specs.Refusals.{Refusal, number_of, bad_window, bad_table}
use Rattle.reader.specs.Lines.{lines}
use Rattle.steps.specs.Steps.{nothing_yet, Verdict, accepted, refused, Decision, by, decision, verdict}
use Rattle.steps.specs.Source.{Source, steps_of}
use Rattle.steps.specs.Sites.{stopping_by}
use Rattle.steps.specs.Account.{Account, Among}
use Rattle.steps.proofs.Firsts.{Sound, Walked, none_decided, one_decided, as_decided}
use Rattle.window.specs.Window.{within, unfit, one_window}
use Rattle.window.specs.Claims.{Window}
use Rattle.window.specs.Load.{stopping_by_window}
use Rattle.window.specs.Table.{inside_of, fits, owned, BadTable}
use Rattle.window.specs.Tables.{load_table}
use Rattle.window.specs.Reasons.{WhyIn, bad_one, no_end, at_line, LoadReasons, LoadOneReason, TableReasons, TableOneReason}
use Rattle.window.proofs.Tests.{good_window, no_window}
use Rattle.window.proofs.Loads.{load_answer}
use Rattle.window.proofs.Table.{within_limits, breaks}
use Rattle.window.proofs.Tables.{as_plain, plain_answer}

module _ {S : Type 0} (src : Source S) (account : (inside : ℕ → Bool) → Account) where
  -- by a walk over the lines
  abbrev Walks : Type 0
  Walks = (inside : ℕ → Bool) (text : List ℕ) → Walked (account inside) [] (steps_of src text) 1 (lines text) (decision inside nothing_yet (steps_of src text))

  module _ (text : List ℕ) (Good Bad : Type 0) (bad : Refusal) (inside : ℕ → Bool) where
    by_its_line : Good → (d : Option Decision) → Walked (account inside) [] (steps_of src text) 1 (lines text) d → WhyIn src account text Good Bad bad inside (verdict d)
    unfolding verdict
    by_its_line w none all = no_end w all
    by_its_line w (some (by m v)) f = at_line m v w (as_decided (account inside) (steps_of src text) (lines text) m v f)

    -- what is wrong, if a test says so
    by_test : Walks → (b : Bool) → (b ≡ true → Bad) → (b ≡ false → Good) → WhyIn src account text Good Bad bad inside (verdict (stopping_by (if b then some bad else none) inside (steps_of src text)))
    unfolding verdict stopping_by
    by_test walked true wrong right = bad_one (wrong refl)
    by_test walked false wrong right = by_its_line (right refl) (decision inside nothing_yet (steps_of src text)) (walked inside text)

    one_of_them : Sound (account inside) → (Good → Bad → ⊥) → {v v' : Verdict} → WhyIn src account text Good Bad bad inside v → WhyIn src account text Good Bad bad inside v' → v ≡ v'
    one_of_them sound not_both (bad_one b) (bad_one b') = refl
    one_of_them sound not_both (bad_one b) (no_end w all) = absurd (not_both w b)
    one_of_them sound not_both (bad_one b) (at_line n v w d) = absurd (not_both w b)
    one_of_them sound not_both (no_end w all) (bad_one b) = absurd (not_both w b)
    one_of_them sound not_both (no_end w all) (no_end w' all') = refl
    one_of_them sound not_both (no_end w all) (at_line n v w' d) = absurd (none_decided (account inside) sound (steps_of src text) (lines text) all d)
    one_of_them sound not_both (at_line n v w d) (bad_one b) = absurd (not_both w b)
    one_of_them sound not_both (at_line n v w d) (no_end w' all) = absurd (none_decided (account inside) sound (steps_of src text) (lines text) all d)
    one_of_them sound not_both (at_line n v w d) (at_line n' v' w' d') = one_decided (account inside) sound (steps_of src text) (lines text) d d'

  -- ---- one window

  pub load_reasons : ((inside : ℕ → Bool) (text : List ℕ) → Walked (account inside) [] (steps_of src text) 1 (lines text) (decision inside nothing_yet (steps_of src text)))
      → LoadReasons src account
  unfolding stopping_by_window one_window
  load_reasons walked text first page marks =
      rw (load_answer src text first page marks)
      (by_test text (Window first page marks) (¬ Window first page marks) bad_window (within first (length page)) walked (unfit first (length page) (length marks)) (no_window first page marks) (good_window first page marks))

  pub load_one_reason : ((inside : ℕ → Bool) → Sound (account inside)) → LoadOneReason src account
  load_one_reason sound text first page marks v v' =
      one_of_them text (Window first page marks) (¬ Window first page marks) bad_window (within first (length page)) (sound (within first (length page))) (λ w b. b w)

  -- ---- a table

  pub table_reasons : ((inside : ℕ → Bool) (text : List ℕ) → Walked (account inside) [] (steps_of src text) 1 (lines text) (decision inside nothing_yet (steps_of src text)))
      → TableReasons src account
  unfolding load_table owned
  table_reasons walked owner rows text pool marks =
      rw ((as_plain owner rows (steps_of src text) pool marks).0 ∙ plain_answer owner rows (steps_of src text) pool marks) (go (fits owner (length pool) (length marks) rows) refl)
    where
      Bad : Type 0
      Bad = BadTable owner (length pool) (length marks) rows

      go : (b : Bool) → fits owner (length pool) (length marks) rows ≡ b
          → WhyIn src account text (¬ BadTable owner (length pool) (length marks) rows) (BadTable owner (length pool) (length marks) rows) bad_table (inside_of owner rows)
          (verdict (stopping_by (if b then none else some bad_table) (inside_of owner rows) (steps_of src text)))
      go true e = by_test text (¬ Bad) Bad bad_table (inside_of owner rows) walked false (λ q. let z : ◌≡◌ {A = ℕ} 0 1 = cc in absurd (omega arith)) (λ q. within_limits owner (length pool) (length marks) rows e)
      go false e = by_test text (¬ Bad) Bad bad_table (inside_of owner rows) walked true (λ q. breaks owner (length pool) (length marks) rows e) (λ q. let z : ◌≡◌ {A = ℕ} 0 1 = cc in absurd (omega arith))

  pub table_one_reason : ((inside : ℕ → Bool) → Sound (account inside)) → TableOneReason src account
  table_one_reason sound owner rows text pool marks v v' =
      let Bad = BadTable owner (length pool) (length marks) rows in
      one_of_them text (¬ Bad) Bad bad_table (inside_of owner rows) (sound (inside_of owner rows)) (λ w b. w b)

-- ---- the numbers of refusals

-- two numbers more
more : (a b : ℕ) (numbers : List ℕ) (v : Verdict) → Among numbers v → Among (a ∷ b ∷ numbers) v
more a b numbers (accepted t) h = tt
more a b numbers (refused r n) h = rw h (ap (λ (x : Bool). eqb (number_of r) a || x) (or_true (eqb (number_of r) b)) ∙ or_true (eqb (number_of r) a))

module _ {S : Type 0} (src : Source S) (account : (inside : ℕ → Bool) → Account) (numbers : List ℕ)
    (lines_give : (inside : ℕ → Bool) (ahead : List (List ℕ)) (line : List ℕ) (n : ℕ) (v : Verdict) → (account inside).stops ahead line n v → Among numbers v) where
  -- beside those that a line gives, 13 and what is wrong with where the load goes
  pub why_among : (text : List ℕ) (Good Bad : Type 0) (bad : Refusal) (inside : ℕ → Bool) {v : Verdict} → WhyIn src account text Good Bad bad inside v → Among (13 ∷ number_of bad ∷ numbers) v
  why_among text Good Bad bad inside (bad_one w) = rw (eq-eqb (number_of bad) (number_of bad) refl) (or_true (eqb (number_of bad) 13))
  why_among text Good Bad bad inside (no_end w all) = refl
  why_among text Good Bad bad inside (at_line n v w d) = more 13 (number_of bad) numbers v (lines_give inside d.ahead d.line n v d.stops)
