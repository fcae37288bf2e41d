-- The private functions of the light: a comparison, a count in a page, and what a load comes to.
-- Assumes nothing.
use Rattle.std.proofs.Common.{◌≡◌, ℕ, ◌+◌, ◌-◌, ◌*◌, ◌%◌, ◌<◌, ◌≤◌, Bool, true, false, eqb, List, length, get_or, sym, refl, ap, ◌∙◌, arith, eq-eqb, eqb-true}
use Rattle.marks.specs.Marks.{mark_at, IsMarked}
use Rattle.steps.specs.declared.LoaderError.TheVariants.{BadWindow}
use Rattle.steps.specs.Aliases.{Loading}
use Rattle.steps.specs.Steps.{accepted}
use Rattle.steps.specs.Source.{Source}
use Rattle.steps.specs.Told.{tallied, told_loading, is_accepted}
use Rattle.window.specs.Load.{load_window, LoadWindow}
use Rattle.window.proofs.Loads.{marked_below, sizes_kept}
use Rattle.light.specs.declared.Color.TheVariants.{Broken, NoCount, First, Green, Stale, Restarted}
use Rattle.light.specs.declared.Color.{Color as CodeColor}
use Rattle.light.specs.declared.Light.{Light}
use Rattle.light.specs.declared.Dumped.{Dumped}
use Rattle.light.specs.Colors.{forward, compared, color}
use Rattle.light.specs.Light.{count_in, said_in, load_for, outcome, Dumps}
use Rattle.light.specs.Helpers.{Compared, Counts, MarkedInside, Held, Tells}
use Rattle.light.proofs.Colors.{at_zero, at_little, at_much}
use Rattle.std.specs.Prelude.{None, Ok, Some}
use Rattle.steps.specs.Aliases.{refuse}
use Rattle.std.specs.Prelude.{Err}
use Rattle.std.specs.Result.{is_err}

-- ---- a comparison

-- the difference that wraps is how far the count moved forward
abbrev moved : (before count : ℕ) → ℕ
moved before count = (count + (65536 - before)) % 65536

module _ (before count : ℕ) (b : before < 65536) where
  is_forward : forward before count ≡ moved before count
  is_forward = omega arith

  pub compared_stale : moved before count ≡ 0 → Compared (Some before) count Stale
  compared_stale z = record { color_is = sym (at_zero before count (is_forward ∙ z)) }

  pub compared_green : ¬ (moved before count ≡ 0) → moved before count ≤ 32767 → Compared (Some before) count Green
  compared_green n l = let m = is_forward in record { color_is = sym (at_little before count (omega (arith, n)) (omega arith)) }

  pub compared_restarted : 32768 ≤ moved before count → Compared (Some before) count Restarted
  compared_restarted l = let m = is_forward in record { color_is = sym (at_much before count (omega arith)) }

pub compared_first : (count : ℕ) → Compared None count First
unfolding compared
compared_first count = record { color_is = refl }

-- ---- a count

pub marked_true : (marks : List ℕ) (p : ℕ) {q : ℕ} {r : Bool} → IsMarked marks q r → r ≡ true → q ≡ p → eqb (mark_at marks p) 1 ≡ true
marked_true marks p {q} x e s = rw (← s) (eq-eqb (mark_at marks q) 1 (x.answer.0 e))

pub marked_false : (marks : List ℕ) (p : ℕ) {q : ℕ} {r : Bool} → IsMarked marks q r → r ≡ false → q ≡ p → eqb (mark_at marks p) 1 ≡ false
marked_false marks p {q} x e s = rw (← s) (go (eqb (mark_at marks q) 1) refl)
  where
    go : (b : Bool) → eqb (mark_at marks q) 1 ≡ b → b ≡ false
    go true h = let y = x.answer.1 (eqb-true (mark_at marks q) 1 h) in let z : ◌≡◌ {A = ℕ} 0 1 = cc in absurd (omega arith)
    go false h = refl

module _ (page marks : List ℕ) (high low : ℕ) where
  pub no_high : eqb (mark_at marks high) 1 ≡ false → Counts page marks high low None
  unfolding count_in
  no_high e = record { count_is = rw e }

  pub no_low : eqb (mark_at marks high) 1 ≡ true → eqb (mark_at marks low) 1 ≡ false → Counts page marks high low None
  unfolding count_in
  no_low h e = record { count_is = rw (h, e) }

  pub both_there : (n : ℕ) → eqb (mark_at marks high) 1 ≡ true → eqb (mark_at marks low) 1 ≡ true → n ≡ 256 * get_or page high 0 + get_or page low 0
      → Counts page marks high low (Some n)
  unfolding count_in
  both_there n h l e = record { count_is = rw (h, l, e) }

-- ---- what a load comes to

-- an answer is a refusal or an acceptance
pub refusal : (answer : Loading) → is_err answer ≡ true → is_accepted answer ≡ false
refusal (Ok t) e = let z : ◌≡◌ {A = ℕ} 0 1 = cc in absurd (omega arith)
refusal (Err z) e = refl

pub acceptance : (answer : Loading) → is_err answer ≡ false → is_accepted answer ≡ true
acceptance (Ok t) e = refl
acceptance (Err z) e = let z : ◌≡◌ {A = ℕ} 0 1 = cc in absurd (omega arith)

-- after an accepted load, a place that is marked lies in the page
pub held_now : (answer : Loading) (page marks : List ℕ) → Held answer page marks → is_accepted answer ≡ true → MarkedInside page marks
held_now (Ok t) page marks h e = h (tallied t) refl
held_now (Err z) page marks h e = let z : ◌≡◌ {A = ℕ} 0 1 = cc in absurd (omega arith)

module _ (l : Light) (answer : Loading) (page marks : List ℕ) where
  pub tells_broken : is_accepted answer ≡ false → Tells l answer page marks (record { color = Broken; answer = answer; light = l })
  unfolding said_in color
  tells_broken e = go answer refl e
    where
      go : (a : Loading) → answer ≡ a → is_accepted a ≡ false → Tells l answer page marks (record { color = Broken; answer = answer; light = l })
      go (Ok t) q e = let z : ◌≡◌ {A = ℕ} 0 1 = cc in absurd (omega arith)
      go (Err z) q e = record { color_is = rw q; answer_is = refl; light_is = rw q }

  pub tells_none : is_accepted answer ≡ true → Counts page marks l.high l.low None → Tells l answer page marks (record { color = NoCount; answer = answer; light = l })
  unfolding said_in color
  tells_none e c = go answer refl e
    where
      go : (a : Loading) → answer ≡ a → is_accepted a ≡ true → Tells l answer page marks (record { color = NoCount; answer = answer; light = l })
      go (Ok t) q e = record { color_is = rw (q, ← c.count_is); answer_is = refl; light_is = rw (q, ← c.count_is) }
      go (Err z) q e = let z : ◌≡◌ {A = ℕ} 0 1 = cc in absurd (omega arith)

  pub tells_count : (n : ℕ) (k : CodeColor) → is_accepted answer ≡ true → Counts page marks l.high l.low (Some n) → Compared l.known n k
      → Tells l answer page marks (record { color = k; answer = answer; light = record { first = l.first; length = l.length; high = l.high; low = l.low; known = Some n } })
  unfolding said_in color
  tells_count n k e c m = go answer refl e
    where
      go : (a : Loading) → answer ≡ a → is_accepted a ≡ true
          → Tells l answer page marks (record { color = k; answer = answer; light = record { first = l.first; length = l.length; high = l.high; low = l.low; known = Some n } })
      go (Ok t) q e = record { color_is = rw (q, ← c.count_is) m.color_is; answer_is = refl; light_is = rw (q, ← c.count_is) }
      go (Err z) q e = let z : ◌≡◌ {A = ℕ} 0 1 = cc in absurd (omega arith)

-- ---- a dump

module _ {S : Type 0} (src : Source S) (l : Light) (text page marks : List ℕ) where
  pub dumps_misfit : ¬ (length page ≡ l.length) → Dumps src l text page marks (record { color = Broken; answer = refuse BadWindow 0; light = l }) page marks
  unfolding outcome load_for said_in color
  dumps_misfit n = let e : eqb (length page) l.length ≡ false = not_equal (length page) l.length n in record { color_is = rw e; answer = rw e; light = rw e; page = rw e; marks = rw e }
    where
      not_equal : (a b : ℕ) → ¬ (a ≡ b) → eqb a b ≡ false
      not_equal a b n = go (eqb a b) refl
        where
          go : (x : Bool) → eqb a b ≡ x → x ≡ false
          go true q = absurd (n (eqb-true a b q))
          go false q = refl

  module _ (answer : Loading) (page' marks' : List ℕ) (loads : LoadWindow src text l.first page marks answer page' marks') where
    -- a place that is marked after an accepted load lies in the page
    pub held : Held answer page' marks'
    held t e i m =
        let a : (load_window src text l.first page marks).answer ≡ accepted t = sym loads.answer ∙ e in
        let h = marked_below src text l.first page marks t a i (rw loads.marks at m) in
        omega (arith, h, size)
      where
        size : length page' ≡ length page
        size = ap length loads.page ∙ (sizes_kept S src text l.first page marks).0

    pub dumps_told : length page ≡ l.length → (r : Dumped) → Tells l answer page' marks' r → Dumps src l text page marks r page' marks'
    unfolding outcome load_for
    dumps_told e r t =
        let q : eqb (length page) l.length ≡ true = eq-eqb (length page) l.length e in
        record {
          color_is = rw q (rw (loads.answer, loads.page, loads.marks) at t.color_is);
          answer = rw q (ap told_loading t.answer_is ∙ loads.answer);
          light = rw q (rw (loads.answer, loads.page, loads.marks) at t.light_is);
          page = rw q loads.page;
          marks = rw q loads.marks;
        }
