-- A call moves along what the text's lines say: it answers the first of it that is left, and leaves the rest.
-- Assumes nothing.
use Rattle.std.proofs.Common.{◌≡◌, ℕ, suc, ◌+◌, ◌-◌, ◌^◌, ◌<◌, Bool, true, false, ◌&&◌, ◌||◌, eqb, List, [], ◌∷◌, ◌++◌, length, take, drop, sym, refl, ap, ◌∙◌, ap₂, append_assoc, add-zero, add-suc, mod-eq_of_lt, arith, length-append, take-append-drop, drop_at}
use Rattle.std.specs.Prelude.{if◌then◌else◌}
use Rattle.record.specs.Line.{Said, judge}
use Rattle.digits.proofs.Tests.{if_true, both}
use Rattle.reader.specs.declared.State.{State}
use Rattle.reader.specs.Lines.{LF, CR, at_LF, first_line, rest, lines, later, Found, a_line, no_line, next_line}
use Rattle.reader.specs.Row.{Numbered, on, sayings}
use Rattle.reader.specs.Told.{Told}
use Rattle.reader.specs.Answer.{answered, poured}
use Rattle.reader.specs.Text.{is_full, ends_row, behind, next_number, Outcome, of_found, outcome}
use Rattle.reader.specs.Along.{unread, Countable, Heard, RanOut}
use Rattle.reader.proofs.Cutting.{at_LF_is, later_is, cut}
use Rattle.reader.proofs.Reading.{full_keeps, outcome_finished, outcome_found}

-- ---- what is said, from the line that is found on

-- what a text says whose first lines are numbered from m + k on, with k empty lines met, by the line that is found
pub from_found : (m : ℕ) → Found → List Numbered
from_found m (a_line e line left) = on (m + e) (judge line) ∷ sayings (m + suc e) (lines left)
from_found m (no_line e) = []

-- a text that holds the other at its end
abbrev pub Suffix : List ℕ → List ℕ → Type 0
Suffix left text = (front : List ℕ) × (text ≡ front ++ left)

-- how the line that is found counts: the empty lines, itself, and those behind it
abbrev Counts : (k : ℕ) → Found → List ℕ → Type 0
Counts k (a_line e line left) text = (k + length (lines text) ≡ suc e + length (lines left)) × Suffix left text
Counts k (no_line e) text = Unit

suffix_cons : (c : ℕ) {left text : List ℕ} → Suffix left text → Suffix left (c ∷ text)
suffix_cons c (front, e) = (c ∷ front, ap (λ (l : List ℕ). c ∷ l) e)

counts_LF : (k : ℕ) (f : Found) (c : ℕ) (text : List ℕ) → eqb c LF ≡ true → Counts (suc k) f text → Counts k f (c ∷ text)
unfolding lines
counts_LF k (a_line e line left) c text b (n, s) = (rw b (omega arith), suffix_cons c s)
counts_LF k (no_line e) c text b n = tt

-- a text that begins with LF has an empty first line
lines_at_LF : (text : List ℕ) → at_LF text ≡ true → lines text ≡ [] ∷ later text
unfolding lines first_line
lines_at_LF text a = let (t, l) = at_LF_is text a in rw l

counts_CR : (k : ℕ) (f : Found) (c : ℕ) (text : List ℕ) → eqb c LF ≡ false → at_LF text ≡ true → Counts k f text → Counts k f (c ∷ text)
unfolding lines
counts_CR k (a_line e line left) c text b a (n, s) = (rw b (omega (arith, n, ap length (lines_at_LF text a))), suffix_cons c s)
counts_CR k (no_line e) c text b a n = tt

pub says_found : (m k : ℕ) (text : List ℕ) → (sayings (m + k) (lines text) ≡ from_found m (next_line k text)) × Counts k (next_line k text) text
unfolding sayings lines next_line from_found first_line rest
says_found m k [] = (refl, tt)
says_found m k (c ∷ text) =
    go (eqb c LF) refl (eqb c CR && at_LF text) refl (says_found m (suc k) text) (says_found m k text)
  where
    go : (b₁ : Bool) → eqb c LF ≡ b₁ → (b₂ : Bool) → eqb c CR && at_LF text ≡ b₂
        → (sayings (m + suc k) (lines text) ≡ from_found m (next_line (suc k) text)) × Counts (suc k) (next_line (suc k) text) text
        → (sayings (m + k) (lines text) ≡ from_found m (next_line k text)) × Counts k (next_line k text) text
        → let f : Found = if b₁ then next_line (suc k) text else (if b₁ || b₂ then next_line k text else a_line k (if b₁ || b₂ then [] else c ∷ first_line text) (if b₁ then text else rest text)) in
        (sayings (m + k) ((if b₁ || b₂ then [] else c ∷ first_line text) ∷ (if b₁ then lines text else later text)) ≡ from_found m f) × Counts k f (c ∷ text)
    go true e₁ b₂ e₂ x y = (ap (λ (n : ℕ). sayings n (lines text)) (sym (add-suc m k)) ∙ x.0, counts_LF k (next_line (suc k) text) c text e₁ x.1)
    go false e₁ true e₂ x y =
        let a = (both (eqb c CR) (at_LF text) e₂).1 in
        (ap (sayings (m + k)) (sym (lines_at_LF text a)) ∙ y.0, counts_CR k (next_line k text) c text e₁ a y.1)
    go false e₁ false e₂ x y =
        (rw (later_is text, add-suc m k), (rw (e₁, later_is text) (omega arith), (c ∷ first_line text ++ (cut text).end, ap (λ (l : List ℕ). c ∷ l) ((cut text).whole ∙ sym (append_assoc (first_line text) (cut text).end (rest text))))))

-- ---- one call

-- the place where a suffix begins
pub suffix_at : (left text : List ℕ) → Suffix left text → drop (length text - length left) text ≡ left
suffix_at left text (front, e) =
    let n : length text - length left ≡ length front = let l = length-append front left in omega (arith, ap length e) in
    ap (λ (k : ℕ). drop k text) n ∙ ap (drop (length front)) e ∙ drop_at front left (length front) refl

pub suffix_drop : (p : ℕ) (left text : List ℕ) → Suffix left (drop p text) → Suffix left text
suffix_drop p left text (front, e) =
    (take p text ++ front, sym (take-append-drop p text) ∙ ap (λ (l : List ℕ). take p text ++ l) e ∙ sym (append_assoc (take p text) front left))

module _ (s : State) (text pool : List ℕ) (at : ℕ) (small : Countable s text) where
  module _ (e : ℕ) (line left : List ℕ) (counts : Counts 0 (a_line e line left) (drop s.position text)) where
    num : ℕ
    num = next_number s e

    num_is : num ≡ suc s.line + e
    unfolding num
    num_is =
        let h : s.line + (e + 1) < 2 ^ 64 = omega (arith, counts.0) in
        mod-eq_of_lt h ∙ omega arith

    left_at : drop (length text - length left) text ≡ left
    left_at = suffix_at left text (suffix_drop s.position left text counts.1)

    t : Told
    t = answered (judge line) (length pool) at

    moved : Outcome
    moved = record { told = t; state = behind s (length text - length left) num (ends_row s.options t); pool = poured (judge line) pool at }

    left_unread : unread moved.state text ≡ (if ends_row s.options t then [] else sayings (suc s.line + suc e) (lines left))
    unfolding unread moved
    left_unread =
        let n : suc num ≡ suc s.line + suc e = omega (arith, num_is) in
        ap₂ (λ (k : ℕ) (l : List ℕ). if ends_row s.options t then [] else sayings k (lines l)) n left_at

    answered_so : (b : Bool) → is_full t ≡ b
        → Heard s text pool at (suc s.line + e) (judge line) (sayings (suc s.line + suc e) (lines left))
        (if b then record { told = t; state = s; pool = pool } else moved)
    unfolding t moved num
    answered_so true f =
        record {
          tells = refl;
          poured_in = sym (full_keeps (judge line) pool at f);
          full = λ h. refl;
          line = λ h. let z : true ≡ false = sym f ∙ h in let w : ◌≡◌ {A = ℕ} 0 1 = cc in absurd (omega arith);
          options = refl;
          left = λ h. let z : true ≡ false = sym f ∙ h in let w : ◌≡◌ {A = ℕ} 0 1 = cc in absurd (omega arith);
          countable = small;
        }
    answered_so false f =
        record {
          tells = refl;
          poured_in = refl;
          full = λ h. let z : true ≡ false = sym h ∙ f in let w : ◌≡◌ {A = ℕ} 0 1 = cc in absurd (omega arith);
          line = λ h. num_is;
          options = refl;
          left = λ h. left_unread;
          countable = rw left_at (let n : num ≡ suc s.line + e = num_is in omega (arith, counts.0));
        }

  pub heard : (n : ℕ) (said : Said) (more : List Numbered) → unread s text ≡ on n said ∷ more → Heard s text pool at n said more (outcome s text pool at)
  unfolding unread from_found of_found t moved num
  heard n said more u = running s.finished refl u
    where
      found : (f : Found) → s.finished ≡ false → next_line 0 (drop s.position text) ≡ f → from_found (suc s.line) f ≡ on n said ∷ more → Counts 0 f (drop s.position text)
          → Heard s text pool at n said more (outcome s text pool at)
      found (a_line e line left) b q u counts =
          let i : suc s.line + e ≡ n = cc in
          let j : judge line ≡ said = cc in
          let k : sayings (suc s.line + suc e) (lines left) ≡ more = cc in
          rw (← i, ← j, ← k, outcome_found s text pool at b (a_line e line left) q) (answered_so e line left counts (is_full (answered (judge line) (length pool) at)) refl)
      found (no_line e) b q u counts = let z : ◌≡◌ {A = ℕ} 0 1 = cc in absurd (omega arith)

      running : (b : Bool) → s.finished ≡ b → (if b then [] else sayings (suc s.line) (lines (drop s.position text))) ≡ on n said ∷ more
          → Heard s text pool at n said more (outcome s text pool at)
      running true b u = let z : ◌≡◌ {A = ℕ} 0 1 = cc in absurd (omega arith)
      running false b u =
          let p = says_found (suc s.line) 0 (drop s.position text) in
          found (next_line 0 (drop s.position text)) b refl (sym p.0 ∙ ap (λ (k : ℕ). sayings k (lines (drop s.position text))) (add-zero (suc s.line)) ∙ u) p.1

  pub ended : unread s text ≡ [] → RanOut s text pool (outcome s text pool at)
  unfolding unread from_found of_found
  ended u = running s.finished refl u
    where
      found : (f : Found) → s.finished ≡ false → next_line 0 (drop s.position text) ≡ f → from_found (suc s.line) f ≡ []
          → RanOut s text pool (outcome s text pool at)
      found (a_line e line left) b q u = let z : ◌≡◌ {A = ℕ} 0 1 = cc in absurd (omega arith)
      found (no_line e) b q u =
          rw (outcome_found s text pool at b (no_line e) q) (record { tells = refl; untouched = refl; line = refl; options = refl; left = refl; countable = small })

      running : (b : Bool) → s.finished ≡ b → (if b then [] else sayings (suc s.line) (lines (drop s.position text))) ≡ [] → RanOut s text pool (outcome s text pool at)
      running true b u =
          rw (outcome_finished s text pool at b) (record { tells = refl; untouched = refl; line = refl; options = refl; left = if_true s.finished _ _ b; countable = small })
      running false b u =
          let p = says_found (suc s.line) 0 (drop s.position text) in
          found (next_line 0 (drop s.position text)) b refl (sym p.0 ∙ ap (λ (k : ℕ). sayings k (lines (drop s.position text))) (add-zero (suc s.line)) ∙ u)

-- what is left first was read from a line
first_judged : (m n : ℕ) (ls : List (List ℕ)) (said : Said) (more : List Numbered) → sayings m ls ≡ on n said ∷ more → (line : List ℕ) × (judge line ≡ said)
unfolding sayings
first_judged m n [] said more e = let z : ◌≡◌ {A = ℕ} 0 1 = cc in absurd (omega arith)
first_judged m n ([] ∷ ls) said more e = first_judged (suc m) n ls said more e
first_judged m n ((c ∷ line) ∷ ls) said more e = (c ∷ line, cc)

pub unread_judged : (s : State) (text : List ℕ) (n : ℕ) (said : Said) (more : List Numbered) → unread s text ≡ on n said ∷ more → (line : List ℕ) × (judge line ≡ said)
unfolding unread
unread_judged s text n said more e = go s.finished e
  where
    go : (b : Bool) → (if b then [] else sayings (suc s.line) (lines (drop s.position text))) ≡ on n said ∷ more → (line : List ℕ) × (judge line ≡ said)
    go true e = let z : ◌≡◌ {A = ℕ} 0 1 = cc in absurd (omega arith)
    go false e = first_judged (suc s.line) n (lines (drop s.position text)) said more e
