-- The tests of a window: the addresses that it holds, and which byte of a run is the first outside.
-- Assumes nothing.
use mathlib.Core.Path.{◌≡◌, refl, sym, ◌∙◌}
use mathlib.Core.Logic.{◌⊎◌, inl, inr}
use Prim.Native.Nat.{ℕ, ◌+◌, ◌^◌, ◌≤◌, ◌<◌}
use native.Mathlib.Omega.{arith}
use mathlib.Core.Bool.{Bool, true, false, not, ◌&&◌, ◌||◌, true≢false}
use mathlib.Core.Option.{none}
use mathlib.Core.List.{List, [], ◌∷◌}
use lib.Dec.{eqb, leb, ltb}
use lib.ListN.{length}
use borrow.Author.Tests.{eq-eqb, eqb-true, le-leb, lt-leb, lt-ltb, le-ltb, leb-true, ltb-true, ltb-false, not-false}
use Rattle.digits.proofs.Tests.{both, or_false}
use Rattle.marks.specs.Marks.{row_length}
use Rattle.marks.proofs.Below.{split}
use Rattle.steps.specs.Steps.{outside}
use Rattle.steps.specs.Runs.{run}
use Rattle.steps.proofs.Runs.{run_inside, run_outside}
use Rattle.window.specs.Window.{within, unfit}
use Rattle.window.specs.Promises.{FirstOutside}
use Rattle.window.specs.Claims.{Window}
use Rattle.std.specs.Prelude.{None, Some}

-- ---- the addresses that it holds

module _ (first size address : ℕ) where
  pub within_true : within first size address ≡ true → (first ≤ address) × (address < first + size)
  unfolding within
  within_true e = let (x, y) = both (leb first address) (ltb address (first + size)) e in (leb-true first address x, ltb-true address (first + size) y)

  pub true_within : first ≤ address → address < first + size → within first size address ≡ true
  unfolding within
  true_within l u = rw (le-leb first address l, lt-ltb address (first + size) u)

  pub below_false : address < first → within first size address ≡ false
  unfolding within
  below_false l = rw (lt-leb first address l)

  pub beyond_false : first + size ≤ address → within first size address ≡ false
  unfolding within
  beyond_false u = go (leb first address)
    where
      go : (b : Bool) → b && ltb address (first + size) ≡ false
      go true = le-ltb address (first + size) u
      go false = refl

-- what is not held lies before or after
pub beside : (first size address : ℕ) → within first size address ≡ false → (address < first) ⊎ (first + size ≤ address)
beside first size a e =
    split first a (λ l. split (first + size) a (λ u. inr u) (λ u. absurd (true≢false (sym (true_within first size a l u) ∙ e)))) (λ l. inl l)

-- ---- a window that is not refused

pub good_window : (first : ℕ) (page marks : List ℕ) → unfit first (length page) (length marks) ≡ false → Window first page marks
unfolding unfit
good_window first page marks e =
    let (ab, c) = or_false (not (eqb (row_length (length page)) (length marks)) || ltb 65536 (length page)) (ltb (2 ^ 32) (first + length page)) e in
    let (a, b) = or_false (not (eqb (row_length (length page)) (length marks))) (ltb 65536 (length page)) ab in
    record {
      row = sym (eqb-true (row_length (length page)) (length marks) (not-false (eqb (row_length (length page)) (length marks)) a));
      small = ltb-false 65536 (length page) b;
      below = ltb-false (2 ^ 32) (first + length page) c;
    }

pub no_window : (first : ℕ) (page marks : List ℕ) → unfit first (length page) (length marks) ≡ true → ¬ Window first page marks
unfolding unfit
no_window first page marks e w =
    true≢false (sym e ∙ rw (eq-eqb (row_length (length page)) (length marks) (sym w.row), le-ltb 65536 (length page) w.small, le-ltb (2 ^ 32) (first + length page) w.below))

-- ---- the first byte outside

module _ (inside : ℕ → Bool) (address : ℕ) where
  pub outside_nothing : (len : ℕ) → len ≡ 0 → FirstOutside inside address len None
  unfolding outside run
  outside_nothing len z = record { answer = go; among = λ i e. let w : ◌≡◌ {A = ℕ} 0 1 = cc in absurd (omega arith) }
    where
      go : (bytes : List ℕ) → length bytes ≡ len → outside inside (run address bytes) ≡ none
      go [] e = refl
      go (b ∷ bytes) e = absurd (omega arith)

  pub outside_none : (len : ℕ) → ((i : ℕ) → i < len → inside (address + i) ≡ true) → FirstOutside inside address len None
  outside_none len x =
      record {
        answer = λ bytes e. run_inside inside address bytes (λ i h. x i (omega arith));
        among = λ i e. let w : ◌≡◌ {A = ℕ} 0 1 = cc in absurd (omega arith);
      }

  pub outside_at : (len k : ℕ) → k < len → ((i : ℕ) → i < k → inside (address + i) ≡ true) → inside (address + k) ≡ false
      → FirstOutside inside address len (Some k)
  outside_at len k h x o =
      record {
        answer = λ bytes e. run_outside inside address k bytes (omega arith) x o;
        among = λ i e. let z : k ≡ i = cc in omega arith;
      }
