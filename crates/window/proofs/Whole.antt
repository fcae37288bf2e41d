-- A run that lies wholly in the window that a page is, and one that does not.
-- Assumes nothing.
use mathlib.Core.Path.{◌≡◌, refl, sym, ap, ◌∙◌}
use mathlib.Core.Logic.{◌⊎◌, inl, inr}
use Prim.Native.Nat.{ℕ, ◌+◌, ◌-◌, ◌≤◌, ◌<◌}
use native.Mathlib.Omega.{arith}
use mathlib.Core.Bool.{Bool, true, false, true≢false}
use mathlib.Core.Option.{some}
use mathlib.Core.List.{List, [], ◌∷◌}
use lib.Dec.{eqb}
use lib.ListN.{length}
use lib.Seq.{take-length}
use borrow.Author.Tests.{eq-eqb, eqb-true, le-ltb}
use Rattle.marks.specs.Marks.{marked_run}
use Rattle.marks.proofs.Below.{split}
use Rattle.steps.specs.Runs.{spread, run}
use Rattle.window.specs.declared.Part.{Part}
use Rattle.window.specs.Window.{within, window}
use Rattle.window.specs.Table.{row}
use Rattle.window.specs.Promises.{FirstOutside, Surveyed, Copied, Painted, stretch, PutInside}
use Rattle.window.specs.Claims.{PutInsideUnique}
use Rattle.window.proofs.Tests.{true_within, below_false, beyond_false, outside_nothing, outside_none, outside_at}
use Rattle.window.proofs.Storing.{shows, stretch_shows, put_part}
use Rattle.window.proofs.Claims.{first_outside_unique}
use Rattle.window.proofs.Loads.{painted_nothing}
use Rattle.window.proofs.Spread.{Runs, code_whole, stored_once}
use Rattle.window.proofs.Taking.{painted_once}
use Rattle.std.specs.Prelude.{None, Some}

-- ---- what the page shows

-- a window that fills the page, as a row of a table
shown_alike : (first size i : ℕ) → stretch size (row 1 first size 0) i ≡ window first size i
unfolding stretch window
shown_alike first size i =
    let same : first + (i - 0) ≡ first + i = omega arith in
    split size i (λ u. rw (le-ltb i size u)) (λ h. stretch_shows size (row 1 first size 0) i h (omega arith) (omega arith) ∙ ap some same ∙ sym (shows first size i h))

-- ---- the run lies in it

module _ (first address : ℕ) (bytes page marks : List ℕ) where
  none_outside : first ≤ address → address + length bytes ≤ first + length page → FirstOutside (within first (length page)) address (length bytes) None
  none_outside l u = outside_none (within first (length page)) address (length bytes) (λ i h. true_within first (length page) (address + i) (omega arith) (omega arith))

  whole_painted : (place : ℕ) → first + place ≡ address → place + length bytes ≤ length page → (page' marks' : List ℕ)
      → Copied bytes place page page' → marks' ≡ marked_run marks place (length bytes)
      → Painted (window first (length page)) (run address bytes) page marks page' marks'
  whole_painted place e u page' marks' c m =
      let part : Part = record { skip = 0; place = place; len = length bytes } in
      let alike : stretch (length page) (row 1 first (length page) 0) ≡ window first (length page) = λ k i. shown_alike first (length page) i k in
      rw alike at (put_part (row 1 first (length page) 0) address bytes page marks 0 (length page) (omega arith) (omega arith) part place (omega arith) page' marks'
      (record {
        in_run = omega arith;
        in_page = omega arith;
        same_address = λ h. omega arith;
        all = λ i k h l q. (omega arith, omega arith);
      })
      (rw (take-length bytes) c) m)

  pub put_whole : (place : ℕ) → first + place ≡ address → place + length bytes ≤ length page → (page' marks' : List ℕ)
      → Copied bytes place page page' → marks' ≡ marked_run marks place (length bytes) → PutInside first address bytes page marks true page' marks'
  put_whole place e u page' marks' c m =
      record {
        answer = (λ t. none_outside (omega arith) (omega arith), λ f. refl);
        stored = λ t. whole_painted place e u page' marks' c m;
        kept = λ f. absurd (true≢false f);
      }

-- ---- the run does not lie in it

-- it begins before the window or ends after it
abbrev pub Apart : (first size address len : ℕ) → Type 0
Apart first size address len = (address < first) ⊎ (first + size < address + len)

-- then, if it has a byte, one lies outside
not_inside : (first size address len : ℕ) → 0 < len → Apart first size address len → FirstOutside (within first size) address len None → ⊥
not_inside first size address len h a f = go a
  where
    no_other : (k : ℕ) → FirstOutside (within first size) address len (Some k) → ⊥
    no_other k o = let e : None ≡ Some k = first_outside_unique (within first size) address len None (Some k) f o in let z : ◌≡◌ {A = ℕ} 0 1 = cc in absurd (omega arith)

    before : address < first → ⊥
    before l = no_other 0 (outside_at (within first size) address len 0 h (λ i x. absurd (omega arith)) (below_false first size (address + 0) (omega arith)))

    after : first ≤ address → first + size < address + len → ⊥
    after l u =
        let k = first + size - address in
        no_other k (outside_at (within first size) address len k (omega arith) (λ i x. true_within first size (address + i) (omega arith) (omega arith)) (beyond_false first size (address + k) (omega arith)))

    go : Apart first size address len → ⊥
    go (inl l) = before l
    go (inr u) = split first address (λ l. after l u) before

no_run : (address : ℕ) (bytes : List ℕ) → length bytes ≡ 0 → run address bytes ≡ []
unfolding run
no_run address [] e = refl
no_run address (b ∷ bytes) e = absurd (omega arith)

module _ (first address : ℕ) (bytes page marks : List ℕ) where
  pub put_none : Apart first (length page) address (length bytes) → PutInside first address bytes page marks (eqb (length bytes) 0) page marks
  put_none a =
      record {
        answer = (λ t. outside_nothing (within first (length page)) address (length bytes) (eqb-true (length bytes) 0 t), λ f. eq-eqb (length bytes) 0 (empty f));
        stored = λ t. rw (no_run address bytes (eqb-true (length bytes) 0 t)) (painted_nothing (window first (length page)) page marks);
        kept = λ f. (refl, refl);
      }
    where
      empty : FirstOutside (within first (length page)) address (length bytes) None → length bytes ≡ 0
      empty f = split 1 (length bytes) (λ h. absurd (not_inside first (length page) address (length bytes) (omega arith) a f)) (λ h. omega arith)

-- ---- the bytes of a record that lie one after the other, as `put_inside` stores them

module _ (at : ℕ → ℕ) (first a : ℕ) (is_a : a ≡ at 0) (bytes page marks : List ℕ) (runs : Runs at (length bytes) (length bytes))
    (r : Bool) (page' marks' : List ℕ) (p : PutInside first a bytes page marks r page' marks') (t : r ≡ true) where
  pub whole_inside : Surveyed at (length bytes) (within first (length page)) None
  whole_inside = code_whole at (length bytes) (within first (length page)) (length bytes) (omega arith) runs a is_a refl None (p.answer.0 t)

  pub whole_stored : Painted (window first (length page)) (spread at 0 bytes) page marks page' marks'
  whole_stored = stored_once at (window first (length page)) bytes page marks (length bytes) (omega arith) runs a is_a page' marks' (rw (take-length bytes) (p.stored t)) (omega arith)

-- ---- no second answer meets the contract

pub put_inside_unique : PutInsideUnique
put_inside_unique first address bytes page marks r r' p p' m m' b x y = go r r' x y
  where
    go : (r r' : Bool) → PutInside first address bytes page marks r p m → PutInside first address bytes page marks r' p' m' → (r ≡ r') × (p ≡ p') × (m ≡ m')
    go true true x y =
        let (u, v) = painted_once (window first (length page)) (run address bytes) page marks p p' m m' b (x.stored refl) (y.stored refl) in
        (refl, u, v)
    go false false x y =
        let (u, v) = x.kept refl in
        let (u', v') = y.kept refl in
        (refl, u ∙ sym u', v ∙ sym v')
    go true false x y = absurd (true≢false (sym (y.answer.1 (x.answer.0 refl))))
    go false true x y = absurd (true≢false (sym (x.answer.1 (y.answer.0 refl))))
