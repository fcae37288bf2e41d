-- One line taken into a window, for every source: how a function meets the contract, and that nothing else meets it.
-- Assumes nothing.
use mathlib.Core.Path.{◌≡◌, refl, sym, ◌∙◌}
use mathlib.Core.Logic.{◌≢◌}
use Prim.Native.Nat.{ℕ, ◌+◌, ◌^◌}
use native.Mathlib.Omega.{arith}
use mathlib.Core.Bool.{Bool, true, false}
use mathlib.Core.Option.{Option}
use mathlib.Core.List.{List, []}
use lib.ListN.{length}
use borrow.Author.Tests.{eq-eqb, ne_eqb}
use Rattle.marks.specs.Claims.{Bytes}
use Rattle.marks.proofs.Claims.{same_bits}
use Rattle.steps.specs.Steps.{Placement, Tally}
use Rattle.steps.specs.Source.{Source}
use Rattle.steps.specs.Taken.{Went, at_line}
use Rattle.window.specs.Window.{within, window, unfit}
use Rattle.window.specs.Promises.{Painted}
use Rattle.window.specs.Taking.{closed, TakeLineOf}

-- ---- what cannot be taken

module _ (records first page marks : ℕ) where
  pub closed_unfit : unfit first page marks ≡ true → closed records first page marks ≡ true
  closed_unfit u = rw u

  pub closed_full : unfit first page marks ≡ false → records + 1 ≡ 2 ^ 64 → closed records first page marks ≡ true
  closed_full u e = rw (u, eq-eqb (records + 1) (2 ^ 64) e)

  pub not_closed : unfit first page marks ≡ false → records + 1 ≢ 2 ^ 64 → closed records first page marks ≡ false
  not_closed u n = rw (u, ne_eqb (records + 1) (2 ^ 64) n)

-- placements are painted in one way, on marks that are bytes
pub painted_once : (site : ℕ → Option ℕ) (ps : List Placement) (page marks p p' m m' : List ℕ) → Bytes marks
    → Painted site ps page marks p m → Painted site ps page marks p' m' → (p ≡ p') × (m ≡ m')
painted_once site ps page marks p p' m m' b x y =
    (x.page ∙ sym y.page, same_bits m m' (x.row.bytes b) (y.row.bytes b) (x.row.same_length ∙ sym y.row.same_length) (x.marks ∙ sym y.marks))

-- ---- the contract

module _ {S R : Type 0} (src : Source S) (told : R → List Placement → Went S) (bad : R) (n : ℕ) (state : S) (tally : Tally) (line : List ℕ) (first : ℕ) (page marks : List ℕ) where
  abbrev Takes : R → (page' marks' : List ℕ) → Type 0
  Takes r page' marks' = TakeLineOf src told bad n state tally line first page marks r page' marks'

  -- nothing is taken
  pub take_closed : closed tally.records first (length page) (length marks) ≡ true → Takes bad page marks
  take_closed c = record { refused = λ t. (refl, refl, refl); taken = λ f. let z : ◌≡◌ {A = ℕ} 0 1 = cc in absurd (omega arith) }

  -- a line that came to something in the window
  pub take_open : closed tally.records first (length page) (length marks) ≡ false → (r : R) (ps : List Placement) (page' marks' : List ℕ)
      → at_line src (within first (length page)) n (record { state = state; tally = tally; stated = [] }) line ≡ told r ps
      → Painted (window first (length page)) ps page marks page' marks' → Takes r page' marks'
  take_open c r ps page' marks' e p =
      record {
        refused = λ t. let z : ◌≡◌ {A = ℕ} 0 1 = cc in absurd (omega arith);
        taken = λ f. record { stated = ps; comes_to = e; paints = p };
      }

  -- no second answer, page or marks meets it, where what is told says which answer it was and what was stated
  pub take_once : ((r r' : R) (ps ps' : List Placement) → told r ps ≡ told r' ps' → (r ≡ r') × (ps ≡ ps')) → (r r' : R) (p p' m m' : List ℕ) → Bytes marks
      → Takes r p m → Takes r' p' m' → (r ≡ r') × (p ≡ p') × (m ≡ m')
  take_once told_once r r' p p' m m' b x y = go (closed tally.records first (length page) (length marks)) refl
    where
      go : (c : Bool) → closed tally.records first (length page) (length marks) ≡ c → (r ≡ r') × (p ≡ p') × (m ≡ m')
      go true e =
          let (a, u, v) = x.refused e in
          let (a', u', v') = y.refused e in
          (a ∙ sym a', u ∙ sym u', v ∙ sym v')
      go false e =
          let s = x.taken e in
          let t = y.taken e in
          let (same, ps) = told_once r r' s.stated t.stated (sym s.comes_to ∙ t.comes_to) in
          let (pages, rows) = painted_once (window first (length page)) s.stated page marks p p' m m' b s.paints (rw (sym ps) at t.paints) in
          (same, pages, rows)
