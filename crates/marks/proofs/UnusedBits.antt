-- Laws of the unused bits: the first marked one of some places, and the lowest unused bit that is set.
-- Assumes nothing.
use Prim.Native.Nat.{ℕ, zero, suc, ◌+◌, ◌-◌, ◌*◌, ◌≤◌, ◌<◌}
use mathlib.Core.Path.{◌≡◌, refl, sym, ap, ◌∙◌}
use mathlib.Core.Bool.{Bool, true, false, cond}
use mathlib.Core.Option.{Option, none, some}
use mathlib.Core.List.{List}
use native.Mathlib.Omega.{arith}
use lib.Dec.{eqb}
use borrow.Author.Tests.{eq-eqb, ne_eqb, eqb-true, eqb-false}
use Rattle.marks.specs.Marks.{mark_at, row_length, first_marked, first_unused}
use Rattle.marks.specs.Claims.{IsFirstUnused, UnusedFound, NoneUnused, OneFirstUnused, NoUnusedBits}
use Rattle.marks.proofs.Below.{split, same_or, equal}
use Rattle.marks.proofs.Rows.{mark_small, outside}

-- the first marked one of so many places from a place on
pub record First (marks : List ℕ) (from count p : ℕ) : Type 0 where
  pub low : from ≤ p
  pub high : p < from + count
  pub set : mark_at marks p ≡ 1
  pub none_before : (j : ℕ) → from ≤ j → j < p → mark_at marks j ≡ 0

-- no mark from one place up to another, where there is none at the first
from_next : (marks : List ℕ) (from end : ℕ) → mark_at marks from ≡ 0 → ((j : ℕ) → suc from ≤ j → j < end → mark_at marks j ≡ 0)
    → (j : ℕ) → from ≤ j → j < end → mark_at marks j ≡ 0
from_next marks from end e f j l h = same_or j from (λ q. ap (mark_at marks) q ∙ e) (λ n. f j (other n) h)
  where
    other : (j ≡ from → ⊥) → suc from ≤ j
    other n = split (suc from) j (λ u. u) (λ u. absurd (n (omega arith)))

not_one : (m : ℕ) → m ≤ 1 → (m ≡ 1 → ⊥) → m ≡ 0
not_one zero h n = refl
not_one (suc zero) h n = absurd (n refl)
not_one (suc (suc m)) h n = absurd (omega arith)

-- ---- where one is found, and where none is

pub first_is : (marks : List ℕ) (from count p : ℕ) → First marks from count p → first_marked marks from count ≡ some p
unfolding first_marked
first_is marks from zero p f = absurd (omega (arith, f.low, f.high))
first_is marks from (suc count) p f =
    same_or from p
    (λ e. let m : mark_at marks from ≡ 1 = ap (mark_at marks) e ∙ f.set in
    ap (λ (b : Bool). cond b (some from) (first_marked marks (suc from) count)) (eq-eqb (mark_at marks from) 1 m) ∙ ap some e)
    (λ n. let z = f.none_before from (omega arith) (before n f.low) in
    ap (λ (b : Bool). cond b (some from) (first_marked marks (suc from) count)) (ne_eqb (mark_at marks from) 1 (λ m. omega arith))
    ∙ first_is marks (suc from) count p
    (record { low = before n f.low; high = omega (arith, f.high); set = f.set; none_before = λ j l h. f.none_before j (omega arith) h }))
  where
    before : (from ≡ p → ⊥) → from ≤ p → from < p
    before n l = split p from (λ u. absurd (n (omega arith))) (λ u. u)

pub none_first : (marks : List ℕ) (from count : ℕ) → ((j : ℕ) → from ≤ j → j < from + count → mark_at marks j ≡ 0) → first_marked marks from count ≡ none
unfolding first_marked
none_first marks from zero f = refl
none_first marks from (suc count) f =
    let z = f from (omega arith) (omega arith) in
    ap (λ (b : Bool). cond b (some from) (first_marked marks (suc from) count)) (ne_eqb (mark_at marks from) 1 (λ m. omega arith))
    ∙ none_first marks (suc from) count (λ j l h. f j (omega arith) (omega arith))

-- ---- what is found, and what is not

-- one more place before
at_first : (marks : List ℕ) (from count p : ℕ) (b : Bool) (later : Option ℕ) → eqb (mark_at marks from) 1 ≡ b → cond b (some from) later ≡ some p
    → (later ≡ some p → First marks (suc from) count p) → First marks from (suc count) p
at_first marks from count p true later t e f =
    let q : from ≡ p = cc in
    record {
      low = omega arith;
      high = omega arith;
      set = ap (mark_at marks) (sym q) ∙ eqb-true (mark_at marks from) 1 t;
      none_before = λ j l h. absurd (omega arith);
    }
at_first marks from count p false later t e f =
    let r = f e in
    let z = not_one (mark_at marks from) (mark_small marks from) (eqb-false (mark_at marks from) 1 t) in
    record { low = omega (arith, r.low); high = omega (arith, r.high); set = r.set; none_before = from_next marks from p z r.none_before }

pub first_found : (marks : List ℕ) (from count p : ℕ) → first_marked marks from count ≡ some p → First marks from count p
unfolding first_marked
first_found marks from zero p e = let z : ◌≡◌ {A = ℕ} 0 1 = cc in absurd (omega arith)
first_found marks from (suc count) p e =
    at_first marks from count p (eqb (mark_at marks from) 1) (first_marked marks (suc from) count) refl e (first_found marks (suc from) count p)

at_none : (marks : List ℕ) (from count : ℕ) (b : Bool) (later : Option ℕ) → eqb (mark_at marks from) 1 ≡ b → cond b (some from) later ≡ none
    → (later ≡ none → (j : ℕ) → suc from ≤ j → j < suc from + count → mark_at marks j ≡ 0)
    → (j : ℕ) → from ≤ j → j < from + suc count → mark_at marks j ≡ 0
at_none marks from count true later t e f = let z : ◌≡◌ {A = ℕ} 0 1 = cc in absurd (omega arith)
at_none marks from count false later t e f =
    let z = not_one (mark_at marks from) (mark_small marks from) (eqb-false (mark_at marks from) 1 t) in
    from_next marks from (from + suc count) z (λ j l h. f e j l (omega arith))

none_found : (marks : List ℕ) (from count : ℕ) → first_marked marks from count ≡ none → (j : ℕ) → from ≤ j → j < from + count → mark_at marks j ≡ 0
unfolding first_marked
none_found marks from zero e = λ j l h. absurd (omega arith)
none_found marks from (suc count) e =
    at_none marks from count (eqb (mark_at marks from) 1) (first_marked marks (suc from) count) refl e (none_found marks (suc from) count)

-- ---- the unused bits

pub unused_is : (marks : List ℕ) (places p : ℕ) → IsFirstUnused marks places p → first_unused places marks ≡ some p
unfolding first_unused
unused_is marks places p f =
    first_is marks places (8 * row_length places - places) p
    (record { low = f.low; high = omega (arith, f.low, f.high); set = f.set; none_before = f.none_before })

pub none_is : (marks : List ℕ) (places : ℕ) → ((j : ℕ) → places ≤ j → j < 8 * row_length places → mark_at marks j ≡ 0) → first_unused places marks ≡ none
unfolding first_unused
none_is marks places f = none_first marks places (8 * row_length places - places) (λ j l h. f j l (omega arith))

pub unused_found : UnusedFound
unfolding first_unused
unused_found places marks p e =
    let f = first_found marks places (8 * row_length places - places) p e in
    record { low = f.low; high = omega (arith, f.low, f.high); set = f.set; none_before = f.none_before }

pub none_unused : NoneUnused
unfolding first_unused
none_unused places marks e n p l =
    split (8 * row_length places) p
    (λ o. outside marks p (omega arith))
    (λ i. none_found marks places (8 * row_length places - places) n p l (omega arith))

pub one_first_unused : OneFirstUnused
one_first_unused marks places p q f g =
    equal p q (λ l. omega (arith, f.set, g.none_before p f.low l)) (λ l. omega (arith, g.set, f.none_before q g.low l))

pub no_unused_bits : NoUnusedBits
unfolding row_length
no_unused_bits eighth marks = none_is marks (8 * eighth) (λ j l h. absurd (omega arith))
