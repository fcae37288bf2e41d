-- The types by their digits and as the format names them: the tests of `specs/Types.antt` and the relations of `specs/Format.antt` agree.
-- Assumes nothing.
use Rattle.std.proofs.Common.{◌≡◌, ℕ, zero, suc, ◌<◌, ◌≤◌, Bool, true, false, eqb, ltb, sym, refl, ◌∙◌, arith, ltb-true, lt-ltb, ne_eqb, eqb-true}
use borrow.Author.Tests.{lt-leb}
use Rattle.digits.proofs.Tests.{branch, split, or_true}
use Rattle.srec.specs.Types.{is_named, width, fits}
use Rattle.srec.specs.Format.{Width, type_0, type_1, type_2, type_3, type_5, type_7, type_8, type_9, Size, holds, empty}
use Rattle.srec.specs.Faults.{Unnamed}
use Rattle.std.specs.Prelude.{None}
use mathlib.Core.Option.{none, some}
use Rattle.srec.specs.Record.{TypeOf}

never : {X : Type 0} → true ≡ false → X
never e = let z : ◌≡◌ {A = ℕ} 0 1 = cc in absurd (omega arith)

-- one case for each digit from 0 to 9
pub each_digit : (P : ℕ → Type 0) → P 0 → P 1 → P 2 → P 3 → P 4 → P 5 → P 6 → P 7 → P 8 → P 9 → (kind : ℕ) → kind ≤ 9 → P kind
each_digit P p0 p1 p2 p3 p4 p5 p6 p7 p8 p9 zero h = p0
each_digit P p0 p1 p2 p3 p4 p5 p6 p7 p8 p9 (suc zero) h = p1
each_digit P p0 p1 p2 p3 p4 p5 p6 p7 p8 p9 (suc (suc zero)) h = p2
each_digit P p0 p1 p2 p3 p4 p5 p6 p7 p8 p9 (suc (suc (suc zero))) h = p3
each_digit P p0 p1 p2 p3 p4 p5 p6 p7 p8 p9 (suc (suc (suc (suc zero)))) h = p4
each_digit P p0 p1 p2 p3 p4 p5 p6 p7 p8 p9 (suc (suc (suc (suc (suc zero))))) h = p5
each_digit P p0 p1 p2 p3 p4 p5 p6 p7 p8 p9 (suc (suc (suc (suc (suc (suc zero)))))) h = p6
each_digit P p0 p1 p2 p3 p4 p5 p6 p7 p8 p9 (suc (suc (suc (suc (suc (suc (suc zero))))))) h = p7
each_digit P p0 p1 p2 p3 p4 p5 p6 p7 p8 p9 (suc (suc (suc (suc (suc (suc (suc (suc zero)))))))) h = p8
each_digit P p0 p1 p2 p3 p4 p5 p6 p7 p8 p9 (suc (suc (suc (suc (suc (suc (suc (suc (suc zero))))))))) h = p9
each_digit P p0 p1 p2 p3 p4 p5 p6 p7 p8 p9 (suc (suc (suc (suc (suc (suc (suc (suc (suc (suc k)))))))))) h = absurd (omega arith)

-- no type beyond 9 is named
pub unnamed_beyond : (kind : ℕ) → 9 < kind → is_named kind ≡ false
unfolding is_named
unnamed_beyond kind h = rw (ne_eqb kind 4 (λ e. omega arith), ne_eqb kind 6 (λ e. omega arith)) (lt-leb kind 9 h)

-- one case for each type that is named
pub each_type : (P : ℕ → Type 0) → P 0 → P 1 → P 2 → P 3 → P 5 → P 7 → P 8 → P 9 → (kind : ℕ) → is_named kind ≡ true → P kind
unfolding is_named
each_type P p0 p1 p2 p3 p5 p7 p8 p9 kind e =
    split kind 9
    (λ h. each_digit (λ (k : ℕ). is_named k ≡ true → P k)
    (λ q. p0) (λ q. p1) (λ q. p2) (λ q. p3) (λ q. never (sym q)) (λ q. p5) (λ q. never (sym q)) (λ q. p7) (λ q. p8) (λ q. p9) kind h e)
    (λ h. never (sym e ∙ unnamed_beyond kind h))

pub named_small : (kind : ℕ) → is_named kind ≡ true → kind < 10
named_small kind e =
    each_type (λ (k : ℕ). k < 10) (omega arith) (omega arith) (omega arith) (omega arith) (omega arith) (omega arith) (omega arith) (omega arith) kind e

pub named_wide : (kind : ℕ) → is_named kind ≡ true → Width kind (width kind)
unfolding width
named_wide kind e =
    each_type (λ (k : ℕ). Width k (width k))
    (type_0 refl refl) (type_1 refl refl) (type_2 refl refl) (type_3 refl refl) (type_5 refl refl) (type_7 refl refl) (type_8 refl refl) (type_9 refl refl) kind e

pub wide_named : {kind n : ℕ} → Width kind n → (is_named kind ≡ true) × (width kind ≡ n)
unfolding is_named width
wide_named (type_0 e z) = (rw e, rw e (sym z))
wide_named (type_1 e z) = (rw e, rw e (sym z))
wide_named (type_2 e z) = (rw e, rw e (sym z))
wide_named (type_3 e z) = (rw e, rw e (sym z))
wide_named (type_5 e z) = (rw e, rw e (sym z))
wide_named (type_7 e z) = (rw e, rw e (sym z))
wide_named (type_8 e z) = (rw e, rw e (sym z))
wide_named (type_9 e z) = (rw e, rw e (sym z))

pub unnamed_none : (kind : ℕ) → is_named kind ≡ false → Unnamed kind
unnamed_none kind e n w = never (sym (wide_named w).0 ∙ e)

pub none_unnamed : (kind : ℕ) → Unnamed kind → is_named kind ≡ false
none_unnamed kind u = go (is_named kind) refl
  where
    go : (b : Bool) → is_named kind ≡ b → is_named kind ≡ false
    go true e = absurd (u (width kind) (named_wide kind e))
    go false e = e

-- an address has two to four bytes
pub width_few : (kind : ℕ) → (2 ≤ width kind) × (width kind ≤ 4)
unfolding width
width_few kind =
    let P : ℕ → Type 0 = λ n. (2 ≤ n) × (n ≤ 4) in
    branch P (eqb kind 2) _ _ (λ e. (omega arith, omega arith))
    (λ e. branch P (eqb kind 8) _ _ (λ e. (omega arith, omega arith))
    (λ e. branch P (eqb kind 3) _ _ (λ e. (omega arith, omega arith))
    (λ e. branch P (eqb kind 7) _ _ (λ e. (omega arith, omega arith)) (λ e. (omega arith, omega arith)))))

-- ---- the type that a digit names, in code

some_not_none : {X : Type 0} (d : ℕ) → some d ≡ none → X
some_not_none d e = let z : ◌≡◌ {A = ℕ} 0 1 = cc in absurd (omega arith)

-- where there is none, no type has the digit
pub type_unnamed : (d : ℕ) → TypeOf d None → is_named d ≡ false
type_unnamed d t = go (is_named d) refl
  where
    go : (b : Bool) → is_named d ≡ b → is_named d ≡ false
    go true e = some_not_none d (sym (rw e at t.answer))
    go false e = e

-- ---- data

pub size_fits : {kind n : ℕ} → Size kind n → fits kind n ≡ true
size_fits {kind} {n} (holds h) = rw (lt-ltb kind 4 (omega arith))
size_fits {kind} {n} (empty e) = rw e (or_true (ltb kind 4))

pub fits_size : (kind n : ℕ) → fits kind n ≡ true → Size kind n
fits_size kind n e = go (ltb kind 4) refl e
  where
    go : (b : Bool) → ltb kind 4 ≡ b → fits kind n ≡ true → Size kind n
    go true t f = let h = ltb-true kind 4 t in holds (omega arith)
    go false t f = empty (eqb-true n 0 (rw t at f))

-- and what does not fit has no such size
pub unfit : (kind n : ℕ) → fits kind n ≡ false → ¬ Size kind n
unfit kind n e z = never (sym (size_fits z) ∙ e)

pub misfit : (kind n : ℕ) → ¬ Size kind n → fits kind n ≡ false
misfit kind n z = go (fits kind n) refl
  where
    go : (b : Bool) → fits kind n ≡ b → fits kind n ≡ false
    go true e = absurd (z (fits_size kind n e))
    go false e = e
