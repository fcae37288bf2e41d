-- A rule for each number below a small one, by one test that is computed; and how to go by an order or an equation of numbers.
-- Assumes nothing.
use Prim.Native.Nat.{ℕ, zero, suc, ◌≤◌, ◌<◌}
use mathlib.Core.Path.{◌≡◌, subst}
use mathlib.Core.Bool.{Bool, true, false, ◌&&◌}
use native.Mathlib.Omega.{arith}
use native.Mathlib.Decide.{dec_le}
use lib.Dec.{T}

-- one order or the other
pub split {ℓ} : {X : Type ℓ} (a b : ℕ) → (a ≤ b → X) → (b < a → X) → X
split a b f g = elim (dec_le a b) [ yes h ↦ f h | no h ↦ g (omega arith) ]

-- equal or not
pub same_or {ℓ} : {X : Type ℓ} (a b : ℕ) → (a ≡ b → X) → ((a ≡ b → ⊥) → X) → X
same_or a b f g = split a b (λ l. split b a (λ k. f (omega arith)) (λ k. g (λ e. omega arith))) (λ k. g (λ e. omega arith))

-- neither of two numbers is the lesser
pub equal : (p q : ℕ) → ¬ (p < q) → ¬ (q < p) → p ≡ q
equal p q a b = omega arith

pub positive : (x : ℕ) → (x ≡ 0 → ⊥) → 0 < x
positive x n = split x 0 (λ l. absurd (n (omega arith))) (λ l. l)

-- the test holds of each number below n
unfoldable pub all_below : ℕ → (ℕ → Bool) → Bool
all_below zero f = true
all_below (suc n) f = f n && all_below n f

and_left : (a b : Bool) → T (a && b) → T a
and_left true b t = tt
and_left false b t = t

and_right : (a b : Bool) → T (a && b) → T b
and_right true b t = t
and_right false b t = absurd t

pub below : (n : ℕ) (f : ℕ → Bool) → T (all_below n f) → (i : ℕ) → i < n → T (f i)
unfolding all_below
below zero f t i h = absurd (omega arith)
below (suc n) f t i h =
    split n i (λ l. subst (λ (k : ℕ). T (f k)) (omega arith) (and_left (f n) (all_below n f) t)) (λ l. below n f (and_right (f n) (all_below n f) t) i l)
