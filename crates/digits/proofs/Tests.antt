-- How to go by a test: what holds in both branches of a choice holds of the choice.
-- Assumes nothing.
use Rattle.std.proofs.Common.{◌≡◌, ℕ, ◌<◌, ◌≤◌, Bool, true, false, ◌&&◌, ◌||◌, refl, arith}
use native.Mathlib.Decide.{dec_le}
use Rattle.std.specs.Prelude.{if◌then◌else◌}

pub branch : {X : Type 0} (P : X → Type 0) (b : Bool) (x y : X) → (b ≡ true → P x) → (b ≡ false → P y) → P (if b then x else y)
branch P true x y t f = t refl
branch P false x y t f = f refl

pub if_true : {X : Type 0} (b : Bool) (x y : X) → b ≡ true → (if b then x else y) ≡ x
if_true true x y e = refl
if_true false x y e = let z : ◌≡◌ {A = ℕ} 0 1 = cc in absurd (omega arith)

pub if_false : {X : Type 0} (b : Bool) (x y : X) → b ≡ false → (if b then x else y) ≡ y
if_false true x y e = let z : ◌≡◌ {A = ℕ} 0 1 = cc in absurd (omega arith)
if_false false x y e = refl

-- one order or the other
pub split {ℓ} : {X : Type ℓ} (a b : ℕ) → (a ≤ b → X) → (b < a → X) → X
split a b f g = elim (dec_le a b) [ yes h ↦ f h | no h ↦ g (omega arith) ]

pub both : (x y : Bool) → x && y ≡ true → (x ≡ true) × (y ≡ true)
both true y e = (refl, e)
both false y e = let z : ◌≡◌ {A = ℕ} 0 1 = cc in absurd (omega arith)

pub and_assoc : (a b c : Bool) → (a && b) && c ≡ a && (b && c)
and_assoc true b c = refl
and_assoc false b c = refl

pub and_true : (x : Bool) → x && true ≡ x
and_true true = refl
and_true false = refl

pub and_false : (x : Bool) → x && false ≡ false
and_false true = refl
and_false false = refl

-- a statement about a test, from its two cases
pub both_ways {ℓ} : (P : Bool → Type ℓ) (b : Bool) → P true → P false → P b
both_ways P true t f = t
both_ways P false t f = f

pub or_true : (a : Bool) → a || true ≡ true
or_true true = refl
or_true false = refl

pub or_false : (a b : Bool) → a || b ≡ false → (a ≡ false) × (b ≡ false)
or_false true b e = (e, cc)
or_false false b e = (refl, e)
