-- Laws of `or_else`: it computes once its first option is known, so each has two cases.
-- Assumes nothing.
use Prim.Native.Nat.{ℕ}
use mathlib.Core.Path.{◌≡◌, refl}
use mathlib.Core.Option.{Option, none, some, get_or}
use native.Mathlib.Omega.{arith}
use Rattle.digits.specs.Common.{or_else}

pub or_else_none : {A : Type 0} (o : Option A) → or_else o none ≡ o
or_else_none none = refl
or_else_none (some x) = refl

pub or_else_assoc : {A : Type 0} (o p q : Option A) → or_else (or_else o p) q ≡ or_else o (or_else p q)
or_else_assoc none p q = refl
or_else_assoc (some x) p q = refl

pub getD_or_else : {A : Type 0} (o p : Option A) (old : A) → get_or (or_else o p) old ≡ get_or o (get_or p old)
getD_or_else none p old = refl
getD_or_else (some x) p old = refl

-- none of two is none of each
pub or_else_both : {A : Type 0} (o p : Option A) → or_else o p ≡ none → (o ≡ none) × (p ≡ none)
or_else_both none p e = (refl, e)
or_else_both (some x) p e = let z : ◌≡◌ {A = ℕ} 0 1 = cc in absurd (omega arith)
