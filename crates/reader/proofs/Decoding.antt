-- Two bytes of a row, taken out one by one.
-- Assumes nothing.
use Rattle.std.proofs.Common.{◌≡◌, ℕ, suc, ◌+◌, ◌<◌, List, ◌∷◌, length, get_or, drop, arith, drop-cons}

pub drop_two : (l : List ℕ) (p : ℕ) → p + 1 < length l → drop p l ≡ get_or l p 0 ∷ get_or l (p + 1) 0 ∷ drop (p + 2) l
drop_two l p h =
    let h₁ : p < length l = omega arith in
    let h₂ : suc p < length l = omega arith in
    let e : suc p ≡ p + 1 = omega arith in
    let f : suc (suc p) ≡ p + 2 = omega arith in
    rw (drop-cons l p 0 h₁, drop-cons l (suc p) 0 h₂, f, e)
