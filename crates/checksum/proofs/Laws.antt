-- Laws of the sum and the checksum. Each follows from the sum's recursion by arithmetic.
-- Assumes nothing.
use Rattle.std.proofs.Common.{◌≡◌, ℕ, ◌+◌, ◌<◌, List, [], ◌∷◌, ◌++◌, length, get_or, drop, ap, add-one, arith, drop-cons}
use Rattle.checksum.specs.Checksum.{sum, negated_sum}

pub sum_append : (xs ys : List ℕ) → sum (xs ++ ys) ≡ sum xs + sum ys
unfolding sum
sum_append [] ys = omega arith
sum_append (x ∷ xs) ys = let e = sum_append xs ys in omega arith

pub sum_snoc : (xs : List ℕ) (b : ℕ) → sum (xs ++ (b ∷ [])) ≡ sum xs + b
unfolding sum
sum_snoc xs b = let e = sum_append xs (b ∷ []) in omega arith

-- the sum from a place on is the byte there and the sum behind it
pub sum_drop : (xs : List ℕ) (i : ℕ) → i < length xs → sum (drop i xs) ≡ get_or xs i 0 + sum (drop (i + 1) xs)
unfolding sum
sum_drop xs i h = rw add-one (ap sum (drop-cons xs i 0 h))

pub negated_small : (bs : List ℕ) → negated_sum bs < 256
unfolding negated_sum
negated_small bs = omega arith
