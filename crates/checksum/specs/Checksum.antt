-- The checksum: what makes the bytes with it sum to zero modulo 256.
-- Assumes nothing.
use Rattle.std.specs.Prelude.{◌≡◌, ℕ, ◌+◌, ◌-◌, ◌%◌, List, [], ◌∷◌}

unfoldable pub sum : List ℕ → ℕ
sum [] = 0
sum (b ∷ bs) = b + sum bs

-- the sum negated modulo 256, its two's complement in a byte
unfoldable pub negated_sum : List ℕ → ℕ
unfolding sum
negated_sum bs = (256 - sum bs % 256) % 256

-- the contract of `checksum`
pub record Checksum (bytes : List ℕ) (r : ℕ) : Type 0 where
  pub answer : r ≡ negated_sum bytes
