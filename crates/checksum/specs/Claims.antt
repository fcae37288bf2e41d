-- What is claimed of the checksum beyond its contract, and proved in `proofs/Claims.antt`.
-- Assumes nothing.
use Rattle.std.specs.Prelude.{◌≡◌, ℕ, ◌+◌, ◌%◌, ◌<◌, List, []}
use Rattle.checksum.specs.Checksum.{sum, negated_sum, Checksum}

-- Intel's rule: the checksum is the one byte that makes the sum with it zero modulo 256
abbrev pub SumsToZero : Type 0
SumsToZero =
    (bytes : List ℕ) (check : ℕ) → check < 256
    → ((sum bytes + check) % 256 ≡ 0 → check ≡ negated_sum bytes)
    × (check ≡ negated_sum bytes → (sum bytes + check) % 256 ≡ 0)

-- of no bytes it is 0
abbrev pub OfNone : Type 0
OfNone = negated_sum [] ≡ 0

abbrev pub ChecksumUnique : Type 0
ChecksumUnique = (bytes : List ℕ) (r r' : ℕ) → Checksum bytes r → Checksum bytes r' → r ≡ r'
