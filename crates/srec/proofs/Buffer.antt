-- The address's bytes, which follow the count in the buffer: read high byte first, they make the number that they say.
-- Assumes nothing.
use Rattle.std.proofs.Common.{◌≡◌, ℕ, ◌≤◌, List, [], ◌∷◌, length, get_or, drop, ap, ◌∙◌, arith, w32}
use Rattle.std.specs.Int.{from_be_bytes}
use Rattle.digits.specs.Digits.{number_after}
use Rattle.reader.proofs.Decoding.{drop_two}
use Rattle.srec.specs.Helpers.{Addressed}

-- the address, of two, three or four bytes
module _ (w : ℕ) (buf : List ℕ) (size : 5 ≤ length buf) (r : ℕ) where
  bytes : drop 1 buf ≡ get_or buf 1 0 ∷ get_or buf 2 0 ∷ get_or buf 3 0 ∷ get_or buf 4 0 ∷ drop 5 buf
  bytes = drop_two buf 1 (omega arith) ∙ ap (λ (l : List ℕ). get_or buf 1 0 ∷ get_or buf 2 0 ∷ l) (drop_two buf 3 (omega arith))

  pub two_bytes : r ≡ from_be_bytes w32 (0 ∷ 0 ∷ get_or buf 1 0 ∷ get_or buf 2 0 ∷ []) → w ≡ 2 → Addressed w buf r
  unfolding number_after
  two_bytes e h = record { answer = rw (h, bytes) (omega arith) }

  pub three_bytes : r ≡ from_be_bytes w32 (0 ∷ get_or buf 1 0 ∷ get_or buf 2 0 ∷ get_or buf 3 0 ∷ []) → w ≡ 3 → Addressed w buf r
  unfolding number_after
  three_bytes e h = record { answer = rw (h, bytes) (omega arith) }

  pub four_bytes : r ≡ from_be_bytes w32 (get_or buf 1 0 ∷ get_or buf 2 0 ∷ get_or buf 3 0 ∷ get_or buf 4 0 ∷ []) → w ≡ 4 → Addressed w buf r
  unfolding number_after
  four_bytes e h = record { answer = rw (h, bytes) (omega arith) }
