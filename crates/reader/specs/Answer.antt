-- The record reader's answer, and the pool behind it, from what the line says.
-- Assumes nothing.
use Rattle.std.specs.Prelude.{◌≡◌, ℕ, ◌+◌, ◌*◌, Bool, List, [], ◌∷◌, length, nat_le, slice_index}
use Rattle.digits.specs.Common.{pasted}
use Rattle.std.specs.Prelude.{if◌then◌else◌}
use Rattle.record.specs.Refusals.{pool_full}
use Rattle.record.specs.Line.{Said, says, wrong, judge}
use Rattle.record.specs.Meaning.{Meaning, data_at, end_of_file, extended_segment, start_segment, extended_linear, start_linear, meaning}
use Rattle.reader.specs.Aliases.{Answer}
use Rattle.reader.specs.Told.{Told, gives, refuses, told}

-- the payload fits a pool of n bytes at the position
abbrev pub fits_pool : (n at : ℕ) (payload : List ℕ) → Bool
fits_pool n at payload = nat_le (at + length payload) n

-- what is told of a record that goes into a pool of n bytes at a position
unfoldable pub given : Meaning → (n at : ℕ) → Told
given (data_at offset bytes) n at = if fits_pool n at bytes then gives 0 (offset ∷ at ∷ length bytes ∷ []) else refuses pool_full
given end_of_file n at = gives 1 []
given (extended_segment number) n at = gives 2 (number ∷ [])
given (start_segment cs ip) n at = gives 3 (cs ∷ ip ∷ [])
given (extended_linear number) n at = gives 4 (number ∷ [])
given (start_linear number) n at = gives 5 (number ∷ [])

-- the pool behind a record: only a payload that fits changes it
unfoldable pub kept : Meaning → (pool : List ℕ) (at : ℕ) → List ℕ
kept (data_at offset bytes) pool at = if fits_pool (length pool) at bytes then pasted pool at bytes else pool
kept end_of_file pool at = pool
kept (extended_segment number) pool at = pool
kept (start_segment cs ip) pool at = pool
kept (extended_linear number) pool at = pool
kept (start_linear number) pool at = pool

unfoldable pub answered : Said → (n at : ℕ) → Told
unfolding given meaning
answered (says kind address payload) n at = given (meaning kind address payload) n at
answered (wrong r) n at = refuses r

unfoldable pub poured : Said → (pool : List ℕ) (at : ℕ) → List ℕ
unfolding kept meaning
poured (says kind address payload) pool at = kept (meaning kind address payload) pool at
poured (wrong r) pool at = pool

-- what a reader of one thing said answers, and leaves in the pool
pub record Reads (said : Said) (pool : List ℕ) (at : ℕ) (r : Answer) (pool' : List ℕ) : Type 0 where
  pub answer : told r ≡ answered said (length pool) at
  pub left : pool' ≡ poured said pool at

-- the contract of `read_record`
abbrev pub ReadRecord : (line pool : List ℕ) (at : ℕ) → Answer → (pool' : List ℕ) → Type 0
ReadRecord line pool at r pool' = Reads (judge line) pool at r pool'

-- two bytes of a row, high byte first
abbrev pub word : List ℕ → ℕ → ℕ
word bs i = slice_index bs i * 256 + slice_index bs (i + 1)
