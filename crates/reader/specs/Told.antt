-- What an answer tells: a record's type and numbers, a refusal, or "done".
-- Assumes nothing.
use Rattle.std.specs.Prelude.{◌≡◌, ℕ, Bool, true, false, List, [], ◌∷◌, ◌==◌}
use Rattle.std.specs.Prelude.{if◌then◌else◌}
use Rattle.record.specs.Record.{type_of, numbers_of}
use Rattle.record.specs.Refusals.{Refusal, refusal, number_of, missing_start_code, contains_invalid_characters, record_too_short, record_too_long, record_not_even_length, checksum_mismatch, payload_length_mismatch, unsupported_record_type, invalid_length_for_type, pool_full}
use Rattle.reader.specs.declared.ReaderError.{ReaderError}
use Rattle.reader.specs.declared.ReaderError.TheVariants.{MissingStartCode, RecordTooShort, RecordTooLong, RecordNotEvenLength, ContainsInvalidCharacters, ChecksumMismatch, PayloadLengthMismatch, UnsupportedRecordType, InvalidLengthForType, PoolFull}
use Rattle.reader.specs.declared.Values.{Values}
use Rattle.reader.specs.declared.Values.TheVariants.{Nothing, Position, Byte, Bytes}
use Rattle.reader.specs.declared.Figures.{Figures}
use Rattle.reader.specs.Aliases.{Answer}
use Rattle.std.specs.Prelude.{Err, Ok}

pub data Told : Type 0 where
  gives : (kind : ℕ) (numbers : List ℕ) → Told
  refuses : Refusal → Told
  done : Told

abbrev pub refusal_of : ReaderError → Refusal
refusal_of MissingStartCode = missing_start_code
refusal_of RecordTooShort = record_too_short
refusal_of RecordTooLong = record_too_long
refusal_of RecordNotEvenLength = record_not_even_length
refusal_of (ContainsInvalidCharacters place) = contains_invalid_characters place
refusal_of (ChecksumMismatch computed stated) = checksum_mismatch computed stated
refusal_of PayloadLengthMismatch = payload_length_mismatch
refusal_of (UnsupportedRecordType kind) = unsupported_record_type kind
refusal_of InvalidLengthForType = invalid_length_for_type
refusal_of PoolFull = pool_full

abbrev pub is_pool_full : ReaderError → Bool
is_pool_full MissingStartCode = false
is_pool_full RecordTooShort = false
is_pool_full RecordTooLong = false
is_pool_full RecordNotEvenLength = false
is_pool_full (ContainsInvalidCharacters place) = false
is_pool_full (ChecksumMismatch computed stated) = false
is_pool_full PayloadLengthMismatch = false
is_pool_full (UnsupportedRecordType kind) = false
is_pool_full InvalidLengthForType = false
is_pool_full PoolFull = true

abbrev pub told : Answer → Told
told (Ok r) = gives (type_of r) (numbers_of r)
told (Err e) = refuses (refusal_of e)

-- the values of a refusal in code: that of refusal 2 is a place, and each other value is a byte
abbrev pub values_in : Refusal → Values
values_in (refusal number []) = Nothing
values_in (refusal number (v ∷ [])) = if number == 2 then Position v else Byte v
values_in (refusal number (v ∷ w ∷ more)) = Bytes v w

-- the first and the second of them, 0 where there is none
abbrev pub first_of : Values → ℕ
first_of Nothing = 0
first_of (Position place) = place
first_of (Byte byte) = byte
first_of (Bytes first second) = first

abbrev pub second_of : Values → ℕ
second_of Nothing = 0
second_of (Position place) = 0
second_of (Byte byte) = 0
second_of (Bytes first second) = second

-- the contract of `ReaderError::figures`
pub record FiguresOf (e : ReaderError) (r : Figures) : Type 0 where
  pub number_is : r.number ≡ number_of (refusal_of e)
  pub values_are : r.values ≡ values_in (refusal_of e)
