-- The ways to say no: each has a number, and some have values. Other definitions name them by their names here.
-- Assumes nothing.
use Rattle.std.specs.Prelude.{ℕ, List, [], ◌∷◌}

pub data Refusal : Type 0 where
  refusal : (number : ℕ) (values : List ℕ) → Refusal

abbrev pub number_of : Refusal → ℕ
number_of (refusal number values) = number

-- of a line, in the order in which it is judged

abbrev pub missing_start_code : Refusal
missing_start_code = refusal 1 []

abbrev pub contains_invalid_characters : (place : ℕ) → Refusal
contains_invalid_characters place = refusal 2 (place ∷ [])

abbrev pub record_too_short : Refusal
record_too_short = refusal 3 []

abbrev pub record_too_long : Refusal
record_too_long = refusal 4 []

abbrev pub record_not_even_length : Refusal
record_not_even_length = refusal 5 []

abbrev pub checksum_mismatch : (computed stated : ℕ) → Refusal
checksum_mismatch computed stated = refusal 6 (computed ∷ stated ∷ [])

abbrev pub payload_length_mismatch : Refusal
payload_length_mismatch = refusal 7 []

abbrev pub unsupported_record_type : (kind : ℕ) → Refusal
unsupported_record_type kind = refusal 8 (kind ∷ [])

abbrev pub invalid_length_for_type : Refusal
invalid_length_for_type = refusal 9 []

abbrev pub pool_full : Refusal
pool_full = refusal 10 []

-- of a record or a list of records to be written

abbrev pub payload_outside_pool : Refusal
payload_outside_pool = refusal 11 []

abbrev pub data_exceeds_maximum_length : (n : ℕ) → Refusal
data_exceeds_maximum_length n = refusal 12 (n ∷ [])

abbrev pub missing_end_of_file_record : Refusal
missing_end_of_file_record = refusal 13 []

abbrev pub multiple_end_of_file_records : (n : ℕ) → Refusal
multiple_end_of_file_records n = refusal 14 (n ∷ [])

abbrev pub output_full : Refusal
output_full = refusal 15 []

-- of a load, beside 1 to 9 and 13

abbrev pub bad_window : Refusal
bad_window = refusal 16 []

abbrev pub outside_window : (address : ℕ) → Refusal
outside_window address = refusal 17 (address ∷ [])

-- of a reader of chunks, beside 1 to 10

abbrev pub carry_too_small : Refusal
carry_too_small = refusal 18 []

-- of a page to be written, beside 15 and 16

abbrev pub bad_mark : (place : ℕ) → Refusal
bad_mark place = refusal 19 (place ∷ [])

-- of a load of S-records, beside those above

abbrev pub count_mismatch : (stated seen : ℕ) → Refusal
count_mismatch stated seen = refusal 20 (stated ∷ seen ∷ [])

-- of a load of Intel HEX, beside those above

abbrev pub start_conflict : Refusal
start_conflict = refusal 21 []

-- of a salvage, beside 15; its list also names lines by 1 to 9, and an added end record by 13

abbrev pub list_full : Refusal
list_full = refusal 22 []

-- of a load through a window table, in place of 16

abbrev pub bad_table : Refusal
bad_table = refusal 23 []

-- of a light that is set up

abbrev pub bad_place : Refusal
bad_place = refusal 24 []

-- of an S-record to be written, beside 9, 11, 12 and 15

abbrev pub address_too_wide : Refusal
address_too_wide = refusal 25 []
