-- What a line says: a type, an address and data, or the first thing that is wrong with it.
-- Assumes nothing.
use Rattle.std.specs.Prelude.{ℕ, ◌+◌, ◌-◌, ◌*◌, ◌%◌, List, [], ◌∷◌, length, take, drop, ◌==◌, nat_lt, slice_index, slice_index_or}
use Rattle.checksum.specs.Checksum.{sum}
use Rattle.std.specs.Prelude.{if◌then◌else◌}
use Rattle.record.specs.Refusals.{missing_start_code, record_too_short, record_too_long, record_not_even_length, checksum_mismatch, payload_length_mismatch, unsupported_record_type, invalid_length_for_type}
use Rattle.digits.specs.Digits.{digit, all_digits, leading, bytes, number_after, big_endian}
use Rattle.record.specs.Line.{Said, says, wrong, invalid}
use Rattle.srec.specs.Types.{is_named, width, fits}

-- the ones' complement of the low byte of the sum
unfoldable pub complement_sum : List ℕ → ℕ
unfolding sum
complement_sum bs = 255 - sum bs % 256

-- the count covers address, data and checksum
abbrev pub count_of : (kind : ℕ) (payload : List ℕ) → ℕ
count_of kind payload = width kind + length payload + 1

unfoldable pub judge_fields : (kind count address : ℕ) (payload : List ℕ) → Said
unfolding width
judge_fields kind count address payload =
    if count == count_of kind payload
    then (if fits kind (length payload) then says kind address payload else wrong invalid_length_for_type)
    else wrong payload_length_mismatch

-- count, address, data; the last byte is the stated checksum of all before it
unfoldable pub judge_bytes : (kind : ℕ) → List ℕ → Said
unfolding judge_fields complement_sum width number_after
judge_bytes kind bs =
    let n : ℕ = length bs - 1 in
    let body : List ℕ = take n bs in
    let stated : ℕ = slice_index_or bs n 0 in
    let place : List ℕ = take (width kind) (drop 1 body) in
    if complement_sum body == stated
    then judge_fields kind (slice_index bs 0) (big_endian place) (drop (width kind) (drop 1 body))
    else wrong (checksum_mismatch (complement_sum body) stated)

-- how many digits stand after the type at least: those of count, address and checksum
abbrev pub least_digits : (kind : ℕ) → ℕ
least_digits kind = 4 + 2 * width kind

-- the digits after the type's
unfoldable pub judge_digits : (kind : ℕ) → List ℕ → Said
unfolding judge_bytes width bytes
judge_digits kind ds =
    if nat_lt (length ds) (least_digits kind) then wrong record_too_short else
    if nat_lt 512 (length ds) then wrong record_too_long else
    if length ds % 2 == 1 then wrong record_not_even_length else
    judge_bytes kind (bytes ds)

-- a type's digit and those after it
unfoldable pub judge_typed : List ℕ → Said
unfolding judge_digits is_named digit
judge_typed [] = wrong record_too_short
judge_typed (t ∷ ds) = if is_named (digit t) then judge_digits (digit t) ds else wrong (unsupported_record_type (digit t))

-- 83 is the capital S; the place that refusal 2 names counts from it
unfoldable pub judge : List ℕ → Said
unfolding judge_typed all_digits leading
judge [] = wrong missing_start_code
judge (c ∷ cs) =
    if c == 83
    then (if all_digits cs then judge_typed cs else invalid cs)
    else wrong missing_start_code
