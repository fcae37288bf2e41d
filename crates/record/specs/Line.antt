-- What a line says: a type, an address and a payload, or the first thing that is wrong with it.
-- Assumes nothing.
use Rattle.std.specs.Prelude.{ℕ, suc, ◌+◌, ◌-◌, ◌*◌, ◌%◌, Bool, ◌||◌, List, [], ◌∷◌, ltb, eqb, length, get_or, take, drop}
use Rattle.checksum.specs.Checksum.{negated_sum}
use Rattle.std.specs.Prelude.{if◌then◌else◌}
use Rattle.digits.specs.Reading.{named}
use Rattle.record.specs.Refusals.{Refusal, missing_start_code, contains_invalid_characters, record_too_short, record_too_long, record_not_even_length, checksum_mismatch, payload_length_mismatch, unsupported_record_type, invalid_length_for_type}
use Rattle.digits.specs.Digits.{all_digits, leading, bytes}

pub data Said : Type 0 where
  says : (kind address : ℕ) (payload : List ℕ) → Said
  wrong : Refusal → Said

-- how many payload bytes a type from 01 to 05 has
unfoldable pub size : (kind : ℕ) → ℕ
size kind =
    if eqb kind 1 then 0 else
    if eqb kind 2 then 2 else
    if eqb kind 4 then 2 else
    4

-- a record of the type may have n payload bytes
unfoldable pub fits : (kind n : ℕ) → Bool
unfolding size
fits kind n = eqb kind 0 || eqb n (size kind)

unfoldable pub judge_fields : (len address kind : ℕ) (payload : List ℕ) → Said
unfolding fits
judge_fields len address kind payload =
    if eqb len (length payload)
    then (if ltb 5 kind then wrong (unsupported_record_type kind) else
    if fits kind (length payload) then says kind address payload else
    wrong invalid_length_for_type)
    else wrong payload_length_mismatch

-- length, address (2 bytes), type, payload; the last byte is the stated checksum of all before it
unfoldable pub judge_bytes : List ℕ → Said
unfolding judge_fields negated_sum
judge_bytes bs =
    let n : ℕ = length bs - 1 in
    let body : List ℕ = take n bs in
    let stated : ℕ = get_or bs n 0 in
    if eqb (negated_sum body) stated
    then judge_fields (get_or bs 0 0) (get_or bs 1 0 * 256 + get_or bs 2 0) (get_or bs 3 0) (drop 4 body)
    else wrong (checksum_mismatch (negated_sum body) stated)

-- what is said of characters behind the colon of which not all are digits: where the first stands that is none
abbrev pub invalid : List ℕ → Said
invalid ds = wrong (contains_invalid_characters (named (suc (leading ds))))

unfoldable pub judge_digits : List ℕ → Said
unfolding judge_bytes all_digits leading bytes
judge_digits ds =
    if all_digits ds
    then (if ltb (length ds) 10 then wrong record_too_short else
    if ltb 520 (length ds) then wrong record_too_long else
    if eqb (length ds % 2) 1 then wrong record_not_even_length else
    judge_bytes (bytes ds))
    else invalid ds

-- 58 is the colon
unfoldable pub judge : List ℕ → Said
unfolding judge_digits
judge [] = wrong missing_start_code
judge (c ∷ ds) = if eqb c 58 then judge_digits ds else wrong missing_start_code
