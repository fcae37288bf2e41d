-- What a record means, as record.rs has it: the six records, each with its numbers, and data with its bytes.
-- Assumes nothing.
use Rattle.std.specs.Prelude.{ℕ, List, eqb, take, drop}
use Rattle.std.specs.Prelude.{if◌then◌else◌}
use Rattle.digits.specs.Digits.{big_endian}

pub data Meaning : Type 0 where
  data_at : (offset : ℕ) (bytes : List ℕ) → Meaning
  end_of_file : Meaning
  extended_segment : (number : ℕ) → Meaning
  start_segment : (cs ip : ℕ) → Meaning
  extended_linear : (number : ℕ) → Meaning
  start_linear : (number : ℕ) → Meaning

-- the table of types; the address of any type but 00 is ignored
unfoldable pub meaning : (kind address : ℕ) (payload : List ℕ) → Meaning
meaning kind address payload =
    if eqb kind 0 then data_at address payload else
    if eqb kind 1 then end_of_file else
    if eqb kind 2 then extended_segment (big_endian payload) else
    if eqb kind 3 then start_segment (big_endian (take 2 payload)) (big_endian (drop 2 payload)) else
    if eqb kind 4 then extended_linear (big_endian payload) else
    start_linear (big_endian payload)
