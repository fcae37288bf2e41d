-- What is claimed of `ihex_read_srecord`, and of the line that `ihex_to_srecord_string` writes, in their numbers. What the writer leaves in the output,
-- and why it returns what it returns, stands in `Writes`. Each claim is proved in `proofs/SRecords.antt`.
-- Assumes nothing.
use Rattle.std.specs.Prelude.{ℕ, ◌+◌, ◌≤◌, ◌<◌, ◌≡◌, ◌≢◌, ◌↔◌, List, length, take, drop}
use Rattle.digits.specs.Common.{Every, Byte, pasted}
use Rattle.digits.specs.Reading.{named}
use Rattle.record.specs.Refusals.{Refusal, contains_invalid_characters, pool_full}
use Rattle.srec.specs.Format.{Format}
use Rattle.srec.specs.Faults.{FirstOffender, Fault}
use Rattle.srec.specs.Written.{InCapitals}
use Rattle.codes.specs.Codes.{OK, POOL_FULL, Numbers, refused_with}
use Rattle.ihex.specs.Entries.{IhexReadSrecord, IhexToSrecordString}

-- ---- the record reader

-- what is returned for a record, and the pool then. The data of a header or a data record is put where it was to go, and no other byte changes; an S5
-- and an end name no position, and change no byte
pub record Gives (kind address : ℕ) (payload pool : List ℕ) (at r a b c : ℕ) (pool' : List ℕ) : Type 0 where
  pub type_is : r ≡ kind
  pub address_is : a ≡ address
  pub length_is : c ≡ length payload
  pub with_data : kind < 4 → (b ≡ at) × (pool' ≡ pasted pool at payload)
  pub without : 4 ≤ kind → (b ≡ 0) × (pool' ≡ pool)

-- why it is returned: the line is in the format, and the pool has room; it is, and the pool has none; or it has a fault, from 1 to 9
pub data WhyRead (line pool : List ℕ) (at r a b c : ℕ) (pool' : List ℕ) : Type 0 where
  a_record : (kind address : ℕ) (payload : List ℕ) → Format line kind address payload → (kind < 4 → at + length payload ≤ length pool)
      → Gives kind address payload pool at r a b c pool' → WhyRead line pool at r a b c pool'
  no_room : (kind address : ℕ) (payload : List ℕ) → Format line kind address payload → kind < 4 → length pool < at + length payload
      → Numbers (refused_with pool_full) r a b c → pool' ≡ pool → WhyRead line pool at r a b c pool'
  no_record : (f : Refusal) → Fault line f → Numbers (refused_with f) r a b c → pool' ≡ pool → WhyRead line pool at r a b c pool'

-- what is returned and left has a reason, and nothing else has one
abbrev pub IhexReadSrecordReasons : Type 0
IhexReadSrecordReasons =
    (line pool : List ℕ) (at r a b c : ℕ) (pool' : List ℕ) → IhexReadSrecord line pool at r a b c pool' ↔ WhyRead line pool at r a b c pool'

-- IHEX_REFUSED + IHEX_CONTAINS_INVALID_CHARACTERS
abbrev pub INVALID_CHARACTERS : ℕ
INVALID_CHARACTERS = (refused_with (contains_invalid_characters 0)).code

-- it is returned exactly for a line that has an offender, and a is the first one's place, the S being 0
abbrev pub IhexReadSrecordOffender : Type 0
IhexReadSrecordOffender =
    (line pool : List ℕ) (at r a b c : ℕ) (pool' : List ℕ) → IhexReadSrecord line pool at r a b c pool'
    → (r ≡ INVALID_CHARACTERS) ↔ ((place : ℕ) × FirstOffender line place × (a ≡ named place))

-- only a header and a data record change the pool: no refusal does, and no other record
abbrev pub IhexReadSrecordKeeps : Type 0
IhexReadSrecordKeeps =
    (line pool : List ℕ) (at r a b c : ℕ) (pool' : List ℕ) → IhexReadSrecord line pool at r a b c pool' → 4 ≤ r → pool' ≡ pool

-- with room for 252 bytes IHEX_POOL_FULL is not returned
abbrev pub IhexReadSrecordRoom : Type 0
IhexReadSrecordRoom =
    (line pool : List ℕ) (at r a b c : ℕ) (pool' : List ℕ) → at + 252 ≤ length pool → IhexReadSrecord line pool at r a b c pool' → r ≢ POOL_FULL

-- ---- what was written

-- where `ihex_to_srecord_string` returns IHEX_OK and n, the n bytes are a line in the format, in capitals, for that type, address and data
abbrev pub IhexToSrecordStringLine : Type 0
IhexToSrecordStringLine =
    (kind address at len : ℕ) (pool out : List ℕ) (n : ℕ) (out' : List ℕ) → Every Byte pool → IhexToSrecordString kind address at len pool out OK n out'
    → Format (take n out') kind address (take len (drop at pool)) × InCapitals (take n out') × (length (take len (drop at pool)) ≡ len)

-- and `ihex_read_srecord`, with room in its pool, gives the same record for them: the same type, address and length, and the same data
abbrev pub IhexSrecordReadsBack : Type 0
IhexSrecordReadsBack =
    (kind address at len : ℕ) (pool out : List ℕ) (n : ℕ) (out' : List ℕ) → Every Byte pool → IhexToSrecordString kind address at len pool out OK n out'
    → (pool₂ : List ℕ) (at₂ r a b c : ℕ) (pool₂' : List ℕ) → (kind < 4 → at₂ + len ≤ length pool₂) → IhexReadSrecord (take n out') pool₂ at₂ r a b c pool₂'
    → Gives kind address (take len (drop at pool)) pool₂ at₂ r a b c pool₂' × (c ≡ len) × (take c (drop b pool₂') ≡ take len (drop at pool))
