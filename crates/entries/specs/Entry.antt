-- Records in numbers and in bytes, and windows of a table in bytes, as C has them.
-- Assumes nothing.
use Rattle.std.specs.Prelude.{ℕ, zero, suc, ◌+◌, ◌*◌, ◌/◌, ◌%◌, ◌≡◌, List, [], ◌∷◌, ◌++◌, eqb, leb, ltb, length, get_or}
use Rattle.std.proofs.Math.Option.{Option, none, some, map}
use Rattle.std.specs.Prelude.{if◌then◌else◌}
use Rattle.record.specs.declared.Record.{Record}
use Rattle.record.specs.declared.Record.TheVariants.{Data, EndOfFile, ExtendedSegmentAddress, StartSegmentAddress, ExtendedLinearAddress, StartLinearAddress}
use Rattle.srec.specs.declared.SType.{SType}
use Rattle.srec.specs.declared.SType.TheVariants.{S0, S1, S2, S3, S5, S7, S8, S9}
use Rattle.srec.specs.declared.SRecord.{SRecord}
use Rattle.window.specs.declared.Row.{Row}
use Rattle.window.specs.Table.{nobody}
use Rattle.entries.specs.Aliases.{Entry}
use Rattle.std.specs.Prelude.{None, Some}

-- a record whose number has 16 bits
abbrev pub if_short : (number : ℕ) → Record → Option Record
if_short number r = if leb number 65535 then some r else none

-- the record of a type and its numbers
unfoldable pub record_of : (kind number second at len : ℕ) → Option Record
record_of kind number second at len =
    if eqb kind 0 then if_short number (Data number at len) else
    if eqb kind 1 then some EndOfFile else
    if eqb kind 2 then if_short number (ExtendedSegmentAddress number) else
    if eqb kind 3 then if_short number (StartSegmentAddress number second) else
    if eqb kind 4 then if_short number (ExtendedLinearAddress number) else
    if eqb kind 5 then some (StartLinearAddress number) else
    none

-- the type of S-records that a digit names, if it names one
unfoldable pub type_named : (digit : ℕ) → Option SType
type_named digit =
    if eqb digit 0 then some S0 else
    if eqb digit 1 then some S1 else
    if eqb digit 2 then some S2 else
    if eqb digit 3 then some S3 else
    if eqb digit 5 then some S5 else
    if eqb digit 7 then some S7 else
    if eqb digit 8 then some S8 else
    if eqb digit 9 then some S9 else
    none

-- the S-record of a type's digit and its numbers
abbrev pub srecord_of : (kind address at len : ℕ) → Option SRecord
srecord_of kind address at len = map (λ (t : SType). record { kind = t; address = address; at = at; len = len }) (type_named kind)

-- numbers of two, four and eight bytes, low byte first
abbrev pub two_at : List ℕ → (at : ℕ) → ℕ
two_at bytes at = get_or bytes at 0 + 256 * get_or bytes (at + 1) 0

abbrev pub four_at : List ℕ → (at : ℕ) → ℕ
four_at bytes at = two_at bytes at + 65536 * two_at bytes (at + 2)

abbrev pub eight_at : List ℕ → (at : ℕ) → ℕ
eight_at bytes at = four_at bytes at + 4294967296 * four_at bytes (at + 4)

-- an entry of 24 bytes: type, a byte that is not read, second number (2 bytes), number (4), position (8), length (8)
unfoldable pub record_at : List ℕ → (at : ℕ) → Option Record
unfolding record_of
record_at bytes at =
    record_of (get_or bytes at 0) (four_at bytes (at + 4)) (two_at bytes (at + 2)) (eight_at bytes (at + 8)) (eight_at bytes (at + 16))

abbrev pub and_then : Option (List Record) → Option Record → Option (List Record)
and_then none r = none
and_then (some rs) none = none
and_then (some rs) (some r) = some (rs ++ (r ∷ []))

-- the records of the first n entries, if each is one
unfoldable pub first_records : List ℕ → (n : ℕ) → Option (List Record)
unfolding record_at
first_records bytes zero = some []
first_records bytes (suc n) = and_then (first_records bytes n) (record_at bytes (24 * n))

-- the records that the bytes are
unfoldable pub records_of : List ℕ → Option (List Record)
unfolding first_records
records_of bytes = if eqb (length bytes % 24) 0 then first_records bytes (length bytes / 24) else none

-- what the code makes of an entry
abbrev pub entry_of : Entry → Option Record
entry_of (Some r) = some r
entry_of None = none

-- ---- a table in bytes

-- the bytes of a window in a table
abbrev pub WINDOW_SIZE : ℕ
WINDOW_SIZE = 24

-- a window of 24 bytes: owner (4), first address (4), length (8), place (8)
abbrev pub window_at : List ℕ → (at : ℕ) → Row
window_at bytes at =
    record { owner = four_at bytes at; first = four_at bytes (at + 4); size = eight_at bytes (at + 8); place = eight_at bytes (at + 16) }

-- window i of a table, the first is 0
unfoldable pub row_at : List ℕ → (i : ℕ) → Row
row_at table i = if ltb i (length table / WINDOW_SIZE) then window_at table (WINDOW_SIZE * i) else nobody

pub record RowAt (table : List ℕ) (i : ℕ) (r : Row) : Type 0 where
  pub answer : r ≡ row_at table i

-- n windows, from window i on
unfoldable pub rows_from : List ℕ → (i n : ℕ) → List Row
unfolding row_at
rows_from table i zero = []
rows_from table i (suc n) = row_at table i ∷ rows_from table (suc i) n

-- the windows of a table; a rest of fewer than 24 bytes is none
unfoldable pub rows_of : List ℕ → List Row
unfolding rows_from
rows_of table = rows_from table 0 (length table / WINDOW_SIZE)
