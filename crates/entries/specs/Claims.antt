-- What is claimed of a record in numbers, and of a list of records and a table of windows in bytes, beyond the contracts, and proved in `proofs/`.
-- Assumes nothing.
use Rattle.std.specs.Prelude.{ℕ, ◌/◌, ◌≡◌, List, [], ◌∷◌, ◌++◌, length, get_or}
use Rattle.std.proofs.Math.Option.{none, some}
use Rattle.digits.specs.Common.{Every, Byte}
use Rattle.record.specs.declared.Record.{Record}
use Rattle.record.specs.declared.Record.TheVariants.{Data, EndOfFile, StartSegmentAddress, StartLinearAddress}
use Rattle.writer.specs.Claims.{InRange}
use Rattle.window.specs.declared.Row.{Row}
use Rattle.entries.specs.Aliases.{Attempt}
use Rattle.window.specs.Table.{nobody}
use Rattle.entries.specs.Entry.{records_of, row_at, RowAt, rows_of}
use Rattle.entries.specs.Aliases.{SAttempt}
use Rattle.entries.specs.Attempts.{WriteRecord, WriteSRecord, WriteList}

-- ---- no second answer, and no second content of the output, meets a contract

abbrev pub WriteRecordUnique : Type 0
WriteRecordUnique =
    (kind number second at len : ℕ) (pool out : List ℕ) (r r' : Attempt) (o o' : List ℕ)
    → WriteRecord kind number second at len pool out r o → WriteRecord kind number second at len pool out r' o' → (r ≡ r') × (o ≡ o')

abbrev pub WriteSrecordUnique : Type 0
WriteSrecordUnique =
    (kind address at len : ℕ) (pool out : List ℕ) (r r' : SAttempt) (o o' : List ℕ)
    → WriteSRecord kind address at len pool out r o → WriteSRecord kind address at len pool out r' o' → (r ≡ r') × (o ≡ o')

abbrev pub WriteListUnique : Type 0
WriteListUnique =
    (list pool out : List ℕ) (r r' : Attempt) (o o' : List ℕ) → WriteList list pool out r o → WriteList list pool out r' o' → (r ≡ r') × (o ≡ o')

abbrev pub RowAtUnique : Type 0
RowAtUnique = (table : List ℕ) (i : ℕ) (r r' : Row) → RowAt table i r → RowAt table i r' → r ≡ r'

-- ---- a list in bytes

-- the numbers of its records fit their fields
abbrev pub ListInRange : Type 0
ListInRange = (bytes : List ℕ) (rs : List Record) → Every Byte bytes → records_of bytes ≡ some rs → Every InRange rs

-- ---- examples of a list in bytes

abbrev pub none_of_8 : List ℕ
none_of_8 = 0 ∷ 0 ∷ 0 ∷ 0 ∷ 0 ∷ 0 ∷ 0 ∷ 0 ∷ []

pub record ListExamples : Type 0 where
  pub empty : records_of [] ≡ some []
  -- offset 0120, position 0807060504030201, length 11 (hexadecimal); the byte behind the type is not read
  pub data_then_end :
      records_of ((0 ∷ 0xEE ∷ 0 ∷ 0 ∷ 0x20 ∷ 0x01 ∷ 0 ∷ 0 ∷ 1 ∷ 2 ∷ 3 ∷ 4 ∷ 5 ∷ 6 ∷ 7 ∷ 8 ∷ 0x11 ∷ 0 ∷ 0 ∷ 0 ∷ 0 ∷ 0 ∷ 0 ∷ 0 ∷ [])
      ++ (1 ∷ 0 ∷ 0 ∷ 0 ∷ none_of_8 ++ none_of_8 ++ (0 ∷ 0 ∷ 0 ∷ 0 ∷ [])))
      ≡ some (Data 0x0120 0x0807060504030201 0x11 ∷ EndOfFile ∷ [])
  -- CS 3412, IP 7856
  pub start_segment :
      records_of ((3 ∷ 0 ∷ 0x56 ∷ 0x78 ∷ 0x12 ∷ 0x34 ∷ 0 ∷ 0 ∷ []) ++ none_of_8 ++ none_of_8) ≡ some (StartSegmentAddress 0x3412 0x7856 ∷ [])
  pub start_linear :
      records_of ((5 ∷ 0 ∷ 0 ∷ 0 ∷ 0x12 ∷ 0x34 ∷ 0x56 ∷ 0x78 ∷ []) ++ none_of_8 ++ none_of_8) ≡ some (StartLinearAddress 0x78563412 ∷ [])
  -- a number over 65,535 where two bytes are written; a type over 05; 16 bytes of 24
  pub over : records_of ((4 ∷ 0 ∷ 0 ∷ 0 ∷ 0 ∷ 0 ∷ 1 ∷ 0 ∷ []) ++ none_of_8 ++ none_of_8) ≡ none
  pub unknown : records_of ((6 ∷ 0 ∷ 0 ∷ 0 ∷ 0 ∷ 0 ∷ 0 ∷ 0 ∷ []) ++ none_of_8 ++ none_of_8) ≡ none
  pub cut : records_of (none_of_8 ++ none_of_8) ≡ none

-- ---- a table in bytes

-- it has a window for each 24 bytes
abbrev pub RowsLength : Type 0
RowsLength = (table : List ℕ) → length (rows_of table) ≡ length table / 24

-- and window i is what `row_at` gives for i
abbrev pub RowsEach : Type 0
RowsEach = (table : List ℕ) (i : ℕ) → get_or (rows_of table) i nobody ≡ row_at table i

-- ---- examples of a table in bytes

-- owner 2, first address 08000120, length 0200, place 0807060504030201 (hexadecimal)
abbrev pub one_row : List ℕ
one_row = 2 ∷ 0 ∷ 0 ∷ 0 ∷ 0x20 ∷ 0x01 ∷ 0 ∷ 8 ∷ 0 ∷ 2 ∷ 0 ∷ 0 ∷ 0 ∷ 0 ∷ 0 ∷ 0 ∷ 1 ∷ 2 ∷ 3 ∷ 4 ∷ 5 ∷ 6 ∷ 7 ∷ 8 ∷ []

abbrev pub the_row : Row
the_row = record { owner = 2; first = 0x08000120; size = 0x0200; place = 0x0807060504030201 }

pub record TableExamples : Type 0 where
  pub empty : rows_of [] ≡ []
  pub one : rows_of one_row ≡ the_row ∷ []
  pub found : row_at one_row 0 ≡ the_row
  pub beyond : row_at one_row 1 ≡ nobody
  -- a second window, and 8 bytes of 24
  pub two : rows_of (one_row ++ (none_of_8 ++ (none_of_8 ++ none_of_8))) ≡ the_row ∷ nobody ∷ []
  pub rest : rows_of (one_row ++ none_of_8) ≡ the_row ∷ []
  pub cut : row_at none_of_8 0 ≡ nobody
