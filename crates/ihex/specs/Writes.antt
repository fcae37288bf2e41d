-- What is claimed of the writers `ihex_to_record_string`, `ihex_to_srecord_string`, `ihex_create_object_file_representation` and
-- `ihex_write_page`: of any text that they are to write, which is what their contracts have in common.
-- Assumes nothing.
use Rattle.std.specs.Prelude.{ℕ, ◌≤◌, ◌≡◌, ◌≢◌, ◌↔◌, List, length, take, drop}
use Rattle.std.proofs.Math.Option.{Option, some}
use Rattle.record.specs.declared.Record.{Record}
use Rattle.writer.specs.Told.{ToldWritten}
use Rattle.writer.specs.Text.{Text, chars}
use Rattle.writer.specs.Reasons.{WhyLine, WhyObject}
use Rattle.srec.specs.declared.SRecord.{SRecord}
use Rattle.srec.specs.Faults.{Unnamed}
use Rattle.srec.specs.Reasons as srec
use Rattle.codes.specs.Codes.{OK, BAD_RECORD, value, writing}
use Rattle.entries.specs.Entry.{record_of, srecord_of, records_of}
use Rattle.ihex.specs.Entries.{WroteText, IhexToRecordString, IhexToSrecordString, IhexCreateObjectFileRepresentation}

-- the text stands at the front of the output, as long as the value says, and no byte of the output after it changes
abbrev pub NothingAfterTheLength : Type 0
NothingAfterTheLength =
    (t : Option Text) (out : List ℕ) (n : ℕ) (out' : List ℕ) → WroteText t out OK n out'
    → (t ≡ some (chars (take n out'))) × (n ≤ length out) × (drop n out' ≡ drop n out)

-- any other code, a refusal or IHEX_BAD_RECORD, changes no byte of the output
abbrev pub RefusalKeepsOutput : Type 0
RefusalKeepsOutput = (t : Option Text) (out : List ℕ) (r v : ℕ) (out' : List ℕ) → WroteText t out r v out' → r ≢ OK → out' ≡ out

-- ---- why a writer returns what it returns

-- what is returned has a reason, and nothing else has one
pub record WriteReasoned (Why : ToldWritten → Type 0) (r v : ℕ) : Type 0 where
  pub answer : ToldWritten
  pub why : Why answer
  pub code_is : r ≡ (writing (some answer)).code
  pub value_is : v ≡ value (writing (some answer)) 0
  pub only : (t : ToldWritten) → Why t → t ≡ answer

-- a record, where the numbers are one: 11, 12, then 15
abbrev pub IhexToRecordStringReasons : Type 0
IhexToRecordStringReasons =
    (kind number second at len : ℕ) (pool out : List ℕ) (r v : ℕ) (out' : List ℕ) → IhexToRecordString kind number second at len pool out r v out'
    → (x : Record) → record_of kind number second at len ≡ some x → WriteReasoned (WhyLine x (length pool) (length out)) r v

-- an S-record, where the digit names a type: 11, 9, 12, 25, then 15
abbrev pub IhexToSrecordStringReasons : Type 0
IhexToSrecordStringReasons =
    (kind address at len : ℕ) (pool out : List ℕ) (r v : ℕ) (out' : List ℕ) → IhexToSrecordString kind address at len pool out r v out'
    → (x : SRecord) → srecord_of kind address at len ≡ some x → WriteReasoned (srec.WhyLine x (length pool) (length out)) r v

-- IHEX_BAD_RECORD, exactly where it names none
abbrev pub IhexToSrecordStringBad : Type 0
IhexToSrecordStringBad =
    (kind address at len : ℕ) (pool out : List ℕ) (r v : ℕ) (out' : List ℕ) → IhexToSrecordString kind address at len pool out r v out'
    → (r ≡ BAD_RECORD) ↔ Unnamed kind

-- a list, where the bytes are one: 13, 14, the first record with 11 or 12, then 15
abbrev pub IhexCreateObjectReasons : Type 0
IhexCreateObjectReasons =
    (list pool out : List ℕ) (r v : ℕ) (out' : List ℕ) → IhexCreateObjectFileRepresentation list pool out r v out'
    → (rs : List Record) → records_of list ≡ some rs → WriteReasoned (WhyObject rs (length pool) (length out)) r v
