-- Why a writer answers as it does: relations that compute nothing and use none of the definitions by which `Line` and `Object` answer.
-- Each claim is proved in `proofs/Reasons.antt`: the same name, in small letters.
-- Assumes nothing.
use Rattle.std.specs.Prelude.{◌≡◌, ℕ, ◌+◌, ◌*◌, ◌<◌, ◌≤◌, ◌≢◌, List, [], ◌∷◌, ◌++◌, length}
use Rattle.digits.specs.Common.{Every}
use Rattle.record.specs.Refusals.{Refusal, payload_outside_pool, data_exceeds_maximum_length, missing_end_of_file_record, multiple_end_of_file_records, output_full}
use Rattle.record.specs.declared.Record.{Record}
use Rattle.record.specs.declared.Record.TheVariants.{Data, EndOfFile}
use Rattle.record.specs.Record.{type_of}
use Rattle.record.specs.Format.{Size}
use Rattle.writer.specs.Aliases.{Written}
use Rattle.writer.specs.declared.Survey.{Survey}
use Rattle.writer.specs.Told.{ToldWritten, wrote, refuses, told_written}
use Rattle.writer.specs.Line.{ToRecordString, WriteStep}
use Rattle.writer.specs.Object.{WriteObject}
use Rattle.writer.specs.Survey.{SurveyAnswer, most}
use Rattle.writer.specs.Claims.{Surveys}

-- ---- one record

-- why a record has no line, over a pool of `size` bytes: 11, its payload ends after the pool; 12, it does not, and is longer than 255 bytes
pub data RecordFault (size : ℕ) : Record → Refusal → Type 0 where
  outside : (offset at len : ℕ) → size < at + len → RecordFault size (Data offset at len) payload_outside_pool
  too_long : (offset at len : ℕ) → at + len ≤ size → 255 < len → RecordFault size (Data offset at len) (data_exceeds_maximum_length len)

-- how many payload bytes a record has: a data record says it, and for any other the format fixes it by the type
pub data PayloadSize : Record → ℕ → Type 0 where
  stated : (offset at len : ℕ) → PayloadSize (Data offset at len) len
  fixed : (r : Record) (n : ℕ) → type_of r ≢ 0 → Size (type_of r) n → PayloadSize r n

-- how long a line is: eleven characters, and two for each payload byte
abbrev pub LineSize : Record → ℕ → Type 0
LineSize r n = (bytes : ℕ) × PayloadSize r bytes × (n ≡ 11 + 2 * bytes)

-- how long the lines of a list are, each with its LF
pub data LinesSize : List Record → ℕ → Type 0 where
  no_line : LinesSize [] 0
  one_more : {r : Record} {rs : List Record} (n m : ℕ) → LineSize r n → LinesSize rs m → LinesSize (r ∷ rs) (n + 1 + m)

-- ---- a list of records

-- an end record is last
abbrev pub EndsLast : List Record → Type 0
EndsLast rs = (before : List Record) × (rs ≡ before ++ (EndOfFile ∷ []))

-- or none is: there are no records, or the last is another one
pub data NoEndLast (rs : List Record) : Type 0 where
  no_record : rs ≡ [] → NoEndLast rs
  other_last : (before : List Record) (r : Record) → rs ≡ before ++ (r ∷ []) → r ≢ EndOfFile → NoEndLast rs

-- how many of the records are end records
pub data EndsCount : List Record → ℕ → Type 0 where
  no_end : EndsCount [] 0
  counted : {rs : List Record} {n : ℕ} → EndsCount rs n → EndsCount (EndOfFile ∷ rs) (1 + n)
  passed : {r : Record} {rs : List Record} {n : ℕ} → r ≢ EndOfFile → EndsCount rs n → EndsCount (r ∷ rs) n

-- the first record of the list that has a fault, and that fault: no record before it has one
pub record FirstFault (size : ℕ) (rs : List Record) (f : Refusal) : Type 0 where
  pub before : List Record
  pub faulty : Record
  pub after : List Record
  pub whole : rs ≡ before ++ (faulty ∷ after)
  pub fault : RecordFault size faulty f
  pub none_before : Every (λ r. (g : Refusal) → ¬ RecordFault size r g) before

-- why a list has no text, over a pool of `size` bytes: 13, no end record is last; 14, one is last, and there are n, more than one;
-- 11 or 12, the only end record is last, and this is the fault of the first record that has one
pub data ListFault (size : ℕ) (rs : List Record) : Refusal → Type 0 where
  unended : NoEndLast rs → ListFault size rs missing_end_of_file_record
  ended_twice : (n : ℕ) → EndsLast rs → EndsCount rs n → 1 < n → ListFault size rs (multiple_end_of_file_records n)
  in_record : {f : Refusal} → EndsLast rs → EndsCount rs 1 → FirstFault size rs f → ListFault size rs f

-- ---- answers

-- a reason for an answer, for a text with these faults and this length that is to begin at a position of an output of `room` bytes.
-- A fault comes first; then 15, the text does not fit; otherwise it is written, and the position after it is returned
pub data Why (Fault : Refusal → Type 0) (Long : ℕ → Type 0) (at room : ℕ) : ToldWritten → Type 0 where
  faulty : (f : Refusal) → Fault f → Why Fault Long at room (refuses f)
  no_room : (n : ℕ) → ((f : Refusal) → ¬ Fault f) → Long n → room < at + n → Why Fault Long at room (refuses output_full)
  written : (n : ℕ) → ((f : Refusal) → ¬ Fault f) → Long n → at + n ≤ room → Why Fault Long at room (wrote (at + n))

-- of a line, of a line with its LF at a position, and of an object
abbrev pub WhyLine : (r : Record) (size room : ℕ) → ToldWritten → Type 0
WhyLine r size room = Why (RecordFault size r) (LineSize r) 0 room

abbrev pub WhyStep : (r : Record) (size at room : ℕ) → ToldWritten → Type 0
WhyStep r size at room = Why (RecordFault size r) (LinesSize (r ∷ [])) at room

abbrev pub WhyObject : (rs : List Record) (size room : ℕ) → ToldWritten → Type 0
WhyObject rs size room = Why (ListFault size rs) (LinesSize rs) 0 room

-- each answer has one
pub record Reasons : Type 0 where
  pub of_line : (r : Record) (pool out : List ℕ) (w : Written) (out' : List ℕ) → ToRecordString r pool out w out' → WhyLine r (length pool) (length out) (told_written w)
  pub of_step : (r : Record) (pool out : List ℕ) (at : ℕ) (w : Written) (out' : List ℕ) → WriteStep r pool out at w out' → WhyStep r (length pool) at (length out) (told_written w)
  pub of_object : (rs : List Record) (pool out : List ℕ) (w : Written) (out' : List ℕ) → WriteObject rs pool out w out' → WhyObject rs (length pool) (length out) (told_written w)
  -- and so has what a survey of the list answers, below the largest number
  pub of_survey : (rs : List Record) (pool : List ℕ) (s : Survey) (room : ℕ) (w : Written) → length rs ≤ most → room < most → Surveys pool rs s → SurveyAnswer s room w
      → WhyObject rs (length pool) room (told_written w)

-- and no second answer has one: each refusal is given exactly when its reason holds
pub record OneReason : Type 0 where
  pub of_line : (r : Record) (size room : ℕ) (t t' : ToldWritten) → WhyLine r size room t → WhyLine r size room t' → t ≡ t'
  pub of_step : (r : Record) (size at room : ℕ) (t t' : ToldWritten) → WhyStep r size at room t → WhyStep r size at room t' → t ≡ t'
  pub of_object : (rs : List Record) (size room : ℕ) (t t' : ToldWritten) → WhyObject rs size room t → WhyObject rs size room t' → t ≡ t'
