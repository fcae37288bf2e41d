-- What is claimed of the writer beyond its contracts. Each is proved in `proofs/`: the same name, in small letters.
-- Assumes nothing.
use Rattle.std.specs.Prelude.{◌≡◌, ℕ, ◌+◌, ◌*◌, ◌<◌, ◌≤◌, true, ◌⊎◌, List, [], ◌∷◌, ◌++◌, map, length, take, drop, nat_eq}
use Rattle.std.proofs.Math.Option.{none}
use Rattle.digits.specs.Common.{Every, Byte, text}
use Rattle.std.specs.Prelude.{if◌then◌else◌}
use Rattle.record.specs.Refusals.{missing_end_of_file_record, multiple_end_of_file_records}
use Rattle.record.specs.declared.Record.{Record}
use Rattle.record.specs.declared.Record.TheVariants.{Data, EndOfFile, ExtendedSegmentAddress, StartSegmentAddress, ExtendedLinearAddress, StartLinearAddress}
use Rattle.record.specs.Record.{meant, Inside}
use Rattle.record.specs.Meaning.{meaning}
use Rattle.record.specs.Line.{says, judge}
use Rattle.record.specs.Format.{Format}
use Rattle.record.specs.Written.{written, kind_of, address_of, payload_of, InCapitals}
use Rattle.writer.specs.declared.WriterError.{WriterError}
use Rattle.writer.specs.Aliases.{Written}
use Rattle.writer.specs.declared.Survey.{Survey}
use Rattle.writer.specs.Told.{told_written}
use Rattle.writer.specs.Text.{Text, chars, refused, place_behind, if_room, Writes}
use Rattle.writer.specs.Line.{line_refusal, line, line_text, ToRecordString, WriteStep, WriteNext}
use Rattle.writer.specs.Object.{ends, ends_in_end, joined_lines, object, WriteObject}
use Rattle.writer.specs.Survey.{SurveyNew, SurveyAdd, SurveyAnswer, SurveyBegin, most}
use Rattle.std.specs.Prelude.{Err, Ok}

-- ---- one record

-- the numbers of a record are those of its types
abbrev pub InRange : Record → Type 0
InRange (Data offset at len) = offset < 65536
InRange EndOfFile = Unit
InRange (ExtendedSegmentAddress a) = a < 65536
InRange (StartSegmentAddress cs ip) = (cs < 65536) × (ip < 65536)
InRange (ExtendedLinearAddress a) = a < 65536
InRange (StartLinearAddress a) = a < 4294967296

-- a line is eleven characters, and two for each payload byte
abbrev pub LineLength : Type 0
LineLength = (r : Record) (pool : List ℕ) → length (line r pool) ≡ 11 + 2 * length (payload_of (meant r pool))

-- a written line is in the format, for exactly that record
abbrev pub LineInFormat : Type 0
LineInFormat =
    (r : Record) (pool cs : List ℕ) → InRange r → Every Byte pool → line_text r pool ≡ chars cs
    → Format cs (kind_of (meant r pool)) (address_of (meant r pool)) (payload_of (meant r pool))

-- a line of the format that says the record, in capitals, with the address 0000 for all but data
pub record LineFor (r : Record) (pool l : List ℕ) : Type 0 where
  pub formal : Format l (kind_of (meant r pool)) (address_of (meant r pool)) (payload_of (meant r pool))
  pub capitals : InCapitals l

-- the first n bytes that `to_record_string` leaves are such a line
abbrev pub WritesLine : Type 0
WritesLine =
    (r : Record) (pool out : List ℕ) (n : ℕ) (out' : List ℕ) → InRange r → Every Byte pool
    → ToRecordString r pool out (Ok n) out' → LineFor r pool (take n out')

-- and there is no second one
abbrev pub OneLine : Type 0
OneLine = (r : Record) (pool l l' : List ℕ) → LineFor r pool l → LineFor r pool l' → l ≡ l'

-- a line that says a record, written again: the same type, address and payload, in capitals, with 0000 for all but data
abbrev pub Canonical : Type 0
Canonical =
    (l : List ℕ) (kind address : ℕ) (payload : List ℕ) (r : Record) (pool : List ℕ)
    → judge l ≡ says kind address payload → meant r pool ≡ meaning kind address payload → Inside r (length pool)
    → line_text r pool ≡ chars (written kind (if nat_eq kind 0 then address else 0) payload)

-- two records with the same line are the same, payloads and all
abbrev pub LineInjective : Type 0
LineInjective =
    (r r' : Record) (pool pool' cs : List ℕ) → InRange r → InRange r' → Every Byte pool → Every Byte pool'
    → line_text r pool ≡ chars cs → line_text r' pool' ≡ chars cs → meant r pool ≡ meant r' pool'

-- a line has no byte below 48, so neither LF nor CR
abbrev pub LinePlain : Type 0
LinePlain = (r : Record) (pool : List ℕ) → Every (λ c. 48 ≤ c) (line r pool)

-- ---- the output

-- a refusal changes nothing
abbrev pub RefusalChangesNothing : Type 0
RefusalChangesNothing = (t : Text) (out : List ℕ) (at : ℕ) (e : WriterError) (out' : List ℕ) → Writes t out at (Err e) out' → out' ≡ out

-- what lies before the place, and from the returned one on, is as it was
abbrev pub RestUntouched : Type 0
RestUntouched =
    (t : Text) (out : List ℕ) (at n : ℕ) (out' : List ℕ) → Writes t out at (Ok n) out'
    → (take at out' ≡ take at out) × (drop n out' ≡ drop n out)

-- ---- an object

-- an object that has a text: each record has its line, the text is the lines, each with its LF, and the one end is the last
pub record Whole (rs : List Record) (pool cs : List ℕ) : Type 0 where
  pub fine : Every (λ r. line_refusal r (length pool) ≡ none) rs
  pub lined : cs ≡ joined_lines rs pool
  pub ended : ends_in_end rs ≡ true
  pub one : ends rs ≡ 1

abbrev pub ObjectWhole : Type 0
ObjectWhole = (rs : List Record) (pool cs : List ℕ) → object rs pool ≡ chars cs → Whole rs pool cs

-- and such a list has it: it is refused by none of 11 to 14. Which one another list gets, `object` says
abbrev pub WholeObject : Type 0
WholeObject = (rs : List Record) (pool cs : List ℕ) → Whole rs pool cs → object rs pool ≡ chars cs

-- a text that has such a line for each record, in order, and one LF after each
pub data TextFor (pool : List ℕ) : List Record → (t : List ℕ) → Type 0 where
  no_line : TextFor pool [] []
  then_line : {r : Record} {rs : List Record} (l rest : List ℕ) → LineFor r pool l → TextFor pool rs rest → TextFor pool (r ∷ rs) (l ++ (10 ∷ rest))

-- the first n bytes that a writer of an object leaves are such a text
abbrev pub WritesText : Type 0
WritesText =
    (rs : List Record) (pool out : List ℕ) (n : ℕ) (out' : List ℕ) → Every InRange rs → Every Byte pool
    → WriteObject rs pool out (Ok n) out' → TextFor pool rs (take n out')

-- and there is no second one
abbrev pub OneText : Type 0
OneText = (rs : List Record) (pool t t' : List ℕ) → TextFor pool rs t → TextFor pool rs t' → t ≡ t'

-- two lists with the same text are the same, payloads and all
abbrev pub ObjectInjective : Type 0
ObjectInjective =
    (rs rs' : List Record) (pool pool' cs : List ℕ) → Every InRange rs → Every InRange rs' → Every Byte pool → Every Byte pool'
    → object rs pool ≡ chars cs → object rs' pool' ≡ chars cs → map (λ r. meant r pool) rs ≡ map (λ r. meant r pool') rs'

-- the survey that calls of `add` make of a list of records, in order
pub data Surveys (pool : List ℕ) : List Record → Survey → Type 0 where
  at_first : {s : Survey} → SurveyNew s → Surveys pool [] s
  then_add : {rs whole : List Record} {r : Record} {s t : Survey} → Surveys pool rs s → SurveyAdd s r pool t → whole ≡ rs ++ (r ∷ []) → Surveys pool whole t

-- it answers what the definition of an object says, for no more records than the largest number, where the room is less than that number, or else the text no longer than it
abbrev pub SurveyAnswers : Type 0
SurveyAnswers =
    (rs : List Record) (pool : List ℕ) (s : Survey) (room : ℕ) (a : Written) → length rs ≤ most → (room < most) ⊎ (length (joined_lines rs pool) ≤ most)
    → Surveys pool rs s → SurveyAnswer s room a → told_written a ≡ if_room (place_behind (object rs pool) 0) room

-- what calls of `write_next` leave of an output, and their last answer
pub data Steps (pool out : List ℕ) (start : Written) : List Record → Written → (out' : List ℕ) → Type 0 where
  no_step : Steps pool out start [] start out
  then_step : {rs whole : List Record} (r : Record) {w w' : Written} {out₁ : List ℕ} (out₂ : List ℕ)
      → Steps pool out start rs w out₁ → WriteNext w r pool out₁ w' out₂ → whole ≡ rs ++ (r ∷ []) → Steps pool out start whole w' out₂

-- survey, then steps: the object's text and its length, or the refusal and the output as it was
abbrev pub ObjectWritten : Type 0
ObjectWritten =
    (rs : List Record) (pool out : List ℕ) (s : Survey) (start w : Written) (out' : List ℕ) → length rs ≤ most → length out < most
    → Surveys pool rs s → SurveyBegin s (length out) start → Steps pool out start rs w out' → WriteObject rs pool out w out'

-- ---- examples

pub record Examples : Type 0 where
  pub end_line : (pool : List ℕ) → line_text EndOfFile pool ≡ chars (text ":00000001FF")
  pub segment_line : (pool : List ℕ) → line_text (ExtendedSegmentAddress 0x1200) pool ≡ chars (text ":020000021200EA")
  pub start_line : (pool : List ℕ) → line_text (StartLinearAddress 0xCD) pool ≡ chars (text ":04000005000000CD2A")
  pub end_alone : (pool : List ℕ) → object (EndOfFile ∷ []) pool ≡ chars (text ":00000001FF" ++ (10 ∷ []))
  -- list end, end, one empty data record: 13, not 14
  pub thirteen_first : (pool : List ℕ) → object (EndOfFile ∷ EndOfFile ∷ Data 0 0 0 ∷ []) pool ≡ refused missing_end_of_file_record
  -- the true count
  pub three_ends : (pool : List ℕ) → object (EndOfFile ∷ EndOfFile ∷ EndOfFile ∷ []) pool ≡ refused (multiple_end_of_file_records 3)

-- ---- no second answer meets a contract

abbrev pub ToRecordStringUnique : Type 0
ToRecordStringUnique =
    (x : Record) (pool out : List ℕ) (r r' : Written) (o o' : List ℕ)
    → ToRecordString x pool out r o → ToRecordString x pool out r' o' → (r ≡ r') × (o ≡ o')

abbrev pub WriteStepUnique : Type 0
WriteStepUnique =
    (x : Record) (pool out : List ℕ) (at : ℕ) (r r' : Written) (o o' : List ℕ)
    → WriteStep x pool out at r o → WriteStep x pool out at r' o' → (r ≡ r') × (o ≡ o')

abbrev pub WriteNextUnique : Type 0
WriteNextUnique =
    (done : Written) (x : Record) (pool out : List ℕ) (r r' : Written) (o o' : List ℕ)
    → WriteNext done x pool out r o → WriteNext done x pool out r' o' → (r ≡ r') × (o ≡ o')

abbrev pub NewUnique : Type 0
NewUnique = (r r' : Survey) → SurveyNew r → SurveyNew r' → r ≡ r'

abbrev pub AddUnique : Type 0
AddUnique = (s : Survey) (x : Record) (pool : List ℕ) (r r' : Survey) → SurveyAdd s x pool r → SurveyAdd s x pool r' → r ≡ r'

abbrev pub AnswerUnique : Type 0
AnswerUnique = (s : Survey) (room : ℕ) (r r' : Written) → SurveyAnswer s room r → SurveyAnswer s room r' → r ≡ r'

abbrev pub BeginUnique : Type 0
BeginUnique = (s : Survey) (room : ℕ) (r r' : Written) → SurveyBegin s room r → SurveyBegin s room r' → r ≡ r'

abbrev pub CreateObjectFileRepresentationUnique : Type 0
CreateObjectFileRepresentationUnique =
    (rs : List Record) (pool out : List ℕ) (r r' : Written) (o o' : List ℕ)
    → WriteObject rs pool out r o → WriteObject rs pool out r' o' → (r ≡ r') × (o ≡ o')
