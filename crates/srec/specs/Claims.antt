-- What is claimed of the definitions and of the calls, and proved in `proofs/Claims.antt`, `proofs/Writing.antt`, `proofs/Unique.antt` and
-- `proofs/RoundTrip.antt`.
-- Assumes nothing.
use Rattle.std.specs.Prelude.{◌≡◌, ℕ, ◌+◌, ◌<◌, ◌≤◌, true, false, ◌↔◌, List, [], length, take, drop}
use Rattle.digits.specs.Common.{Every, Byte}
use Rattle.record.specs.Refusals.{Refusal, number_of, contains_invalid_characters}
use Rattle.record.specs.Line.{Said, says, wrong}
use Rattle.digits.specs.Reading.{named}
use Rattle.reader.specs.Text.{is_full}
use Rattle.reader.specs.Told.{refusal_of}
use Rattle.reader.specs.declared.ReaderError.{ReaderError}
use Rattle.reader.specs.declared.ReaderError.TheVariants.{ContainsInvalidCharacters}
use Rattle.writer.specs.Text.{chars}
use Rattle.srec.specs.declared.SType.{SType}
use Rattle.srec.specs.Aliases.{Named}
use Rattle.srec.specs.declared.SRecord.{SRecord}
use Rattle.srec.specs.Aliases.{SAnswer}
use Rattle.srec.specs.declared.SWriterError.{SWriterError}
use Rattle.srec.specs.Aliases.{SWritten}
use Rattle.srec.specs.Types.{is_named}
use Rattle.srec.specs.Line.{complement_sum, judge}
use Rattle.srec.specs.Format.{Complements, Format}
use Rattle.srec.specs.Faults.{FirstOffender, Fault}
use Rattle.srec.specs.Written.{written, InCapitals, Writable}
use Rattle.srec.specs.Record.{digit_of, DigitOf, TypeOf, data_of}
use Rattle.srec.specs.Answer.{told_sanswer, answered, ReadSRecord}
use Rattle.srec.specs.Writer.{told_swritten, line, line_text, ToSRecordString}
use Rattle.std.specs.Prelude.{Err, Ok}

-- the judge accepts exactly what the format admits, with the same type, address and data
abbrev pub Admits : Type 0
Admits =
    (line : List ℕ) (kind address : ℕ) (payload : List ℕ)
    → (judge line ≡ says kind address payload) ↔ Format line kind address payload

-- and refuses every other line, with the refusal that is first in the order
abbrev pub Refuses : Type 0
Refuses = (line : List ℕ) (r : Refusal) → (judge line ≡ wrong r) ↔ Fault line r

-- the checksum is the ones' complement of the sum's low byte: the two make a byte of ones alone
abbrev pub ComplementOf : Type 0
ComplementOf = (bytes : List ℕ) (check : ℕ) → (check ≡ complement_sum bytes) ↔ Complements bytes check

-- there is one first offender at most, and refusal 2 comes exactly where there is one, and names its place
abbrev pub OneOffender : Type 0
OneOffender = (line : List ℕ) (p q : ℕ) → FirstOffender line p → FirstOffender line q → p ≡ q

abbrev pub NamesTheOffender : Type 0
NamesTheOffender =
    (line : List ℕ) (r : Refusal)
    → ((judge line ≡ wrong r) × (number_of r ≡ 2)) ↔ ((place : ℕ) × FirstOffender line place × (r ≡ contains_invalid_characters (named place)))

-- what is written is in the format, for exactly that type, address and data
abbrev pub WrittenInFormat : Type 0
WrittenInFormat =
    (kind address : ℕ) (payload : List ℕ) → Writable kind address payload
    → Format (written kind address payload) kind address payload

-- it is in capitals
abbrev pub WrittenInCapitals : Type 0
WrittenInCapitals = (kind address : ℕ) (payload : List ℕ) → Writable kind address payload → InCapitals (written kind address payload)

-- and no other line of the format for that type, address and data is
abbrev pub OnlyInCapitals : Type 0
OnlyInCapitals =
    (line : List ℕ) (kind address : ℕ) (payload : List ℕ)
    → Format line kind address payload → InCapitals line → line ≡ written kind address payload

-- so it says that record again
abbrev pub ReadsBack : Type 0
ReadsBack =
    (kind address : ℕ) (payload : List ℕ) → Writable kind address payload
    → judge (written kind address payload) ≡ says kind address payload

-- whatever a line says, a line can hold
abbrev pub SaidIsWritable : Type 0
SaidIsWritable =
    (line : List ℕ) (kind address : ℕ) (payload : List ℕ)
    → judge line ≡ says kind address payload → Writable kind address payload

-- the limits of what a line says, for every type: an address of 32 bits, and 252 bytes, or none where the type holds none
pub record Bounds (kind address : ℕ) (payload : List ℕ) : Type 0 where
  pub named : is_named kind ≡ true
  pub address_small : address < 4294967296
  pub most : length payload ≤ 252
  pub payload_bytes : Every Byte payload
  pub bare : 4 ≤ kind → payload ≡ []

abbrev pub SaidIsBounded : Type 0
SaidIsBounded =
    (line : List ℕ) (kind address : ℕ) (payload : List ℕ)
    → judge line ≡ says kind address payload → Bounds kind address payload

-- ---- types

-- no second answer meets the contract of `type_of`, or of `SType::digit`
abbrev pub TypeOfUnique : Type 0
TypeOfUnique = (digit : ℕ) (r r' : Named) → TypeOf digit r → TypeOf digit r' → r ≡ r'

abbrev pub DigitUnique : Type 0
DigitUnique = (t : SType) (r r' : ℕ) → DigitOf t r → DigitOf t r' → r ≡ r'

-- ---- the record reader

-- no two answers have the same number and values
abbrev pub ToldApart : Type 0
ToldApart = (a b : SAnswer) → told_sanswer a ≡ told_sanswer b → a ≡ b

-- no second answer meets the contract, and no second pool
abbrev pub ReadSrecordUnique : Type 0
ReadSrecordUnique =
    (line pool : List ℕ) (at : ℕ) (r r' : SAnswer) (p p' : List ℕ)
    → ReadSRecord line pool at r p → ReadSRecord line pool at r' p' → (r ≡ r') × (p ≡ p')

-- ContainsInvalidCharacters is answered exactly to a line that has an offender, and names the first one's place; the pool is as it was
abbrev pub AnswersTheOffender : Type 0
AnswersTheOffender =
    (line pool : List ℕ) (at p : ℕ) (pool' : List ℕ)
    → ReadSRecord line pool at (Err (ContainsInvalidCharacters p)) pool' ↔ ((place : ℕ) × FirstOffender line place × (p ≡ named place) × (pool' ≡ pool))

-- with room for 252 bytes no line is answered PoolFull
abbrev pub NeverFull : Type 0
NeverFull = (line : List ℕ) (n at : ℕ) → at + 252 ≤ n → is_full (answered (judge line) n at) ≡ false

-- what the reader answers, and leaves, where its pool has room for 252 bytes at the start: a record with its data there, or the refusal
abbrev pub Heard : Said → (pool : List ℕ) → SAnswer → (pool' : List ℕ) → Type 0
Heard (says kind address payload) pool r pool' =
    (x : SRecord) × (r ≡ Ok x) × (digit_of x.kind ≡ kind) × (x.address ≡ address) × (x.at ≡ 0) × (x.len ≡ length payload)
    × (take (length payload) pool' ≡ payload)
Heard (wrong f) pool r pool' = (e : ReaderError) × (r ≡ Err e) × (refusal_of e ≡ f) × (pool' ≡ pool)

abbrev pub ReadsAtStart : Type 0
ReadsAtStart =
    (line pool : List ℕ) (r : SAnswer) (pool' : List ℕ) → 252 ≤ length pool → ReadSRecord line pool 0 r pool' → Heard (judge line) pool r pool'

-- ---- the record writer

abbrev pub WrittenApart : Type 0
WrittenApart = (a b : SWritten) → told_swritten a ≡ told_swritten b → a ≡ b

abbrev pub ToSrecordStringUnique : Type 0
ToSrecordStringUnique =
    (x : SRecord) (pool out : List ℕ) (r r' : SWritten) (o o' : List ℕ)
    → ToSRecordString x pool out r o → ToSRecordString x pool out r' o' → (r ≡ r') × (o ≡ o')

-- a refusal changes no byte of the output
abbrev pub RefusalChangesNothing : Type 0
RefusalChangesNothing =
    (x : SRecord) (pool out : List ℕ) (e : SWriterError) (out' : List ℕ) → ToSRecordString x pool out (Err e) out' → out' ≡ out

-- what was written is the record's line, and what lies after it is as it was
abbrev pub RestUntouched : Type 0
RestUntouched =
    (x : SRecord) (pool out : List ℕ) (n : ℕ) (out' : List ℕ) → ToSRecordString x pool out (Ok n) out'
    → (take n out' ≡ line x pool) × (drop n out' ≡ drop n out)

-- a line of the format that says the record, in capitals
pub record LineFor (x : SRecord) (pool l : List ℕ) : Type 0 where
  pub formal : Format l (digit_of x.kind) x.address (data_of x pool)
  pub capitals : InCapitals l

-- the first n bytes that `to_srecord_string` leaves are such a line
abbrev pub WritesLine : Type 0
WritesLine =
    (x : SRecord) (pool out : List ℕ) (n : ℕ) (out' : List ℕ) → Every Byte pool → ToSRecordString x pool out (Ok n) out'
    → LineFor x pool (take n out')

-- and there is no second one
abbrev pub OneLine : Type 0
OneLine = (x : SRecord) (pool l l' : List ℕ) → LineFor x pool l → LineFor x pool l' → l ≡ l'

-- two records with the same line are the same: type, address and data
abbrev pub LineInjective : Type 0
LineInjective =
    (x y : SRecord) (pool pool' cs : List ℕ) → Every Byte pool → Every Byte pool' → line_text x pool ≡ chars cs → line_text y pool' ≡ chars cs
    → (x.kind ≡ y.kind) × (x.address ≡ y.address) × (data_of x pool ≡ data_of y pool')

-- a line has no byte below 48, so neither LF nor CR
abbrev pub LinePlain : Type 0
LinePlain = (x : SRecord) (pool : List ℕ) → Every (λ c. 48 ≤ c) (line x pool)

-- and the line says the record again, with the data that the pool holds
abbrev pub RoundTrip : Type 0
RoundTrip =
    (x : SRecord) (pool out : List ℕ) (n : ℕ) (out' : List ℕ) → Every Byte pool → ToSRecordString x pool out (Ok n) out'
    → judge (take n out') ≡ says (digit_of x.kind) x.address (data_of x pool)

-- so the reader, with room in its pool, gives the same record with the same data
abbrev pub ReadsWhatWasWritten : Type 0
ReadsWhatWasWritten =
    (x : SRecord) (pool out : List ℕ) (n : ℕ) (out' : List ℕ) → Every Byte pool → ToSRecordString x pool out (Ok n) out'
    → (pool₂ : List ℕ) (at : ℕ) (r : SAnswer) (pool₂' : List ℕ) → at + x.len ≤ length pool₂ → ReadSRecord (take n out') pool₂ at r pool₂'
    → (y : SRecord) × (r ≡ Ok y) × (y.kind ≡ x.kind) × (y.address ≡ x.address) × (data_of y pool₂' ≡ data_of x pool)
