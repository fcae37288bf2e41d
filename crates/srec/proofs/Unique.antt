-- No second answer meets a contract: an answer is found again from what it tells.
-- Assumes nothing.
use Rattle.std.proofs.Common.{◌≡◌, ℕ, eqb, get_or, sym, refl, ap, ◌∙◌}
use mathlib.Core.Option.{Option, none, some}
use Rattle.std.specs.Prelude.{if◌then◌else◌}
use Rattle.record.specs.Refusals.{Refusal, refusal}
use Rattle.reader.specs.declared.ReaderError.{ReaderError}
use Rattle.reader.specs.declared.ReaderError.TheVariants.{PoolFull}
use Rattle.reader.specs.Aliases.{Answer}
use Rattle.reader.specs.Told.{Told, gives, refuses, done}
use Rattle.reader.proofs.Claims as old-claims
use Rattle.writer.specs.Told.{ToldWritten}
use Rattle.writer.specs.Told as written
use Rattle.srec.specs.declared.SType.{SType}
use Rattle.srec.specs.declared.SType.TheVariants.{S0, S1, S2, S3, S5, S7, S8, S9}
use Rattle.srec.specs.Aliases.{Named}
use Rattle.srec.specs.Aliases.{SAnswer}
use Rattle.srec.specs.declared.SWriterError.{SWriterError}
use Rattle.srec.specs.declared.SWriterError.TheVariants.{PayloadOutsidePool, InvalidLengthForType, DataExceedsMaximumLength, AddressTooWide, OutputFull}
use Rattle.srec.specs.Aliases.{SWritten}
use Rattle.srec.specs.Record.{digit_of, told_type}
use Rattle.srec.specs.Answer.{told_sanswer}
use Rattle.srec.specs.Writer.{swriter_refusal, told_swritten}
use Rattle.srec.specs.Claims.{TypeOfUnique, DigitUnique, ToldApart, ReadSrecordUnique, WrittenApart, ToSrecordStringUnique}
use Rattle.std.specs.Prelude.{Err, None, Ok, Some}

-- ---- types

-- the type of a digit
type_at : ℕ → SType
type_at d =
    if eqb d 0 then S0 else
    if eqb d 1 then S1 else
    if eqb d 2 then S2 else
    if eqb d 3 then S3 else
    if eqb d 5 then S5 else
    if eqb d 7 then S7 else
    if eqb d 8 then S8 else
    S9

type_again : (t : SType) → type_at (digit_of t) ≡ t
unfolding type_at
type_again S0 = refl
type_again S1 = refl
type_again S2 = refl
type_again S3 = refl
type_again S5 = refl
type_again S7 = refl
type_again S8 = refl
type_again S9 = refl

pub same_type : (t u : SType) → digit_of t ≡ digit_of u → t ≡ u
same_type t u e = sym (type_again t) ∙ ap type_at e ∙ type_again u

-- what was named
named_by : Option ℕ → Named
named_by (some d) = Some (type_at d)
named_by none = None

named_again : (r : Named) → named_by (told_type r) ≡ r
unfolding named_by
named_again (Some t) = ap Some (type_again t)
named_again None = refl

pub type_of_unique : TypeOfUnique
type_of_unique d r r' a b = sym (named_again r) ∙ ap named_by (a.answer ∙ sym b.answer) ∙ named_again r'

pub digit_unique : DigitUnique
digit_unique t r r' a b = a.answer ∙ sym b.answer

-- ---- the reader's answers

-- a refusal is found again as that of the other reader is
error_of : Answer → ReaderError
error_of (Ok r) = PoolFull
error_of (Err e) = e

untold : Told → SAnswer
untold (gives kind ns) = Ok (record { kind = type_at kind; address = get_or ns 0 0; at = get_or ns 1 0; len = get_or ns 2 0 })
untold (refuses r) = Err (error_of (old-claims.untold (refuses r)))
untold done = Err (error_of (old-claims.untold done))

untold_told : (r : SAnswer) → untold (told_sanswer r) ≡ r
unfolding untold error_of
untold_told (Ok r) = ap (λ (t : SType). Ok (record { kind = t; address = r.address; at = r.at; len = r.len })) (type_again r.kind)
untold_told (Err e) = ap (λ (a : Answer). Err (error_of a)) (old-claims.untold_told (Err e))

pub told_apart : ToldApart
told_apart a b e = sym (untold_told a) ∙ ap untold e ∙ untold_told b

pub read_srecord_unique : ReadSrecordUnique
read_srecord_unique line pool at r r' p p' x y = (told_apart r r' (x.answer ∙ sym y.answer), x.left ∙ sym y.left)

-- ---- the writer's answers

-- the error of a refusal, by its number
error : Refusal → SWriterError
error (refusal n vs) =
    if eqb n 11 then PayloadOutsidePool else
    if eqb n 9 then InvalidLengthForType else
    if eqb n 12 then DataExceedsMaximumLength (get_or vs 0 0) else
    if eqb n 25 then AddressTooWide else
    OutputFull

unwritten : ToldWritten → SWritten
unwritten (written.wrote n) = Ok n
unwritten (written.refuses r) = Err (error r)

error_again : (e : SWriterError) → error (swriter_refusal e) ≡ e
unfolding error
error_again PayloadOutsidePool = refl
error_again InvalidLengthForType = refl
error_again (DataExceedsMaximumLength n) = refl
error_again AddressTooWide = refl
error_again OutputFull = refl

unwritten_told : (r : SWritten) → unwritten (told_swritten r) ≡ r
unfolding unwritten
unwritten_told (Ok n) = refl
unwritten_told (Err e) = ap Err (error_again e)

pub written_apart : WrittenApart
written_apart a b e = sym (unwritten_told a) ∙ ap unwritten e ∙ unwritten_told b

pub to_srecord_string_unique : ToSrecordStringUnique
to_srecord_string_unique x pool out r r' o o' p q = (written_apart r r' (p.answer ∙ sym q.answer), p.left ∙ sym q.left)
