-- The claims of `specs/Claims.antt`, proved. The table computes; an answer is found again from what is told, so no two are told alike.
-- Assumes nothing.
use Rattle.std.proofs.Common.{◌≡◌, ℕ, eqb, List, get_or, sym, refl, ap, ◌∙◌}
use Rattle.std.specs.Prelude.{if◌then◌else◌}
use Rattle.record.specs.Refusals.{Refusal, refusal}
use Rattle.digits.specs.Digits.{number_after}
use Rattle.record.specs.Line.{judge}
use Rattle.record.specs.Written.{written}
use Rattle.record.specs.Meaning.{meaning}
use Rattle.record.specs.declared.Record.{Record}
use Rattle.record.specs.declared.Record.TheVariants.{Data, EndOfFile, ExtendedSegmentAddress, StartSegmentAddress, ExtendedLinearAddress, StartLinearAddress}
use Rattle.reader.specs.declared.ReaderError.{ReaderError}
use Rattle.reader.specs.declared.ReaderError.TheVariants.{MissingStartCode, RecordTooShort, RecordTooLong, RecordNotEvenLength, ContainsInvalidCharacters, ChecksumMismatch, PayloadLengthMismatch, UnsupportedRecordType, InvalidLengthForType, PoolFull}
use Rattle.reader.specs.Aliases.{Answer}
use Rattle.reader.specs.Told.{Told, gives, refuses, done, refusal_of, told}
use Rattle.reader.specs.Answer.{answered}
use Rattle.reader.specs.Claims.{Examples, ToldApart, ReadRecordUnique}
use Rattle.std.specs.Prelude.{Err, Ok}

pub examples : Examples
unfolding answered judge written meaning number_after
examples =
    record {
      answers =
          (λ n at. refl, (λ n at. refl, (λ n at. refl, (λ n at. refl, (λ n at. refl, (λ n at. refl, (λ n at. refl, (λ n at. refl, (λ n at. refl, (λ n at. refl, (λ n at. refl, (λ n at. refl, (λ n at. refl, (λ n at. refl, tt))))))))))))));
      again = refl;
    }

-- the error of a refusal, by its number
error : Refusal → ReaderError
error (refusal n vs) =
    if eqb n 1 then MissingStartCode else
    if eqb n 2 then ContainsInvalidCharacters (get_or vs 0 0) else
    if eqb n 3 then RecordTooShort else
    if eqb n 4 then RecordTooLong else
    if eqb n 5 then RecordNotEvenLength else
    if eqb n 6 then ChecksumMismatch (get_or vs 0 0) (get_or vs 1 0) else
    if eqb n 7 then PayloadLengthMismatch else
    if eqb n 8 then UnsupportedRecordType (get_or vs 0 0) else
    if eqb n 9 then InvalidLengthForType else
    PoolFull

-- the record of a type and its numbers
record_of : (kind : ℕ) (numbers : List ℕ) → Record
record_of kind ns =
    if eqb kind 0 then Data (get_or ns 0 0) (get_or ns 1 0) (get_or ns 2 0) else
    if eqb kind 1 then EndOfFile else
    if eqb kind 2 then ExtendedSegmentAddress (get_or ns 0 0) else
    if eqb kind 3 then StartSegmentAddress (get_or ns 0 0) (get_or ns 1 0) else
    if eqb kind 4 then ExtendedLinearAddress (get_or ns 0 0) else
    StartLinearAddress (get_or ns 0 0)

pub untold : Told → Answer
unfolding error record_of
untold (gives kind ns) = Ok (record_of kind ns)
untold (refuses r) = Err (error r)
untold done = Err PoolFull

error_again : (e : ReaderError) → error (refusal_of e) ≡ e
unfolding error
error_again MissingStartCode = refl
error_again RecordTooShort = refl
error_again RecordTooLong = refl
error_again RecordNotEvenLength = refl
error_again (ContainsInvalidCharacters a) = refl
error_again (ChecksumMismatch a b) = refl
error_again PayloadLengthMismatch = refl
error_again (UnsupportedRecordType a) = refl
error_again InvalidLengthForType = refl
error_again PoolFull = refl

record_again : (r : Record) → untold (told (Ok r)) ≡ Ok r
unfolding untold
record_again (Data a b c) = refl
record_again EndOfFile = refl
record_again (ExtendedSegmentAddress a) = refl
record_again (StartSegmentAddress a b) = refl
record_again (ExtendedLinearAddress a) = refl
record_again (StartLinearAddress a) = refl

pub untold_told : (r : Answer) → untold (told r) ≡ r
unfolding untold
untold_told (Ok r) = record_again r
untold_told (Err e) = ap Err (error_again e)

pub told_apart : ToldApart
told_apart a b e = sym (untold_told a) ∙ ap untold e ∙ untold_told b

pub read_record_unique : ReadRecordUnique
read_record_unique line pool at r r' p p' x y = (told_apart r r' (x.answer ∙ sym y.answer), x.left ∙ sym y.left)
