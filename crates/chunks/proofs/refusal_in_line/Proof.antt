-- `chunks::refusal_in_line` meets its contract: a place is moved, and what names none stays.
-- Assumes nothing.
use Rattle.std.proofs.Common.{◌≡◌, ℕ, List, [], ◌∷◌, sym, refl, ap, ◌∙◌, rules}
use types.Run.{OneOf, miss}
use denote.Enum.Declared.{tag_of}
use Rattle.record.specs.Refusals.{contains_invalid_characters}
use Rattle.reader.specs.declared.ReaderError.{ReaderError}
use Rattle.reader.specs.declared.ReaderError.TheVariants.{MissingStartCode, RecordTooShort, RecordTooLong, RecordNotEvenLength, ContainsInvalidCharacters, ChecksumMismatch, PayloadLengthMismatch, UnsupportedRecordType, InvalidLengthForType, PoolFull}
use Rattle.reader.specs.Told.{refusal_of}
use Rattle.reader.specs.contracts.ReaderError.{the_type}
use Rattle.chunks.specs.Helpers.{refusal_in_line}
use Rattle.chunks.proofs.refusal_in_line.Statement.{statement}
use Rattle.chunks.proofs.refusal_in_line.Tie as tie

-- the variants without a place
abbrev others : List ℕ
others = 0 ∷ 1 ∷ 2 ∷ 3 ∷ 5 ∷ 6 ∷ 7 ∷ 8 ∷ 9 ∷ []

stays : (skipped : ℕ) (e : ReaderError) → OneOf others (tag_of the_type e) → refusal_of e ≡ refusal_in_line skipped (refusal_of e)
stays skipped MissingStartCode h = refl
stays skipped RecordTooShort h = refl
stays skipped RecordTooLong h = refl
stays skipped RecordNotEvenLength h = refl
stays skipped (ContainsInvalidCharacters place) h = absurd (miss others 4 tt h)
stays skipped (ChecksumMismatch computed stated) h = refl
stays skipped PayloadLengthMismatch h = refl
stays skipped (UnsupportedRecordType kind) h = refl
stays skipped InvalidLengthForType h = refl
stays skipped PoolFull h = refl

returns : tie.Need-returns-in-ContainsInvalidCharacters
returns c =
    let a = c.args in
    ap contains_invalid_characters c.place_in_line.ensures ∙ sym (ap (λ (e : ReaderError). refusal_in_line a.skipped (refusal_of e)) c.in-ContainsInvalidCharacters.is)

returns-2 : tie.Need-returns
returns-2 c = stays c.args.skipped c.args.e c.in_default.in_default-own.keys2

pub refusal_in_line_spec : {M : Type 1} → statement M
refusal_in_line_spec = tie.close (tie.spec (λ c. search rules) (λ c κs. search rules) returns returns-2)
