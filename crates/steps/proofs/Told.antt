-- What a load tells says which answer it was: each answer is found again from what it tells.
-- Assumes nothing.
use mathlib.Core.Path.{◌≡◌, refl, sym, ap, ◌∙◌}
use mathlib.Core.Option.{Option, none, some}
use lib.Dec.{eqb}
use lib.ListN.{get_or}
use Rattle.std.specs.Prelude.{if◌then◌else◌}
use Rattle.record.specs.Refusals.{Refusal, refusal}
use Rattle.reader.specs.Aliases.{Answer}
use Rattle.reader.specs.declared.ReaderError.{ReaderError}
use Rattle.reader.specs.declared.ReaderError.TheVariants.{MissingStartCode, RecordTooShort, RecordTooLong, RecordNotEvenLength, ContainsInvalidCharacters, ChecksumMismatch, PayloadLengthMismatch, UnsupportedRecordType, InvalidLengthForType, PoolFull}
use Rattle.reader.specs.Told.{refuses, refusal_of}
use Rattle.reader.proofs.Claims.{untold, untold_told}
use Rattle.steps.specs.declared.LoaderError.{LoaderError}
use Rattle.steps.specs.declared.LoaderError.TheVariants.{Line, MissingEndOfFileRecord, BadWindow, OutsideWindow, CountMismatch, StartConflict, BadTable}
use Rattle.steps.specs.Aliases.{Loading}
use Rattle.steps.specs.Aliases.{Stated as CodeStart}
use Rattle.steps.specs.declared.Start.TheVariants.{Segment, Linear}
use Rattle.steps.specs.Steps.{Start, cs_with_ip, linear_address, Verdict, accepted, refused}
use Rattle.steps.specs.Told.{loader_refusal, told_start, told_loading, IsAcceptedUnique, DiffersFromUnique, ToldApart, AtUnique}
use Rattle.std.specs.Prelude.{Err, None, Ok, Some}
use Rattle.steps.specs.Aliases.{refuse}

reader_error : Answer → ReaderError
reader_error (Err e) = e
reader_error (Ok r) = PoolFull

-- a refusal's error: the loader's own by their numbers, a line's as the reader finds it again
error : Refusal → LoaderError
unfolding reader_error
error (refusal n vs) =
    if eqb n 13 then MissingEndOfFileRecord else
    if eqb n 16 then BadWindow else
    if eqb n 17 then OutsideWindow (get_or vs 0 0) else
    if eqb n 20 then CountMismatch (get_or vs 0 0) (get_or vs 1 0) else
    if eqb n 21 then StartConflict else
    if eqb n 23 then BadTable else
    Line (reader_error (untold (refuses (refusal n vs))))

of_line : (e : ReaderError) → Line (reader_error (untold (refuses (refusal_of e)))) ≡ Line e
unfolding reader_error
of_line e = ap (λ (a : Answer). Line (reader_error a)) (untold_told (Err e))

again : (e : LoaderError) → error (loader_refusal e) ≡ e
unfolding error
again (Line MissingStartCode) = of_line MissingStartCode
again (Line RecordTooShort) = of_line RecordTooShort
again (Line RecordTooLong) = of_line RecordTooLong
again (Line RecordNotEvenLength) = of_line RecordNotEvenLength
again (Line (ContainsInvalidCharacters a)) = of_line (ContainsInvalidCharacters a)
again (Line (ChecksumMismatch a b)) = of_line (ChecksumMismatch a b)
again (Line PayloadLengthMismatch) = of_line PayloadLengthMismatch
again (Line (UnsupportedRecordType a)) = of_line (UnsupportedRecordType a)
again (Line InvalidLengthForType) = of_line InvalidLengthForType
again (Line PoolFull) = of_line PoolFull
again MissingEndOfFileRecord = refl
again BadWindow = refl
again (OutsideWindow a) = refl
again (CountMismatch a b) = refl
again StartConflict = refl
again BadTable = refl

untold_start : Option Start → CodeStart
untold_start none = None
untold_start (some (cs_with_ip cs ip)) = Some (Segment cs ip)
untold_start (some (linear_address address)) = Some (Linear address)

start_again : (s : CodeStart) → untold_start (told_start s) ≡ s
unfolding untold_start
start_again None = refl
start_again (Some (Segment cs ip)) = refl
start_again (Some (Linear address)) = refl

untold_load : Verdict → Loading
unfolding untold_start
untold_load (accepted t) = Ok (record { records = t.records; start = untold_start t.start })
untold_load (refused r n) = refuse (error r) n

told_again : (l : Loading) → untold_load (told_loading l) ≡ l
unfolding untold_load
told_again (Ok t) = ap (λ (s : CodeStart). Ok (record { records = t.records; start = s })) (start_again t.start)
told_again (Err z) = ap (λ (x : LoaderError). refuse x z.line) (again z.why)

pub told_apart : ToldApart
told_apart a b e = sym (told_again a) ∙ ap untold_load e ∙ told_again b

pub is_accepted_unique : IsAcceptedUnique
is_accepted_unique l r r' x y = x.answer ∙ sym y.answer

pub differs_from_unique : DiffersFromUnique
differs_from_unique s first r r' x y = x.answer ∙ sym y.answer

pub at_unique : AtUnique
at_unique why line r r' x y = x.answer ∙ sym y.answer
