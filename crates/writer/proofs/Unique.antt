-- No second answer meets a contract: an answer is found again from what it tells.
-- Assumes nothing.
use Rattle.std.proofs.Common.{◌≡◌, ℕ, Bool, eqb, List, get_or, sym, refl, ap, ◌∙◌}
use Rattle.std.specs.Prelude.{if◌then◌else◌}
use Rattle.record.specs.Refusals.{Refusal, refusal}
use Rattle.writer.specs.declared.WriterError.{WriterError}
use Rattle.writer.specs.declared.WriterError.TheVariants.{DataExceedsMaximumLength, MissingEndOfFileRecord, MultipleEndOfFileRecords, PayloadOutsidePool, OutputFull}
use Rattle.writer.specs.Aliases.{Written}
use Rattle.writer.specs.declared.Survey.{Survey}
use Rattle.writer.specs.Told.{ToldWritten, wrote, refuses, writer_refusal, told_written}
use Rattle.writer.specs.Text.{Text, Writes}
use Rattle.writer.specs.Claims.{ToRecordStringUnique, WriteStepUnique, WriteNextUnique, NewUnique, AddUnique, AnswerUnique, BeginUnique, CreateObjectFileRepresentationUnique}
use Rattle.std.specs.Prelude.{Err, Ok}

-- the error of a refusal, by its number
error : Refusal → WriterError
error (refusal n vs) =
    if eqb n 11 then PayloadOutsidePool else
    if eqb n 12 then DataExceedsMaximumLength (get_or vs 0 0) else
    if eqb n 13 then MissingEndOfFileRecord else
    if eqb n 14 then MultipleEndOfFileRecords (get_or vs 0 0) else
    OutputFull

untold : ToldWritten → Written
unfolding error
untold (wrote n) = Ok n
untold (refuses r) = Err (error r)

error_again : (e : WriterError) → error (writer_refusal e) ≡ e
unfolding error
error_again (DataExceedsMaximumLength n) = refl
error_again MissingEndOfFileRecord = refl
error_again (MultipleEndOfFileRecords n) = refl
error_again PayloadOutsidePool = refl
error_again OutputFull = refl

untold_told : (r : Written) → untold (told_written r) ≡ r
unfolding untold
untold_told (Ok n) = refl
untold_told (Err e) = ap Err (error_again e)

-- what is told says which answer it was
pub told_apart : (a b : Written) → told_written a ≡ told_written b → a ≡ b
told_apart a b e = sym (untold_told a) ∙ ap untold e ∙ untold_told b

pub writes_unique : (t : Text) (out : List ℕ) (at : ℕ) (r r' : Written) (o o' : List ℕ) → Writes t out at r o → Writes t out at r' o' → (r ≡ r') × (o ≡ o')
writes_unique t out at r r' o o' x y = (told_apart r r' (x.answer ∙ sym y.answer), x.left ∙ sym y.left)

pub to_record_string_unique : ToRecordStringUnique
to_record_string_unique x pool out r r' o o' p q = writes_unique _ _ _ r r' o o' p q

pub write_step_unique : WriteStepUnique
write_step_unique x pool out at r r' o o' p q = writes_unique _ _ _ r r' o o' p q

pub write_next_unique : WriteNextUnique
write_next_unique (Ok at) x pool out r r' o o' p q = writes_unique _ _ _ r r' o o' p q
write_next_unique (Err e) x pool out r r' o o' p q = writes_unique _ _ _ r r' o o' p q

-- a survey is its three fields
alike : (s t : Survey) → s.ends ≡ t.ends → s.ended ≡ t.ended → told_written s.total ≡ told_written t.total → s ≡ t
alike s t n e w =
    ap (λ (k : ℕ). make k s.ended s.total) n
    ∙ ap (λ (b : Bool). make t.ends b s.total) e
    ∙ ap (make t.ends t.ended) (told_apart s.total t.total w)
  where
    make : ℕ → Bool → Written → Survey
    make k b v = record { ends = k; ended = b; total = v }

pub new_unique : NewUnique
new_unique r r' x y = alike r r' (x.ends ∙ sym y.ends) (x.ended ∙ sym y.ended) (x.total ∙ sym y.total)

pub add_unique : AddUnique
add_unique s x pool r r' p q = alike r r' (p.ends ∙ sym q.ends) (p.ended ∙ sym q.ended) (p.total ∙ sym q.total)

pub answer_unique : AnswerUnique
answer_unique s room r r' x y = told_apart r r' (x.answer ∙ sym y.answer)

pub begin_unique : BeginUnique
begin_unique s room r r' x y = told_apart r r' (x.answer ∙ sym y.answer)

pub create_object_file_representation_unique : CreateObjectFileRepresentationUnique
create_object_file_representation_unique rs pool out r r' o o' p q = writes_unique _ _ _ r r' o o' p q
