-- No second answer meets a contract: what an attempt tells says which it was. The examples compute.
-- Assumes nothing.
use mathlib.Core.Path.{◌≡◌, refl, sym, ◌∙◌, ap}
use mathlib.Core.Option.{Option}
use mathlib.Core.List.{List}
use Prim.Native.Nat.{ℕ}
use Rattle.writer.specs.Told.{ToldWritten}
use Rattle.writer.specs.Text.{Text}
use Rattle.writer.proofs.Unique.{told_apart}
use Rattle.srec.proofs.Unique.{written_apart}
use Rattle.entries.specs.Aliases.{Attempt}
use Rattle.entries.specs.Aliases.{SAttempt}
use Rattle.entries.specs.Entry.{records_of, rows_of}
use Rattle.entries.specs.Attempts.{told_attempt, told_sattempt, Attempts}
use Rattle.entries.specs.Claims.{WriteRecordUnique, WriteSrecordUnique, WriteListUnique, RowAtUnique, ListExamples, TableExamples}
use Rattle.entries.proofs.Listing.{some_none, same_some}
use Rattle.std.specs.Prelude.{None, Some}

attempts_apart : (a b : Attempt) → told_attempt a ≡ told_attempt b → a ≡ b
attempts_apart (Some a) (Some b) e = ap Some (told_apart a b (same_some e))
attempts_apart (Some a) None e = some_none refl e
attempts_apart None (Some b) e = some_none refl (sym e)
attempts_apart None None e = refl

sattempts_apart : (a b : SAttempt) → told_sattempt a ≡ told_sattempt b → a ≡ b
sattempts_apart (Some a) (Some b) e = ap Some (written_apart a b (same_some e))
sattempts_apart (Some a) None e = some_none refl e
sattempts_apart None (Some b) e = some_none refl (sym e)
sattempts_apart None None e = refl

same_attempts : {t : Option Text} {out : List ℕ} {a a' : Option ToldWritten} {o o' : List ℕ} → Attempts t out a o → Attempts t out a' o' → (a ≡ a') × (o ≡ o')
same_attempts x y = (x.answer ∙ sym y.answer, x.left ∙ sym y.left)

pub write_record_unique : WriteRecordUnique
write_record_unique kind number second at len pool out r r' o o' x y = let s = same_attempts x y in (attempts_apart r r' s.0, s.1)

pub write_srecord_unique : WriteSrecordUnique
write_srecord_unique kind address at len pool out r r' o o' x y = let s = same_attempts x y in (sattempts_apart r r' s.0, s.1)

pub write_list_unique : WriteListUnique
write_list_unique list pool out r r' o o' x y = let s = same_attempts x y in (attempts_apart r r' s.0, s.1)

pub row_at_unique : RowAtUnique
row_at_unique table i r r' x y = x.answer ∙ sym y.answer

pub list_examples : ListExamples
unfolding records_of
list_examples =
    record {
      empty = refl;
      data_then_end = refl;
      start_segment = refl;
      start_linear = refl;
      over = refl;
      unknown = refl;
      cut = refl;
    }

pub table_examples : TableExamples
unfolding rows_of
table_examples =
    record {
      empty = refl;
      one = refl;
      found = refl;
      beyond = refl;
      two = refl;
      rest = refl;
      cut = refl;
    }
