-- The exit status of a listing: 0 where every line is a record and the last one is an end record, 1 where not, 2 where the text is too long.
-- Assumes nothing.
use Rattle.std.specs.Prelude.{ℕ, ◌≡◌, Bool, true, false, ◌&&◌, List, [], ◌∷◌, eqb, ltb, length}
use Rattle.std.specs.Prelude.{if◌then◌else◌}
use Rattle.record.specs.Line.{Said, says, wrong}
use Rattle.record.specs.Meaning.{meaning}
use Rattle.record.specs.Record.{type_of}
use Rattle.reader.specs.declared.ReaderOptions.{ReaderOptions}
use Rattle.reader.specs.Aliases.{Reply}
use Rattle.reader.specs.Row.{Numbered, on, is_end, row}
use Rattle.listing.specs.declared.Verdict.{Verdict}
use Rattle.listing.specs.Listing.{listing_options, answers}
use Rattle.std.specs.Prelude.{Err, None, Ok, Some}

abbrev pub is_record : Said → Bool
is_record (says kind address payload) = true
is_record (wrong r) = false

abbrev pub is_end_record : Said → Bool
is_end_record (says kind address payload) = is_end (meaning kind address payload)
is_end_record (wrong r) = false

-- every answer is a record, and the last one is an end record
unfoldable pub complete : List Numbered → Bool
unfolding is_end meaning
complete [] = false
complete (on n said ∷ []) = is_end_record said
complete (on n said ∷ (next ∷ row)) = is_record said && complete (next ∷ row)

unfoldable pub row_status : List Numbered → ℕ
unfolding complete
row_status answers = if complete answers then 0 else 1

unfoldable pub text_status : (input : List ℕ) → ℕ
unfolding row_status row
text_status input = if ltb 65536 (length input) then 2 else row_status (answers input)

-- ---- the same, answer by answer

abbrev pub no_line : Verdict
no_line = record { faulty = false; ended = false }

abbrev pub after_record : Verdict → (ends : Bool) → Verdict
after_record verdict ends = record { faulty = verdict.faulty; ended = ends }

abbrev pub after_refusal : Verdict
after_refusal = record { faulty = true; ended = false }

abbrev pub after_said : Verdict → Said → Verdict
after_said verdict (says kind address payload) = after_record verdict (is_end (meaning kind address payload))
after_said verdict (wrong r) = after_refusal

unfoldable pub verdict_from : Verdict → List Numbered → Verdict
unfolding is_end meaning
verdict_from verdict [] = verdict
verdict_from verdict (on n said ∷ answers) = verdict_from (after_said verdict said) answers

abbrev pub status_of : Verdict → ℕ
status_of verdict = if verdict.faulty then 1 else if verdict.ended then 0 else 1

-- after a reply; "done" changes nothing
abbrev pub after_reply : Verdict → Reply → Verdict
after_reply verdict (Some (Ok r)) = after_record verdict (eqb (type_of r) 1)
after_reply verdict (Some (Err e)) = after_refusal
after_reply verdict None = verdict

-- ---- contracts

-- of `listing_options`
pub record ListingOptions (r : ReaderOptions) : Type 0 where
  pub answer : r ≡ listing_options

-- of `verdict_after`
pub record VerdictAfter (verdict : Verdict) (reply : Reply) (r : Verdict) : Type 0 where
  pub answer : r ≡ after_reply verdict reply

-- of `exit_status`
pub record ExitStatus (verdict : Verdict) (r : ℕ) : Type 0 where
  pub answer : r ≡ status_of verdict

-- of `text_status`
pub record TextStatus (input : List ℕ) (r : ℕ) : Type 0 where
  pub answer : r ≡ text_status input
