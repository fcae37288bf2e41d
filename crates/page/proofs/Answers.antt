-- The answers: what stands in the place of a file, and what the writer's survey and steps come to for the records of one.
-- Assumes nothing.
use mathlib.Core.Path.{◌≡◌, sym, ◌∙◌, ap, subst}
use mathlib.Core.Logic.{inr}
use Prim.Native.Nat.{ℕ, ◌+◌, ◌≤◌, ◌<◌}
use native.Mathlib.Omega.{arith}
use native.Mathlib.Nat.{zero-add}
use mathlib.Core.Bool.{Bool, true, false}
use mathlib.Core.Option.{none, some}
use mathlib.Core.List.{List, [], ◌∷◌}
use lib.Dec.{leb}
use lib.ListN.{length, length-append}
use borrow.Author.Tests.{le-leb}
use Rattle.marks.specs.Marks.{flags, first_unused}
use Rattle.std.specs.Prelude.{if◌then◌else◌}
use Rattle.record.specs.Refusals.{output_full, bad_window, bad_mark}
use Rattle.record.specs.declared.Record.{Record}
use Rattle.writer.specs.Aliases.{Written}
use Rattle.writer.specs.declared.Survey.{Survey}
use Rattle.writer.specs.Told.{wrote, refuses, told_written}
use Rattle.writer.specs.Text.{Text, chars, refused, place_behind, if_room, Writes}
use Rattle.writer.specs.Line.{line, ended_line}
use Rattle.writer.specs.Object.{joined_lines}
use Rattle.writer.specs.Survey.{SurveyAnswer, SurveyBegin, most}
use Rattle.writer.specs.Claims.{Steps}
use Rattle.writer.proofs.Surveying.{survey_answers}
use Rattle.writer.proofs.Stepping.{object_written}
use Rattle.window.specs.Window.{unfit}
use Rattle.page.specs.Aliases.{Paged}
use Rattle.page.specs.File.{page_records, file, page_text}
use Rattle.page.specs.Told.{PageFileLength, WritePage}
use Rattle.page.specs.Helpers.{PageSurveyWhole, MayBeFull, AsWritten}
use Rattle.page.proofs.Files.{file_is_object}
use Rattle.page.proofs.Room.{room_enough}

-- ---- the text

module _ (first : ℕ) (page marks : List ℕ) where
  pub text_unfit : unfit first (length page) (length marks) ≡ true → page_text first page marks ≡ refused bad_window
  unfolding page_text
  text_unfit e = rw e

  pub text_bad : unfit first (length page) (length marks) ≡ false → (place : ℕ) → first_unused (length page) marks ≡ some place → page_text first page marks ≡ refused (bad_mark place)
  unfolding page_text
  text_bad e place u = rw (e, u)

  pub text_good : unfit first (length page) (length marks) ≡ false → first_unused (length page) marks ≡ none → page_text first page marks ≡ chars (file first page marks)
  unfolding page_text
  text_good e u = rw (e, u)

-- ---- what the writer answers

-- each record has a line, so there are no more records than characters
no_more_records : (rs : List Record) (pool : List ℕ) → length rs ≤ length (joined_lines rs pool)
unfolding joined_lines
no_more_records [] pool = omega arith
no_more_records (r ∷ rs) pool =
    omega (arith, no_more_records rs pool, length-append (ended_line r pool) (joined_lines rs pool), length-append (line r pool) (10 ∷ []))

fits : (n space : ℕ) → n ≤ space → if_room (wrote n) space ≡ wrote n
fits n space l = rw (le-leb n space l)

module _ (first : ℕ) (page marks : List ℕ) (s : Survey) (w : PageSurveyWhole first page marks s) where
  few : length (page_records first (flags (length page) marks)) ≤ length (file first page marks)
  unfolding file
  few = no_more_records (page_records first (flags (length page) marks)) page

  short : length (file first page marks) ≤ most
  short = omega (arith, room_enough first page marks w.window, w.window.small)

  short_lines : length (joined_lines (page_records first (flags (length page) marks)) page) ≤ most
  unfolding file
  short_lines = short

  -- the survey answers the file's length
  pub surveyed_length : (a : Written) → SurveyAnswer s most a → told_written a ≡ wrote (length (file first page marks))
  surveyed_length a h =
      survey_answers (page_records first (flags (length page) marks)) page s most a (omega (arith, few, short)) (inr short_lines) w.surveys h
      ∙ ap (λ (t : Text). if_room (place_behind t 0) most) (file_is_object first page marks w.window)
      ∙ fits (0 + length (file first page marks)) most (omega (arith, short))
      ∙ ap wrote (zero-add (length (file first page marks)))

  -- survey and steps write the file
  pub file_written : (out : List ℕ) (start a : Written) (out' : List ℕ) → length out < most → SurveyBegin s (length out) start → Steps page out start (page_records first (flags (length page) marks)) a out'
      → Writes (page_text first page marks) out 0 a out'
  file_written out start a out' l b t =
      subst (λ (x : Text). Writes x out 0 a out') (file_is_object first page marks w.window ∙ sym w.text_is)
      (object_written (page_records first (flags (length page) marks)) page out s start a out' (omega (arith, few, short)) l w.surveys b t)

-- a text that is written is refused only for want of room
pub only_full : (cs out : List ℕ) (t : Text) (a : Written) (out' : List ℕ) → t ≡ chars cs → Writes t out 0 a out' → MayBeFull a
only_full cs out t a out' e w r h =
    go (leb (0 + length cs) (length out)) (sym h ∙ w.answer ∙ ap (λ (x : Text). if_room (place_behind x 0) (length out)) e)
  where
    go : (b : Bool) → refuses r ≡ (if b then wrote (0 + length cs) else refuses output_full) → r ≡ output_full
    go true z = cc
    go false z = cc

-- what is surely written is not refused
pub never_refused : (a : Written) (n : ℕ) → told_written a ≡ wrote n → MayBeFull a
never_refused a n e r h = cc

-- ---- the contracts

module _ (first : ℕ) (page marks : List ℕ) where
  pub length_told : (a : Written) (r : Paged) → page_text first page marks ≡ chars (file first page marks) → told_written a ≡ wrote (length (file first page marks)) → AsWritten a r
      → PageFileLength first page marks r
  length_told a r t h k = record { answer = k ∙ h ∙ rw (t, zero-add (length (file first page marks))) }

  pub page_told : (out : List ℕ) (a : Written) (r : Paged) (out' : List ℕ) → Writes (page_text first page marks) out 0 a out' → AsWritten a r → WritePage first page marks out r out'
  page_told out a r out' w k = record { answer = k ∙ w.answer; left = w.left }
