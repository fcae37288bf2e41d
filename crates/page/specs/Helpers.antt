-- What the private functions of the page writer promise each other.
-- Assumes nothing.
use Rattle.std.specs.Prelude.{ℕ, ◌+◌, ◌-◌, ◌%◌, ◌≤◌, ◌<◌, min, ◌≡◌, ◌≢◌, ◌⊎◌, List, length, get_or}
use Rattle.record.specs.Refusals.{Refusal, output_full}
use Rattle.marks.specs.Marks.{flags}
use Rattle.writer.specs.Aliases.{Written}
use Rattle.writer.specs.declared.Survey.{Survey}
use Rattle.writer.specs.Told.{refuses, told_written}
use Rattle.writer.specs.Text.{refused, chars}
use Rattle.writer.specs.Claims.{Surveys}
use Rattle.window.specs.Claims.{Window}
use Rattle.page.specs.Aliases.{PageSurvey}
use Rattle.page.specs.Aliases.{Paged}
use Rattle.page.specs.File.{page_records, file, page_text}
use Rattle.page.specs.Told.{page_refusal, told_page}
use Rattle.std.specs.Prelude.{Err, Ok}

-- ---- places

-- how far a piece from a place on may reach: 16 places, the next multiple of 65,536 or the end, whichever is nearest
abbrev pub reach : (address place end : ℕ) → ℕ
reach address place end = place + min (min 16 (65536 - address % 65536)) (end - place)

-- the place after the piece that starts at a place: it may reach there, all after its first place is marked, and there it has to end
pub record PieceEnd (flags : List ℕ) (first start r : ℕ) : Type 0 where
  pub more : start < r
  pub inside : r ≤ length flags
  pub few : r ≤ start + 16
  pub unbroken : (first + start) % 65536 + r ≤ start + 65536
  pub marked : (i : ℕ) → start < i → i < r → get_or flags i 0 ≡ 1
  pub ends : (r ≡ length flags) ⊎ ((r ≡ start + 16) ⊎ (((first + start) % 65536 + r ≡ start + 65536) ⊎ (get_or flags r 0 ≢ 1)))

-- ---- the answer

-- a survey of the records of a page that has a file
pub record PageSurveyWhole (first : ℕ) (page marks : List ℕ) (s : Survey) : Type 0 where
  pub window : Window first page marks
  pub text_is : page_text first page marks ≡ chars (file first page marks)
  pub surveys : Surveys page (page_records first (flags (length page) marks)) s

-- or the refusal that stands in the file's place
abbrev pub PageSurveyAs : (first : ℕ) (page marks : List ℕ) → PageSurvey → Type 0
PageSurveyAs first page marks (Ok s) = PageSurveyWhole first page marks s
PageSurveyAs first page marks (Err e) = page_text first page marks ≡ refused (page_refusal e)

-- an answer of the writer that can refuse only with 15
abbrev pub MayBeFull : Written → Type 0
MayBeFull w = (r : Refusal) → told_written w ≡ refuses r → r ≡ output_full

-- the same answer
abbrev pub AsWritten : Written → Paged → Type 0
AsWritten w r = told_page r ≡ told_written w
