-- What the code's answer tells, and the contracts of `page_file_length` and `write_page`.
-- Assumes nothing.
use Rattle.std.specs.Prelude.{ℕ, ◌≡◌, List, length}
use Rattle.record.specs.Refusals.{Refusal, output_full, bad_window, bad_mark}
use Rattle.writer.specs.Told.{ToldWritten, wrote, refuses}
use Rattle.writer.specs.Text.{place_behind, if_room, put_at}
use Rattle.page.specs.declared.PageError.{PageError}
use Rattle.page.specs.declared.PageError.TheVariants.{BadWindow, BadMark, OutputFull}
use Rattle.page.specs.Aliases.{Paged}
use Rattle.page.specs.File.{page_text}
use Rattle.std.specs.Prelude.{Err, Ok}

abbrev pub page_refusal : PageError → Refusal
page_refusal BadWindow = bad_window
page_refusal (BadMark place) = bad_mark place
page_refusal OutputFull = output_full

abbrev pub told_page : Paged → ToldWritten
told_page (Ok n) = wrote n
told_page (Err e) = refuses (page_refusal e)

-- the contract of `page_file_length`
pub record PageFileLength (first : ℕ) (page marks : List ℕ) (r : Paged) : Type 0 where
  pub answer : told_page r ≡ place_behind (page_text first page marks) 0

-- the contract of `write_page`
pub record WritePage (first : ℕ) (page marks out : List ℕ) (r : Paged) (out' : List ℕ) : Type 0 where
  pub answer : told_page r ≡ if_room (place_behind (page_text first page marks) 0) (length out)
  pub left : out' ≡ put_at (page_text first page marks) out 0
