-- What a writer of pages returns, by name.
-- Assumes nothing.
use Rattle.std.specs.Prelude.{ℕ, Result}
use Rattle.page.specs.declared.PageError.{PageError}
use Rattle.writer.specs.declared.Survey.{Survey}

-- the length of a page's file, or why it has none
abbrev pub Paged : Type 0
Paged = Result ℕ PageError

-- the survey of a page's records, or why there is none
abbrev pub PageSurvey : Type 0
PageSurvey = Result Survey PageError
