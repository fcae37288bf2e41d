-- What a load returns, by name.
-- Assumes nothing.
use Rattle.std.specs.Prelude.{ℕ, Option, Result, Err}
use Rattle.steps.specs.declared.LoaderError.{LoaderError}
use Rattle.steps.specs.declared.Refused.{Refused}
use Rattle.steps.specs.declared.Start.{Start}
use Rattle.steps.specs.declared.Tally.{Tally}

-- the start that a text states, if it states one
abbrev pub Stated : Type 0
Stated = Option Start

-- a tally, or a refusal and the number of its line
abbrev pub Loading : Type 0
Loading = Result Tally Refused

-- a refusal at a line
abbrev pub refuse : LoaderError → ℕ → Loading
refuse why line = Err (record { why = why; line = line })
