-- What the end of a text returns, by name.
-- Assumes nothing.
use Rattle.std.specs.Prelude.{Option}
use Rattle.steps.specs.Aliases.{Loading}

-- the answer of the load; none where the carry is too small
abbrev pub Ending : Type 0
Ending = Option Loading
