-- What a salvage returns, by name.
-- Assumes nothing.
use Rattle.std.specs.Prelude.{Result}
use Rattle.salvage.specs.declared.SalvageError.{SalvageError}
use Rattle.salvage.specs.declared.Saved.{Saved}

-- what is saved, or why nothing is
abbrev pub Salvaged : Type 0
Salvaged = Result Saved SalvageError
