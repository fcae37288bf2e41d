-- What a writer returns, by name.
-- Assumes nothing.
use Rattle.std.specs.Prelude.{ℕ, Result}
use Rattle.writer.specs.declared.WriterError.{WriterError}

-- the place behind what was written, or why nothing was
abbrev pub Written : Type 0
Written = Result ℕ WriterError
