-- What reader and writer of S-records return, by name.
-- Assumes nothing.
use Rattle.std.specs.Prelude.{ℕ, Option, Result}
use Rattle.reader.specs.declared.ReaderError.{ReaderError}
use Rattle.srec.specs.declared.SRecord.{SRecord}
use Rattle.srec.specs.declared.SType.{SType}
use Rattle.srec.specs.declared.SWriterError.{SWriterError}

-- the type that a digit names, if it names one
abbrev pub Named : Type 0
Named = Option SType

-- what the record reader answers to a line
abbrev pub SAnswer : Type 0
SAnswer = Result SRecord ReaderError

-- the length of what was written, or why nothing was
abbrev pub SWritten : Type 0
SWritten = Result ℕ SWriterError
