-- What a reader returns, by name.
-- Assumes nothing.
use Rattle.std.specs.Prelude.{Option, Result}
use Rattle.record.specs.declared.Record.{Record}
use Rattle.reader.specs.declared.ReaderError.{ReaderError}

-- what the record reader answers to a line
abbrev pub Answer : Type 0
Answer = Result Record ReaderError

-- what a text reader answers to a call; none where nothing is left
abbrev pub Reply : Type 0
Reply = Option Answer
