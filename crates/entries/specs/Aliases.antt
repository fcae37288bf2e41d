-- What comes of bytes that may be records, by name.
-- Assumes nothing.
use Rattle.std.specs.Prelude.{Option}
use Rattle.record.specs.declared.Record.{Record}
use Rattle.srec.specs.Aliases.{SWritten}
use Rattle.writer.specs.declared.Survey.{Survey}
use Rattle.writer.specs.Aliases.{Written}

-- the record that numbers say, if they say one
abbrev pub Entry : Type 0
Entry = Option Record

-- the survey of a list, if it is one
abbrev pub ListSurvey : Type 0
ListSurvey = Option Survey

-- the writer's answer, if a record was given
abbrev pub Attempt : Type 0
Attempt = Option Written

-- the same of an S-record
abbrev pub SAttempt : Type 0
SAttempt = Option SWritten
