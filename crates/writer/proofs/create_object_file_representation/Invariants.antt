-- So far the steps of the records that were passed, from where the survey said.
-- Assumes nothing.
use Rattle.std.proofs.Common.{take}
use Rattle.std.specs.Prelude.{Ok}
use Rattle.writer.specs.Claims.{Steps}
use Rattle.writer.proofs.create_object_file_representation.Given as goal

abbrev pub invariant-loop-record : goal.invariant-loop-record
invariant-loop-record l = Steps l.pool l.fn.out (Ok l.initial.at) (take l.record-index l.records) (Ok l.at) l.out
