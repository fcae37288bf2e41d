-- So far it is the survey of the records that were passed.
-- Assumes nothing.
use Rattle.std.proofs.Common.{take}
use Rattle.writer.specs.Claims.{Surveys}
use Rattle.writer.proofs.survey_list.Given as goal

abbrev pub invariant-loop-record : goal.invariant-loop-record
invariant-loop-record l = Surveys l.pool (take l.record-index l.list) l.survey
