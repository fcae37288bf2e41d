-- `writer::survey_list` meets its contract: one record more at each turn, and at the end all.
-- Assumes nothing.
use Rattle.record.specs.declared.Record.TheVariants.{Data}
use Rattle.writer.specs.Claims.{at_first, then_add}
use Rattle.writer.proofs.Taking.{taken_more}
use Rattle.writer.proofs.survey_list.Goals as goal

pub loop-record-init : goal.loop-record-init
loop-record-init c = at_first c.new-survey.ensures

pub loop-record-preserved : goal.loop-record-preserved
loop-record-preserved c =
    then_add c.loop-record.invariant c.add-survey.ensures
    (taken_more c.args.list.now c.loop-record.record-index (Data 0 0 0) c.loop-record-test.true)
