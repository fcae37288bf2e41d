-- Before the first line the whole text is ahead.
-- Assumes nothing.
use Rattle.srecload.proofs.Meeting.{begun}
use Rattle.srecload.proofs.WalkLineByLine.begin.Goals as goal

pub returns : goal.returns
returns c = λ text h. begun text
