-- A new reader's state with segment 0 has the whole text before it.
-- Assumes nothing.
use Rattle.loader.proofs.Passes.{begun}
use Rattle.loader.proofs.WalkLineByLine.begin.Goals as goal

pub returns : goal.returns
returns c = λ text h. rw c.new.ensures.answer (begun text h)
