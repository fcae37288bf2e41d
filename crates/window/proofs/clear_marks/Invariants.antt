-- What the windows that are left clear in the marks as they are is what all of them clear in the marks as they were.
-- Assumes nothing.
use Rattle.window.proofs.Through.{Clearing}
use Rattle.window.proofs.clear_marks.Given as goal

abbrev pub invariant-loop-row : goal.invariant-loop-row
invariant-loop-row l = Clearing l.owner l.rows l.fn.marks l.marks l.row-index
