-- The run upon the windows that are left, on page and marks as they are, is the run upon all of them on page and marks as they were.
-- Assumes nothing.
use Rattle.window.proofs.Through.{Putting}
use Rattle.window.proofs.put_run.Given as goal

abbrev pub invariant-loop-row : goal.invariant-loop-row
invariant-loop-row l = Putting l.owner l.rows l.address l.bytes l.fn.page l.fn.marks l.page l.marks l.row-index
