-- All bytes before the one at hand lie in a window of the owner's.
-- Assumes nothing.
use Rattle.std.proofs.Common.{◌-◌}
use Rattle.window.proofs.Finding.{AllInside}
use Rattle.window.proofs.first_outside.Given as goal

abbrev pub invariant-loop-i : goal.invariant-loop-i
invariant-loop-i l = AllInside l.owner l.rows l.address l.i

abbrev pub decreases-loop-i : goal.decreases-loop-i
decreases-loop-i l = l.bytes - l.i
