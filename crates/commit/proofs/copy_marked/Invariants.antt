-- The places before the one at hand are done, and the others are as they were.
-- Assumes nothing.
use Rattle.std.proofs.Common.{◌-◌, length}
use Rattle.commit.proofs.Copying.{SoFar}
use Rattle.commit.proofs.copy_marked.Given as goal

abbrev pub invariant-loop-place : goal.invariant-loop-place
invariant-loop-place l = SoFar l.stage l.stated l.fn.page l.page l.place

abbrev pub decreases-loop-place : goal.decreases-loop-place
decreases-loop-place l = length l.page - l.place
