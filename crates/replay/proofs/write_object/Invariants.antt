-- No more are counted than were stored.
use Rattle.std.proofs.Common.{◌≤◌}
use Rattle.replay.proofs.write_object.Given as goal

abbrev pub invariant-loop-slot : goal.invariant-loop-slot
invariant-loop-slot g l = l.n ≤ l.slot-index
