-- The loop of `take_all`: what is still to come of the chunk is what was to come of it. The measure is what is left of it.
-- Assumes nothing.
use Rattle.std.proofs.Common.{◌-◌, length}
use Rattle.intake.specs.Ways.{way_of}
use Rattle.intake.proofs.Coming.{Walking}
use Rattle.intake.proofs.take_all.Given as goal

abbrev pub invariant-loop-end : goal.invariant-loop-end
invariant-loop-end l = Walking (way_of l.mode.kind l.mode.tail) l.first l.fn.w l.chunk l.fn.carry l.fn.page l.fn.marks l.there l.carry l.page l.marks

abbrev pub decreases-loop-end : goal.decreases-loop-end
decreases-loop-end l = length l.chunk - l.there.reader.position
