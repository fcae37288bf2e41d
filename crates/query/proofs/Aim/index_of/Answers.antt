-- `Aim::index_of` meets its contract: by each of the two sums, solved.
-- Assumes nothing.
use Rattle.std.proofs.Common.{arith}
use Rattle.query.proofs.Index.{index_linear, index_segment, index_apart}
use Rattle.query.proofs.Aim.index_of.Goals as goal

pub returns-in-Linear : goal.returns-in-Linear
returns-in-Linear c = rw c.in-Linear.is (index_linear c.in-Linear.distance c.args.offset (omega arith) _ (omega arith) (omega arith))

pub returns-in-Segment : goal.returns-in-Segment
returns-in-Segment c = rw c.in-Segment.is (index_segment c.in-Segment.distance c.args.offset (omega arith) _ c.if-distance-lt-SEGMENT.true (omega arith) (omega arith))

pub returns-in-Segment-2 : goal.returns-in-Segment-2
returns-in-Segment-2 c = rw c.in-Segment.is (index_apart c.in-Segment.distance c.args.offset (omega arith) c.if-distance-lt-SEGMENT.false)
