-- Offset and index are added first. Their sum wraps in a segment, the whole sum under a linear base.
-- Assumes nothing.
use Rattle.intel.specs.Placing.{byte_address}
use Rattle.std.proofs.Common.{arith}
use Rattle.loader.proofs.byte_address.Goals as goal

pub returns-in-Segment : goal.returns-in-Segment
unfolding byte_address
returns-in-Segment c = rw c.in-Segment.is (omega arith)

pub returns-in-Linear : goal.returns-in-Linear
unfolding byte_address
returns-in-Linear c = rw c.in-Linear.is (omega arith)
