-- The sum wraps at 2^32.
-- Assumes nothing.
use Rattle.srecload.specs.Placing.{s_address}
use Rattle.std.proofs.Common.{arith}
use Rattle.srecload.proofs.byte_address.Goals as goal

pub returns : goal.returns
unfolding s_address
returns c = omega arith
