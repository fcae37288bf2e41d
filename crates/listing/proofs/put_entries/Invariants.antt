-- `listing::put_entries`: what was put, with the entries of what is left, is the whole.
-- Assumes nothing.
use Rattle.std.proofs.Common.{length}
use Rattle.listing.proofs.Turning.{left, Turn}
use Rattle.listing.proofs.put_entries.Given as goal

abbrev pub invariant-loop-pool : goal.invariant-loop-pool
invariant-loop-pool l = Turn l.text l.initial.out l.at l.out l.pool l.state l.place l.count

abbrev pub decreases-loop-pool : goal.decreases-loop-pool
decreases-loop-pool l = length (left l.state l.text)
