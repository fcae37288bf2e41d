-- `listing::text_verdict`: what the answers so far come to, with those that are left, is the whole.
-- Assumes nothing.
use Rattle.std.proofs.Common.{length}
use Rattle.listing.proofs.Turning.{left}
use Rattle.listing.proofs.Judging.{Judged}
use Rattle.listing.proofs.text_verdict.Given as goal

abbrev pub invariant-loop-pool : goal.invariant-loop-pool
invariant-loop-pool l = Judged l.text l.pool l.state l.verdict

abbrev pub decreases-loop-pool : goal.decreases-loop-pool
decreases-loop-pool l = length (left l.state l.text)
