-- No byte that was passed is LF.
-- Assumes nothing.
use Rattle.reader.specs.Helpers.{NoFeed}
use Rattle.reader.proofs.feed_from.Given as goal

abbrev pub invariant-loop-i : goal.invariant-loop-i
invariant-loop-i l = NoFeed l.text 0 l.i
