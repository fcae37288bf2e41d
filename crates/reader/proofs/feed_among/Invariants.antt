-- Where nothing was seen, no byte that was passed is LF.
-- Assumes nothing.
use Rattle.std.proofs.Common.{◌≡◌, ◌+◌, false}
use Rattle.reader.specs.Helpers.{NoFeed}
use Rattle.reader.proofs.feed_among.Given as goal

abbrev pub invariant-loop-k : goal.invariant-loop-k
invariant-loop-k l = l.seen ≡ false → NoFeed l.text l.from (l.from + l.k)
