-- The answer from what is known stays the whole answer. The measure is what is left to be said.
-- Assumes nothing.
use Rattle.std.proofs.Common.{length}
use Rattle.reader.specs.Along.{unread}
use Rattle.query.proofs.Reading.{Reading}
use Rattle.query.proofs.ask.Given as goal

abbrev pub invariant-loop-next : goal.invariant-loop-next
invariant-loop-next l = Reading l.address l.text l.pool l.w

abbrev pub decreases-loop-next : goal.decreases-loop-next
decreases-loop-next l = length (unread l.w.state l.text)
