-- What was written so far, with what is left, is all of it. The measure is what is left to be said.
use lib.ListN.{length}
use Rattle.reader.specs.Along.{unread}
use Rattle.salvage.proofs.Putting.{Writing}
use Rattle.salvage.proofs.write_all.Given as goal

abbrev pub invariant-loop-given : goal.invariant-loop-given
invariant-loop-given l = Writing l.text l.fn.out l.fn.list l.out l.list l.pool l.w l.at l.place

abbrev pub decreases-loop-given : goal.decreases-loop-given
decreases-loop-given l = length (unread l.w.state l.text)
