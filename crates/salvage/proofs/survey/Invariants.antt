-- What is used and listed so far, with what is left, is all of it. The measure is what is left to be said.
use lib.ListN.{length}
use Rattle.reader.specs.Along.{unread}
use Rattle.salvage.proofs.Counting.{Counting}
use Rattle.salvage.proofs.survey.Given as goal

abbrev pub invariant-loop-given : goal.invariant-loop-given
invariant-loop-given l = Counting l.text l.pool l.fn.space l.fn.places l.w l.spare

abbrev pub decreases-loop-given : goal.decreases-loop-given
decreases-loop-given l = length (unread l.w.state l.text)
