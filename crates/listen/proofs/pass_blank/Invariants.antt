-- The loop of `pass_blank`: what is left is passed from where the loop stands.
-- Assumes nothing.
use Rattle.listen.proofs.Blanks.{Stands}
use Rattle.listen.proofs.pass_blank.Given as goal

abbrev pub invariant-loop-at : goal.invariant-loop-at
invariant-loop-at l = Stands l.chunk l.cr l.waits l.at
