-- `ihexlist::read_all` meets its contract: what is read lies within the space, and what is left of it falls with each turn.
-- Assumes nothing.
use Rattle.std.proofs.Common.{◌≡◌, ◌-◌, ◌≤◌, length}
use Rattle.ihexlist.proofs.read_all.Given as goal

abbrev pub invariant-loop-n : goal.invariant-loop-n
invariant-loop-n g l = record { inside : l.n ≤ length l.text; size : length l.text ≡ length l.initial.text }

abbrev pub decreases-loop-n : goal.decreases-loop-n
decreases-loop-n g l = length l.text - l.n
