-- `chunks::find`: the search from the position is the search from here, with the empty lines counted.
-- Assumes nothing.
use Rattle.std.proofs.Common.{◌≡◌, ◌-◌, ◌≤◌, length}
use Rattle.chunks.specs.Helpers.{seek_at}
use Rattle.chunks.proofs.find.Given as goal

abbrev pub invariant-loop-from : goal.invariant-loop-from
invariant-loop-from l = record { same_search : seek_at l.chunk l.position l.empties ≡ seek_at l.chunk l.from l.passed; inside : l.from ≤ length l.chunk }

abbrev pub decreases-loop-from : goal.decreases-loop-from
decreases-loop-from l = length l.chunk - l.from
