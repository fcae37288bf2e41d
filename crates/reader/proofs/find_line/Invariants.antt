-- The search from the position is the search from here, with the empty lines passed.
-- Assumes nothing.
use Rattle.std.proofs.Common.{◌≡◌, ◌-◌, ◌≤◌, length, drop}
use Rattle.reader.specs.Lines.{next_line}
use Rattle.reader.proofs.find_line.Given as goal

abbrev pub invariant-loop-from : goal.invariant-loop-from
invariant-loop-from l = (next_line 0 (drop l.position l.text) ≡ next_line l.empties (drop l.from l.text)) × (l.empties ≤ l.from)

abbrev pub decreases-loop-from : goal.decreases-loop-from
decreases-loop-from l = length l.text - l.from
