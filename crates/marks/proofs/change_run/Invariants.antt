-- What the loop keeps: what is left of the run, on the row as it is, is all of it on the row as it was.
use Rattle.std.proofs.Common.{◌≡◌, ◌+◌, ◌*◌, ◌<◌}
use Rattle.marks.specs.Marks.{changed_run}
use Rattle.marks.proofs.change_run.Given as goal

abbrev pub invariant-loop-at : goal.invariant-loop-at
invariant-loop-at l = record {
  in_byte : l.first < 8;
  same : changed_run l.set l.marks (8 * l.at + l.first) l.left ≡ changed_run l.set l.fn.marks l.fn.from l.fn.len;
}
