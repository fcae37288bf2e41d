-- What the loop keeps: no place from the first one up to the byte is sought.
use Rattle.std.proofs.Common.{◌≡◌, ℕ, ◌*◌, ◌≤◌, ◌<◌}
use Rattle.marks.proofs.Searches.{sought_at}
use Rattle.marks.proofs.next.Given as goal

abbrev pub invariant-loop-at : goal.invariant-loop-at
invariant-loop-at l = record {
  behind : l.from ≤ 8 * l.at;
  none : (j : ℕ) → l.from ≤ j → j < 8 * l.at → sought_at l.marked l.marks j ≡ 0;
}
