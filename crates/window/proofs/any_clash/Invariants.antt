-- The windows from the one at hand on decide.
-- Assumes nothing.
use Rattle.std.proofs.Common.{◌≡◌, drop}
use Rattle.window.specs.Table.{any_clash}
use Rattle.window.proofs.any_clash.Given as goal

abbrev pub invariant-loop-i : goal.invariant-loop-i
invariant-loop-i l = any_clash (drop l.i l.rows) ≡ any_clash l.rows
