-- No window before the one at hand is the owner's and holds the address.
-- Assumes nothing.
use Rattle.window.proofs.Finding.{Decided}
use Rattle.window.proofs.room_at.Given as goal

abbrev pub invariant-loop-row : goal.invariant-loop-row
invariant-loop-row l = Decided l.owner l.address l.rows l.row-index
