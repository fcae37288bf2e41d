-- One ask after the other: what the asks that are left come to is what all of them came to.
-- Assumes nothing.
use Rattle.std.proofs.Common.{◌≡◌, ◌-◌}
use Rattle.reader.specs.Text.{new_state}
use Rattle.lent.specs.Lent.{asked}
use Rattle.lent.proofs.Turns.{after}
use Rattle.lent.proofs.nth_of.Given as goal

abbrev pub invariant-loop : goal.invariant-loop
invariant-loop l = after (l.n - l.counter) l.reader l.pool l.at ≡ asked l.n (new_state l.fn.options) l.text l.fn.pool l.at
