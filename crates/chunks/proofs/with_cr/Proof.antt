-- `chunks::with_cr` meets its contract.
-- Assumes nothing.
use Rattle.std.proofs.Common.{rules}
use Rattle.chunks.specs.Begun.{with_CR}
use Rattle.chunks.proofs.Carry.{no_CR}
use Rattle.chunks.proofs.with_cr.Statement.{statement}
use Rattle.chunks.proofs.with_cr.Tie as tie

returns : tie.Need-returns-then-cr
unfolding with_CR
returns c = rw c.if-cr.true c.push.ensures

returns-2 : tie.Need-returns
returns-2 c = rw c.if-cr.false (no_CR c.args.carry.now c.args.used c.args.skipped (search rules))

pub with_cr_spec : {M : Type 1} → statement M
with_cr_spec = tie.close (tie.spec (λ c κs. search rules) (λ c. search rules) returns returns-2)
