-- `chunks::gather_bytes` meets its contract: a byte that is no LF goes on with what is held.
-- Assumes nothing.
use Rattle.std.proofs.Common.{rules}
use Rattle.chunks.proofs.Pass.{pass_more}
use Rattle.chunks.proofs.gather_bytes.Goals as goal

pub loop-i-preserved : goal.loop-i-preserved
loop-i-preserved c =
    let a = c.add-h in
    let l = c.loop-i in
    pass_more _ _ _ _ _ l.i l.n l.k l.w l.carry l.invariant _ _ _ _ (search rules) c.if-c-eq-LF.false a.ensures.grown a.ensures.cr_value a.auto.carry
