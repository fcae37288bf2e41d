-- `srec::lay_down` meets its contract: no room, or the data poured.
-- Assumes nothing.
use Rattle.std.proofs.Common.{refl, arith}
use Rattle.srec.proofs.Answers.{full, placed}
use Rattle.srec.proofs.lay_down.Goals as goal
use Rattle.srec.proofs.lay_down.Goals.{then-len-pool-via-then-len-pool, then-len-pool-via-else-len-pool+then-at-pool}

pub returns-then-len-pool : goal.returns-then-len-pool
returns-then-len-pool c =
    let a = c.args in
    full a.kind c.requires a.address a.payload.now a.pool.now a.at
    (elim c.then-len-pool.branch [ then-len-pool-via-then-len-pool w ↦ omega arith | then-len-pool-via-else-len-pool+then-at-pool w ↦ omega arith ])

pub returns : goal.returns
returns c =
    let a = c.args in
    placed a.kind c.requires a.address a.payload.now a.pool.now a.at _ c.pour.new.pool (omega arith) refl c.pour.ensures
