-- `reader::lay_down` meets its contract: no room, or the payload poured.
-- Assumes nothing.
use Rattle.std.proofs.Common.{take, drop, arith}
use Rattle.digits.proofs.Parts.{part_length}
use Rattle.reader.specs.Answer.{word}
use Rattle.reader.proofs.Answers.{full, placed}
use Rattle.reader.proofs.lay_down.Goals as goal
use Rattle.reader.proofs.lay_down.Goals.{then-n-pool-via-then-n-pool, then-n-pool-via-else-n-pool+then-at-pool}

pub returns-then-n-pool : goal.returns-then-n-pool
returns-then-n-pool c =
    let a = c.args in
    let n = part_length a.buf.now 4 a.n (omega arith) in
    full (word a.buf.now 1) (take a.n (drop 4 a.buf.now)) a.pool.now a.at
    (elim c.then-n-pool.branch [
      | then-n-pool-via-then-n-pool w ↦ omega arith
      | then-n-pool-via-else-n-pool+then-at-pool w ↦ omega arith
    ])

pub returns : goal.returns
returns c =
    let a = c.args in
    let n = part_length a.buf.now 4 a.n (omega arith) in
    placed (word a.buf.now 1) (take a.n (drop 4 a.buf.now)) a.pool.now a.at
    c.from_be_bytes.result a.n c.pour.new.pool (omega arith)
    c.from_be_bytes.ensures n c.pour.ensures
