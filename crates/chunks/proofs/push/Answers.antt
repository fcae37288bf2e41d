-- `chunks::push` meets its contract: a byte more, the last one replaced, or all left as it was.
-- Assumes nothing.
use Rattle.std.proofs.Common.{arith, rules}
use Rattle.chunks.proofs.Carry.{stored, replaced, left_alone}
use Rattle.chunks.proofs.push.Goals as goal

pub returns-then-used-lt-MOST_KEPT : goal.returns-then-used-lt-MOST_KEPT
returns-then-used-lt-MOST_KEPT c =
    let a = c.args in
    stored a.carry.now a.used a.skipped a.c (search rules) (search rules)

pub returns-then-is_digit : goal.returns-then-is_digit
returns-then-is_digit c =
    let a = c.args in
    replaced a.carry.now a.used a.skipped a.c (search rules) (omega arith) (search rules) _ (omega (arith, c.saturating_add.ensures))

pub returns : goal.returns
returns c =
    let a = c.args in
    left_alone a.carry.now a.used a.skipped a.c (search rules) (omega arith) (search rules)
