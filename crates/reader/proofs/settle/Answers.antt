-- `reader::settle` meets its contract: a record, a refusal that is PoolFull, and any other refusal.
-- Assumes nothing.
use Rattle.std.proofs.Common.{◌≡◌, sym, ◌∙◌}
use Rattle.reader.proofs.Reading.{settle_read, settle_full, settle_refused}
use Rattle.reader.proofs.settle.Goals as goal

pub returns-in-Ok : goal.returns-in-Ok
returns-in-Ok c =
    let a = c.args in
    rw c.in-Ok.is (settle_read a.s a.position a.line c.in-Ok.given c.ends.result c.ends.ensures.answer)

pub returns-in-Err : goal.returns-in-Err
returns-in-Err c =
    let a = c.args in
    rw c.in-Err.is (settle_full a.s a.position a.line c.in-Err.e (sym c.is_pool_full.ensures.answer ∙ c.if-is_pool_full.true))

pub returns-in-Err-2 : goal.returns-in-Err-2
returns-in-Err-2 c =
    let a = c.args in
    let same : c.in-Err-2.e ≡ c.in-Err.e = cc in
    rw (c.in-Err.is, same) (settle_refused a.s a.position a.line c.in-Err.e (sym c.is_pool_full.ensures.answer ∙ c.if-is_pool_full.false))
