-- A data record in one run is put if it lies inside.
-- Assumes nothing.
use Rattle.std.proofs.Common.{arith, rules}
use Rattle.srecload.proofs.Meeting.{kind_data}
use Rattle.srecload.proofs.Taking.{put_data}
use Rattle.srecload.proofs.put_whole.Goals as goal

pub returns-in-S1 : goal.returns-in-S1
returns-in-S1 c =
    let a = c.args in
    let k = c.first_run in
    put_data a.given a.pool.now a.first a.page.now a.marks.now c.requires (λ bytes. kind_data a.given.kind a.given.address bytes c.in-S1.is) (search rules)
    k.result k.ensures (omega (arith, c.if-first_run-given.false)) _ _ _ c.put_inside.ensures
