-- A data record in one run is put if it lies inside.
-- Assumes nothing.
use Rattle.std.proofs.Common.{arith, rules}
use Rattle.loader.proofs.Taking.{put_data}
use Rattle.loader.proofs.put_whole.Goals as goal

pub returns-in-Data : goal.returns-in-Data
returns-in-Data c =
    let a = c.args in
    let d = c.in-Data in
    let k = c.first_run in
    let y = c.byte_address-address in
    put_data a.base a.given a.pool.now a.first a.page.now a.marks.now c.requires d.offset d.at d.len d.is (search rules) k.result k.ensures (omega (arith, c.if-first_run-len.false))
    y.result y.ensures _ _ _ c.put_inside.ensures
