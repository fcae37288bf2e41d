-- A data record is put, any other leaves page and marks as they are.
-- Assumes nothing.
use Rattle.std.proofs.Common.{⊎_elim}
use Rattle.digits.proofs.Parts.{part_is}
use Rattle.srec.specs.Record.{data_of}
use Rattle.window.specs.Table.{site_of}
use Rattle.srecload.proofs.Meeting.{kind_header, kind_data, kind_count, kind_end}
use Rattle.srecload.proofs.Writing.{wrote_header, wrote_data, wrote_count, wrote_last}
use Rattle.srecload.proofs.write_record.Goals as goal

pub returns-in-S0 : goal.returns-in-S0
returns-in-S0 c = λ n.
    let a = c.args in
    let site = site_of a.owner a.rows.now in
    let t = a.given.kind in
    let at = a.given.address in
    let bytes = data_of a.given a.pool.now in
    ⊎_elim
    (λ e. rw (kind_header t at bytes e) (wrote_header site a.page.now a.marks.now n))
    (λ e. rw (kind_count t at bytes e) (wrote_count site a.page.now a.marks.now n at))
    c.in-S0.is

pub returns-in-S1 : goal.returns-in-S1
returns-in-S1 c = λ n.
    let a = c.args in
    rw (kind_data a.given.kind a.given.address (data_of a.given a.pool.now) c.in-S1.is)
    (wrote_data (site_of a.owner a.rows.now) a.page.now a.marks.now n a.given.address (data_of a.given a.pool.now) _ _ (rw (part_is a.pool.now a.given.at a.given.len) at c.put.ensures))

pub returns-in-S7 : goal.returns-in-S7
returns-in-S7 c = λ n.
    let a = c.args in
    rw (kind_end a.given.kind a.given.address (data_of a.given a.pool.now) c.in-S7.is) (wrote_last (site_of a.owner a.rows.now) a.page.now a.marks.now n a.given.address)
