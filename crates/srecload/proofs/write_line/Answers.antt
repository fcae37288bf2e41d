-- A record is written. An empty line and a refused one leave page and marks as they are.
-- Assumes nothing.
use Rattle.std.proofs.Common.{length, sym, ◌∙◌, eqb-true, arith}
use borrow.Author.Tests.{eqb-false}
use Rattle.window.specs.Table.{site_of}
use Rattle.srecload.proofs.Reading.{came_read, came_refused}
use Rattle.srecload.proofs.Writing.{wrote_empty, wrote_came, wrote_refused}
use Rattle.srecload.proofs.write_line.Goals as goal

pub write_record-requires : goal.write_record-requires
write_record-requires c =
    let a = c.args in
    let came = came_read a.line.now a.pool.now c.read_srecord.new.pool c.requires.0 c.in-Ok.given c.in-Ok.ensures in
    ((came.lies, came.few), c.requires.1)

pub returns-then-is_empty : goal.returns-then-is_empty
returns-then-is_empty c = let a = c.args in wrote_empty (site_of a.owner a.rows.now) a.page.now a.marks.now a.line.now (eqb-true (length a.line.now) 0 (sym c.is_empty.ensures ∙ c.if-is_empty.true))

pub returns-in-Ok : goal.returns-in-Ok
returns-in-Ok c =
    let a = c.args in
    let r = c.read_srecord in
    wrote_came (site_of a.owner a.rows.now) a.page.now a.marks.now a.line.now r.new.pool c.in-Ok.given _ _ _ (omega (arith, eqb-false (length a.line.now) 0 (sym c.is_empty.ensures ∙ c.if-is_empty.false)))
    (came_read a.line.now a.pool.now r.new.pool c.requires.0 c.in-Ok.given c.in-Ok.ensures) c.write_record.ensures

pub returns-in-Err : goal.returns-in-Err
returns-in-Err c =
    let a = c.args in
    wrote_refused (site_of a.owner a.rows.now) a.page.now a.marks.now a.line.now c.in-Err.field-0 (omega (arith, eqb-false (length a.line.now) 0 (sym c.is_empty.ensures ∙ c.if-is_empty.false)))
    (came_refused a.line.now a.pool.now c.read_srecord.new.pool c.requires.0 c.in-Err.field-0 c.in-Err.ensures)
