-- An empty line does nothing, and any other what it says.
-- Assumes nothing.
use Rattle.std.proofs.Common.{length, sym, ◌∙◌, eqb-true, arith}
use borrow.Author.Tests.{eqb-false}
use Rattle.window.specs.Table.{inside_of}
use Rattle.srec.specs.Record.{data_of}
use Rattle.srecload.proofs.Reading.{came_read, came_refused}
use Rattle.srecload.proofs.Meeting.{met_nothing, line_empty, line_came, met_refused}
use Rattle.srecload.proofs.judge_line.Goals as goal

pub judge_record-requires : goal.judge_record-requires
judge_record-requires c =
    let a = c.args in
    let came = came_read a.line.now a.pool.now c.read_srecord.new.pool c.requires.0 c.in-Ok.given c.in-Ok.ensures in
    (came.few, c.requires.1)

pub returns-then-is_empty : goal.returns-then-is_empty
returns-then-is_empty c =
    let a = c.args in
    rw (line_empty a.number a.line.now (eqb-true (length a.line.now) 0 (sym c.is_empty.ensures ∙ c.if-is_empty.true))) (met_nothing (inside_of a.owner a.rows.now) a.number a.seen)

pub returns-in-Ok : goal.returns-in-Ok
returns-in-Ok c =
    let a = c.args in
    let r = c.read_srecord in
    let x = c.in-Ok.given in
    let came = came_read a.line.now a.pool.now r.new.pool c.requires.0 x c.in-Ok.ensures in
    rw (line_came a.number a.line.now r.new.pool x (omega (arith, eqb-false (length a.line.now) 0 (sym c.is_empty.ensures ∙ c.if-is_empty.false))) came) (c.judge_record.ensures (data_of x r.new.pool) came.sized)

pub returns-in-Err : goal.returns-in-Err
returns-in-Err c = λ rest.
    let a = c.args in
    let r = c.read_srecord in
    rw c.at.ensures.answer (met_refused (inside_of a.owner a.rows.now) a.number a.seen a.line.now c.in-Err.e (omega (arith, eqb-false (length a.line.now) 0 (sym c.is_empty.ensures ∙ c.if-is_empty.false)))
    (came_refused a.line.now a.pool.now r.new.pool c.requires.0 c.in-Err.e c.in-Err.ensures) rest)
