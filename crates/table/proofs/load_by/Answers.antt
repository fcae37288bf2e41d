-- `table::load_by` meets its contract: bytes that are not a table are refused, and else the load is that of the windows.
-- Assumes nothing.
use Rattle.std.proofs.Common.{sym, ◌∙◌}
use Rattle.table.proofs.Passing.{load_torn, load_whole}
use Rattle.table.proofs.load_by.Goals as goal

pub returns-then-is_torn_or_long : goal.returns-then-is_torn_or_long
returns-then-is_torn_or_long g c =
    let s = c.args in
    rw c.at.ensures.answer (load_torn g.W.LineByLine.source s.text.now s.owner s.table.now s.pool.now s.marks.now (sym c.is_torn_or_long.ensures ∙ c.if-is_torn_or_long.true))

pub returns : goal.returns
returns g c =
    let s = c.args in
    let r = c.rows_of-rows in
    load_whole g.W.LineByLine.source s.text.now s.owner s.table.now s.pool.now s.marks.now (sym c.is_torn_or_long.ensures ∙ c.if-is_torn_or_long.false) r.result r.ensures _ _ _ c.load_through_table.ensures
