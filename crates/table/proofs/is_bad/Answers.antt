-- `table::is_bad` meets its contract: the bytes are a table, and its windows decide.
-- Assumes nothing.
use Rattle.std.proofs.Common.{sym, ◌∙◌}
use Rattle.table.proofs.Passing.{bad_torn, bad_whole}
use Rattle.table.proofs.is_bad.Goals as goal

pub returns : goal.returns
returns c =
    let s = c.args in
    let r = c.rows_of-rows in
    bad_whole s.table.now s.pool s.marks (sym c.is_torn_or_long.ensures ∙ c.if-is_torn_or_long.false) r.result r.ensures _ c.is_bad_table.ensures

pub returns-then-is_torn_or_long : goal.returns-then-is_torn_or_long
returns-then-is_torn_or_long c =
    let s = c.args in
    bad_torn s.table.now s.pool s.marks (sym c.is_torn_or_long.ensures ∙ c.if-is_torn_or_long.true)
