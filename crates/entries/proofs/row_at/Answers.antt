-- `entries::row_at` meets its contract: each number by its reader.
-- Assumes nothing.
use Rattle.std.proofs.Common.{sym}
use Rattle.entries.proofs.Rows.{row_beyond, row_read}
use Rattle.entries.proofs.row_at.Goals as goal

pub returns-then-table-i : goal.returns-then-table-i
returns-then-table-i c = record { answer = sym (row_beyond c.args.table.now c.args.i c.if-table-i.true) }

pub returns : goal.returns
returns c = record { answer = row_read c.args.table.now c.args.i c.if-table-i.false c.four_at.ensures c.four_at-2.ensures c.eight_at.ensures c.eight_at-2.ensures }
