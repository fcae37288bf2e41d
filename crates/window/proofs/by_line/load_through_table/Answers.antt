-- A bad table and a refused text change nothing. An accepted text is written over the owner's cleared marks.
-- Assumes nothing.
use Rattle.std.proofs.Common.{length, sym, ◌∙◌, rules}
use borrow.Author.Tests.{not-true, not-false}
use Rattle.window.proofs.Tables.{load_bad_table, load_table_refused, load_table_accepted, fits_sound}
use Rattle.window.proofs.by_line.load_through_table.Goals as goal

pub returns-then-is_bad_table : goal.returns-then-is_bad_table
returns-then-is_bad_table g c =
    let s = c.args in
    rw c.at.ensures.answer (load_bad_table g.W.LineByLine.source s.owner s.rows.now s.text.now s.pool.now s.marks.now (not-true _ (sym c.is_bad_table.ensures.answer ∙ c.if-is_bad_table.true)))

pub write_text-requires : goal.write_text-requires
write_text-requires g c =
    let s = c.args in fits_sound s.owner (length s.pool.now) (length s.marks.now) s.rows.now (not-false _ (sym c.is_bad_table.ensures.answer ∙ c.if-is_bad_table.false))

pub returns-then-is_accepted : goal.returns-then-is_accepted
returns-then-is_accepted g c =
    let s = c.args in
    let t = c.judge_text-answer in
    let w = c.write_text in
    load_table_accepted g.W.LineByLine.source s.owner s.rows.now s.text.now s.pool.now s.marks.now (not-false _ (sym c.is_bad_table.ensures.answer ∙ c.if-is_bad_table.false)) t.result t.ensures
    (sym c.is_accepted.ensures.answer ∙ c.if-is_accepted.true) (search rules) c.clear_marks.new.marks w.new.page w.new.marks c.clear_marks.ensures w.ensures

pub returns-else-is_accepted : goal.returns-else-is_accepted
returns-else-is_accepted g c =
    let s = c.args in
    let t = c.judge_text-answer in
    load_table_refused g.W.LineByLine.source s.owner s.rows.now s.text.now s.pool.now s.marks.now (not-false _ (sym c.is_bad_table.ensures.answer ∙ c.if-is_bad_table.false)) t.result t.ensures
    (sym c.is_accepted.ensures.answer ∙ c.if-is_accepted.false)
