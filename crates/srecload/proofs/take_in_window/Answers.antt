-- A data record that is put at once counts one. Any other is taken through a table of the one window.
-- Assumes nothing.
use Rattle.window.proofs.Alone.{alone_sound}
use Rattle.srecload.proofs.Taking.{took_by_table}
use Rattle.srecload.proofs.take_in_window.Goals as goal

pub returns-then-put_whole : goal.returns-then-put_whole
returns-then-put_whole c = c.put_whole.ensures.took c.if-put_whole.true c.args.number c.args.seen

pub take_record-requires : goal.take_record-requires
take_record-requires c =
    let l = c.put_whole.new in
    let e = c.put_whole.ensures.kept c.if-put_whole.false in
    (c.requires.0, c.requires.1, rw c.one_window-rows.ensures.answer (alone_sound c.args.first l.page l.marks (rw (e.0, e.1) c.requires.2)))

pub returns : goal.returns
returns c =
    let a = c.args in
    let one = c.one_window-rows in
    took_by_table a.number a.seen a.given a.pool.now a.first a.page.now a.marks.now c.put_whole.new.page c.put_whole.new.marks (c.put_whole.ensures.kept c.if-put_whole.false)
    one.result one.ensures _ _ _ c.take_record.ensures
