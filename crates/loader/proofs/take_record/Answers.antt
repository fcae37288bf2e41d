-- A data record that is put at once counts one. Any other is judged, and written if the load goes on, through a table of the one window.
-- Assumes nothing.
use Rattle.window.proofs.Loads.{painted_nothing}
use Rattle.window.proofs.Alone.{alone_sound}
use Rattle.loader.proofs.Taking.{took_by_table}
use Rattle.loader.proofs.take_record.Goals as goal

pub returns-then-put_whole : goal.returns-then-put_whole
returns-then-put_whole c = let a = c.args in c.put_whole.ensures.took c.if-put_whole.true a.number a.tally

pub write_record-requires : goal.write_record-requires
write_record-requires c =
    let a = c.args in
    let l = c.put_whole.new in
    let e = c.put_whole.ensures.kept c.if-put_whole.false in
    (c.requires.0, rw c.one_window-rows.ensures.answer (alone_sound a.first l.page l.marks (rw (e.0, e.1) c.requires.2)))

pub returns-in-On : goal.returns-in-On
returns-in-On c =
    let a = c.args in
    let l = c.put_whole.new in
    let one = c.one_window-rows in
    let t = c.judge_record in
    rw c.in-On.is at
    (took_by_table a.number a.base a.tally a.given a.pool.now a.first a.page.now a.marks.now l.page l.marks (c.put_whole.ensures.kept c.if-put_whole.false)
    one.result one.ensures t.result (t.ensures a.pool.now c.requires.0) c.write_record.new.page c.write_record.new.marks (rw c.in-On.is c.write_record.ensures))

pub returns-in-Stop : goal.returns-in-Stop
returns-in-Stop c =
    let a = c.args in
    let l = c.put_whole.new in
    let one = c.one_window-rows in
    let t = c.judge_record in
    rw c.in-Stop.is at
    (took_by_table a.number a.base a.tally a.given a.pool.now a.first a.page.now a.marks.now l.page l.marks (c.put_whole.ensures.kept c.if-put_whole.false)
    one.result one.ensures t.result (t.ensures a.pool.now c.requires.0) l.page l.marks (rw c.in-Stop.is (painted_nothing _ l.page l.marks)))
