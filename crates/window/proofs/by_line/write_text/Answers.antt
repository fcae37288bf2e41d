-- Each line is painted, and what is left stays to be painted, until nothing is.
-- Assumes nothing.
use Rattle.std.proofs.Common.{arith, rules}
use Rattle.window.specs.Table.{site_of}
use Rattle.window.proofs.Rounds.{writing_start, writing_again, writing_end}
use Rattle.window.proofs.by_line.write_text.Goals as goal

pub loop-next-init : goal.loop-next-init
loop-next-init g c =
    let t = g.W.LineByLine in
    let a = c.args in
    writing_start t.source t.stands_in t.has_met t.ahead t.left (site_of a.owner a.rows.now) a.text.now a.page.now a.marks.now _ c.begin-w.result (c.begin-w.ensures a.text.now (omega arith)) (search rules)

pub write_next-requires : goal.write_next-requires
write_next-requires g c = let i = c.loop-next.invariant in (i.stands, i.room, rw i.same.size c.requires)

pub loop-next-preserved : goal.loop-next-preserved
loop-next-preserved g c =
    let t = g.W.LineByLine in
    let a = c.args in
    let l = c.loop-next in
    let n = c.write_next in
    writing_again t.source t.stands_in t.has_met t.ahead t.left (site_of a.owner a.rows.now) a.text.now a.page.now a.marks.now l.page l.marks l.pool l.w l.invariant
    n.new.page n.new.marks _ c.in-Some.ensures n.new.pool n.auto.pool n.auto.marks

pub loop-next-smaller : goal.loop-next-smaller
loop-next-smaller g c = c.in-Some.ensures.less

pub returns : goal.returns
returns g c =
    let t = g.W.LineByLine in
    let a = c.args in
    let l = c.loop-next in
    let n = c.write_next in
    writing_end t.source t.stands_in t.has_met t.ahead t.left (site_of a.owner a.rows.now) a.text.now a.page.now a.marks.now l.page l.marks l.pool l.w l.invariant
    n.new.page n.new.marks c.in_default.ensures
