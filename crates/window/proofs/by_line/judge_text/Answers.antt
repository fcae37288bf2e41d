-- Each line hands on the decision, until one gives it.
-- Assumes nothing.
use Rattle.std.proofs.Common.{arith, rules}
use Rattle.window.specs.Table.{inside_of}
use Rattle.window.proofs.Rounds.{judging_start, judging_again, judging_end}
use Rattle.window.proofs.by_line.judge_text.Goals as goal

pub loop-next-init : goal.loop-next-init
loop-next-init g c =
    let t = g.W.LineByLine in
    let a = c.args in
    judging_start t.source t.stands_in t.has_met t.ahead t.left (inside_of a.owner a.rows.now) a.text.now _ c.begin-w.result (c.begin-w.ensures a.text.now (omega arith)) (search rules)

pub judge_next-requires : goal.judge_next-requires
judge_next-requires g c = let j = c.loop-next.invariant in (j.stands, j.met, j.room)

pub loop-next-preserved : goal.loop-next-preserved
loop-next-preserved g c =
    let t = g.W.LineByLine in
    let a = c.args in
    let l = c.loop-next in
    let n = c.judge_next in
    judging_again t.source t.stands_in t.has_met t.ahead t.left (inside_of a.owner a.rows.now) a.text.now l.pool l.w l.tally l.invariant _ _ c.in-On.ensures n.new.pool n.auto.pool

pub loop-next-smaller : goal.loop-next-smaller
loop-next-smaller g c = c.in-On.ensures.less

pub returns-in-Stop : goal.returns-in-Stop
returns-in-Stop g c =
    let t = g.W.LineByLine in
    let a = c.args in
    let l = c.loop-next in
    judging_end t.source t.stands_in t.has_met t.ahead t.left (inside_of a.owner a.rows.now) a.text.now l.pool l.w l.tally l.invariant c.in-Stop.answer c.in-Stop.ensures
