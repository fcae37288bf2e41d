-- The next line is cut off and judged. At the end of the text there is none.
-- Assumes nothing.
use Rattle.std.proofs.Common.{refl, sym, length-take-le, arith}
use Rattle.reader.proofs.Searching.{cut_off}
use Rattle.window.specs.Table.{inside_of}
use Rattle.srecload.proofs.Meeting.{judged_on, judged_stop, judged_out}
use Rattle.srecload.proofs.WalkLineByLine.judge_next.Goals as goal

pub returns-then-from-text : goal.returns-then-from-text
returns-then-from-text c =
    let a = c.args in rw c.at.ensures.answer (judged_out (inside_of a.owner a.rows.now) a.text.now a.self a.tally c.if-from-text.true)

pub returns-in-On : goal.returns-in-On
returns-in-On c =
    let a = c.args in
    let f = c.first_line-line in
    judged_on a.text.now a.self c.requires.0 (omega (arith, c.requires.0.inside)) f.result.now f.new.behind (cut_off f.ensures)
    (inside_of a.owner a.rows.now) a.tally.records a.tally c.requires.1 refl c.in-On.records c.in-On.ensures

pub returns-in-Stop : goal.returns-in-Stop
returns-in-Stop c =
    let a = c.args in
    let f = c.first_line-line in
    judged_stop a.text.now a.self c.requires.0 (omega (arith, c.requires.0.inside)) f.result.now f.new.behind (cut_off f.ensures)
    (inside_of a.owner a.rows.now) a.tally.records a.tally c.requires.1 refl c.in-Stop.answer c.in-Stop.ensures

pub slice_bounds-judge_line-end-2 : goal.slice_bounds-judge_line-end-2
slice_bounds-judge_line-end-2 c = sym (length-take-le 252 c.args.pool.now (omega (arith, c.requires.2)))

pub judge_line-requires : goal.judge_line-requires
judge_line-requires c =
    (length-take-le 252 c.args.pool.now (omega (arith, c.requires.2)), omega (arith, c.requires.1.counted, c.requires.0.few, c.requires.0.inside, c.if-from-text.false))
