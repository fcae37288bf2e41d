-- A bad window and a refused text change nothing. An accepted text is written over cleared marks, through a table of the one window.
-- Assumes nothing.
use Rattle.std.proofs.Common.{length, sym, ◌∙◌}
use Rattle.window.proofs.Loads.{load_unfit, load_refused, load_accepted}
use Rattle.window.proofs.Alone.{alone_judged, alone_painted, alone_sound}
use Rattle.steps.specs.Steps.{stated}
use Rattle.steps.specs.Source.{steps_of}
use Rattle.window.proofs.by_line.load_through_window.Goals as goal

pub returns-then-is_unfit : goal.returns-then-is_unfit
returns-then-is_unfit g c =
    let s = c.args in
    rw c.at.ensures.answer (load_unfit g.W.LineByLine.source s.text.now s.first s.page.now s.marks.now (sym c.is_unfit.ensures.answer ∙ c.if-is_unfit.true))

pub write_text-requires : goal.write_text-requires
write_text-requires g c =
    let s = c.args in rw c.one_window-rows.ensures.answer (alone_sound s.first s.page.now s.marks.now (sym c.is_unfit.ensures.answer ∙ c.if-is_unfit.false))

pub returns-then-is_accepted : goal.returns-then-is_accepted
returns-then-is_accepted g c =
    let s = c.args in
    let t = c.judge_text-answer in
    let w = c.write_text in
    let one = c.one_window-rows.ensures.answer in
    load_accepted g.W.LineByLine.source s.text.now s.first s.page.now s.marks.now (sym c.is_unfit.ensures.answer ∙ c.if-is_unfit.false) t.result
    (alone_judged s.first (length s.page.now) (steps_of g.W.LineByLine.source s.text.now) t.result (rw one at t.ensures)) (sym c.is_accepted.ensures.answer ∙ c.if-is_accepted.true)
    c.clear.new.marks w.new.page w.new.marks c.clear.ensures.left (alone_painted s.first (length s.page.now) (stated (steps_of g.W.LineByLine.source s.text.now)) _ _ _ _ (rw one at w.ensures))

pub returns-else-is_accepted : goal.returns-else-is_accepted
returns-else-is_accepted g c =
    let s = c.args in
    let t = c.judge_text-answer in
    load_refused g.W.LineByLine.source s.text.now s.first s.page.now s.marks.now (sym c.is_unfit.ensures.answer ∙ c.if-is_unfit.false) t.result
    (alone_judged s.first (length s.page.now) (steps_of g.W.LineByLine.source s.text.now) t.result (rw c.one_window-rows.ensures.answer at t.ensures)) (sym c.is_accepted.ensures.answer ∙ c.if-is_accepted.false)
