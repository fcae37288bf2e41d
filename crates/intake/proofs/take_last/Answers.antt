-- `take_last`: the last line is taken in the carry, and where there is none the end record is missing.
-- Assumes nothing.
use Rattle.std.proofs.Common.{[], subst, arith, length-take}
use Rattle.chunks.specs.declared.LineReply.{LineReply}
use Rattle.chunks.specs.Line.{Inside}
use Rattle.intake.specs.Ways.{way_of}
use Rattle.intake.proofs.Ways.{lawful}
use Rattle.intake.proofs.Finishing.{last_by, no_last_by, ends_missing_so, ends_line_so, LastBy}
use Rattle.intake.proofs.take_last.Goals as goal

pub returns-in-InCarry : goal.returns-in-InCarry
returns-in-InCarry c =
    let a = c.args in
    let w = c.stand-w in
    let l = c.last_line-step in
    let t = c.take in
    let inside = subst (λ (x : LineReply). Inside x [] l.new.carry) c.in-InCarry.is l.ensures.inside in
    rw c.answer_after.ensures
    (ends_line_so (way_of a.s.kind a.s.tail) (lawful a.s.kind a.s.tail) a.first a.s a.carry.now a.page.now a.marks.now l.new.carry c.in-InCarry.len c.in-InCarry.skipped l.result.state
    (subst (LastBy a.s a.carry.now l.result.state l.new.carry) c.in-InCarry.is (last_by a.s a.carry.now c.requires.0 w.result w.ensures l.result l.new.carry l.ensures))
    (simp length-take (omega (arith, inside.0))) w.result w.ensures t.result t.new.page t.new.marks (rw c.mode.ensures at t.ensures))

pub returns-in_default : goal.returns-in_default
returns-in_default c =
    let a = c.args in
    let w = c.stand-w in
    let l = c.last_line-step in
    rw c.at.ensures.answer
    (ends_missing_so (way_of a.s.kind a.s.tail) (lawful a.s.kind a.s.tail) a.first a.s a.carry.now a.page.now a.marks.now
    (no_last_by a.s a.carry.now l.result.state l.new.carry l.result.reply c.in_default.not-InCarry
    (last_by a.s a.carry.now c.requires.0 w.result w.ensures l.result l.new.carry l.ensures)))
