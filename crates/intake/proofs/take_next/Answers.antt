-- `take_next`: the line that was found is taken where it lies, and any other reply says that the chunk is used up.
-- Assumes nothing.
use Rattle.std.proofs.Common.{inl, inr, subst, arith, length-take}
use Rattle.digits.proofs.Parts.{part_is}
use Rattle.chunks.specs.declared.LineReply.{LineReply}
use Rattle.chunks.specs.Next.{kept_in}
use Rattle.chunks.specs.Line.{Inside}
use Rattle.chunks.proofs.Calls.{fits}
use Rattle.intake.specs.Ways.{way_of}
use Rattle.intake.proofs.Ways.{lawful}
use Rattle.intake.proofs.Hearing.{found_by, used_up_so, in_chunk_so, in_carry_so}
use Rattle.intake.proofs.take_next.Goals as goal

pub returns-in-InChunk : goal.returns-in-InChunk
returns-in-InChunk c =
    let a = c.args in
    let l = c.next_line-step in
    let h = c.hear.ensures in
    rw h.answer
    (in_chunk_so (way_of a.mode.kind a.mode.tail) (lawful a.mode.kind a.mode.tail) a.first a.w a.chunk.now a.carry.now a.page.now a.marks.now l.new.carry l.result.state
    (omega (arith, (fits a.w.reader a.carry.now c.requires.0.big_enough).0, l.auto.carry)) h.came _ _ _
    (found_by a.w.reader a.chunk.now a.carry.now l.result l.new.carry c.requires.0 l.ensures _ c.in-InChunk.is)
    (rw (part_is a.chunk.now c.in-InChunk.from c.in-InChunk.len) at h.turned))

pub returns-in-InCarry : goal.returns-in-InCarry
returns-in-InCarry c =
    let a = c.args in
    let l = c.next_line-step in
    let h = c.hear-in-InCarry.ensures in
    let inside = subst (λ (x : LineReply). Inside x a.chunk.now l.new.carry) c.in-InCarry.is l.ensures.inside in
    rw h.answer
    (in_carry_so (way_of a.mode.kind a.mode.tail) (lawful a.mode.kind a.mode.tail) a.first a.w a.chunk.now a.carry.now a.page.now a.marks.now l.new.carry l.result.state
    (omega (arith, (fits a.w.reader a.carry.now c.requires.0.big_enough).0, l.auto.carry)) h.came _ _ (kept_in l.new.carry c.in-InCarry.len c.in-InCarry.skipped)
    (simp length-take (omega (arith, inside.0)))
    (found_by a.w.reader a.chunk.now a.carry.now l.result l.new.carry c.requires.0 l.ensures _ c.in-InCarry.is)
    h.turned)

pub returns-in-UsedUp : goal.returns-in-UsedUp
returns-in-UsedUp c =
    let a = c.args in
    let l = c.next_line-step in
    used_up_so (way_of a.mode.kind a.mode.tail) (lawful a.mode.kind a.mode.tail) a.first a.w a.chunk.now a.carry.now a.page.now a.marks.now l.new.carry l.result.state
    (found_by a.w.reader a.chunk.now a.carry.now l.result l.new.carry c.requires.0 l.ensures _ c.in-UsedUp.is)

pub returns-in-Done : goal.returns-in-Done
returns-in-Done c =
    let a = c.args in
    let l = c.next_line-step in
    absurd (elim c.in-Done.is [
      | inl e ↦ found_by a.w.reader a.chunk.now a.carry.now l.result l.new.carry c.requires.0 l.ensures _ e
      | inr e ↦ found_by a.w.reader a.chunk.now a.carry.now l.result l.new.carry c.requires.0 l.ensures _ e
    ])
