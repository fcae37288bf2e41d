-- `take_all`: the invariant at the start, after a line, and what it says where the chunk is used up or a line has decided.
-- Assumes nothing.
use Rattle.intake.specs.Ways.{way_of}
use Rattle.intake.proofs.Ways.{lawful}
use Rattle.intake.proofs.Coming.{walk_start, walk_again, walk_through, walk_stop}
use Rattle.intake.proofs.take_all.Goals as goal

pub loop-end-init : goal.loop-end-init
loop-end-init c =
    let a = c.args in
    walk_start (way_of a.mode.kind a.mode.tail) (lawful a.mode.kind a.mode.tail) a.first a.w a.chunk.now a.carry.now a.page.now a.marks.now c.requires.0

pub loop-end-preserved : goal.loop-end-preserved
loop-end-preserved c =
    let a = c.args in
    let l = c.loop-end in
    let t = c.take_next in
    walk_again (way_of a.mode.kind a.mode.tail) (lawful a.mode.kind a.mode.tail) a.first a.w a.chunk.now a.carry.now a.page.now a.marks.now l.there l.carry l.page l.marks t.result t.new.carry t.new.page t.new.marks t.ensures l.invariant c.in-On.next c.in-On.is t.auto.carry t.auto.page t.auto.marks

pub returns-in-UsedUp : goal.returns-in-UsedUp
returns-in-UsedUp c =
    let a = c.args in
    let l = c.loop-end in
    let t = c.take_next in
    let (came, stays) = walk_through (way_of a.mode.kind a.mode.tail) (lawful a.mode.kind a.mode.tail) a.first a.w a.chunk.now a.carry.now a.page.now a.marks.now l.there l.carry l.page l.marks t.result t.new.carry t.new.page t.new.marks t.ensures l.invariant c.in-UsedUp.end c.in-UsedUp.is in
    record { end = c.in-UsedUp.end; came = came; stays = stays; answer = c.pause.ensures }

pub returns-in-Stop : goal.returns-in-Stop
returns-in-Stop c =
    let a = c.args in
    let l = c.loop-end in
    let t = c.take_next in
    walk_stop (way_of a.mode.kind a.mode.tail) (lawful a.mode.kind a.mode.tail) a.first a.w a.chunk.now a.carry.now a.page.now a.marks.now l.there l.carry l.page l.marks t.result t.new.carry t.new.page t.new.marks t.ensures l.invariant c.in-Stop.answer c.in-Stop.used c.in-Stop.is
