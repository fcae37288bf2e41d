-- `chunks::Chunks::last_line` meets its contract: 18, "done", nothing begun, or the line that is begun.
-- Assumes nothing.
use Rattle.std.proofs.Common.{refl, inl, inr}
use Rattle.chunks.proofs.FirstTests.{small_carry, much_used, big_enough, last_small, last_done, last_none, last_found}
use Rattle.chunks.proofs.Chunks.last_line.Goals as goal

pub returns-then-carry-lt-MOST_KEPT : goal.returns-then-carry-lt-MOST_KEPT
returns-then-carry-lt-MOST_KEPT c =
    let a = c.args in
    last_small a.self a.carry.now c.idle.result
    (elim c.then-carry-lt-MOST_KEPT.either [ inl h ↦ small_carry a.self a.carry.now h | inr h ↦ much_used a.self a.carry.now h.1 ]) c.idle.ensures

pub returns-then-self : goal.returns-then-self
returns-then-self c =
    let a = c.args in
    last_done a.self a.carry.now c.idle-then-self.result (big_enough a.self a.carry.now c.if-carry-lt-MOST_KEPT.false c.if-self-gt-MOST_KEPT.false) c.if-self.true c.idle-then-self.ensures

pub returns-then-taken-eq0 : goal.returns-then-taken-eq0
returns-then-taken-eq0 c =
    let a = c.args in
    let w = c.with_cr-taken in
    last_none a.self a.carry.now w.result.used w.result.skipped w.new.carry c.if-carry-lt-MOST_KEPT.false c.if-self-gt-MOST_KEPT.false c.if-self.false
    (rw c.left_out.ensures at w.ensures) _ c.idle-then-taken-eq0.result c.if-taken-eq0.true refl c.idle-then-taken-eq0.ensures

pub returns : goal.returns
returns c =
    let a = c.args in
    let w = c.with_cr-taken in
    last_found a.self a.carry.now w.result.used w.result.skipped w.new.carry c.if-carry-lt-MOST_KEPT.false c.if-self-gt-MOST_KEPT.false c.if-self.false
    (rw c.left_out.ensures at w.ensures) c.found.result c.if-taken-eq0.false w.auto.carry c.found.ensures
