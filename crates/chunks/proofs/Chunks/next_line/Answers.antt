-- `chunks::Chunks::next_line` meets its contract: 18, "done", a line that is begun, or the first line from the position on.
-- Assumes nothing.
use Rattle.std.proofs.Common.{sym, ◌∙◌, inl, inr}
use Rattle.chunks.proofs.FirstTests.{small_carry, much_used, big_enough, line_small, line_done, line_begun, line_fresh}
use Rattle.chunks.proofs.Chunks.next_line.Goals as goal

pub returns-then-carry-lt-MOST_KEPT : goal.returns-then-carry-lt-MOST_KEPT
returns-then-carry-lt-MOST_KEPT c =
    let a = c.args in
    line_small a.self a.chunk.now a.carry.now c.idle.result
    (elim c.then-carry-lt-MOST_KEPT.either [ inl h ↦ small_carry a.self a.carry.now h | inr h ↦ much_used a.self a.carry.now h.1 ]) c.idle.ensures

pub returns-then-self : goal.returns-then-self
returns-then-self c =
    let a = c.args in
    line_done a.self a.chunk.now a.carry.now c.idle-then-self.result (big_enough a.self a.carry.now c.if-carry-lt-MOST_KEPT.false c.if-self-gt-MOST_KEPT.false) c.if-self.true c.idle-then-self.ensures

pub returns-then-has_line : goal.returns-then-has_line
returns-then-has_line c =
    let a = c.args in
    let o = c.older in
    line_begun a.self a.chunk.now a.carry.now c.min-position.result o.result o.new.carry c.if-carry-lt-MOST_KEPT.false c.if-self-gt-MOST_KEPT.false c.if-self.false
    c.min-position.ensures (sym c.has_line.ensures ∙ c.if-has_line.true) o.ensures

pub returns : goal.returns
returns c =
    let a = c.args in
    let f = c.fresh in
    line_fresh a.self a.chunk.now a.carry.now c.min-position.result f.result f.new.carry c.if-carry-lt-MOST_KEPT.false c.if-self-gt-MOST_KEPT.false c.if-self.false
    c.min-position.ensures (sym c.has_line.ensures ∙ c.if-has_line.false) f.ensures
