-- `window::put_inside` meets its contract: the run lies in the window and is stored from its place on, or nothing changes.
-- Assumes nothing.
use Rattle.std.proofs.Common.{◌+◌, ◌-◌, length, sym, ◌∙◌, inl, inr, arith}
use borrow.Author.Tests.{ltb-true, ltb-false}
use Rattle.window.proofs.Whole.{put_whole, put_none}
use Rattle.window.proofs.put_inside.Goals as goal
use Rattle.window.proofs.put_inside.Goals.{then-from-start-via-then-from-start, then-from-start-via-else-from-start+then-is_beyond}

pub returns-then-from-start : goal.returns-then-from-start
returns-then-from-start c =
    let a = c.args in
    rw c.is_empty.ensures (put_none a.first a.address a.bytes.now a.page.now a.marks.now
    (elim c.then-from-start.branch [
      | then-from-start-via-then-from-start w ↦ inl w.if-from-start.true
      | then-from-start-via-else-from-start+then-is_beyond w ↦
          inr (omega (arith, w.if-from-start.false, ltb-true (length a.page.now) (a.address - a.first + length a.bytes.now) (sym w.is_beyond.ensures ∙ w.if-is_beyond.true)))
    ]))

pub returns : goal.returns
returns c =
    let a = c.args in
    put_whole a.first a.address a.bytes.now a.page.now a.marks.now (a.address - a.first) (omega (arith, c.if-from-start.false))
    (ltb-false _ _ (sym c.is_beyond.ensures ∙ c.if-is_beyond.false)) _ _ c.copy_to.ensures c.mark_run.ensures.left
