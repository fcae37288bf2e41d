-- `window::clear_marks` meets its contract: window by window.
-- Assumes nothing.
use Rattle.std.proofs.Common.{refl}
use Rattle.window.proofs.Through.{clear_other, clear_mine, clearing_again, clearing_end}
use Rattle.window.proofs.clear_marks.Goals as goal
use Rattle.window.proofs.clear_marks.Goals.{then-row-owner, else-row-owner}

pub loop-row-preserved : goal.loop-row-preserved
loop-row-preserved c =
    let s = c.args in
    let l = c.loop-row in
    clearing_again s.owner s.rows.now s.marks.now l.marks l.row-index l.invariant c.loop-row-test.true _ refl _
    (elim c.if-row-owner.branch [
      | then-row-owner w ↦ rw w.marks-is (clear_mine s.owner _ l.marks _ w.if-row-owner.true w.clear_run.ensures.left)
      | else-row-owner w ↦ rw w.marks-is (clear_other s.owner _ l.marks w.if-row-owner.false)
    ])

pub returns : goal.returns
returns c =
    let s = c.args in
    clearing_end s.owner s.rows.now s.marks.now c.loop-row.marks c.loop-row.row-index c.loop-row.invariant c.loop-row-test.false
