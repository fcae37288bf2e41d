-- `window::put_run` meets its contract: window by window.
-- Assumes nothing.
use Rattle.std.proofs.Common.{refl}
use Rattle.window.proofs.Through.{put_other, put_mine, putting_again, putting_end}
use Rattle.window.proofs.put_run.Goals as goal
use Rattle.window.proofs.put_run.Goals.{then-row-owner, else-row-owner}

pub loop-row-preserved : goal.loop-row-preserved
loop-row-preserved c =
    let s = c.args in
    let l = c.loop-row in
    putting_again s.owner s.rows.now s.address s.bytes.now s.page.now s.marks.now l.page l.marks l.row-index l.invariant c.loop-row-test.true _ refl _ _
    (elim c.if-row-owner.branch [
      | then-row-owner w ↦ rw (w.page-is, w.marks-is) (put_mine s.owner _ s.address s.bytes.now l.page l.marks _ _ w.if-row-owner.true w.put_in.ensures)
      | else-row-owner w ↦ rw (w.page-is, w.marks-is) (put_other s.owner _ s.address s.bytes.now l.page l.marks w.if-row-owner.false)
    ])

pub returns : goal.returns
returns c =
    let s = c.args in
    let l = c.loop-row in
    putting_end s.owner s.rows.now s.address s.bytes.now s.page.now s.marks.now l.page l.marks l.row-index l.invariant c.loop-row-test.false
