-- `commit::copy_marked` meets its contract: run by run.
-- Assumes nothing.
use Rattle.commit.proofs.Copying.{run_on, end_of}
use Rattle.commit.proofs.copy_marked.Goals as goal

pub loop-place-preserved : goal.loop-place-preserved
loop-place-preserved c =
    let s = c.args in
    let l = c.loop-place in
    let m = c.next_marked-start in
    let u = c.next_unmarked-end in
    run_on s.stage.now s.stated.now s.page.now l.page l.place m.result u.result c.requires c.loop-place-test.true l.invariant m.ensures u.ensures _ c.copy_run.ensures

pub returns : goal.returns
returns c =
    let s = c.args in
    let l = c.loop-place in
    end_of s.stage.now s.stated.now s.page.now l.page l.place l.invariant c.loop-place-test.false
