-- `take`: a line of a tail is passed over.
-- Assumes nothing.
use Rattle.intake.proofs.Turning.{pass_so}
use Rattle.intake.proofs.take.Goals as goal

pub returns-then-mode : goal.returns-then-mode
returns-then-mode c =
    let a = c.args in
    rw (c.if-mode.true, c.pass.ensures) (pass_so a.skipped a.number a.w.base a.w.tally a.first a.page.now a.marks.now a.mode.kind a.line.now)
