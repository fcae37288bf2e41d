-- `Intake::feed`: past its tests the walk through the chunk replies.
-- Assumes nothing.
use Rattle.std.proofs.Common.{sym, ◌∙◌}
use Rattle.intake.proofs.Feeding.{stands_under_way, feeds_all}
use Rattle.intake.proofs.Intake.feed.Goals as goal

pub take_all-requires : goal.take_all-requires
take_all-requires c =
    let a = c.args in
    rw c.stand.ensures (
      stands_under_way a.self a.carry.now (sym c.is_spoilt.ensures ∙ c.if-is_spoilt.false),
      sym c.is_unfit.ensures.answer ∙ c.if-is_unfit.false,
    )

pub returns : goal.returns
returns c =
    let a = c.args in
    let t = c.take_all in
    feeds_all a.self a.chunk.now a.carry.now a.first a.stage.now a.stated.now
    (sym c.is_spoilt.ensures ∙ c.if-is_spoilt.false)
    (sym c.is_unfit.ensures.answer ∙ c.if-is_unfit.false)
    t.new.carry t.new.page t.new.marks t.auto.carry t.result
    (rw (c.mode.ensures, c.stand.ensures) at t.ensures)
