-- The first start, or the same again, is kept, and another is refused.
-- Assumes nothing.
use Rattle.std.proofs.Common.{sym, ◌∙◌, Some}
use Rattle.loader.proofs.Meeting.{start_refused, start_kept}
use Rattle.loader.proofs.judge_start.Goals as goal

pub returns-then-differs_from : goal.returns-then-differs_from
returns-then-differs_from c =
    let a = c.args in
    rw c.at.ensures.answer (start_refused a.number a.base a.tally (Some a.stated) (sym c.differs_from.ensures.answer ∙ c.if-differs_from.true))

pub returns : goal.returns
returns c =
    let a = c.args in
    start_kept a.number a.base a.tally (Some a.stated) (sym c.differs_from.ensures.answer ∙ c.if-differs_from.false)
