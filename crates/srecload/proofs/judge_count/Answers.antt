-- A count is compared with the data records so far.
-- Assumes nothing.
use Rattle.srecload.proofs.Meeting.{met_count, met_miscount}
use Rattle.srecload.proofs.judge_count.Goals as goal

pub returns-then-count-seen : goal.returns-then-count-seen
returns-then-count-seen c = λ inside. let a = c.args in met_count inside a.number a.seen a.stated c.if-count-seen.true

pub returns : goal.returns
returns c = λ inside rest. let a = c.args in rw c.at.ensures.answer (met_miscount inside a.number a.seen a.stated c.if-count-seen.false rest)
