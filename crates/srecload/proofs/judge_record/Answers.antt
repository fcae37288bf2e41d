-- Each type does what the source says of it.
-- Assumes nothing.
use Rattle.window.specs.Table.{inside_of}
use Rattle.srecload.specs.Placing.{s_does}
use Rattle.srecload.proofs.Meeting.{kind_header, kind_data, kind_count, kind_end, met_nothing, met_end}
use Rattle.srecload.proofs.judge_record.Goals as goal

pub returns-in-S0 : goal.returns-in-S0
unfolding s_does
returns-in-S0 c = λ bytes l.
    let a = c.args in rw (kind_header a.given.kind a.given.address bytes c.in-S0.is) (met_nothing (inside_of a.owner a.rows.now) a.number a.seen)

pub returns-in-S1 : goal.returns-in-S1
unfolding s_does
returns-in-S1 c = λ bytes l. let a = c.args in rw (kind_data a.given.kind a.given.address bytes c.in-S1.is) (c.judge_data.ensures bytes l)

pub returns-in-S5 : goal.returns-in-S5
unfolding s_does
returns-in-S5 c = λ bytes l.
    let a = c.args in rw (kind_count a.given.kind a.given.address bytes c.in-S5.is) (c.judge_count.ensures (inside_of a.owner a.rows.now))

pub returns-in-S7 : goal.returns-in-S7
unfolding s_does
returns-in-S7 c = λ bytes l rest.
    let a = c.args in
    rw (kind_end a.given.kind a.given.address bytes c.in-S7.is) (met_end (inside_of a.owner a.rows.now) a.number a.seen a.given.address rest)
