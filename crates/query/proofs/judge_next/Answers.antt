-- `query::judge_next` meets its contract: the call of `next` returns the first of what is left, and each answer settles it.
-- Assumes nothing.
use Rattle.std.proofs.Common.{ap, ◌∙◌}
use Rattle.std.specs.Prelude.{Some}
use Rattle.intel.proofs.Calls.{came_read, came_refused, came_done}
use Rattle.query.proofs.Reading.{judged_record, judged_refused, judged_done}
use Rattle.query.proofs.judge_next.Goals as goal

pub judge_record-requires : goal.judge_record-requires
judge_record-requires c =
    let a = c.args in
    let n = c.next-step in
    let r = c.in-Some-Ok in
    let read = r.is ∙ ap Some (rw r.is at r.field-0-is) in
    let one = came_read a.w.state a.text.now a.pool.now n.result n.new.pool c.requires.0.options c.requires.0.countable c.requires.1 n.ensures r.given read in
    one.lies (n.auto.pool ∙ c.requires.1)

pub returns-in-Some-Ok : goal.returns-in-Some-Ok
returns-in-Some-Ok c =
    let a = c.args in
    let n = c.next-step in
    let r = c.in-Some-Ok in
    let read = r.is ∙ ap Some (rw r.is at r.field-0-is) in
    let one = came_read a.w.state a.text.now a.pool.now n.result n.new.pool c.requires.0.options c.requires.0.countable c.requires.1 n.ensures r.given read in
    judged_record a.address a.text.now a.w a.pool.now n.result n.new.pool c.requires.0 c.requires.1 n.ensures r.given one c.judge_record.result c.judge_record.ensures

pub returns-in-Some-Err : goal.returns-in-Some-Err
returns-in-Some-Err c =
    let a = c.args in
    let n = c.next-step in
    let r = c.in-Some-Err in
    let refused = r.is ∙ ap Some (rw r.is at r.field-0-is) in
    let u = came_refused a.w.state a.text.now a.pool.now n.result n.new.pool c.requires.0.options c.requires.0.countable c.requires.1 n.ensures r.e refused in
    rw c.at.ensures.answer (judged_refused a.address a.text.now a.w a.pool.now n.result n.new.pool c.requires.0 c.requires.1 n.ensures r.e u.0 u.1)

pub returns-in-None : goal.returns-in-None
returns-in-None c =
    let a = c.args in
    let n = c.next-step in
    rw c.at-in-None.ensures.answer
    (judged_done a.address a.text.now a.w a.pool.now n.result n.new.pool c.requires.0 c.requires.1 n.ensures
    (came_done a.w.state a.text.now a.pool.now n.result n.new.pool c.requires.0.options c.requires.0.countable c.requires.1 n.ensures c.in-None.is))
