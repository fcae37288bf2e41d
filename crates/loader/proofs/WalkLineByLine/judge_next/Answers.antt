-- Each answer of `next` settles the decision, or leaves it to what is left.
-- Assumes nothing.
use Rattle.std.proofs.Common.{ap, Some, ◌∙◌, arith}
use Rattle.window.specs.Table.{inside_of}
use Rattle.intel.proofs.Calls.{came_read, came_refused, came_done, short_record}
use Rattle.loader.proofs.Passes.{countable_records, judged_on, judged_stop, judged_refused, judged_done}
use Rattle.loader.proofs.WalkLineByLine.judge_next.Goals as goal

pub judge_record-requires : goal.judge_record-requires
judge_record-requires c =
    let a = c.args in
    let n = c.next-step in
    let (u, few, room) = c.requires in
    let one = came_read a.self.state a.text.now a.pool.now n.result n.new.pool u.options u.countable room n.ensures c.in-Some-Ok.given (c.in-Some-Ok.is ∙ ap Some (rw c.in-Some-Ok.is at c.in-Some-Ok.field-0-is)) in (
      short_record c.in-Some-Ok.given n.new.pool (one.lies (n.auto.pool ∙ room)),
      countable_records a.text.now a.self a.pool.now n.result n.new.pool u room n.ensures a.tally _ one few (omega arith),
    )

pub returns-in-On : goal.returns-in-On
returns-in-On c =
    let a = c.args in
    let n = c.next-step in
    let (u, few, room) = c.requires in
    let one = came_read a.self.state a.text.now a.pool.now n.result n.new.pool u.options u.countable room n.ensures c.in-Some-Ok.given (c.in-Some-Ok.is ∙ ap Some (rw c.in-Some-Ok.is at c.in-Some-Ok.field-0-is)) in
    judged_on a.text.now a.self a.pool.now n.result n.new.pool u room n.ensures (inside_of a.owner a.rows.now) a.tally _ one few c.in-On.base c.in-On.t
    (c.in-On.ensures n.new.pool (one.lies (n.auto.pool ∙ room)))

pub returns-in-Stop : goal.returns-in-Stop
returns-in-Stop c =
    let a = c.args in
    let n = c.next-step in
    let (u, few, room) = c.requires in
    let one = came_read a.self.state a.text.now a.pool.now n.result n.new.pool u.options u.countable room n.ensures c.in-Some-Ok.given (c.in-Some-Ok.is ∙ ap Some (rw c.in-Some-Ok.is at c.in-Some-Ok.field-0-is)) in
    judged_stop a.text.now a.self a.pool.now n.result n.new.pool u room n.ensures (inside_of a.owner a.rows.now) a.tally _ one c.in-Stop.answer
    (c.in-Stop.ensures n.new.pool (one.lies (n.auto.pool ∙ room)))

pub returns-in-Some-Err : goal.returns-in-Some-Err
returns-in-Some-Err c =
    let a = c.args in
    let n = c.next-step in
    let (u, few, room) = c.requires in
    let r = came_refused a.self.state a.text.now a.pool.now n.result n.new.pool u.options u.countable room n.ensures c.in-Some-Err.e (c.in-Some-Err.is ∙ ap Some (rw c.in-Some-Err.is at c.in-Some-Err.field-0-is)) in
    rw c.at.ensures.answer (judged_refused a.text.now a.self a.pool.now n.result n.new.pool u room n.ensures (inside_of a.owner a.rows.now) a.tally c.in-Some-Err.e r.0 r.1)

pub returns-in-None : goal.returns-in-None
returns-in-None c =
    let a = c.args in
    let n = c.next-step in
    let (u, few, room) = c.requires in
    rw c.at-in-None.ensures.answer (judged_done a.text.now a.self a.pool.now n.result n.new.pool u room n.ensures (inside_of a.owner a.rows.now) a.tally
    (came_done a.self.state a.text.now a.pool.now n.result n.new.pool u.options u.countable room n.ensures c.in-None.is))
