-- The record that the call of `next` gives is written. After a refusal and at the end nothing is stated.
-- Assumes nothing.
use Rattle.std.proofs.Common.{ap, refl, Some, ◌∙◌}
use Rattle.intel.proofs.Calls.{came_read, came_refused, came_done}
use Rattle.window.specs.Table.{site_of}
use Rattle.loader.proofs.Passes.{wrote, refused_states, done_states}
use Rattle.loader.proofs.WalkLineByLine.write_next.Goals as goal

pub write_record-requires : goal.write_record-requires
write_record-requires c =
    let a = c.args in
    let n = c.next-step in
    let u = c.requires.0 in
    let one = came_read a.self.state a.text.now a.pool.now n.result n.new.pool u.options u.countable c.requires.1 n.ensures c.in-Some-Ok.given (c.in-Some-Ok.is ∙ ap Some (rw c.in-Some-Ok.is at c.in-Some-Ok.field-0-is)) in
    (one.lies (n.auto.pool ∙ c.requires.1), c.requires.2)

pub returns-in-Some-Ok : goal.returns-in-Some-Ok
returns-in-Some-Ok c =
    let a = c.args in
    let n = c.next-step in
    let u = c.requires.0 in
    let one = came_read a.self.state a.text.now a.pool.now n.result n.new.pool u.options u.countable c.requires.1 n.ensures c.in-Some-Ok.given (c.in-Some-Ok.is ∙ ap Some (rw c.in-Some-Ok.is at c.in-Some-Ok.field-0-is)) in
    wrote a.text.now a.self a.pool.now n.result n.new.pool u c.requires.1 n.ensures
    (site_of a.owner a.rows.now) a.page.now a.marks.now _ _ _ one c.base_behind.result c.write_record.ensures c.base_behind.ensures

pub returns-in-Some-Err : goal.returns-in-Some-Err
returns-in-Some-Err c =
    let a = c.args in
    let n = c.next-step in
    let u = c.requires.0 in
    let r = came_refused a.self.state a.text.now a.pool.now n.result n.new.pool u.options u.countable c.requires.1 n.ensures _ (c.in-Some-Err.is ∙ ap Some (rw c.in-Some-Err.is at c.in-Some-Err.field-0-is)) in
    (refused_states a.text.now a.self a.pool.now n.result n.new.pool u c.requires.1 n.ensures n.result.state.line _ r.0 r.1, refl, refl)

pub returns-in-None : goal.returns-in-None
returns-in-None c =
    let a = c.args in
    let n = c.next-step in
    let u = c.requires.0 in (
      done_states a.text.now a.self a.pool.now n.result n.new.pool u c.requires.1 n.ensures
          (came_done a.self.state a.text.now a.pool.now n.result n.new.pool u.options u.countable c.requires.1 n.ensures c.in-None.is),
      refl,
      refl,
    )
