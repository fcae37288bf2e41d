-- The call of `next` returns the first of what is left, and each answer sorts it.
use Rattle.std.proofs.Common.{ap, ◌∙◌, Some}
use Rattle.intel.proofs.Calls.{came_read}
use Rattle.salvage.proofs.Sorting.{sorted_record, sorted_refused, sorted_done}
use Rattle.salvage.proofs.sort_next.Goals as goal

pub returns-in_default : goal.returns-in_default
returns-in_default c =
    let n = c.next-step in
    sorted_done c.args.text.now c.args.w c.args.pool.now n.result n.new.pool c.requires.0 c.requires.1 n.ensures c.in_default.is

pub returns-in-Ok : goal.returns-in-Ok
returns-in-Ok c =
    let n = c.next-step in
    let x = c.in-Ok.given in
    let one = came_read c.args.w.state c.args.text.now c.args.pool.now n.result n.new.pool c.requires.0.options c.requires.0.countable c.requires.1 n.ensures x (c.in-Some.is ∙ ap Some c.in-Ok.is) in
    sorted_record c.args.text.now c.args.w c.args.pool.now n.result n.new.pool c.requires.0 c.requires.1 n.ensures
    x one (n.auto.pool ∙ c.requires.1) c.sort_record.result (c.sort_record.ensures n.new.pool)

pub returns-in-Err : goal.returns-in-Err
returns-in-Err c =
    let n = c.next-step in
    sorted_refused c.args.text.now c.args.w c.args.pool.now n.result n.new.pool c.requires.0 c.requires.1 n.ensures
    c.in-Err.e (c.in-Some.is ∙ ap Some c.in-Err.is) c.entry_of.result c.entry_of.ensures
