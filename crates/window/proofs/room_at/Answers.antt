-- `window::room_at` meets its contract: the first window of the owner that holds the address, or none of them.
-- Assumes nothing.
use Rattle.std.proofs.Common.{get_or, refl, sym, ◌∙◌, arith}
use Rattle.window.specs.Table.{nobody}
use Rattle.window.proofs.Finding.{passed_on, held_so, room_found, room_none}
use Rattle.window.proofs.room_at.Goals as goal

pub overflow_sub-result : goal.overflow_sub-result
overflow_sub-result c = omega (arith, held_so c.args.owner c.args.address (get_or c.args.rows.now c.loop-row.row-index nobody) (sym c.takes.ensures ∙ c.if-takes.true))

pub overflow_sub-result-then-takes : goal.overflow_sub-result-then-takes
overflow_sub-result-then-takes c = omega (arith, held_so c.args.owner c.args.address (get_or c.args.rows.now c.loop-row.row-index nobody) (sym c.takes.ensures ∙ c.if-takes.true))

pub returns-then-takes : goal.returns-then-takes
returns-then-takes c =
    let s = c.args in
    room_found s.owner s.rows.now s.address c.loop-row.row-index c.loop-row-test.true _ refl (sym c.takes.ensures ∙ c.if-takes.true)

pub loop-row-preserved : goal.loop-row-preserved
loop-row-preserved c =
    let s = c.args in
    let l = c.loop-row in
    passed_on s.owner s.address s.rows.now l.row-index c.loop-row-test.true _ refl (sym c.takes.ensures ∙ c.if-takes.false) l.invariant

pub returns : goal.returns
returns c =
    let s = c.args in
    room_none s.owner s.rows.now s.address c.loop-row.row-index c.loop-row-test.false c.loop-row.invariant
