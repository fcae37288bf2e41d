-- Each turn writes what it saves or lists, after what was written before.
use Rattle.std.proofs.Common.{◌+◌, ◌^◌, ◌<◌, refl, sym, ◌∙◌, arith, rules}
use Rattle.salvage.proofs.Counting.{moves_keeps, moves_drops}
use Rattle.salvage.proofs.Putting.{writing_start, writing_keeps, writing_drops, drops_room, writing_ends, missing_room, writing_missing}
use Rattle.salvage.proofs.write_all.Goals as goal

pub loop-given-init : goal.loop-given-init
loop-given-init c =
    let a = c.args in
    writing_start a.text.now a.out.now a.list.now c.requires _ (omega arith) (search rules) c.begin-w.result c.begin-w.ensures

pub slice_bounds-sort_next-end : goal.slice_bounds-sort_next-end
slice_bounds-sort_next-end c = sym c.loop-given.invariant.room

pub sort_next-requires : goal.sort_next-requires
sort_next-requires c = let k = c.loop-given.invariant in (k.under_way, k.room)

pub slice_bounds-put_line-end : goal.slice_bounds-put_line-end
slice_bounds-put_line-end c = sym (c.sort_next.auto.pool ∙ c.loop-given.invariant.room)

pub loop-given-smaller-in-Keeps : goal.loop-given-smaller-in-Keeps
loop-given-smaller-in-Keeps c =
    let a = c.args in
    let l = c.loop-given in
    let t = c.sort_next in
    moves_keeps a.text.now l.w t.new.pool t.result t.ensures c.in-Keeps.given c.in-Keeps.next c.in-Keeps.is

pub loop-given-preserved-in-Keeps : goal.loop-given-preserved-in-Keeps
loop-given-preserved-in-Keeps c =
    let a = c.args in
    let f = c.requires in
    let l = c.loop-given in
    let t = c.sort_next in
    let p = c.put_line-at in
    writing_keeps a.text.now a.out.now a.list.now f l.out l.list l.pool l.w l.at l.place l.invariant t.new.pool t.result t.ensures c.in-Keeps.given c.in-Keeps.next c.in-Keeps.is t.auto.pool p.result p.new.out p.auto.out p.ensures

pub put_entry-requires : goal.put_entry-requires
put_entry-requires c =
    let a = c.args in
    let f = c.requires in
    let l = c.loop-given in
    let t = c.sort_next in
    drops_room a.text.now a.out.now a.list.now f l.out l.list l.pool l.w l.at l.place l.invariant t.new.pool t.result t.ensures c.in-Drops.e c.in-Drops.next c.in-Drops.is

pub overflow_add-place : goal.overflow_add-place
overflow_add-place c =
    let a = c.args in
    let f = c.requires in
    let l = c.loop-given in
    let t = c.sort_next in
    let h = drops_room a.text.now a.out.now a.list.now f l.out l.list l.pool l.w l.at l.place l.invariant t.new.pool t.result t.ensures c.in-Drops.e c.in-Drops.next c.in-Drops.is in
    let q = l.invariant.list_same in
    let small : l.place + 1 < 2 ^ 64 = omega (arith, c.well_formed) in
    search rules

pub loop-given-smaller : goal.loop-given-smaller
loop-given-smaller c =
    let a = c.args in
    let l = c.loop-given in
    let t = c.sort_next in
    moves_drops a.text.now l.w t.new.pool t.result t.ensures c.in-Drops.e c.in-Drops.next c.in-Drops.is

pub loop-given-preserved : goal.loop-given-preserved
loop-given-preserved c =
    let a = c.args in
    let f = c.requires in
    let l = c.loop-given in
    let t = c.sort_next in
    let p = c.put_entry in
    writing_drops a.text.now a.out.now a.list.now f l.out l.list l.pool l.w l.at l.place l.invariant t.new.pool t.result t.ensures c.in-Drops.e c.in-Drops.next c.in-Drops.is t.auto.pool p.new.list p.auto.list p.ensures

pub slice_bounds-put_line-end-in-Ends : goal.slice_bounds-put_line-end-in-Ends
slice_bounds-put_line-end-in-Ends c = sym (c.sort_next.auto.pool ∙ c.loop-given.invariant.room)

pub returns-in-Ends : goal.returns-in-Ends
returns-in-Ends c =
    let a = c.args in
    let f = c.requires in
    let l = c.loop-given in
    let t = c.sort_next in
    let p = c.put_line in
    writing_ends a.text.now a.out.now a.list.now f l.out l.list l.pool l.w l.at l.place l.invariant t.new.pool t.result t.ensures c.in-Ends.is t.auto.pool p.result p.new.out p.ensures

pub slice_bounds-put_line-end-in-Missing : goal.slice_bounds-put_line-end-in-Missing
slice_bounds-put_line-end-in-Missing c = sym (c.sort_next.auto.pool ∙ c.loop-given.invariant.room)

pub put_entry-requires-in-Missing : goal.put_entry-requires-in-Missing
put_entry-requires-in-Missing c =
    let a = c.args in
    let f = c.requires in
    let l = c.loop-given in
    let t = c.sort_next in
    missing_room a.text.now a.out.now a.list.now f l.out l.list l.pool l.w l.at l.place l.invariant t.new.pool t.result t.ensures c.in-Missing.is

pub returns-in-Missing : goal.returns-in-Missing
returns-in-Missing c =
    let a = c.args in
    let f = c.requires in
    let l = c.loop-given in
    let t = c.sort_next in
    let p = c.put_line-in-Missing in
    let q = c.put_entry-in-Missing in
    writing_missing a.text.now a.out.now a.list.now f l.out l.list l.pool l.w l.at l.place l.invariant t.new.pool t.result t.ensures c.in-Missing.is t.auto.pool p.result p.new.out p.ensures
    _ (record { line_is = refl; why_is = refl; a_is = refl; b_is = refl }) q.new.list q.ensures
