-- Each turn counts what it saves or lists.
use Rattle.std.proofs.Common.{sym, arith, rules}
use Rattle.intel.proofs.Calls.{short_record}
use Rattle.salvage.proofs.Counting.{counting_start, counting_keeps, counting_drops, moves_keeps, moves_drops, keeps_lies, counting_ends, counting_missing}
use Rattle.salvage.proofs.survey.Goals as goal

pub loop-given-init : goal.loop-given-init
loop-given-init c =
    let a = c.args in
    counting_start a.text.now a.space a.places _ (omega arith) (search rules) c.begin-w.result c.begin-w.ensures

pub slice_bounds-sort_next-end : goal.slice_bounds-sort_next-end
slice_bounds-sort_next-end c = sym c.loop-given.invariant.room

pub sort_next-requires : goal.sort_next-requires
sort_next-requires c = let k = c.loop-given.invariant in (k.under_way, k.room)

pub line_length-requires : goal.line_length-requires
line_length-requires c =
    let a = c.args in
    let l = c.loop-given in
    let t = c.sort_next in
    short_record c.in-Keeps.given t.new.pool (keeps_lies a.text.now a.space a.places l.pool l.w l.spare l.invariant t.new.pool t.result t.ensures c.in-Keeps.given c.in-Keeps.next c.in-Keeps.is)

pub loop-given-smaller-in-Keeps : goal.loop-given-smaller-in-Keeps
loop-given-smaller-in-Keeps c =
    let a = c.args in
    let l = c.loop-given in
    let t = c.sort_next in
    moves_keeps a.text.now l.w t.new.pool t.result t.ensures c.in-Keeps.given c.in-Keeps.next c.in-Keeps.is

pub loop-given-preserved-in-Keeps : goal.loop-given-preserved-in-Keeps
loop-given-preserved-in-Keeps c =
    let a = c.args in
    let l = c.loop-given in
    let t = c.sort_next in
    counting_keeps a.text.now a.space a.places l.pool l.w l.spare l.invariant t.new.pool t.result t.ensures c.in-Keeps.given c.in-Keeps.next c.in-Keeps.is t.auto.pool
    c.line_length.result c.line_length.ensures c.with_line-spare.result c.with_line-spare.ensures

pub loop-given-smaller : goal.loop-given-smaller
loop-given-smaller c =
    let a = c.args in
    let l = c.loop-given in
    let t = c.sort_next in
    moves_drops a.text.now l.w t.new.pool t.result t.ensures c.in-Drops.field-0 c.in-Drops.next c.in-Drops.is

pub loop-given-preserved : goal.loop-given-preserved
loop-given-preserved c =
    let a = c.args in
    let l = c.loop-given in
    let t = c.sort_next in
    counting_drops a.text.now a.space a.places l.pool l.w l.spare l.invariant t.new.pool t.result t.ensures c.in-Drops.field-0 c.in-Drops.next c.in-Drops.is t.auto.pool
    c.with_entry-spare.result c.with_entry-spare.ensures

pub returns-in-Ends : goal.returns-in-Ends
returns-in-Ends c =
    let a = c.args in
    let l = c.loop-given in
    let t = c.sort_next in
    counting_ends a.text.now a.space a.places l.pool l.w l.spare l.invariant t.new.pool t.result t.ensures c.in-Ends.is c.with_line.result c.with_line.ensures

pub returns-in-Missing : goal.returns-in-Missing
returns-in-Missing c =
    let a = c.args in
    let l = c.loop-given in
    let t = c.sort_next in
    counting_missing a.text.now a.space a.places l.pool l.w l.spare l.invariant t.new.pool t.result t.ensures c.in-Missing.is
    c.with_line-in-Missing.result c.with_entry.result c.with_line-in-Missing.ensures c.with_entry.ensures
