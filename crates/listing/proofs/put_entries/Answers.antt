-- `listing::put_entries` meets its contract: each answer puts its entry, until there is none.
-- Assumes nothing.
use Rattle.std.proofs.Common.{length, refl, ◌∙◌, ap, arith}
use Rattle.reader.specs.Text.{new_state}
use Rattle.listing.proofs.Turning.{turn_first, turned, ran_out, turn_last, turn_room, turn_count, turn_more}
use Rattle.listing.proofs.Sizes.{answers_most}
use Rattle.listing.proofs.put_entries.Goals as goal

pub loop-pool-init : goal.loop-pool-init
loop-pool-init c =
    let a = c.args in
    turn_first a.text.now a.out.now a.at _ c.new_with_options-state.result (c.new_with_options-state.ensures.answer ∙ ap new_state c.listing_options.ensures.answer) refl (omega arith)

pub returns-then-is_none : goal.returns-then-is_none
returns-then-is_none c =
    let a = c.args in
    let t = c.loop-pool in
    let n = c.next-step in
    turn_last a.text.now a.out.now a.at t.out t.pool t.state t.place t.count t.invariant c.requires.room
    (ran_out a.text.now t.state t.pool t.invariant.way n.result n.new.pool n.ensures c.if-is_none.ensures)

pub put_reply-place-requires : goal.put_reply-place-requires
put_reply-place-requires c =
    let a = c.args in
    let t = c.loop-pool in
    let n = c.next-step in
    let h = turned a.text.now t.state t.pool t.invariant.way n.result n.new.pool n.ensures c.if-is_none.ensures in
    turn_room a.text.now a.out.now a.at t.out t.pool t.state t.place t.count t.invariant c.requires.room n.result.reply n.result.state n.new.pool h

pub overflow_add-count : goal.overflow_add-count
overflow_add-count c =
    let a = c.args in
    let t = c.loop-pool in
    let n = c.next-step in
    let h = turned a.text.now t.state t.pool t.invariant.way n.result n.new.pool n.ensures c.if-is_none.ensures in
    let k = turn_count a.text.now a.out.now a.at t.out t.pool t.state t.place t.count t.invariant c.requires.room n.result.reply n.result.state n.new.pool h in
    omega (arith, answers_most a.text.now)

pub loop-pool-smaller : goal.loop-pool-smaller
loop-pool-smaller c =
    let t = c.loop-pool in
    let n = c.next-step in
    let h = turned c.args.text.now t.state t.pool t.invariant.way n.result n.new.pool n.ensures c.if-is_none.ensures in
    omega (arith, ap length h.listed)

pub loop-pool-preserved : goal.loop-pool-preserved
loop-pool-preserved c =
    let a = c.args in
    let t = c.loop-pool in
    let n = c.next-step in
    let p = c.put_reply-place in
    let h = turned a.text.now t.state t.pool t.invariant.way n.result n.new.pool n.ensures c.if-is_none.ensures in
    turn_more a.text.now a.out.now a.at t.out t.pool t.state t.place t.count t.invariant c.requires.room n.result.reply n.result.state n.new.pool h
    p.new.out p.result p.ensures p.auto.out c.if-is_none.array_long
