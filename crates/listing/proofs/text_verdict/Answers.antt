-- `listing::text_verdict` meets its contract: each answer is judged, until there is none.
-- Assumes nothing.
use Rattle.std.proofs.Common.{length, refl, ◌∙◌, ap, arith}
use Rattle.reader.specs.Text.{new_state}
use Rattle.listing.proofs.Turning.{turned, ran_out}
use Rattle.listing.proofs.Judging.{judged_first, judged_last, judged_more}
use Rattle.listing.proofs.text_verdict.Goals as goal

pub loop-pool-init : goal.loop-pool-init
loop-pool-init c =
    judged_first c.args.text.now _ c.new_with_options-state.result (c.new_with_options-state.ensures.answer ∙ ap new_state c.listing_options.ensures.answer) refl (omega arith)

pub returns-then-is_none : goal.returns-then-is_none
returns-then-is_none c =
    let a = c.args in
    let t = c.loop-pool in
    let n = c.next-step in
    judged_last a.text.now t.pool t.state t.verdict t.invariant (ran_out a.text.now t.state t.pool t.invariant.way n.result n.new.pool n.ensures c.if-is_none.ensures)

pub loop-pool-smaller : goal.loop-pool-smaller
loop-pool-smaller c =
    let t = c.loop-pool in
    let n = c.next-step in
    let h = turned c.args.text.now t.state t.pool t.invariant.way n.result n.new.pool n.ensures c.if-is_none.ensures in
    omega (arith, ap length h.listed)

pub loop-pool-preserved : goal.loop-pool-preserved
loop-pool-preserved c =
    let a = c.args in
    let t = c.loop-pool in
    let n = c.next-step in
    let h = turned a.text.now t.state t.pool t.invariant.way n.result n.new.pool n.ensures c.if-is_none.ensures in
    let v = c.verdict_after-verdict in
    judged_more a.text.now t.pool t.state t.verdict t.invariant n.result.reply n.result.state n.new.pool h (n.auto.pool ∙ t.invariant.way.pool_size) v.result v.ensures.answer
