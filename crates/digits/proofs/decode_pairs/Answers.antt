-- `digits::decode_pairs` meets its contract: what a turn does, and what each end of the loop gives, is in `proofs/Decoding.antt`.
-- Assumes nothing.
use Rattle.std.proofs.Common.{arith, refl}
use Rattle.digits.proofs.Decoding.{turn_first, turn_high, turn_low, turn_more, turn_last}
use Rattle.digits.proofs.decode_pairs.Goals as goal

pub loop-i-init : goal.loop-i-init
loop-i-init c = turn_first c.args.ds.now c.args.buf.now c.requires

pub returns-then-high-ge16 : goal.returns-then-high-ge16
returns-then-high-ge16 c =
    let t = c.loop-i in
    turn_high c.args.ds.now c.args.buf.now c.requires t.buf t.sum t.i c.digit_value-high.result
    t.invariant c.loop-i-test.true c.digit_value-high.ensures.answer c.if-high-ge16.true

pub returns-then-low-ge16 : goal.returns-then-low-ge16
returns-then-low-ge16 c =
    let t = c.loop-i in
    turn_low c.args.ds.now c.args.buf.now c.requires t.buf t.sum t.i c.digit_value-high.result
    t.invariant c.loop-i-test.true c.digit_value-high.ensures.answer c.if-high-ge16.false
    c.digit_value-low.result c.digit_value-low.ensures.answer c.if-low-ge16.true

pub loop-i-preserved : goal.loop-i-preserved
loop-i-preserved c =
    let t = c.loop-i in
    turn_more c.args.ds.now c.args.buf.now c.requires t.buf t.sum t.i c.digit_value-high.result
    t.invariant c.loop-i-test.true c.digit_value-high.ensures.answer c.if-high-ge16.false
    c.digit_value-low.result c.digit_value-low.ensures.answer c.if-low-ge16.false
    _ _ (omega arith) refl

pub returns : goal.returns
returns c =
    let t = c.loop-i in
    turn_last c.args.ds.now c.args.buf.now c.requires t.buf t.sum t.i t.invariant c.loop-i-test.false
