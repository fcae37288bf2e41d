-- `digits::spell_all` meets its contract: what a turn does, and what the loop gives at its end, is in `proofs/Spelling.antt`.
-- Assumes nothing.
use Rattle.std.proofs.Common.{refl}
use Rattle.digits.proofs.Spelling.{turn_first, turn_more, turn_last}
use Rattle.digits.proofs.spell_all.Goals as goal

pub loop-i-init : goal.loop-i-init
loop-i-init c = turn_first c.args.bytes.now c.args.sum c.args.out.now c.requires c.ranges.sum.fits

pub loop-i-preserved : goal.loop-i-preserved
loop-i-preserved c =
    let t = c.loop-i in
    turn_more c.args.bytes.now c.args.sum c.args.out.now c.requires t.out t.total t.i _ c.put.new.out
    t.invariant c.loop-i-test.true c.put.ensures.left c.put.auto.out refl

pub returns : goal.returns
returns c =
    let t = c.loop-i in
    turn_last c.args.bytes.now c.args.sum c.args.out.now c.requires t.out t.total t.i t.invariant c.loop-i-test.false
