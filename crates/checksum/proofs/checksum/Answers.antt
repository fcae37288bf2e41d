-- `checksum::checksum` meets its contract: a byte that joins the sum leaves the bytes to come.
-- Assumes nothing.
use Rattle.std.proofs.Common.{◌≡◌, drop, arith, drop_of_length-le}
use Rattle.checksum.specs.Checksum
use Rattle.checksum.specs.Checksum.{negated_sum}
use Rattle.checksum.proofs.Laws.{sum_drop}
use Rattle.checksum.proofs.checksum.Goals as goal

pub loop-byte-preserved : goal.loop-byte-preserved
loop-byte-preserved c = omega (arith, sum_drop c.args.bytes.now c.loop-byte.byte-index c.loop-byte-test.true)

pub returns : goal.returns
unfolding negated_sum Checksum.sum
returns c =
    let rest : Checksum.sum (drop c.loop-byte.byte-index c.args.bytes.now) ≡ 0 = rw (drop_of_length-le c.args.bytes.now c.loop-byte-test.false) in
    record { answer = omega arith }
