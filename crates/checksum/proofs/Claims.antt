-- The claims of `specs/Claims.antt`, proved: arithmetic modulo 256.
-- Assumes nothing.
use Rattle.std.proofs.Common.{sym, refl, ◌∙◌, arith}
use Rattle.checksum.specs.Checksum.{negated_sum}
use Rattle.checksum.specs.Claims.{SumsToZero, OfNone, ChecksumUnique}

pub sums_to_zero : SumsToZero
unfolding negated_sum
sums_to_zero bytes check small = (λ e. omega arith, λ e. omega arith)

pub of_none : OfNone
unfolding negated_sum
of_none = refl

pub checksum_unique : ChecksumUnique
checksum_unique bytes r r' x y = x.answer ∙ sym y.answer
