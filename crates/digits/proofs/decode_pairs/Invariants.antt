-- What the loop keeps is `Turn` of `proofs/Decoding.antt`.
use Rattle.digits.proofs.Decoding.{Turn}
use Rattle.digits.proofs.decode_pairs.Given as goal

abbrev pub invariant-loop-i : goal.invariant-loop-i
invariant-loop-i l = Turn l.ds l.initial.buf l.buf l.sum l.i
