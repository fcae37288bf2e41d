-- What the loop keeps is `Turn` of `proofs/Spelling.antt`.
use Rattle.digits.proofs.Spelling.{Turn}
use Rattle.digits.proofs.spell_all.Given as goal

abbrev pub invariant-loop-i : goal.invariant-loop-i
invariant-loop-i l = Turn l.bytes l.sum l.initial.out l.out l.total l.i
