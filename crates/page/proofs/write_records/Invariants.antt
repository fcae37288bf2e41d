-- The steps are those of the records that were given.
use Rattle.writer.specs.Claims.{Steps}
use Rattle.page.proofs.write_records.Given as goal

abbrev pub invariant-loop-given : goal.invariant-loop-given
invariant-loop-given l = Steps l.page l.fn.out l.fn.start l.yielded l.done l.out
