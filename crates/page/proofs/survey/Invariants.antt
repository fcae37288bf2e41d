-- The survey is that of the records that were given.
use Rattle.writer.specs.Claims.{Surveys}
use Rattle.page.proofs.survey.Given as goal

abbrev pub invariant-loop-given : goal.invariant-loop-given
invariant-loop-given l = Surveys l.page l.yielded l.s
