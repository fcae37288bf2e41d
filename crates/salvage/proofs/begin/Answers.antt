-- A state with these options, and a base that is known.
use Rattle.std.proofs.Common.{ap, true}
use Rattle.reader.specs.declared.State.{State}
use Rattle.salvage.proofs.begin.Goals as goal

pub returns : goal.returns
returns c = ap (λ (s : State). record { state = s; known = true }) c.new_with_options.ensures.answer
