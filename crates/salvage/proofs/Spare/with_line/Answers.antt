-- The line has room, or the output is too short.
use Rattle.std.proofs.Common.{ℕ, ap, ◌∙◌}
use Rattle.std.specs.Prelude.{Option}
use Rattle.salvage.specs.Helpers.{less}
use Rattle.salvage.proofs.Counting.{line_less}
use Rattle.salvage.proofs.Spare.with_line.Goals as goal

pub returns : goal.returns
returns c = line_less c.args.self c.args.n _ (c.without-2.ensures ∙ ap (λ (left : Option ℕ). less left 1) c.without.ensures)
