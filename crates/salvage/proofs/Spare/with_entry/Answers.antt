-- There is a place, or the list is too short.
use Rattle.salvage.proofs.Counting.{entry_less}
use Rattle.salvage.proofs.Spare.with_entry.Goals as goal

pub returns : goal.returns
returns c = entry_less c.args.self _ c.without.ensures
