-- Before each entry: the entries so far are records, and theirs are the steps.
-- Assumes nothing.
use Rattle.entries.proofs.Listing.{Stepping}
use Rattle.entries.proofs.write_each.Given as goal

abbrev pub invariant-loop-entry : goal.invariant-loop-entry
invariant-loop-entry l = Stepping l.list l.pool l.fn.out l.fn.start l.out l.done l.entry-iterator
