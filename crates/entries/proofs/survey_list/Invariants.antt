-- Before each entry: the entries so far are records, and the survey is theirs.
-- Assumes nothing.
use Rattle.entries.proofs.Listing.{Surveying}
use Rattle.entries.proofs.survey_list.Given as goal

abbrev pub invariant-loop-entry : goal.invariant-loop-entry
invariant-loop-entry l = Surveying l.list l.pool l.survey l.entry-iterator
