-- Ahead of the first record all are still to come.
use Rattle.std.proofs.Common.{refl}
use Rattle.page.specs.File.{page_records}
use Rattle.page.specs.Walk.{from_place}
use Rattle.page.proofs.FileRecords.new.Goals as goal

pub returns : goal.returns
unfolding page_records from_place
returns c = refl
