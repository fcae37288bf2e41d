-- Where the walk over the records of a file stands: the records that are still to come.
-- Assumes nothing.
use Rattle.std.specs.Prelude.{ℕ, Bool, List, [], drop, None, Some}
use Rattle.std.specs.Prelude.{Option as CodeOption}
use Rattle.std.proofs.Math.Option.{Option, none, some}
use Rattle.std.specs.Prelude.{if◌then◌else◌}
use Rattle.record.specs.declared.Record.{Record}
use Rattle.marks.specs.Marks.{flags}
use Rattle.page.specs.declared.FileRecords.{FileRecords}
use Rattle.page.specs.Pieces.{pieces}
use Rattle.page.specs.File.{records}

-- the upper 16 bits that are in force, if any are
abbrev pub in_force : CodeOption ℕ → Option ℕ
in_force None = none
in_force (Some upper) = some upper

-- the records of the pieces from a place on, unless the end record was given
unfoldable pub from_place : (first : ℕ) (flags : List ℕ) (place : ℕ) (latest : CodeOption ℕ) (finished : Bool) → List Record
unfolding records pieces
from_place first flags place latest finished =
    if finished then [] else
    records first (in_force latest) (pieces first place none (drop place flags))

abbrev pub to_come : FileRecords → List Record
to_come w = from_place w.first (flags w.places w.marks.now) w.place w.latest w.finished
