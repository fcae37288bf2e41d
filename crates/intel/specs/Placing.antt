-- Intel's records as a source of steps: where the bytes of a data record lie, and what each line does. Document 01, "Loader", with the bases
-- and sums of document 02's second wish, and the starts of its tenth.
-- Assumes nothing.
use Rattle.std.specs.Prelude.{ℕ, ◌+◌, ◌*◌, ◌%◌, ◌^◌, List, [], ◌∷◌, ◌++◌, map}
use Rattle.record.specs.Line.{Said, says, wrong, judge}
use Rattle.record.specs.Meaning.{Meaning, data_at, end_of_file, extended_segment, start_segment, extended_linear, start_linear, meaning}
use Rattle.reader.specs.Row.{Numbered, on}
use Rattle.steps.specs.Steps.{Placement, cs_with_ip, linear_address, Action, places, starts, finishes, fails, Step, step, stated}
use Rattle.steps.specs.Source.{Source}
use Rattle.steps.specs.Source as source
use Rattle.steps.specs.Runs.{spread}

-- ---- bases

-- the base in force: a segment's, in which bytes wrap, or a linear one
pub data Base : Type 0 where
  from_segment : (base : ℕ) → Base
  from_linear : (base : ℕ) → Base

-- type 02 sets 16 times its number, type 04 65,536 times its number
abbrev pub segment : (number : ℕ) → Base
segment number = from_segment (16 * number)

abbrev pub linear : (number : ℕ) → Base
linear number = from_linear (65536 * number)

-- before any such record: the segment rule with base 0
abbrev pub from_start : Base
from_start = from_segment 0

-- byte i of a data record: in a segment the offset wraps at 65,536, under a linear base the sum wraps at 2^32
unfoldable pub byte_address : Base → (offset i : ℕ) → ℕ
byte_address (from_segment base) offset i = base + (offset + i) % 65536
byte_address (from_linear base) offset i = (base + offset + i) % 2 ^ 32

-- the bytes of a data record from byte i on, each at its address
abbrev pub placed : Base → (offset i : ℕ) → List ℕ → List Placement
placed base offset i bytes = spread (byte_address base offset) i bytes

-- what a record states at a base: a data record its bytes, any other nothing
unfoldable pub stated_by : Base → Meaning → List Placement
unfolding spread byte_address
stated_by base (data_at offset bytes) = placed base offset 0 bytes
stated_by base end_of_file = []
stated_by base (extended_segment number) = []
stated_by base (start_segment cs ip) = []
stated_by base (extended_linear number) = []
stated_by base (start_linear number) = []

-- the base behind a record: the latest of types 02 and 04 holds
unfoldable pub base_behind : Base → Meaning → Base
base_behind base (data_at offset bytes) = base
base_behind base end_of_file = base
base_behind base (extended_segment number) = segment number
base_behind base (start_segment cs ip) = base
base_behind base (extended_linear number) = linear number
base_behind base (start_linear number) = base

-- ---- steps

-- what a record does at a base: extension records do nothing
unfoldable pub does : Base → Meaning → List Action
unfolding spread byte_address
does base (data_at offset bytes) = places (placed base offset 0 bytes) ∷ []
does base end_of_file = finishes ∷ []
does base (extended_segment number) = []
does base (start_segment cs ip) = starts (cs_with_ip cs ip) ∷ []
does base (extended_linear number) = []
does base (start_linear number) = starts (linear_address number) ∷ []

-- what is said on a line does that; a line that is refused fails
unfoldable pub act : Base → Said → List Action
unfolding does meaning
act base (says kind address payload) = does base (meaning kind address payload)
act base (wrong r) = fails r ∷ []

-- the base after it
unfoldable pub base_after : Base → Said → Base
unfolding base_behind meaning
base_after base (says kind address payload) = base_behind base (meaning kind address payload)
base_after base (wrong r) = base

-- the source, where bytes are placed by this function of the base in force
unfoldable pub intel_by : (Base → Base) → Source Base
unfolding act base_after judge
intel_by f = record { beginning = from_start; act = λ base line. act (f base) (judge line); next = λ base line. base_after base (judge line) }

-- Intel's records: by the base itself
abbrev pub intel : Source Base
intel = intel_by (λ base. base)

-- a text's steps
abbrev pub steps_of : List ℕ → List Step
steps_of text = source.steps_of intel text

-- what an accepted text states: (address, byte), in order, before its end record
abbrev pub placements : List ℕ → List Placement
placements text = stated (source.steps_of intel text)

-- the steps of a row of sayings, from a base on
unfoldable pub along : (Base → Base) → Base → List Numbered → List Step
unfolding act base_after
along f base [] = []
along f base (on n said ∷ row) = map (step n) (act (f base) said) ++ along f (base_after base said) row
