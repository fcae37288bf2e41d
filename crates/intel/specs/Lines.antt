-- What the lines of Intel HEX say, state and count, and which line stops a reading. A line that passes lets it go on; a line that stops it gives a
-- verdict. `Placing` has the same as steps; that both agree is proved in `proofs/Reasons.antt`. The claim is proved in `proofs/Claims.antt`.
-- Assumes nothing.
use Rattle.std.specs.Prelude.{◌≡◌, ◌≢◌, ℕ, ◌+◌, Bool, true, false, List, [], ◌∷◌, ◌++◌}
use Rattle.std.proofs.Math.Option.{Option, none, some, get_or}
use Rattle.digits.specs.Common.{or_else, Every}
use Rattle.record.specs.Refusals.{Refusal, outside_window, start_conflict}
use Rattle.record.specs.Line.{Said, says, wrong, judge}
use Rattle.record.specs.Meaning.{Meaning, data_at, end_of_file, extended_segment, start_segment, extended_linear, start_linear, meaning}
use Rattle.steps.specs.Steps.{Placement, Start, cs_with_ip, linear_address, Tally, Verdict, accepted, refused}
use Rattle.steps.specs.Starts.{StartsAt}
use Rattle.steps.specs.Account.{Account, Among}
use Rattle.intel.specs.Placing.{Base, from_start, segment, linear, stated_by}

-- ---- records, bases and starts

-- the record that is said, if one is
unfoldable pub said_record : Said → Option Meaning
unfolding meaning
said_record (says kind address payload) = some (meaning kind address payload)
said_record (wrong r) = none

abbrev pub record_on : (line : List ℕ) → Option Meaning
record_on line = said_record (judge line)

-- the base that a type 02 or 04 sets
unfoldable pub sets : Option Meaning → Option Base
sets none = none
sets (some (data_at offset bytes)) = none
sets (some end_of_file) = none
sets (some (extended_segment number)) = some (segment number)
sets (some (start_segment cs ip)) = none
sets (some (extended_linear number)) = some (linear number)
sets (some (start_linear number)) = none

-- the latest base that lines set: a later one, if there is one, and else the first line's
unfoldable pub latest : List (List ℕ) → Option Base
unfolding sets said_record judge
latest [] = none
latest (line ∷ ls) = or_else (latest ls) (sets (record_on line))

-- the base in force after lines
unfoldable pub in_force : List (List ℕ) → Base
unfolding latest
in_force ahead = get_or (latest ahead) from_start

-- what a record, if there is one, states after these lines, by the base in force there
unfoldable pub states : (ahead : List (List ℕ)) → Option Meaning → List Placement
unfolding stated_by in_force
states ahead none = []
states ahead (some m) = stated_by (in_force ahead) m

-- how many of the lines are data records
unfoldable pub counts : Option Meaning → ℕ
counts none = 0
counts (some (data_at offset bytes)) = 1
counts (some end_of_file) = 0
counts (some (extended_segment number)) = 0
counts (some (start_segment cs ip)) = 0
counts (some (extended_linear number)) = 0
counts (some (start_linear number)) = 0

unfoldable pub data_records : List (List ℕ) → ℕ
unfolding counts said_record judge
data_records [] = 0
data_records (line ∷ ls) = counts (record_on line) + data_records ls

-- the start that a record states, if it states one
unfoldable pub starts : Option Meaning → Option Start
starts none = none
starts (some (data_at offset bytes)) = none
starts (some end_of_file) = none
starts (some (extended_segment number)) = none
starts (some (start_segment cs ip)) = some (cs_with_ip cs ip)
starts (some (extended_linear number)) = none
starts (some (start_linear number)) = some (linear_address number)

abbrev pub start_on : (line : List ℕ) → Option Start
start_on line = starts (record_on line)

-- what an accepted load reports of these lines
pub record Counted (tally : Tally) (ahead : List (List ℕ)) : Type 0 where
  pub records : tally.records ≡ data_records ahead
  pub start : StartsAt start_on ahead tally.start

-- a line after these does not stop a load: it is empty, or a record other than the end, with no byte outside and no start other than the first
pub data Passes (inside : ℕ → Bool) (ahead : List (List ℕ)) (line : List ℕ) : Type 0 where
  is_empty : line ≡ [] → Passes inside ahead line
  goes_on : (m : Meaning) → line ≢ [] → record_on line ≡ some m → m ≢ end_of_file
      → Every (λ (p : Placement). inside p.address ≡ true) (states ahead (some m))
      → ((s first : Start) → start_on line ≡ some s → StartsAt start_on ahead (some first) → s ≡ first) → Passes inside ahead line

-- what line n, after these, gives a load that stops at it: it is the end record, or it is refused, or it has a first byte outside, or it states a
-- start other than the first
pub data Stops (inside : ℕ → Bool) (ahead : List (List ℕ)) (line : List ℕ) (n : ℕ) : Verdict → Type 0 where
  the_end : (tally : Tally) → record_on line ≡ some end_of_file → Counted tally ahead → Stops inside ahead line n (accepted tally)
  no_record : (r : Refusal) → line ≢ [] → judge line ≡ wrong r → Stops inside ahead line n (refused r n)
  first_outside : (before after : List Placement) (p : Placement)
      → states ahead (record_on line) ≡ before ++ (p ∷ after) → Every (λ (q : Placement). inside q.address ≡ true) before
      → inside p.address ≡ false → Stops inside ahead line n (refused (outside_window p.address) n)
  start_differs : (s first : Start) → start_on line ≡ some s → StartsAt start_on ahead (some first) → s ≢ first
      → Stops inside ahead line n (refused start_conflict n)

-- what a load asks of a line of Intel HEX
abbrev pub account : (inside : ℕ → Bool) → Account
account inside = record { passes = Passes inside; stops = Stops inside; states = λ ahead line. states ahead (record_on line) }

-- the numbers of refusals that a line can give
abbrev pub line_refusals : List ℕ
line_refusals = 1 ∷ 2 ∷ 3 ∷ 4 ∷ 5 ∷ 6 ∷ 7 ∷ 8 ∷ 9 ∷ 17 ∷ 21 ∷ []

-- a line that stops a load with a refusal gives one of these: never 13, 16 or 23
abbrev pub LinesGive : Type 0
LinesGive = (inside : ℕ → Bool) (ahead : List (List ℕ)) (line : List ℕ) (n : ℕ) (v : Verdict) → Stops inside ahead line n v → Among line_refusals v
