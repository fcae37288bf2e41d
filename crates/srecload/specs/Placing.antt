-- S-records as a source of steps: what each line does, and where the bytes of a data record lie. Document 02, wish 9.
-- Assumes nothing.
use Rattle.std.specs.Prelude.{ℕ, ◌+◌, ◌%◌, ◌^◌, List, [], ◌∷◌, map, ◌==◌, nat_le}
use Rattle.std.specs.Prelude.{if◌then◌else◌}
use Rattle.record.specs.Line.{Said, says, wrong}
use Rattle.srec.specs.Line.{judge}
use Rattle.steps.specs.Steps.{Placement, linear_address, Action, places, starts, counts, finishes, fails, Step, step}
use Rattle.steps.specs.Source.{Source}
use Rattle.steps.specs.Runs.{spread}

-- what a record means: a header, data from an address on, how many data records stand before it, or the end with its address
pub data SMeaning : Type 0 where
  s_header : SMeaning
  s_data : (address : ℕ) (bytes : List ℕ) → SMeaning
  s_count : (stated : ℕ) → SMeaning
  s_end : (address : ℕ) → SMeaning

-- S0 is a header, S1 to S3 are data, S5 is a count, S7 to S9 are ends
unfoldable pub s_meaning : (kind address : ℕ) (payload : List ℕ) → SMeaning
s_meaning kind address payload =
    if kind == 0 then s_header else
    if nat_le kind 3 then s_data address payload else
    if kind == 5 then s_count address else
    s_end address

-- byte i of a data record
unfoldable pub s_address : (address i : ℕ) → ℕ
s_address address i = (address + i) % 2 ^ 32

-- the bytes of a data record, each at its address
abbrev pub s_placed : (address : ℕ) → List ℕ → List Placement
s_placed address bytes = spread (s_address address) 0 bytes

-- what a record states: a data record its bytes, any other nothing
unfoldable pub s_states : SMeaning → List Placement
unfolding spread s_address
s_states s_header = []
s_states (s_data address bytes) = s_placed address bytes
s_states (s_count stated) = []
s_states (s_end address) = []

-- what a record does: a header nothing; the end states its address as a start
unfoldable pub s_does : SMeaning → List Action
unfolding spread s_address
s_does s_header = []
s_does (s_data address bytes) = places (s_placed address bytes) ∷ []
s_does (s_count stated) = counts stated ∷ []
s_does (s_end address) = starts (linear_address address) ∷ finishes ∷ []

-- what is said on a line does that; a line that is refused fails
unfoldable pub s_act : Said → List Action
unfolding s_does s_meaning
s_act (says kind address payload) = s_does (s_meaning kind address payload)
s_act (wrong r) = fails r ∷ []

-- the source: no line changes how a later one is read, so there is one state
unfoldable pub s_records : Source Unit
unfolding s_act judge
s_records = record { beginning = tt; act = λ s line. s_act (judge line); next = λ s line. tt }

-- the steps of line n; an empty line has none
unfoldable pub line_steps : (n : ℕ) → (line : List ℕ) → List Step
unfolding s_act judge
line_steps n [] = []
line_steps n (c ∷ line) = map (step n) (s_act (judge (c ∷ line)))
