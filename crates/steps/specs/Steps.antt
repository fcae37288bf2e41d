-- Steps and what they come to: bytes put at addresses, starts, counts, the end, refusals, and the first step that decides. Document 01, "Loader",
-- with row 17 of its table, and refusals 20 and 21 of document 02. Nothing here knows the form of a line: that is a source's matter (`Source`).
-- Assumes nothing.
use Rattle.std.specs.Prelude.{ℕ, suc, Bool, false, not, ◌&&◌, List, [], ◌∷◌, ◌++◌, eqb}
use Rattle.std.proofs.Math.Option.{Option, none, some}
use Rattle.digits.specs.Common.{or_else}
use Rattle.std.specs.Prelude.{if◌then◌else◌}
use Rattle.record.specs.Refusals.{Refusal, missing_end_of_file_record, outside_window, count_mismatch, start_conflict}

-- ---- steps

-- a byte at an address
pub record Placement : Type 0 where
  pub address : ℕ
  pub byte : ℕ

-- where a program starts: the registers CS and IP, or a linear address
pub data Start : Type 0 where
  cs_with_ip : (cs ip : ℕ) → Start
  linear_address : (address : ℕ) → Start

-- what a line does: it places bytes, it states a start, it states how many data records stand before it, it ends the text, or it is refused
pub data Action : Type 0 where
  places : (what : List Placement) → Action
  starts : (start : Start) → Action
  counts : (stated : ℕ) → Action
  finishes : Action
  fails : (r : Refusal) → Action

-- an action of the line with this number
pub data Step : Type 0 where
  step : (line : ℕ) (action : Action) → Step

-- ---- the answer

-- what an accepted load reports: how many data records it met, and the start that was stated, if one was
pub record Tally : Type 0 where
  pub records : ℕ
  pub start : Option Start

abbrev pub nothing_yet : Tally
nothing_yet = record { records = 0; start = none }

abbrev pub one_more : Tally → Tally
one_more t = record { records = suc t.records; start = t.start }

-- the first start that is stated is kept
abbrev pub started : Start → Tally → Tally
started s t = record { records = t.records; start = or_else t.start (some s) }

pub data Verdict : Type 0 where
  accepted : Tally → Verdict
  refused : Refusal → (line : ℕ) → Verdict

-- a line at which the load stops, and the verdict that it gives there
pub data Decision : Type 0 where
  by : (line : ℕ) (verdict : Verdict) → Decision

-- ---- what one step does

-- the address of the first placement that lies outside
unfoldable pub outside : (inside : ℕ → Bool) → List Placement → Option ℕ
outside inside [] = none
outside inside (p ∷ ps) = if inside p.address then outside inside ps else some p.address

-- two starts are the same if they are stated alike: CS with IP is never the same as a linear address
abbrev pub same_start : Start → Start → Bool
same_start (cs_with_ip cs ip) (cs_with_ip cs' ip') = eqb cs cs' && eqb ip ip'
same_start (cs_with_ip cs ip) (linear_address address) = false
same_start (linear_address address) (cs_with_ip cs ip) = false
same_start (linear_address address) (linear_address address') = eqb address address'

-- are both stated, and not the same?
abbrev pub differ : Option Start → Option Start → Bool
differ none second = false
differ (some s) none = false
differ (some s) (some s') = not (same_start s s')

-- a load goes on with a tally, or it stops with a verdict
pub data Turn : Type 0 where
  on : Tally → Turn
  stop : Verdict → Turn

-- a data record counts; a byte outside is refused with 17
abbrev pub at_data : (n : ℕ) → Option ℕ → Tally → Turn
at_data n none t = on (one_more t)
at_data n (some address) t = stop (refused (outside_window address) n)

-- a start that differs from the first is refused with 21
abbrev pub at_start : (n : ℕ) → Start → Tally → Turn
at_start n s t = if differ t.start (some s) then stop (refused start_conflict n) else on (started s t)

-- a count that is not the number of data records so far is refused with 20
abbrev pub at_count : (n : ℕ) → (stated : ℕ) → Tally → Turn
at_count n stated t = if eqb stated t.records then on t else stop (refused (count_mismatch stated t.records) n)

-- what an action of line n comes to, with this tally so far
unfoldable pub turn : (inside : ℕ → Bool) → Tally → (n : ℕ) → Action → Turn
unfolding outside
turn inside t n (places what) = at_data n (outside inside what) t
turn inside t n (starts s) = at_start n s t
turn inside t n (counts stated) = at_count n stated t
turn inside t n finishes = stop (accepted t)
turn inside t n (fails r) = stop (refused r n)

-- ---- what steps come to

-- a turn at line n, and what the later steps come to from a tally on
abbrev pub onward : (n : ℕ) → Turn → (Tally → Option Decision) → Option Decision
onward n (on t) later = later t
onward n (stop v) later = some (by n v)

-- the first step that decides, if one does, with this tally so far
unfoldable pub decision : (inside : ℕ → Bool) → Tally → List Step → Option Decision
unfolding turn
decision inside t [] = none
decision inside t (step n a ∷ steps) = onward n (turn inside t n a) (λ t'. decision inside t' steps)

-- with line 0 where no line decides: the text ends with no end record
unfoldable pub verdict : Option Decision → Verdict
verdict none = refused missing_end_of_file_record 0
verdict (some (by line v)) = v

-- the placements before the first step that ends the text or fails by itself, in order: meant for steps that are accepted
unfoldable pub stated : List Step → List Placement
stated [] = []
stated (step n (places what) ∷ steps) = what ++ stated steps
stated (step n (starts s) ∷ steps) = stated steps
stated (step n (counts c) ∷ steps) = stated steps
stated (step n finishes ∷ steps) = []
stated (step n (fails r) ∷ steps) = []
