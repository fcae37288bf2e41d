-- What the private functions of the crate promise each other.
-- Assumes nothing.
use Rattle.std.specs.Prelude.{◌≡◌, ℕ, suc, ◌+◌, ◌-◌, ◌≤◌, Bool, true, false, List, [], ◌∷◌, ◌++◌, map, length, take, drop}
use Rattle.std.proofs.Math.Option.{Option, none}
use Rattle.reader.specs.Lines.{lines}
use Rattle.srec.specs.declared.SRecord.{SRecord}
use Rattle.srec.specs.Record.{digit_of}
use Rattle.steps.specs.Steps.{Placement, places, counts, Step, step, Tally, decision, verdict, stated}
use Rattle.steps.specs.declared.Tally.{Tally as CodeTally}
use Rattle.steps.specs.Source.{steps}
use Rattle.steps.specs.Taken.{acted}
use Rattle.steps.specs.Told.{told_loading}
use Rattle.window.specs.Window.{within, window}
use Rattle.window.specs.Promises.{Painted}
use Rattle.srecload.specs.declared.Walk.{Walk}
use Rattle.srecload.specs.declared.Taken.{Taken}
use Rattle.srecload.specs.declared.Taken.TheVariants as taken
use Rattle.srecload.specs.Placing.{SMeaning, s_meaning, s_placed, s_does, s_records, line_steps}
use Rattle.srecload.specs.Taking.{told_taken}
use Rattle.std.specs.Prelude.{None}

-- ---- one record

-- what a record means whose data is these bytes
abbrev pub meant_with : SRecord → (bytes : List ℕ) → SMeaning
meant_with x bytes = s_meaning (digit_of x.kind) x.address bytes

-- what a record in a pool means
abbrev pub meant_in : SRecord → (pool : List ℕ) → SMeaning
meant_in x pool = meant_with x (take x.len (drop x.at pool))

-- its data lies in the pool
abbrev pub LiesIn : SRecord → (pool : List ℕ) → Type 0
LiesIn x pool = (x.at + x.len ≤ length pool) × (x.len ≤ 252)

-- ---- the first pass

-- before the end no start is stated: only data records are counted
abbrev pub so_far : (seen : ℕ) → Tally
so_far seen = record { records = seen; start = none }

-- steps that come before whatever follows: the load goes on from there, with so many data records seen
pub record Passed (inside : ℕ → Bool) (seen : ℕ) (s : List Step) (seen' : ℕ) : Type 0 where
  pub counted : seen' ≤ suc (seen)
  pub same : (rest : List Step) → decision inside (so_far seen') rest ≡ decision inside (so_far seen) (s ++ rest)

-- it goes on, or it stops with an answer
abbrev pub Met : (inside : ℕ → Bool) (seen : ℕ) (s : List Step) → Taken → Type 0
Met inside seen s (taken.On seen') = Passed inside seen s seen'
Met inside seen s (taken.Stop l) = (rest : List Step) → told_loading l ≡ verdict (decision inside (so_far seen) (s ++ rest))

-- a data record of line n, whatever its data is
abbrev pub MeetsData : (inside : ℕ → Bool) (n seen : ℕ) → SRecord → Taken → Type 0
MeetsData inside n seen x t = (bytes : List ℕ) → length bytes ≡ x.len → Met inside seen (step n (places (s_placed x.address bytes)) ∷ []) t

-- a count, in whatever window
abbrev pub MeetsCount : (n seen stated : ℕ) → Taken → Type 0
MeetsCount n seen stated t = (inside : ℕ → Bool) → Met inside seen (step n (counts stated) ∷ []) t

-- a record, whatever its data is
abbrev pub Meets : (inside : ℕ → Bool) (n seen : ℕ) → SRecord → Taken → Type 0
Meets inside n seen x t = (bytes : List ℕ) → length bytes ≡ x.len → Met inside seen (map (step n) (s_does (meant_with x bytes))) t

-- ---- a walk

-- the steps that it has still before it
abbrev pub ahead_of : Walk → (text : List ℕ) → List Step
ahead_of w text = steps s_records tt (suc w.line) (lines (drop w.position text))

-- how much of the text is left
abbrev pub left_of : Walk → (text : List ℕ) → ℕ
left_of w text = length text - w.position

-- no more lines are passed than bytes
pub record UnderWay (text : List ℕ) (w : Walk) : Type 0 where
  pub inside : w.position ≤ length text
  pub few : w.line ≤ w.position

abbrev pub stands_in : Walk → (text : List ℕ) → Type 0
stands_in w text = UnderWay text w

-- no start is stated, and no more data records are counted than lines are passed
pub record HasMet (w : Walk) (tally : CodeTally) : Type 0 where
  pub no_start : tally.start ≡ None
  pub counted : tally.records ≤ w.line

abbrev pub has_met : Walk → (text : List ℕ) → CodeTally → Type 0
has_met w text tally = HasMet w tally

-- ---- the second pass

-- steps were written: what they state is painted; where the text does not go on, they state nothing, and nothing after them is stated
pub record WroteSteps (site : ℕ → Option ℕ) (s : List Step) (page₀ marks₀ : List ℕ) (more : Bool) (page' marks' : List ℕ) : Type 0 where
  pub painted : Painted site (stated s) page₀ marks₀ page' marks'
  pub goes_on : more ≡ true → (rest : List Step) → stated (s ++ rest) ≡ stated s ++ stated rest
  pub ends : more ≡ false → (rest : List Step) → stated (s ++ rest) ≡ []
  pub kept : more ≡ false → (page' ≡ page₀) × (marks' ≡ marks₀)

-- a record was written, and a line, whatever its number
abbrev pub WroteRecord : (site : ℕ → Option ℕ) → SRecord → (pool page₀ marks₀ : List ℕ) (more : Bool) (page' marks' : List ℕ) → Type 0
WroteRecord site x pool page₀ marks₀ more page' marks' =
    (n : ℕ) → WroteSteps site (map (step n) (s_does (meant_in x pool))) page₀ marks₀ more page' marks'

abbrev pub WroteLine : (site : ℕ → Option ℕ) (line page₀ marks₀ : List ℕ) (more : Bool) (page' marks' : List ℕ) → Type 0
WroteLine site line page₀ marks₀ more page' marks' = (n : ℕ) → WroteSteps site (line_steps n line) page₀ marks₀ more page' marks'

-- ---- one line by itself

-- a record was taken as record of line n: it came to what the answer tells, and what it stated is painted
abbrev pub TookRecord : (inside : ℕ → Bool) (site : ℕ → Option ℕ) (n seen : ℕ) → SRecord → (pool page₀ marks₀ : List ℕ) → Taken → (page' marks' : List ℕ) → Type 0
TookRecord inside site n seen x pool page₀ marks₀ r page' marks' =
    (ps : List Placement) × (acted inside n tt (so_far seen) [] (s_does (meant_in x pool)) ≡ told_taken r ps) × Painted site ps page₀ marks₀ page' marks'

-- the same of one window
abbrev pub TookInWindow : (n seen : ℕ) → SRecord → (pool : List ℕ) (first : ℕ) (page₀ marks₀ : List ℕ) → Taken → (page' marks' : List ℕ) → Type 0
TookInWindow n seen x pool first page₀ marks₀ r page' marks' =
    TookRecord (within first (length page₀)) (window first (length page₀)) n seen x pool page₀ marks₀ r page' marks'

-- a data record was stored at once, so on any line it counts one more; or nothing changed
pub record PutWhole (x : SRecord) (pool : List ℕ) (first : ℕ) (page₀ marks₀ : List ℕ) (r : Bool) (page' marks' : List ℕ) : Type 0 where
  pub took : r ≡ true → (n seen : ℕ) → TookInWindow n seen x pool first page₀ marks₀ (taken.On (seen + 1)) page' marks'
  pub kept : r ≡ false → (page' ≡ page₀) × (marks' ≡ marks₀)
