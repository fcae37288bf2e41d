-- A record as the reader hands it back, with its payload in a pool, and the steps of what is said on lines.
-- Assumes nothing.
use Rattle.std.specs.Prelude.{ℕ, ◌≤◌, ◌≡◌, List, map, length}
use Rattle.record.specs.Meaning.{Meaning}
use Rattle.record.specs.Record.{meant, Inside}
use Rattle.record.specs.Written.{payload_of}
use Rattle.record.specs.declared.Record.{Record}
use Rattle.record.specs.declared.Record.TheVariants.{Data, EndOfFile, ExtendedSegmentAddress, StartSegmentAddress, ExtendedLinearAddress, StartLinearAddress}
use Rattle.reader.specs.declared.State.{State}
use Rattle.reader.specs.Row.{Numbered}
use Rattle.reader.specs.Text.{default_options}
use Rattle.reader.specs.Along.{Countable}
use Rattle.steps.specs.Steps.{Step, step}
use Rattle.intel.specs.Placing.{Base, does, along}

-- a record's payload is no longer than a line can say
abbrev pub Short : Record → Type 0
Short (Data offset at len) = len ≤ 255
Short EndOfFile = Unit
Short (ExtendedSegmentAddress number) = Unit
Short (StartSegmentAddress cs ip) = Unit
Short (ExtendedLinearAddress number) = Unit
Short (StartLinearAddress number) = Unit

-- and it lies in the pool
abbrev pub LiesIn : Record → (pool : List ℕ) → Type 0
LiesIn x pool = Inside x (length pool) × (length (payload_of (meant x pool)) ≤ 255)

-- what a record does on line n
abbrev pub does_on : (line : ℕ) → Base → Meaning → List Step
does_on n base m = map (step n) (does base m)

-- the steps of sayings, from a base on
abbrev pub left : Base → List Numbered → List Step
left base row = along (λ b. b) base row

-- where a reader with both stops on stands in a text that it was given from its beginning
pub record UnderWay (text : List ℕ) (s : State) : Type 0 where
  pub options : s.options ≡ default_options
  pub countable : Countable s text
