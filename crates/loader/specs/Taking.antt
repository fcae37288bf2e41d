-- One line of Intel HEX taken into a window: its records as a source, in a line as `window` takes it.
-- Assumes nothing.
use Rattle.std.specs.Prelude.{ℕ, List}
use Rattle.steps.specs.declared.LoaderError.TheVariants.{BadWindow}
use Rattle.steps.specs.declared.Tally.{Tally}
use Rattle.steps.specs.Told.{tallied}
use Rattle.window.specs.Taking.{TakeLineOf}
use Rattle.intel.specs.Placing.{intel}
use Rattle.loader.specs.declared.Base.{Base}
use Rattle.loader.specs.declared.Taken.{Taken}
use Rattle.loader.specs.declared.Taken.TheVariants.{Stop}
use Rattle.loader.specs.Helpers.{based, told_taken}
use Rattle.steps.specs.Aliases.{refuse}

-- the contract of `take_line`
abbrev pub TakeLine : (line : List ℕ) (n : ℕ) → Base → Tally → (first : ℕ) (page₀ marks₀ : List ℕ) → Taken → (page' marks' : List ℕ) → Type 0
TakeLine line n base tally first page₀ marks₀ r page' marks' =
    TakeLineOf intel told_taken (Stop (refuse BadWindow 0)) n (based base) (tallied tally) line first page₀ marks₀ r page' marks'
