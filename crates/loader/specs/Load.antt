-- A text of Intel HEX loaded through one window: its records as a source, which `Placing` of `intel` has, in a load as `window` has it.
-- Assumes nothing.
use Rattle.std.specs.Prelude.{ℕ, List}
use Rattle.std.proofs.Math.Option.{Option}
use Rattle.steps.specs.Aliases.{Loading}
use Rattle.steps.specs.Steps.{Decision}
use Rattle.steps.specs.Sites.{Loaded}
use Rattle.window.specs.Load.{stopping_by_window, load_window, LoadWindow}
use Rattle.intel.specs.Placing.{intel}

-- where and how a text stops a load: before the first line if the window is refused, else at the first line that decides, if one does
abbrev pub stopping : List ℕ → (first : ℕ) (page marks : List ℕ) → Option Decision
stopping text first page marks = stopping_by_window intel text first page marks

abbrev pub load : List ℕ → (first : ℕ) (page marks : List ℕ) → Loaded
load text first page marks = load_window intel text first page marks

-- the contract of `load`
abbrev pub Load : (text : List ℕ) (first : ℕ) (page₀ marks₀ : List ℕ) → Loading → (page' marks' : List ℕ) → Type 0
Load text first page₀ marks₀ r page' marks' = LoadWindow intel text first page₀ marks₀ r page' marks'
