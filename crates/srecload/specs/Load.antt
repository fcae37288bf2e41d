-- A text of S-records loaded through one window: its records as a source, in a load as `window` has it.
-- Assumes nothing.
use Rattle.std.specs.Prelude.{ℕ, List}
use Rattle.std.proofs.Math.Option.{Option}
use Rattle.steps.specs.Aliases.{Loading}
use Rattle.steps.specs.Steps.{Placement, Step, Decision, stated}
use Rattle.steps.specs.Source as source
use Rattle.steps.specs.Sites.{Loaded}
use Rattle.window.specs.Load.{stopping_by_window, load_window, LoadWindow}
use Rattle.srecload.specs.Placing.{s_records}

-- a text's steps
abbrev pub steps_of : List ℕ → List Step
steps_of text = source.steps_of s_records text

-- what an accepted text states: (address, byte), in order, before its end
abbrev pub placements : List ℕ → List Placement
placements text = stated (source.steps_of s_records text)

-- where and how a text stops a load: before the first line if the window is refused, else at the first line that decides, if one does
abbrev pub stopping : List ℕ → (first : ℕ) (page marks : List ℕ) → Option Decision
stopping text first page marks = stopping_by_window s_records text first page marks

abbrev pub load : List ℕ → (first : ℕ) (page marks : List ℕ) → Loaded
load text first page marks = load_window s_records text first page marks

-- the contract of `load_srecords`
abbrev pub LoadSRecords : (text : List ℕ) (first : ℕ) (page₀ marks₀ : List ℕ) → Loading → (page' marks' : List ℕ) → Type 0
LoadSRecords text first page₀ marks₀ r page' marks' = LoadWindow s_records text first page₀ marks₀ r page' marks'
