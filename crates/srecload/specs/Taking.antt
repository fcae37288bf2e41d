-- One line of S-records taken into a window: what the call answers, and what page and marks hold then.
-- Assumes nothing.
use Rattle.std.specs.Prelude.{◌≡◌, ℕ, ◌+◌, ◌^◌, Bool, true, false, ◌||◌, List, length, ◌==◌}
use Rattle.std.proofs.Math.Option.{none}
use Rattle.steps.specs.declared.LoaderError.TheVariants.{BadWindow}
use Rattle.steps.specs.Steps.{Placement}
use Rattle.steps.specs.Taken.{Went, on, stopped}
use Rattle.steps.specs.Told.{told_loading}
use Rattle.window.specs.Window.{unfit}
use Rattle.window.specs.Taking.{TakesLine}
use Rattle.srecload.specs.declared.Taken.{Taken}
use Rattle.srecload.specs.declared.Taken.TheVariants.{On, Stop}
use Rattle.srecload.specs.Placing.{s_records}
use Rattle.steps.specs.Aliases.{refuse}

-- what an answer tells of a line that stated these placements
abbrev pub told_taken : Taken → List Placement → Went Unit
told_taken (On n) ps = on (record { state = tt; tally = record { records = n; start = none }; stated = ps })
told_taken (Stop l) ps = stopped (told_loading l) ps

-- the window is refused, or the count can grow no more
abbrev pub closed : (seen first page marks : ℕ) → Bool
closed seen first page marks = unfit first page marks || seen + 1 == 2 ^ 64

-- the contract of `take_line`
pub record TakeLine (line : List ℕ) (number seen first : ℕ) (page₀ marks₀ : List ℕ) (r : Taken) (page' marks' : List ℕ) : Type 0 where
  pub refused : closed seen first (length page₀) (length marks₀) ≡ true → (r ≡ Stop (refuse BadWindow 0)) × (page' ≡ page₀) × (marks' ≡ marks₀)
  pub taken : closed seen first (length page₀) (length marks₀) ≡ false
      → TakesLine s_records number tt (record { records = seen; start = none }) line first page₀ marks₀ (told_taken r) page' marks'
