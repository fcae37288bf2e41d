-- One line of a text taken into a window, whatever source reads it: what it comes to, and what page and marks hold then.
-- Assumes nothing.
use Rattle.std.specs.Prelude.{ℕ, ◌+◌, ◌^◌, ◌≡◌, Bool, true, false, ◌||◌, List, [], eqb, length}
use Rattle.steps.specs.Steps.{Placement, Tally}
use Rattle.steps.specs.Source.{Source}
use Rattle.steps.specs.Taken.{Went, at_line}
use Rattle.window.specs.Window.{within, window, unfit}
use Rattle.window.specs.Promises.{Painted}

-- line n, from this state and tally on, came to what `told` says of the placements that it stated, and they are painted on page and marks
pub record TakesLine {S : Type 0} (src : Source S) (n : ℕ) (state : S) (tally : Tally) (line : List ℕ) (first : ℕ) (page₀ marks₀ : List ℕ) (told : List Placement → Went S) (page' marks' : List ℕ) : Type 0 where
  pub stated : List Placement
  pub comes_to : at_line src (within first (length page₀)) n (record { state = state; tally = tally; stated = [] }) line ≡ told stated
  pub paints : Painted (window first (length page₀)) stated page₀ marks₀ page' marks'

-- the window is refused, or a tally of so many records can count no more
abbrev pub closed : (records first page marks : ℕ) → Bool
closed records first page marks = unfit first page marks || eqb (records + 1) (2 ^ 64)

-- the contract of a function that takes a line of this source. It answers in R: `told` says what an answer tells of the placements that the line stated,
-- and `bad` is the answer where nothing can be taken
pub record TakeLineOf {S R : Type 0} (src : Source S) (told : R → List Placement → Went S) (bad : R) (n : ℕ) (state : S) (tally : Tally) (line : List ℕ) (first : ℕ) (page₀ marks₀ : List ℕ) (r : R) (page' marks' : List ℕ) : Type 0 where
  pub refused : closed tally.records first (length page₀) (length marks₀) ≡ true → (r ≡ bad) × (page' ≡ page₀) × (marks' ≡ marks₀)
  pub taken : closed tally.records first (length page₀) (length marks₀) ≡ false → TakesLine src n state tally line first page₀ marks₀ (told r) page' marks'
