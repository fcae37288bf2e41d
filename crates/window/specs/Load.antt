-- A text loaded through one window, whatever source reads it, into a page with packed marks. Document 01, "Loader", and document 02, wish 7.
-- How marks are packed stands in `Marks` of the crate `marks`.
-- Assumes nothing.
use Rattle.std.specs.Prelude.{ℕ, ◌≡◌, List, map, length}
use Rattle.std.proofs.Math.Option.{Option}
use Rattle.marks.specs.Marks.{bits}
use Rattle.steps.specs.Aliases.{Loading}
use Rattle.steps.specs.Steps.{Step, Decision, stated}
use Rattle.steps.specs.Source.{Source, steps_of}
use Rattle.steps.specs.Sites.{Room, Loaded, stopping_by, stopping_in, painted}
use Rattle.steps.specs.Packed.{load_packed}
use Rattle.steps.specs.Runs.{as_mark}
use Rattle.steps.specs.Told.{told_loading}
use Rattle.window.specs.Window.{one_window}
use Rattle.window.specs.Promises.{RowKept}

-- the window of a page and marks, from the address `first` on
abbrev pub room_of : (first : ℕ) (page marks : List ℕ) → Room
room_of first page marks = one_window first (length page) (length marks)

-- where and how a text stops a load: before the first line if the window is refused, else at the first line that decides, if one does
unfoldable pub stopping_by_window : {S : Type 0} → Source S → List ℕ → (first : ℕ) (page marks : List ℕ) → Option Decision
unfolding stopping_by one_window steps_of
stopping_by_window src text first page marks = stopping_in (room_of first page marks) (steps_of src text)

unfoldable pub load_window : {S : Type 0} → Source S → List ℕ → (first : ℕ) (page marks : List ℕ) → Loaded
unfolding load_packed one_window
load_window src text first page marks = load_packed src (room_of first page marks) text page marks

-- the contract of a function that loads a text of this source
pub record LoadWindow {S : Type 0} (src : Source S) (text : List ℕ) (first : ℕ) (page₀ marks₀ : List ℕ) (r : Loading) (page' marks' : List ℕ) : Type 0 where
  pub answer : told_loading r ≡ (load_window src text first page₀ marks₀).answer
  pub page : page' ≡ (load_window src text first page₀ marks₀).page
  pub marks : marks' ≡ (load_window src text first page₀ marks₀).marks

-- what is stated from here on, painted on page and marks as they are, is what was stated from there on painted on them as they were
pub record SamePainting (site : ℕ → Option ℕ) (s₀ : List Step) (page₀ marks₀ : List ℕ) (s : List Step) (page' marks' : List ℕ) : Type 0 where
  pub size : length page' ≡ length page₀
  pub page : painted site 0 (stated s) page' ≡ painted site 0 (stated s₀) page₀
  pub marks : painted site 0 (map as_mark (stated s)) (bits marks') ≡ painted site 0 (map as_mark (stated s₀)) (bits marks₀)
  pub row : RowKept marks₀ marks'
