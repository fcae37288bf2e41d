-- What the loader's private functions promise each other, and what its answers to a line tell.
-- Assumes nothing.
use Rattle.std.specs.Prelude.{◌≡◌, ℕ, ◌+◌, ◌≤◌, Bool, true, false, List, [], ◌∷◌, length}
use Rattle.std.proofs.Math.Option.{some}
use Rattle.record.specs.Meaning.{Meaning}
use Rattle.record.specs.Record.{meant}
use Rattle.record.specs.declared.Record.{Record}
use Rattle.reader.specs.Along.{unread}
use Rattle.steps.specs.Steps.{Placement, Start, starts, Step}
use Rattle.steps.specs.Taken.{Went, on, stopped, acted}
use Rattle.loader.specs.declared.Base.{Base as CodeBase}
use Rattle.loader.specs.declared.Base.TheVariants.{Segment, Linear}
use Rattle.steps.specs.Aliases.{Stated as CodeStart}
use Rattle.steps.specs.declared.Tally.{Tally as CodeTally}
use Rattle.loader.specs.declared.Taken.{Taken}
use Rattle.loader.specs.declared.Taken.TheVariants.{On, Stop}
use Rattle.loader.specs.declared.Walk.{Walk}
use Rattle.intel.specs.Placing.{Base, segment, linear, base_behind, does}
unfoldable pub use Rattle.intel.specs.Placing.{stated_by}
use Rattle.intel.specs.Records.{LiesIn, left, UnderWay}
use Rattle.steps.specs.Told.{told_start, tallied, told_loading}
use Rattle.window.specs.Window.{within, window}
use Rattle.window.specs.Promises.{Painted}

-- ---- one record

abbrev pub based : CodeBase → Base
based (Segment number) = segment number
based (Linear number) = linear number

-- the base after a record, wherever its payload lies
pub record Behind (base : CodeBase) (x : Record) (r : CodeBase) : Type 0 where
  pub base_is : (pool : List ℕ) → based r ≡ base_behind (based base) (meant x pool)

-- what a line came to, with what it stated, as the definitions have it
abbrev pub told_taken : Taken → (stated : List Placement) → Went Base
told_taken (On base tally) ps = on (record { state = based base; tally = tallied tally; stated = ps })
told_taken (Stop l) ps = stopped (told_loading l) ps

-- what a record has stated then: nothing if it has stopped the load
abbrev pub states : Base → Meaning → Taken → List Placement
states base m (On after tally) = stated_by base m
states base m (Stop l) = []

-- a record on line n came to this
pub record Met (inside : ℕ → Bool) (n : ℕ) (base : CodeBase) (tally : CodeTally) (m : Meaning) (t : Taken) : Type 0 where
  pub comes_to : acted inside n (base_behind (based base) m) (tallied tally) [] (does (based base) m) ≡ told_taken t (states (based base) m t)

-- so it is, wherever the record's payload lies
abbrev pub Meets : (inside : ℕ → Bool) (n : ℕ) (base : CodeBase) (tally : CodeTally) (x : Record) → Taken → Type 0
Meets inside n base tally x t = (pool : List ℕ) → LiesIn x pool → Met inside n base tally (meant x pool) t

-- what a start comes to that a record on line n states, with the base after it: it is kept or refused
pub record MeetsStart (n : ℕ) (base : CodeBase) (tally : CodeTally) (stated : CodeStart) (t : Taken) : Type 0 where
  pub comes_to : (inside : ℕ → Bool) (s : Start) → told_start stated ≡ some s → acted inside n (based base) (tallied tally) [] (starts s ∷ []) ≡ told_taken t []

-- ---- a walk

-- the steps that it has still before it
abbrev pub ahead_of : Walk → (text : List ℕ) → List Step
ahead_of w text = left (based w.base) (unread w.state text)

-- how much is left to be said
abbrev pub left_of : Walk → (text : List ℕ) → ℕ
left_of w text = length (unread w.state text)

abbrev pub stands_in : Walk → (text : List ℕ) → Type 0
stands_in w text = UnderWay text w.state

-- so many data records were met, and there are still few enough to be counted
abbrev pub has_met : Walk → (text : List ℕ) → CodeTally → Type 0
has_met w text tally = tally.records + left_of w text ≤ length text

-- ---- one line by itself

-- a record on line n was taken: it came to this, and what it has stated then is painted in the window
pub record TookRecord (n : ℕ) (base : CodeBase) (tally : CodeTally) (x : Record) (pool : List ℕ) (first : ℕ) (page₀ marks₀ : List ℕ) (t : Taken) (page' marks' : List ℕ) : Type 0 where
  pub met : Met (within first (length page₀)) n base tally (meant x pool) t
  pub paints : Painted (window first (length page₀)) (states (based base) (meant x pool) t) page₀ marks₀ page' marks'

-- a data record was stored at once, so on any line it counts one more; or nothing changed
pub record PutWhole (base : CodeBase) (x : Record) (pool : List ℕ) (first : ℕ) (page₀ marks₀ : List ℕ) (r : Bool) (page' marks' : List ℕ) : Type 0 where
  pub took : r ≡ true → (n : ℕ) (tally : CodeTally)
      → TookRecord n base tally x pool first page₀ marks₀ (On base (record { records = tally.records + 1; start = tally.start })) page' marks'
  pub kept : r ≡ false → (page' ≡ page₀) × (marks' ≡ marks₀)
