-- A text loaded in two passes, line by line, whatever its records are: what a walk through it promises for each line.
-- Assumes nothing.
use Rattle.std.specs.Prelude.{◌≡◌, ℕ, ◌<◌, Bool, List, [], Option, None, Some}
use Rattle.std.proofs.Math.Option
use Rattle.steps.specs.Steps.{Step, decision, verdict, stated}
use Rattle.steps.specs.Source.{Source, steps_of}
use Rattle.steps.specs.declared.Tally.{Tally}
use Rattle.steps.specs.Told.{tallied, told_loading}
use Rattle.window.specs.Load.{SamePainting}
use Rattle.window.specs.Loads.{LoadWindowUnique}
use Rattle.window.specs.Tables.{LoadTableUnique}
use Rattle.window.specs.declared.by_line.Turn.{Turn}
use Rattle.window.specs.declared.by_line.Turn.TheVariants.{On, Stop}

-- before the first line
abbrev pub no_tally : Tally
no_tally = record { records = 0; start = None }

-- a walk at the beginning of a text has all its steps before it
pub record Begun {W S : Type 0} (source : Source S) (stands_in : W → List ℕ → Type 0) (has_met : W → List ℕ → Tally → Type 0) (ahead : W → List ℕ → List Step) (w : W) (text : List ℕ) : Type 0 where
  pub stands : stands_in w text
  pub met : has_met w text no_tally
  pub all : ahead w text ≡ steps_of source text

-- a line was judged: the decision on what is left is the decision on what was left, or it is returned
pub record JudgedOn {W : Type 0} (stands_in : W → List ℕ → Type 0) (has_met : W → List ℕ → Tally → Type 0) (ahead : W → List ℕ → List Step) (left : W → List ℕ → ℕ)
    (inside : ℕ → Bool) (text : List ℕ) (w : W) (tally : Tally) (w' : W) (tally' : Tally) : Type 0 where
  pub stands : stands_in w' text
  pub met : has_met w' text tally'
  pub same : decision inside (tallied tally') (ahead w' text) ≡ decision inside (tallied tally) (ahead w text)
  pub less : left w' text < left w text

abbrev pub JudgedLine : {W : Type 0} (stands_in : W → List ℕ → Type 0) (has_met : W → List ℕ → Tally → Type 0) (ahead : W → List ℕ → List Step) (left : W → List ℕ → ℕ)
    (inside : ℕ → Bool) (text : List ℕ) (w : W) (tally : Tally) → Turn W → Type 0
JudgedLine stands_in has_met ahead left inside text w tally (On w' tally') = JudgedOn stands_in has_met ahead left inside text w tally w' tally'
JudgedLine stands_in has_met ahead left inside text w tally (Stop l) = told_loading l ≡ verdict (decision inside (tallied tally) (ahead w text))

-- a line was written: the walk goes on, or nothing more is stated
pub record WroteOn {W : Type 0} (stands_in : W → List ℕ → Type 0) (ahead : W → List ℕ → List Step) (left : W → List ℕ → ℕ)
    (site : ℕ → Option.Option ℕ) (text : List ℕ) (w : W) (page₀ marks₀ : List ℕ) (w' : W) (page' marks' : List ℕ) : Type 0 where
  pub stands : stands_in w' text
  pub less : left w' text < left w text
  pub same : SamePainting site (ahead w text) page₀ marks₀ (ahead w' text) page' marks'

abbrev pub WroteLine : {W : Type 0} (stands_in : W → List ℕ → Type 0) (ahead : W → List ℕ → List Step) (left : W → List ℕ → ℕ)
    (site : ℕ → Option.Option ℕ) (text : List ℕ) (w : W) (page₀ marks₀ : List ℕ) → Option W → (page' marks' : List ℕ) → Type 0
WroteLine stands_in ahead left site text w page₀ marks₀ (Some w') page' marks' = WroteOn stands_in ahead left site text w page₀ marks₀ w' page' marks'
WroteLine stands_in ahead left site text w page₀ marks₀ None page' marks' = (stated (ahead w text) ≡ []) × (page' ≡ page₀) × (marks' ≡ marks₀)

-- ---- no second answer, and no second page or marks, meets the contract of a load

abbrev pub LoadThroughWindowUnique : Type 1
LoadThroughWindowUnique = LoadWindowUnique

abbrev pub LoadThroughTableUnique : Type 1
LoadThroughTableUnique = LoadTableUnique
