-- The two passes of any walk: each line hands on that what is left comes to the same as the whole, and at the end nothing is left.
-- Assumes nothing.
use Rattle.std.proofs.Common.{◌≡◌, ℕ, Bool, List, length, refl, ap, ◌∙◌}
use mathlib.Core.Option.{Option}
use Rattle.std.specs.Prelude.{None}
use Rattle.steps.specs.Steps.{Step, nothing_yet, decision, verdict, stated}
use Rattle.steps.specs.Source.{Source, steps_of}
use Rattle.steps.specs.Aliases.{Loading}
use Rattle.steps.specs.declared.Tally.{Tally}
use Rattle.steps.specs.Told.{tallied, told_loading}
use Rattle.window.specs.Promises.{Painted}
use Rattle.window.specs.Load.{SamePainting}
use Rattle.window.proofs.Loads.{painting_start, painting_on, painting_end, load_window_unique}
use Rattle.window.proofs.Tables.{load_table_unique}
use Rattle.window.specs.LineByLine.{no_tally, Begun, JudgedOn, WroteOn, WroteLine, LoadThroughWindowUnique, LoadThroughTableUnique}

module _ {W S : Type 0} (source : Source S) (stands_in : W → List ℕ → Type 0) (has_met : W → List ℕ → Tally → Type 0) (ahead : W → List ℕ → List Step) (left : W → List ℕ → ℕ) where
  -- ---- the first pass

  pub record Judging (inside : ℕ → Bool) (text pool : List ℕ) (w : W) (tally : Tally) : Type 0 where
    pub stands : stands_in w text
    pub met : has_met w text tally
    pub room : length pool ≡ 255
    pub same : decision inside (tallied tally) (ahead w text) ≡ decision inside nothing_yet (steps_of source text)

  module _ (inside : ℕ → Bool) (text pool : List ℕ) where
    pub judging_start : (w : W) → Begun source stands_in has_met ahead w text → length pool ≡ 255 → Judging inside text pool w no_tally
    judging_start w b l = record { stands = b.stands; met = b.met; room = l; same = ap (decision inside nothing_yet) b.all }

    module _ (w : W) (tally : Tally) (j : Judging inside text pool w tally) where
      pub judging_again : (w' : W) (tally' : Tally) → JudgedOn stands_in has_met ahead left inside text w tally w' tally' → (pool' : List ℕ) → length pool' ≡ length pool
          → Judging inside text pool' w' tally'
      judging_again w' tally' o pool' l = record { stands = o.stands; met = o.met; room = l ∙ j.room; same = o.same ∙ j.same }

      pub judging_end : (l : Loading) → told_loading l ≡ verdict (decision inside (tallied tally) (ahead w text)) → told_loading l ≡ verdict (decision inside nothing_yet (steps_of source text))
      judging_end l e = e ∙ ap verdict j.same

  -- ---- the second pass

  pub record Writing (site : ℕ → Option ℕ) (text page₀ marks₀ page marks pool : List ℕ) (w : W) : Type 0 where
    pub stands : stands_in w text
    pub room : length pool ≡ 255
    pub sizes : length marks ≡ length marks₀
    pub same : SamePainting site (steps_of source text) page₀ marks₀ (ahead w text) page marks

  module _ (site : ℕ → Option ℕ) (text page₀ marks₀ : List ℕ) where
    pub writing_start : (pool : List ℕ) (w : W) → Begun source stands_in has_met ahead w text → length pool ≡ 255 → Writing site text page₀ marks₀ page₀ marks₀ pool w
    writing_start pool w b l = record { stands = b.stands; room = l; sizes = refl; same = rw b.all (painting_start site (steps_of source text) page₀ marks₀) }

    module _ (page marks pool : List ℕ) (w : W) (s : Writing site text page₀ marks₀ page marks pool w) (page' marks' : List ℕ) where
      pub writing_again : (w' : W) → WroteOn stands_in ahead left site text w page marks w' page' marks' → (pool' : List ℕ) → length pool' ≡ length pool → length marks' ≡ length marks
          → Writing site text page₀ marks₀ page' marks' pool' w'
      writing_again w' n pool' l lm =
          record {
            stands = n.stands;
            room = l ∙ s.room;
            sizes = lm ∙ s.sizes;
            same = painting_on site (steps_of source text) (ahead w text) (ahead w' text) page₀ marks₀ page marks page' marks' s.same n.same;
          }

      pub writing_end : WroteLine stands_in ahead left site text w page marks None page' marks' → Painted site (stated (steps_of source text)) page₀ marks₀ page' marks'
      writing_end (n, p, m) = rw (p, m) (painting_end site (steps_of source text) (ahead w text) page₀ marks₀ page marks s.same n)

-- ---- a load's contract has one answer

pub load_through_window_unique : LoadThroughWindowUnique
load_through_window_unique = load_window_unique

pub load_through_table_unique : LoadThroughTableUnique
load_through_table_unique = load_table_unique
