-- The line at which a load stops, said of a text's lines. A format says of a line after others whether it passes, with which verdict it stops a
-- load, and what it states. The rest is the same for every format.
-- Assumes nothing.
use Rattle.std.specs.Prelude.{◌≡◌, ℕ, suc, Bool, true, false, ◌||◌, List, [], ◌∷◌, ◌++◌, eqb, length}
use Rattle.record.specs.Refusals.{number_of}
use Rattle.steps.specs.Steps.{Placement, Tally, Verdict, accepted, refused}

-- what a format says of a line after others: it does not stop a load; as line n it stops a load with a verdict; these are the placements that it
-- states
pub record Account : Type 1 where
  pub passes : (ahead : List (List ℕ)) (line : List ℕ) → Type 0
  pub stops : (ahead : List (List ℕ)) (line : List ℕ) (n : ℕ) → Verdict → Type 0
  pub states : (ahead : List (List ℕ)) (line : List ℕ) → List Placement

-- lines that all pass, one after the other
abbrev pub AllPass : Account → (ahead ls : List (List ℕ)) → Type 0
AllPass a ahead [] = Unit
AllPass a ahead (line ∷ ls) = a.passes ahead line × AllPass a (ahead ++ (line ∷ [])) ls

-- what lines state, one after the other
unfoldable pub all_states : (states : (ahead : List (List ℕ)) (line : List ℕ) → List Placement) → (ahead ls : List (List ℕ)) → List Placement
all_states states ahead [] = []
all_states states ahead (line ∷ ls) = states ahead line ++ all_states states (ahead ++ (line ∷ [])) ls

-- line n of the lines of a text stops the load: each line before it passes; if it accepts, what the text states is what those lines state
pub record Decided (a : Account) (ls : List (List ℕ)) (placements : List Placement) (n : ℕ) (v : Verdict) : Type 0 where
  pub ahead : List (List ℕ)
  pub line : List ℕ
  pub later : List (List ℕ)
  pub whole : ls ≡ ahead ++ (line ∷ later)
  pub number : n ≡ suc (length ahead)
  pub pass : AllPass a [] ahead
  pub stops : a.stops ahead line n v
  pub stated : (tally : Tally) → v ≡ accepted tally → placements ≡ all_states a.states [] ahead

-- a refusal has one of these numbers
abbrev pub one_of : List ℕ → ℕ → Bool
one_of [] n = false
one_of (x ∷ xs) n = eqb n x || one_of xs n

abbrev pub Among : (numbers : List ℕ) → Verdict → Type 0
Among numbers (accepted tally) = Unit
Among numbers (refused r line) = one_of numbers (number_of r) ≡ true
