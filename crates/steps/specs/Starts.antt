-- The start that lines state, and when two starts are the same, said without computing. A format says which start a line states, if it states one.
-- Each claim is proved in `proofs/Starts.antt`: the same name, in small letters.
-- Assumes nothing.
use Rattle.std.specs.Prelude.{◌≡◌, ◌↔◌, ◌≢◌, ℕ, true, List, [], ◌∷◌, ◌++◌}
use Rattle.std.proofs.Math.Option.{Option, none, some}
use Rattle.digits.specs.Common.{or_else, Every}
use Rattle.steps.specs.Steps.{Start, differ}

-- the first start that lines state, if one does
unfoldable pub first_start : (start_on : List ℕ → Option Start) → List (List ℕ) → Option Start
first_start start_on [] = none
first_start start_on (line ∷ ls) = or_else (start_on line) (first_start start_on ls)

-- the start of lines: none if no line states a start, and else the one that the first such line states
pub data StartsAt (start_on : List ℕ → Option Start) (ls : List (List ℕ)) : Option Start → Type 0 where
  nowhere : Every (λ (line : List ℕ). start_on line ≡ none) ls → StartsAt start_on ls none
  there : (before : List (List ℕ)) (line : List ℕ) (after : List (List ℕ)) (s : Start) → ls ≡ before ++ (line ∷ after)
      → Every (λ (earlier : List ℕ). start_on earlier ≡ none) before → start_on line ≡ some s → StartsAt start_on ls (some s)

-- `first_start` is the start of lines, and nothing else is
abbrev pub StartsAtMadeSo : Type 0
StartsAtMadeSo = (start_on : List ℕ → Option Start) (ls : List (List ℕ)) → StartsAt start_on ls (first_start start_on ls)

abbrev pub StartsAtOnlySo : Type 0
StartsAtOnlySo = (start_on : List ℕ → Option Start) (ls : List (List ℕ)) (o : Option Start) → StartsAt start_on ls o → o ≡ first_start start_on ls

-- a start differs from the first exactly if one was stated that is not equal to it
abbrev pub DifferSays : Type 0
DifferSays = (first : Option Start) (s : Start) → (differ first (some s) ≡ true) ↔ ((x : Start) × (first ≡ some x) × (s ≢ x))
