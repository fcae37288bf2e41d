-- The same without a function, by the decision of a load over the lines from where a dump begins: which lines are a dump, which are skipped, and
-- what is said. That `listen` is this is claimed in `Claims`.
-- Assumes nothing.
use Rattle.std.specs.Prelude.{ℕ, ◌≡◌, ◌≢◌, Bool, true, false, List, [], ◌∷◌, ◌++◌, drop}
use Rattle.std.proofs.Math.Option.{none, some}
use Rattle.digits.specs.Common.{Every}
use Rattle.steps.specs.Steps.{Step, nothing_yet, Verdict, accepted, refused, by, decision, stated}
use Rattle.steps.specs.Source.{Source, steps}
use Rattle.listen.specs.Listen.{Mode, front, within, skipping, Saying, said, reaching, is_end}

-- the steps of a dump that begins with the first of these lines
abbrev pub dump_steps : {S : Type 0} → Source S → List (List ℕ) → List Step
dump_steps src ls = steps src src.beginning 1 ls

-- none of these lines is an end record
abbrev pub NoneEnds : {S : Type 0} → Source S → List (List ℕ) → Type 0
NoneEnds src ls = Every (λ (line : List ℕ). is_end src line ≡ false) ls

-- a place between two lines: a dump begins here, a dump is not decided yet, or it is not known where the next one begins
pub data Place : Type 0 where
  beginning : Place
  midway : Place
  unknown : Place

-- the place after a dump
abbrev pub place_after : Verdict → Place
place_after (accepted t) = beginning
place_after (refused r n) = unknown

-- where a listener stands
abbrev pub place_of : {S : Type 0} → Mode S → Place
place_of front = beginning
place_of (within n st) = midway
place_of skipping = unknown

-- from a place on these lines are heard, this is said, and that is the place after them
pub data HeardAs {S : Type 0} (src : Source S) (inside : ℕ → Bool) : (from : Place) → List (List ℕ) → List Saying → (to : Place) → Type 0 where
  -- no line, at a beginning
  no_line : HeardAs src inside beginning [] [] beginning
  -- an empty line before a dump belongs to none
  empty_line : (ls : List (List ℕ)) (ss : List Saying) (to : Place)
      → HeardAs src inside beginning ls ss to → HeardAs src inside beginning ([] ∷ ls) ss to
  -- a dump that none of its lines decides
  undecided : (line : List ℕ) (ls : List (List ℕ)) → line ≢ []
      → decision inside nothing_yet (dump_steps src (line ∷ ls)) ≡ none → HeardAs src inside beginning (line ∷ ls) [] midway
  -- a dump that its line n decides, as a load does of the lines from here on: what follows begins after line n
  decided : (line : List ℕ) (ls : List (List ℕ)) (n : ℕ) (v : Verdict) (ss : List Saying) (to : Place) → line ≢ []
      → decision inside nothing_yet (dump_steps src (line ∷ ls)) ≡ some (by n v)
      → HeardAs src inside (place_after v) (drop n (line ∷ ls)) ss to
      → HeardAs src inside beginning (line ∷ ls) (said v (reaching v (stated (dump_steps src (line ∷ ls)))) ∷ ss) to
  -- with no end record, all is skipped
  all_skipped : (ls : List (List ℕ)) → NoneEnds src ls → HeardAs src inside unknown ls [] unknown
  -- everything through the first end record is skipped
  skipped : (ahead : List (List ℕ)) (line : List ℕ) (later ls : List (List ℕ)) (ss : List Saying) (to : Place)
      → NoneEnds src ahead → is_end src line ≡ true → ls ≡ ahead ++ (line ∷ later)
      → HeardAs src inside beginning later ss to → HeardAs src inside unknown ls ss to
