-- A source of steps: what each line does, and the state that is in force after it. Intel's records are one source.
-- What stands after the line that decides a load cannot change its decision or what it states: claimed here of every source.
-- Each claim is proved in `proofs/Source.antt`.
-- Assumes nothing.
use Rattle.std.specs.Prelude.{ℕ, suc, ◌≡◌, Bool, List, [], ◌∷◌, ◌++◌, map}
use Rattle.std.proofs.Math.Option.{some}
use Rattle.reader.specs.Lines.{lines, through}
use Rattle.steps.specs.Steps.{Action, Step, step, Tally, nothing_yet, Verdict, accepted, by, decision, stated}

-- a source, with states S: the state that it begins in, what a line that is not empty does, and the state after that line
pub record Source (S : Type 0) : Type 0 where
  pub beginning : S
  pub act : S → (line : List ℕ) → List Action
  pub next : S → (line : List ℕ) → S

-- the steps of lines numbered from n on, from a state on; empty lines are passed
unfoldable pub steps : {S : Type 0} → Source S → S → (n : ℕ) → List (List ℕ) → List Step
steps src s n [] = []
steps src s n ([] ∷ ls) = steps src s (suc n) ls
steps src s n ((c ∷ line) ∷ ls) = map (step n) (src.act s (c ∷ line)) ++ steps src (src.next s (c ∷ line)) (suc n) ls

-- the steps of a text, from its first line on
unfoldable pub steps_of : {S : Type 0} → Source S → (text : List ℕ) → List Step
unfolding steps lines
steps_of src text = steps src src.beginning 1 (lines text)

-- ---- demand 3, first half

-- where the first is decided by line m, so is the second, with the same verdict, and if that accepts they state the same
abbrev pub Agree : (inside : ℕ → Bool) (m : ℕ) → Tally → (s₁ s₂ : List Step) → Type 0
Agree inside m t s₁ s₂ =
    (v : Verdict) → decision inside t s₁ ≡ some (by m v)
    → (decision inside t s₂ ≡ some (by m v)) × ((k : Tally) → v ≡ accepted k → stated s₁ ≡ stated s₂)

-- texts that are the same through the LF of the line that decides: nothing after it matters, to the verdict with its tally, or to what is stated
abbrev pub NothingAfterTheLF : Type 1
NothingAfterTheLF =
    (S : Type 0) (src : Source S) (inside : ℕ → Bool) (text₁ text₂ : List ℕ) (line : ℕ) (head : List ℕ)
    → through line text₁ ≡ some head → through line text₂ ≡ some head
    → Agree inside line nothing_yet (steps_of src text₁) (steps_of src text₂)
