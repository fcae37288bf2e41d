-- What the actions of a line come to: the decision on their steps, and what these state, whatever steps follow.
-- Assumes nothing.
use Prim.Native.Nat.{ℕ}
use mathlib.Core.Path.{◌≡◌, refl, sym, ap, ◌∙◌}
use mathlib.Core.Bool.{Bool}
use mathlib.Core.Option.{some}
use mathlib.Core.List.{List, [], ◌∷◌, ◌++◌, map, append_assoc, append-nil}
use native.Mathlib.Omega.{arith}
use Rattle.steps.specs.Steps.{Placement, Action, places, starts, counts, finishes, fails, Step, step, Tally, accepted, by, decision, stated, Turn, turn}
use Rattle.steps.specs.Steps as steps
use Rattle.steps.specs.Taken.{Went, on, stopped, placed_by, onward, acted}
use Rattle.steps.proofs.Source.{accepts_at_end}

module _ (inside : ℕ → Bool) (n : ℕ) where
  -- an action that lets the load go on places what it states
  goes_on : (a : Action) (t t' : Tally) (later : List Step) → turn inside t n a ≡ steps.on t' → stated (step n a ∷ later) ≡ placed_by a ++ stated later
  unfolding turn stated
  goes_on (places what) t t' later e = refl
  goes_on (starts s) t t' later e = refl
  goes_on (counts c) t t' later e = refl
  goes_on finishes t t' later e = let z : ◌≡◌ {A = ℕ} 0 1 = cc in absurd (omega arith)
  goes_on (fails r) t t' later e = let z : ◌≡◌ {A = ℕ} 0 1 = cc in absurd (omega arith)

  module _ {S : Type 0} (s : S) where
    -- what actions come to, before later steps
    abbrev pub Acts : Tally → (ps : List Placement) → List Action → (later : List Step) → Went S → Type 0
    Acts t ps acts later (on st) =
        (st.state ≡ s) × (decision inside t (map (step n) acts ++ later) ≡ decision inside st.tally later)
        × (ps ++ stated (map (step n) acts ++ later) ≡ st.stated ++ stated later)
    Acts t ps acts later (stopped v qs) =
        (decision inside t (map (step n) acts ++ later) ≡ some (by n v)) × ((k : Tally) → v ≡ accepted k → ps ++ stated (map (step n) acts ++ later) ≡ qs)

    one_more : (t t' : Tally) (ps qs : List Placement) (a : Action) (acts : List Action) (later : List Step) (w : Went S)
        → decision inside t (step n a ∷ (map (step n) acts ++ later)) ≡ decision inside t' (map (step n) acts ++ later)
        → ps ++ stated (step n a ∷ (map (step n) acts ++ later)) ≡ qs ++ stated (map (step n) acts ++ later)
        → Acts t' qs acts later w → Acts t ps (a ∷ acts) later w
    one_more t t' ps qs a acts later (on st) d p (e, f, g) = (e, d ∙ f, p ∙ g)
    one_more t t' ps qs a acts later (stopped v rs) d p (f, g) = (d ∙ f, λ k q. p ∙ g k q)

    pub acts_are : (acts : List Action) (t : Tally) (ps : List Placement) (later : List Step) → Acts t ps acts later (acted inside n s t ps acts)
    unfolding acted decision
    acts_are [] t ps later = (refl, refl, refl)
    acts_are (a ∷ acts) t ps later = go (turn inside t n a) refl (λ t'. acts_are acts t' (ps ++ placed_by a) later)
      where
        go : (x : Turn) → turn inside t n a ≡ x → ((t' : Tally) → Acts t' (ps ++ placed_by a) acts later (acted inside n s t' (ps ++ placed_by a) acts))
            → Acts t ps (a ∷ acts) later (onward x ps (λ t'. acted inside n s t' (ps ++ placed_by a) acts))
        go (steps.on t') e h =
            one_more t t' ps (ps ++ placed_by a) a acts later (acted inside n s t' (ps ++ placed_by a) acts) (rw e)
            (ap (λ (qs : List Placement). ps ++ qs) (goes_on a t t' (map (step n) acts ++ later) e) ∙ sym (append_assoc ps (placed_by a) _)) (h t')
        go (steps.stop v) e h =
            (rw e, λ k q. ap (λ (qs : List Placement). ps ++ qs) (accepts_at_end inside t k n a (map (step n) acts ++ later) (e ∙ ap steps.stop q)) ∙ append-nil ps)
