-- One byte asked: with every address inside, steps are decided as in any room, but for 17.
-- Assumes nothing.
use mathlib.Core.Path.{◌≡◌, refl, sym, ap, ◌∙◌}
use mathlib.Core.Logic.{◌⊎◌, inl, inr}
use Prim.Native.Nat.{ℕ}
use native.Mathlib.Omega.{arith}
use mathlib.Core.Bool.{Bool}
use mathlib.Core.Option.{Option, none, some, get_or}
use mathlib.Core.List.{List, [], ◌∷◌}
use Rattle.record.specs.Refusals.{Refusal, outside_window}
use Rattle.steps.specs.Steps.{Placement, Action, places, starts, counts, finishes, fails, Step, step, Tally, nothing_yet, Verdict, accepted, refused, by, outside, Turn, on, stop, at_data, turn, onward, decision, verdict, stated}
use Rattle.steps.specs.Source.{steps_of}
use Rattle.steps.specs.Sites.{last_at, mark, byte_shown, mark_shown, OwedAt, stopping_by}
use Rattle.steps.specs.Ask.{anywhere, refuses, found, answered, ask_steps, ask, Shows, Like, Outside, AskedAsLoaded, AskedOrOutside, AskedNothingAfterTheLF}
use Rattle.steps.proofs.Source.{nothing_after_the_LF}
use Rattle.steps.proofs.Places.{owed_is}
use Rattle.steps.proofs.Sites.{load_answer, accepted_by, what_is_stored}

pub all_anywhere : (ps : List Placement) → outside anywhere ps ≡ none
unfolding outside
all_anywhere [] = refl
all_anywhere (p ∷ ps) = all_anywhere ps

-- ---- decided anywhere, or outside

module _ (inside : ℕ → Bool) where
  -- these steps are decided alike with every address inside, or one lies outside
  abbrev SameOrOut : (s : List Step) (t : Tally) → Type 0
  SameOrOut s t = (decision inside t s ≡ decision anywhere t s) ⊎ ((outer : ℕ) × ((n : ℕ) × (decision inside t s ≡ some (by n (refused (outside_window outer) n)))))

  -- a step comes to the same, or lies outside
  turns : (t : Tally) (n : ℕ) (a : Action) → (turn inside t n a ≡ turn anywhere t n a) ⊎ ((outer : ℕ) × (turn inside t n a ≡ stop (refused (outside_window outer) n)))
  unfolding turn
  turns t n (places what) = rw (all_anywhere what) (go (outside inside what))
    where
      go : (o : Option ℕ) → (at_data n o t ≡ at_data n none t) ⊎ ((outer : ℕ) × (at_data n o t ≡ stop (refused (outside_window outer) n)))
      go none = inl refl
      go (some a) = inr (a, refl)
  turns t n (starts s) = inl refl
  turns t n (counts c) = inl refl
  turns t n finishes = inl refl
  turns t n (fails r) = inl refl

  -- and so do steps
  same_or_out : (s : List Step) (t : Tally) → SameOrOut s t
  unfolding decision
  same_or_out [] t = inl refl
  same_or_out (step n a ∷ s) t = go (turn anywhere t n a) (turns t n a) (same_or_out s)
    where
      later : (x : Turn) → ((t' : Tally) → SameOrOut s t')
          → (onward n x (λ t'. decision inside t' s) ≡ onward n x (λ t'. decision anywhere t' s))
          ⊎ ((outer : ℕ) × ((m : ℕ) × (onward n x (λ t'. decision inside t' s) ≡ some (by m (refused (outside_window outer) m)))))
      later (on t') h = h t'
      later (stop v) h = inl refl

      go : (x : Turn) → (turn inside t n a ≡ x) ⊎ ((outer : ℕ) × (turn inside t n a ≡ stop (refused (outside_window outer) n)))
          → ((t' : Tally) → SameOrOut s t')
          → (onward n (turn inside t n a) (λ t'. decision inside t' s) ≡ onward n x (λ t'. decision anywhere t' s))
          ⊎ ((outer : ℕ) × ((m : ℕ) × (onward n (turn inside t n a) (λ t'. decision inside t' s) ≡ some (by m (refused (outside_window outer) m)))))
      go x (inl e) h = rw e (later x h)
      go x (inr w) h = inr (w.0, (n, rw w.1))

  -- steps that are accepted are accepted anywhere
  pub accepted_anywhere : (s : List Step) (n : ℕ) (t : Tally) → decision inside nothing_yet s ≡ some (by n (accepted t)) → decision anywhere nothing_yet s ≡ some (by n (accepted t))
  accepted_anywhere s n t d = go (same_or_out s nothing_yet)
    where
      go : SameOrOut s nothing_yet → decision anywhere nothing_yet s ≡ some (by n (accepted t))
      go (inl q) = sym q ∙ d
      go (inr w) =
          let q : some (by n (accepted t)) ≡ some (by w.1.0 (refused (outside_window w.0) w.1.0)) = sym d ∙ w.1.1 in
          let z : ◌≡◌ {A = ℕ} 0 1 = cc in absurd (omega arith)

-- ---- what is asked, and what a load leaves

shows_found : (o : Option ℕ) (old : ℕ) → Shows (found o) old (mark o) (get_or o old)
unfolding mark
shows_found none old = (refl, refl)
shows_found (some b) old = (refl, refl)

-- steps that some room accepts: what is owed to a place of the address is what is answered
pub asked_owed : (inside : ℕ → Bool) (s : List Step) (n : ℕ) (t : Tally) → decision inside nothing_yet s ≡ some (by n (accepted t))
    → (address old m b : ℕ) → OwedAt (stated s) address old m b → Shows (ask_steps address s) old m b
unfolding ask_steps verdict byte_shown mark_shown
asked_owed inside s n t d address old m b o =
    let (p, q) = owed_is (some address) (stated s) old 0 m b o in
    rw (accepted_anywhere inside s n t d, p, q) (shows_found (last_at address (stated s)) old)

pub asked_as_loaded : AskedAsLoaded
unfolding ask
asked_as_loaded S src room text page marks t e i address hp hm es =
    let (n, d) = accepted_by room.fault room.inside (steps_of src text) t (sym (load_answer src room text page marks) ∙ e) in
    asked_owed room.inside (steps_of src text) n t d address _ _ _ (rw es at (what_is_stored S src room text page marks t e i hp hm))

-- a text that is refused is refused whatever was found in it
answered_refused : (seen : Option ℕ) (r : Refusal) (n : ℕ) → answered seen (refused r n) ≡ refuses r n
answered_refused none r n = refl
answered_refused (some b) r n = refl

like_answered : (seen : Option ℕ) (v : Verdict) → Like v (answered seen v)
like_answered none (accepted t) = tt
like_answered (some b) (accepted t) = tt
like_answered seen (refused r n) = answered_refused seen r n

-- the verdict of steps inside, and what is asked
pub like_or_outside : (inside : ℕ → Bool) (s : List Step) (address : ℕ) → let v = verdict (decision inside nothing_yet s) in Like v (ask_steps address s) ⊎ Outside v
unfolding ask_steps verdict
like_or_outside inside s address = go (same_or_out inside s nothing_yet)
  where
    go : SameOrOut inside s nothing_yet
        → Like (verdict (decision inside nothing_yet s)) (answered (last_at address (stated s)) (verdict (decision anywhere nothing_yet s))) ⊎ Outside (verdict (decision inside nothing_yet s))
    go (inl q) = inl (rw q (like_answered (last_at address (stated s)) (verdict (decision anywhere nothing_yet s))))
    go (inr w) = inr (w.0, w.1.0, ap verdict w.1.1)

pub asked_or_outside : AskedOrOutside
unfolding ask stopping_by
asked_or_outside S src room text page marks address f =
    rw (load_answer src room text page marks, f) (like_or_outside room.inside (steps_of src text) address)

-- ---- nothing after the line that decides

pub asked_nothing_after_the_LF : AskedNothingAfterTheLF
unfolding ask ask_steps verdict
asked_nothing_after_the_LF S src text₁ text₂ line v d head h₁ h₂ address =
    let (d₂, s) = nothing_after_the_LF S src anywhere text₁ text₂ line head h₁ h₂ v d in
    rw (d, d₂) (go v s)
  where
    go : (v : Verdict) → ((k : Tally) → v ≡ accepted k → stated (steps_of src text₁) ≡ stated (steps_of src text₂))
        → answered (last_at address (stated (steps_of src text₁))) v ≡ answered (last_at address (stated (steps_of src text₂))) v
    go (accepted k) s = rw (s k refl)
    go (refused r n) s = answered_refused (last_at address (stated (steps_of src text₁))) r n ∙ sym (answered_refused (last_at address (stated (steps_of src text₂))) r n)
