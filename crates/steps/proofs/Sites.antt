-- Demand 3 for every source and every site, and the laws of one store: what the places hold comes from `Places`, what decides from `Source`.
-- Assumes nothing.
use mathlib.Core.Path.{◌≡◌, refl, sym, ap, ◌∙◌}
use Prim.Native.Nat.{ℕ, ◌<◌}
use native.Mathlib.Omega.{arith}
use mathlib.Core.Bool.{Bool, true, false}
use mathlib.Core.Option
use mathlib.Core.Option.{Option, none, some}
use mathlib.Core.List.{List, [], ◌∷◌, ◌++◌}
use lib.ListN.{length, get_or}
use Rattle.digits.specs.Common.{Every}
use Rattle.std.specs.Prelude.{if◌then◌else◌}
use Rattle.record.specs.Refusals.{Refusal}
use Rattle.reader.specs.Lines.{through}
use Rattle.steps.specs.Steps.{Placement, Action, places, starts, counts, finishes, fails, Step, step, Tally, nothing_yet, Verdict, accepted, refused, Decision, by, outside, Turn, on, stop, turn, at_data, onward, decision, verdict, stated}
use Rattle.steps.specs.Source.{Source, steps_of}
use Rattle.steps.specs.Sites.{last_at, mark, byte_shown, mark_shown, painted, marked, store, Room, stopping_by, stopping_in, load, Shown, Alike, NonInterference, WhatIsStored, OwedUnique, AllInside, RefusalChangesNothing, SizesKept}
use Rattle.steps.proofs.Source.{nothing_after_the_LF, accepts_at_end}
use Rattle.steps.proofs.Places.{length_painted, length_marked, painted_at, marked_at, owed, owed_is}

-- ---- what is answered

pub stored_answer : (site : ℕ → Option ℕ) (ps : List Placement) (page marks : List ℕ) (v : Verdict) → (store site ps page marks v).answer ≡ v
unfolding store
stored_answer site ps page marks (accepted k) = refl
stored_answer site ps page marks (refused r n) = refl

-- the verdict of steps in a room
abbrev pub judged : Room → List Step → Verdict
judged room steps = verdict (stopping_in room steps)

module _ {S : Type 0} (src : Source S) (room : Room) (text page marks : List ℕ) where
  pub load_answer : (load src room text page marks).answer ≡ judged room (steps_of src text)
  unfolding load
  load_answer = stored_answer room.site (stated (steps_of src text)) page marks (judged room (steps_of src text))

  -- what an accepted load leaves
  pub accepted_load : (k : Tally) → judged room (steps_of src text) ≡ accepted k
      → load src room text page marks
      ≡ record { answer = accepted k; page = painted room.site 0 (stated (steps_of src text)) page; marks = marked room.site 0 (stated (steps_of src text)) marks }
  unfolding load
  accepted_load k e = rw e

  pub refused_load : (r : Refusal) (n : ℕ) → judged room (steps_of src text) ≡ refused r n
      → load src room text page marks ≡ record { answer = refused r n; page = page; marks = marks }
  unfolding load
  refused_load r n e = rw e

-- ---- the second half of demand 3

pub what_is_stored : WhatIsStored
what_is_stored S src room text page marks k e i hp hm =
    let ps = stated (steps_of src text) in
    rw (accepted_load src room text page marks k (sym (load_answer src room text page marks) ∙ e), marked_at room.site ps marks i hm, painted_at room.site ps page i hp)
    (owed (room.site i) ps (get_or page i 0) (get_or marks i 0))

pub owed_unique : OwedUnique
owed_unique shows ps old old-mark m m' b b' x y =
    let (p, q) = owed_is shows ps old old-mark m b x in
    let (p', q') = owed_is shows ps old old-mark m' b' y in
    (p ∙ sym p', q ∙ sym q')

pub refusal_changes_nothing : RefusalChangesNothing
refusal_changes_nothing S src room text page marks r n e =
    rw (refused_load src room text page marks r n (sym (load_answer src room text page marks) ∙ e)) (refl, refl)

pub stored_sizes : (site : ℕ → Option ℕ) (ps : List Placement) (page marks : List ℕ) (v : Verdict)
    → (length (store site ps page marks v).page ≡ length page) × (length (store site ps page marks v).marks ≡ length marks)
unfolding store
stored_sizes site ps page marks (accepted k) = (length_painted site ps 0 page, length_marked site ps 0 marks)
stored_sizes site ps page marks (refused r n) = (refl, refl)

pub sizes_kept : SizesKept
unfolding load
sizes_kept S src room text page marks =
    stored_sizes room.site (stated (steps_of src text)) page marks (judged room (steps_of src text))

-- ---- accepted steps are inside

module _ (inside : ℕ → Bool) where
  abbrev pub Insides : List Placement → Type 0
  Insides ps = Every (λ (p : Placement). inside p.address ≡ true) ps

  pub outside_none : (ps : List Placement) → outside inside ps ≡ none → Insides ps
  unfolding outside
  outside_none [] = λ e. tt
  outside_none (p ∷ ps) = go (inside p.address) refl (outside_none ps)
    where
      go : (b : Bool) → inside p.address ≡ b → (outside inside ps ≡ none → Insides ps)
          → (if b then outside inside ps else some p.address) ≡ none → Insides (p ∷ ps)
      go true q h e = (q, h e)
      go false q h e = let z : ◌≡◌ {A = ℕ} 0 1 = cc in absurd (omega arith)

  insides_append : (ps qs : List Placement) → Insides ps → Insides qs → Insides (ps ++ qs)
  insides_append [] qs h g = g
  insides_append (p ∷ ps) qs (e, h) g = (e, insides_append ps qs h g)

  inside_cons : (n : ℕ) (a : Action) (s : List Step) (t t' : Tally) → turn inside t n a ≡ on t' → Insides (stated s) → Insides (stated (step n a ∷ s))
  unfolding turn stated
  inside_cons n (places what) s t t' = go (outside inside what) refl
    where
      go : (o : Option ℕ) → outside inside what ≡ o → at_data n o t ≡ on t' → Insides (stated s) → Insides (what ++ stated s)
      go none q e h = insides_append what (stated s) (outside_none what q) h
      go (some a) q e h = let z : ◌≡◌ {A = ℕ} 0 1 = cc in absurd (omega arith)
  inside_cons n (starts x) s t t' = λ e h. h
  inside_cons n (counts c) s t t' = λ e h. h
  inside_cons n finishes s t t' = λ e h. tt
  inside_cons n (fails r) s t t' = λ e h. tt

  -- what accepted steps state is inside
  accepted_inside : (s : List Step) (t k : Tally) (n : ℕ) → decision inside t s ≡ some (by n (accepted k)) → Insides (stated s)
  unfolding decision stated
  accepted_inside [] t k n = λ e. tt
  accepted_inside (step m a ∷ s) t k n = go (turn inside t m a) refl (λ t'. accepted_inside s t' k n)
    where
      go : (x : Turn) → turn inside t m a ≡ x → ((t' : Tally) → decision inside t' s ≡ some (by n (accepted k)) → Insides (stated s))
          → onward m x (λ t'. decision inside t' s) ≡ some (by n (accepted k)) → Insides (stated (step m a ∷ s))
      go (on t') q h e = inside_cons m a s t t' q (h t' e)
      go (stop v) q h e = let x : turn inside t m a ≡ stop (accepted k) = cc in rw (accepts_at_end inside t k m a s x) tt

-- an accepted verdict comes from a line
pub accepted_by : (fault : Option Refusal) (inside : ℕ → Bool) (s : List Step) (k : Tally) → verdict (stopping_by fault inside s) ≡ accepted k
    → (n : ℕ) × (decision inside nothing_yet s ≡ some (by n (accepted k)))
unfolding verdict stopping_by
accepted_by (some r) inside s k e = let z : ◌≡◌ {A = ℕ} 0 1 = cc in absurd (omega arith)
accepted_by none inside s k e = go (decision inside nothing_yet s) refl e
  where
    go : (d : Option Decision) → decision inside nothing_yet s ≡ d → verdict d ≡ accepted k → (n : ℕ) × (decision inside nothing_yet s ≡ some (by n (accepted k)))
    go none p e = let z : ◌≡◌ {A = ℕ} 0 1 = cc in absurd (omega arith)
    go (some (by n v)) p e = (n, p ∙ ap (λ (w : Verdict). some (by n w)) e)

pub all_inside : AllInside
all_inside S src room text page marks k e =
    let (n, d) = accepted_by room.fault room.inside (steps_of src text) k (sym (load_answer src room text page marks) ∙ e) in
    accepted_inside room.inside (steps_of src text) nothing_yet k n d

-- ---- the first half of demand 3

-- where an address is shown, the old mark does not matter
shown_mark : (site : ℕ → Option ℕ) (ps : List Placement) (m₁ m₂ : List ℕ) → length m₁ ≡ length m₂ → (i : ℕ) → i < length m₁ → Shown site i
    → get_or (marked site 0 ps m₁) i 0 ≡ get_or (marked site 0 ps m₂) i 0
unfolding mark_shown
shown_mark site ps m₁ m₂ lm i h (a, e) = rw (marked_at site ps m₁ i h, marked_at site ps m₂ i (omega arith), e)

-- where it is marked, the old byte does not matter
marked_byte : (shows : Option ℕ) (a : ℕ) (ps : List Placement) (x y o : ℕ) → shows ≡ some a → mark_shown shows ps o ≡ 1 → byte_shown shows ps x ≡ byte_shown shows ps y
unfolding byte_shown mark_shown mark
marked_byte none a ps x y o e m = let z : ◌≡◌ {A = ℕ} 0 1 = cc in absurd (omega arith)
marked_byte (some b) a ps x y o e m = go (last_at b ps) m
  where
    go : (f : Option ℕ) → mark f ≡ 1 → Option.get_or f x ≡ Option.get_or f y
    go none m = absurd (omega arith)
    go (some c) m = refl

-- two stores of one verdict
module _ (site : ℕ → Option ℕ) (page₁ marks₁ page₂ marks₂ : List ℕ) (lp : length page₁ ≡ length page₂) (lm : length marks₁ ≡ length marks₂) where
  same_stores : (ps₁ ps₂ : List Placement) (v₁ v₂ : Verdict) → v₁ ≡ v₂ → ((k : Tally) → v₁ ≡ accepted k → ps₁ ≡ ps₂)
      → Alike site (store site ps₁ page₁ marks₁ v₁) (store site ps₂ page₂ marks₂ v₂)
  unfolding store
  same_stores ps₁ ps₂ (accepted k) v₂ e h =
      let lm₁ = length_marked site ps₁ 0 marks₁ in
      let lp₁ = length_painted site ps₁ 0 page₁ in
      rw (← e, ← h k refl) (record {
        answers = refl;
        marks = λ t a i l shown. shown_mark site ps₁ marks₁ marks₂ lm i (omega (arith, lm₁)) shown;
        bytes = λ t a i p l shown m.
            rw (painted_at site ps₁ page₁ i (omega (arith, lp₁)), painted_at site ps₁ page₂ i (omega (arith, lp₁)))
            (marked_byte (site i) shown.0 ps₁ (get_or page₁ i 0) (get_or page₂ i 0) (get_or marks₁ i 0) shown.1 (sym (marked_at site ps₁ marks₁ i (omega (arith, lm₁))) ∙ m));
      })
  same_stores ps₁ ps₂ (refused r n) v₂ e h =
      rw (← e) (record {
        answers = refl;
        marks = λ t a. let z : ◌≡◌ {A = ℕ} 0 1 = cc in absurd (omega arith);
        bytes = λ t a. let z : ◌≡◌ {A = ℕ} 0 1 = cc in absurd (omega arith);
      })

-- a load that stops at a line has the same outcome over texts that are the same through its LF
same_outcome : {S : Type 0} (src : Source S) (fault : Option Refusal) (inside : ℕ → Bool) (text₁ text₂ : List ℕ) (n : ℕ) (v : Verdict)
    → stopping_by fault inside (steps_of src text₁) ≡ some (by n v)
    → (head : List ℕ) → through n text₁ ≡ some head → through n text₂ ≡ some head
    → (stopping_by fault inside (steps_of src text₂) ≡ some (by n v))
    × ((k : Tally) → v ≡ accepted k → stated (steps_of src text₁) ≡ stated (steps_of src text₂))
unfolding stopping_by
same_outcome {S} src none inside text₁ text₂ n v e head t₁ t₂ = nothing_after_the_LF S src inside text₁ text₂ n head t₁ t₂ v e
same_outcome src (some r) inside text₁ text₂ n v e head t₁ t₂ = (e, λ k h. let z : ◌≡◌ {A = ℕ} 0 1 = cc in absurd (omega arith))

pub non_interference : NonInterference
unfolding load
non_interference S src room text₁ text₂ page₁ marks₁ page₂ marks₂ lp lm n v e head t₁ t₂ =
    let (d, s) = same_outcome src room.fault room.inside text₁ text₂ n v e head t₁ t₂ in
    same_stores room.site page₁ marks₁ page₂ marks₂ lp lm (stated (steps_of src text₁)) (stated (steps_of src text₂))
    (judged room (steps_of src text₁)) (judged room (steps_of src text₂)) (ap verdict (e ∙ sym d))
    (λ k h. s k (sym (ap verdict e) ∙ h))
