-- Steps after steps. Three things of them: accepted steps, cut at their end, hand their tally to what follows; steps after a tally, on later lines,
-- are decided as from nothing, up to a start that differs; and the steps of lines after lines are the steps of both.
-- Assumes nothing.
use mathlib.Core.Path.{◌≡◌, refl, sym, ap, ◌∙◌}
use mathlib.Core.Logic.{◌≢◌, ◌⊎◌, inl, inr}
use Prim.Native.Nat.{ℕ, suc, ◌+◌}
use native.Mathlib.Nat.{add-zero, add-suc, suc-add}
use native.Mathlib.Omega.{arith}
use mathlib.Core.Bool.{Bool, true, false, not}
use mathlib.Core.Option.{Option, none, some}
use mathlib.Core.List.{List, [], ◌∷◌, ◌++◌, map, append_assoc, head-eq_of_cons-eq, tail-eq_of_cons-eq, Memᴰ}
use lib.Dec.{eqb}
use lib.ListN.{length}
use Rattle.digits.specs.Common.{or_else, Every}
use Rattle.std.specs.Prelude.{if◌then◌else◌}
use Rattle.record.specs.Refusals.{outside_window, count_mismatch, start_conflict}
use Rattle.record.proofs.Choices.{or_else_assoc}
use Rattle.steps.specs.Steps.{Placement, Start, Action, places, starts, counts, finishes, fails, Step, step, Tally, one_more, started, Verdict, accepted, refused, by, outside, differ, Turn, on, stop, at_data, turn, onward, decision, verdict, stated}
use Rattle.steps.specs.Source.{Source, steps}
use Rattle.steps.specs.Join.{state_after, NoneEnds, together, Agreeing, after_verdict, StatesNoOther, Conflict}
use Rattle.steps.proofs.Source.{stated_cons, count_refuses, start_refuses}
use Rattle.steps.proofs.Starts.{same_self, agreed, differing}
use Rattle.steps.proofs.Firsts.{not_empty, same_first}

-- ---- steps without an end

abbrev pub NoEnd : List Step → Type 0
NoEnd [] = Unit
NoEnd (step n a ∷ s) = (a ≢ finishes) × NoEnd s

no_end_acts : (n : ℕ) (acts : List Action) (s : List Step) → (¬ Memᴰ finishes acts) → NoEnd s → NoEnd (map (step n) acts ++ s)
no_end_acts n [] s x h = h
no_end_acts n (a ∷ acts) s x h = (λ e. x (Memᴰ.head (sym e)), no_end_acts n acts s (λ m. x (Memᴰ.tail m)) h)

pub no_end_lines : {S : Type 0} (src : Source S) (s : S) (n : ℕ) (ls : List (List ℕ)) → NoneEnds src s ls → NoEnd (steps src s n ls)
unfolding steps
no_end_lines src s n [] h = tt
no_end_lines src s n ([] ∷ ls) h = no_end_lines src s (suc n) ls h
no_end_lines src s n ((c ∷ l) ∷ ls) (x, h) =
    no_end_acts n (src.act s (c ∷ l)) (steps src (src.next s (c ∷ l)) (suc n) ls) x (no_end_lines src (src.next s (c ∷ l)) (suc n) ls h)

module _ (inside : ℕ → Bool) where
  -- an action that is not the end does not accept
  not_accepting : (a : Action) (n : ℕ) (t k : Tally) → a ≢ finishes → turn inside t n a ≡ stop (accepted k) → ⊥
  unfolding turn
  not_accepting (places what) n t k x = go (outside inside what)
    where
      go : (o : Option ℕ) → at_data n o t ≡ stop (accepted k) → ⊥
      go none q = let z : ◌≡◌ {A = ℕ} 0 1 = cc in omega arith
      go (some b) q = let z : ◌≡◌ {A = ℕ} 0 1 = cc in omega arith
  not_accepting (starts y) n t k x = λ q. start_refuses n t (started y t) k (differ t.start (some y)) q
  not_accepting (counts c) n t k x = λ q. count_refuses n c t k (eqb c t.records) q
  not_accepting finishes n t k x = λ q. x refl
  not_accepting (fails r) n t k x = λ q. let z : ◌≡◌ {A = ℕ} 0 1 = cc in omega arith

  -- what follows these steps is decided with their tally, and stated after what they state
  pub record Handed (t k : Tally) (xs : List Step) : Type 0 where
    pub decides : (rest : List Step) → decision inside t (xs ++ rest) ≡ decision inside k rest
    pub states : (rest : List Step) → stated (xs ++ rest) ≡ stated xs ++ stated rest

  -- an action that goes on states what it places
  goes_on_states : (a : Action) (n : ℕ) (s rest : List Step) (t t' : Tally) → turn inside t n a ≡ on t' → stated (s ++ rest) ≡ stated s ++ stated rest
      → stated (step n a ∷ (s ++ rest)) ≡ stated (step n a ∷ s) ++ stated rest
  unfolding stated turn
  goes_on_states (places what) n s rest t t' q e = ap (λ (ps : List Placement). what ++ ps) e ∙ sym (append_assoc what (stated s) (stated rest))
  goes_on_states (starts y) n s rest t t' q e = e
  goes_on_states (counts c) n s rest t t' q e = e
  goes_on_states finishes n s rest t t' q e = let z : ◌≡◌ {A = ℕ} 0 1 = cc in absurd (omega arith)
  goes_on_states (fails r) n s rest t t' q e = let z : ◌≡◌ {A = ℕ} 0 1 = cc in absurd (omega arith)

  pub handed : (xs ys : List Step) (n m : ℕ) (t k : Tally) → NoEnd xs → decision inside t (xs ++ (step n finishes ∷ ys)) ≡ some (by m (accepted k)) → Handed t k xs
  unfolding decision stated turn
  handed [] ys n m t k x = λ q. let e : t ≡ k = cc in rw e (record { decides = λ rest. refl; states = λ rest. refl })
  handed (step l a ∷ xs) ys n m t k (x, h) = go (turn inside t l a) refl (λ t'. handed xs ys n m t' k h)
    where
      go : (y : Turn) → turn inside t l a ≡ y → ((t' : Tally) → decision inside t' (xs ++ (step n finishes ∷ ys)) ≡ some (by m (accepted k)) → Handed t' k xs)
          → onward l y (λ t'. decision inside t' (xs ++ (step n finishes ∷ ys))) ≡ some (by m (accepted k)) → Handed t k (step l a ∷ xs)
      go (on t') p f q =
          let g = f t' q in
          record {
            decides = λ rest. ap (λ (y : Turn). onward l y (λ t''. decision inside t'' (xs ++ rest))) p ∙ g.decides rest;
            states = λ rest. goes_on_states a l xs rest t t' p (g.states rest);
          }
      go (stop v) p f q = absurd (not_accepting a l t k x (cc))

  -- and without an end they are not accepted
  pub no_acceptance : (xs : List Step) (t k : Tally) (m : ℕ) → NoEnd xs → decision inside t xs ≡ some (by m (accepted k)) → ⊥
  unfolding decision
  no_acceptance [] t k m x = λ q. let z : ◌≡◌ {A = ℕ} 0 1 = cc in omega arith
  no_acceptance (step l a ∷ xs) t k m (x, h) = go (turn inside t l a) refl (λ t'. no_acceptance xs t' k m h)
    where
      go : (y : Turn) → turn inside t l a ≡ y → ((t' : Tally) → decision inside t' xs ≡ some (by m (accepted k)) → ⊥)
          → onward l y (λ t'. decision inside t' xs) ≡ some (by m (accepted k)) → ⊥
      go (on t') p f q = f t' q
      go (stop v) p f q = not_accepting a l t k x (cc)

-- ---- steps after a tally, on later lines

module _ (inside : ℕ → Bool) (a : Tally) where
  -- a load of steps, from a tally on, comes to a start other than A's
  abbrev pub Meets : Tally → List Step → ℕ → Type 0
  Meets t s n = Conflict inside a.start t s n

  abbrev pub Quiet : Tally → List Step → Type 0
  Quiet t s = (n : ℕ) → ¬ Meets t s n

  -- an action states no start, or A's
  abbrev NoOther : Action → Type 0
  NoOther x = (z : Start) → x ≡ starts z → (y : Start) → a.start ≡ some y → z ≡ y

  meets_here : (t : Tally) (n : ℕ) (y x : Start) (s : List Step) → a.start ≡ some y → x ≢ y → Meets t (step n (starts x) ∷ s) n
  unfolding decision
  meets_here t n y x s e d =
      record { start = y; other = x; before = []; later = s; first_is = e; whole = refl; differs = d; reached = refl; none_earlier = tt }

  meets_later : (m : ℕ) (x : Action) (t t' : Tally) (s : List Step) (n : ℕ) → NoOther x → turn inside t m x ≡ on t' → Meets t' s n → Meets t (step m x ∷ s) n
  unfolding decision
  meets_later m x t t' s n other q f =
      record {
        start = f.start;
        other = f.other;
        before = step m x ∷ f.before;
        later = f.later;
        first_is = f.first_is;
        whole = ap (λ (l : List Step). step m x ∷ l) f.whole;
        differs = f.differs;
        reached = rw q f.reached;
        none_earlier = (λ i z e. other z (cc) f.start f.first_is, f.none_earlier);
      }

  -- it is the first step that does so, or one after it
  record Here (m : ℕ) (x : Action) : Type 0 where
    start : Start
    other : Start
    states : x ≡ starts other
    first_is : a.start ≡ some start
    differs : other ≢ start

  record Further (m : ℕ) (x : Action) (t : Tally) (s : List Step) (n : ℕ) : Type 0 where
    tally : Tally
    goes_on : turn inside t m x ≡ on tally
    meets : Meets tally s n

  met : (m : ℕ) (x : Action) (t : Tally) (s : List Step) (n : ℕ) → Meets t (step m x ∷ s) n → Here m x ⊎ Further m x t s n
  unfolding decision
  met m x t s n f = go f.before f.whole f.reached f.none_earlier
    where
      go : (before : List Step) → step m x ∷ s ≡ before ++ (step n (starts f.other) ∷ f.later) → decision inside t before ≡ none
          → Every (StatesNoOther f.start) before → Here m x ⊎ Further m x t s n
      go [] w r h =
          let e : step m x ≡ step n (starts f.other) = head-eq_of_cons-eq w in
          inl (record { start = f.start; other = f.other; states = cc; first_is = f.first_is; differs = f.differs })
      go (b ∷ before) w r (h, hs) = inr (on_turn (turn inside t m x) refl (rw (← head-eq_of_cons-eq w) at r))
        where
          on_turn : (y : Turn) → turn inside t m x ≡ y → onward m y (λ t'. decision inside t' before) ≡ none → Further m x t s n
          on_turn (on t') q r' =
              record {
                tally = t';
                goes_on = q;
                meets = record {
                  start = f.start;
                  other = f.other;
                  before = before;
                  later = f.later;
                  first_is = f.first_is;
                  whole = tail-eq_of_cons-eq w;
                  differs = f.differs;
                  reached = r';
                  none_earlier = hs;
                };
              }
          on_turn (stop v) q r' = let z : ◌≡◌ {A = ℕ} 0 1 = cc in absurd (omega arith)

  quiet_none : (t : Tally) → Quiet t []
  quiet_none t n f = not_empty f.before (step n (starts f.other)) f.later f.whole

  quiet_on : (m : ℕ) (x : Action) (t t' : Tally) (s : List Step) → NoOther x → turn inside t m x ≡ on t' → Quiet t' s → Quiet t (step m x ∷ s)
  quiet_on m x t t' s other q h n f = go (met m x t s n f)
    where
      go : Here m x ⊎ Further m x t s n → ⊥
      go (inl p) = p.differs (other p.other p.states p.start p.first_is)
      go (inr p) = let e : p.tally ≡ t' = cc p.goes_on in h n (rw e at p.meets)

  quiet_stop : (m : ℕ) (x : Action) (t : Tally) (s : List Step) (v : Verdict) → NoOther x → turn inside t m x ≡ stop v → Quiet t (step m x ∷ s)
  quiet_stop m x t s v other q n f = go (met m x t s n f)
    where
      go : Here m x ⊎ Further m x t s n → ⊥
      go (inl p) = p.differs (other p.other p.states p.start p.first_is)
      go (inr p) = let z : ◌≡◌ {A = ℕ} 0 1 = cc p.goes_on in omega arith

  -- there is one such line at most
  pub one_line_meets : (t : Tally) (s : List Step) (n m : ℕ) → Meets t s n → Meets t s m → n ≡ m
  one_line_meets t s n m f g =
      let same : g.start ≡ f.start = cc (f.first_is, g.first_is) in
      let e : step n (starts f.other) ≡ step m (starts g.other) =
      same_first (StatesNoOther f.start) f.before g.before (step n (starts f.other)) (step m (starts g.other)) f.later g.later
      (sym f.whole ∙ g.whole) f.none_earlier (rw same at g.none_earlier) (λ h. f.differs (h n f.other refl)) (λ h. g.differs (h m g.other refl ∙ sym same)) in
      cc

module _ (inside : ℕ → Bool) (k : ℕ) (a : Tally) where
  -- The first steps, after A's tally, come to what the second come to, after it and k lines; or they are refused with 21, where the second come to
  -- a start other than A's. What is accepted agrees with A's start exactly in the first case.
  pub data Fate (t : Tally) (s₁ s₂ : List Step) : Type 0 where
    alike : Quiet inside a t s₂ → verdict (decision inside (together a t) s₁) ≡ after_verdict k a (verdict (decision inside t s₂))
        → ((b : Tally) → verdict (decision inside t s₂) ≡ accepted b → Agreeing a.start b.start) → Fate t s₁ s₂
    conflict : (n : ℕ) → Meets inside a t s₂ n → verdict (decision inside (together a t) s₁) ≡ refused start_conflict (k + n)
        → ((b : Tally) → verdict (decision inside t s₂) ≡ accepted b → Agreeing a.start b.start → ⊥) → Fate t s₁ s₂

  abbrev After : (s₁ s₂ : List Step) → Type 0
  After s₁ s₂ = (t : Tally) → Agreeing a.start t.start → Fate t s₁ s₂

  -- none of these actions states a count
  abbrev NoCount : List Action → Type 0
  NoCount acts = (stated : ℕ) → ¬ Memᴰ (counts stated) acts

  module _ (n : ℕ) (x : Action) (s₁ s₂ : List Step) (t : Tally) where
    both_go_on : (t' : Tally) → NoOther inside a x → turn inside t (suc n) x ≡ on t' → turn inside (together a t) (k + suc n) x ≡ on (together a t') → Fate t' s₁ s₂
        → Fate t (step (k + suc n) x ∷ s₁) (step (suc n) x ∷ s₂)
    unfolding decision
    both_go_on t' other p q (alike h e g) = alike (quiet_on inside a (suc n) x t t' s₂ other p h) (rw (p, q) e) (rw p g)
    both_go_on t' other p q (conflict m f e g) = conflict m (meets_later inside a (suc n) x t t' s₂ m other p f) (rw q e) (rw p g)

    both_stop : (v : Verdict) → NoOther inside a x → turn inside t (suc n) x ≡ stop v → turn inside (together a t) (k + suc n) x ≡ stop (after_verdict k a v)
        → ((b : Tally) → v ≡ accepted b → Agreeing a.start b.start) → Fate t (step (k + suc n) x ∷ s₁) (step (suc n) x ∷ s₂)
    unfolding decision verdict
    both_stop v other p q g = alike (quiet_stop inside a (suc n) x t s₂ v other p) (rw (p, q)) (rw p g)

  -- a start that was stated stays
  turn_keeps : (x : Action) (n : ℕ) (t t' : Tally) (z : Start) → turn inside t n x ≡ on t' → t.start ≡ some z → t'.start ≡ some z
  unfolding turn
  turn_keeps (places what) n t t' z = go (outside inside what)
    where
      go : (o : Option ℕ) → at_data n o t ≡ on t' → t.start ≡ some z → t'.start ≡ some z
      go none q e = let x : one_more t ≡ t' = cc in ap (λ (u : Tally). u.start) (sym x) ∙ e
      go (some b) q e = let w : ◌≡◌ {A = ℕ} 0 1 = cc in absurd (omega arith)
  turn_keeps (starts s) n t t' z = go (differ t.start (some s))
    where
      go : (b : Bool) → (if b then stop (refused start_conflict n) else on (started s t)) ≡ on t' → t.start ≡ some z → t'.start ≡ some z
      go true q e = let w : ◌≡◌ {A = ℕ} 0 1 = cc in absurd (omega arith)
      go false q e = let x : started s t ≡ t' = cc in ap (λ (u : Tally). u.start) (sym x) ∙ ap (λ (o : Option Start). or_else o (some s)) e
  turn_keeps (counts c) n t t' z = go (eqb c t.records)
    where
      go : (b : Bool) → (if b then on t else stop (refused (count_mismatch c t.records) n)) ≡ on t' → t.start ≡ some z → t'.start ≡ some z
      go true q e = let x : t ≡ t' = cc in ap (λ (u : Tally). u.start) (sym x) ∙ e
      go false q e = let w : ◌≡◌ {A = ℕ} 0 1 = cc in absurd (omega arith)
  turn_keeps finishes n t t' z = λ q e. let w : ◌≡◌ {A = ℕ} 0 1 = cc in absurd (omega arith)
  turn_keeps (fails r) n t t' z = λ q e. let w : ◌≡◌ {A = ℕ} 0 1 = cc in absurd (omega arith)

  -- an action that accepts reports the tally so far
  accepts_so_far : (x : Action) (n : ℕ) (t b : Tally) → turn inside t n x ≡ stop (accepted b) → t ≡ b
  unfolding turn
  accepts_so_far (places what) n t b q = absurd (not_accepting inside (places what) n t b (λ e. let w : ◌≡◌ {A = ℕ} 0 1 = cc in omega arith) q)
  accepts_so_far (starts s) n t b q = absurd (not_accepting inside (starts s) n t b (λ e. let w : ◌≡◌ {A = ℕ} 0 1 = cc in omega arith) q)
  accepts_so_far (counts c) n t b q = absurd (not_accepting inside (counts c) n t b (λ e. let w : ◌≡◌ {A = ℕ} 0 1 = cc in omega arith) q)
  accepts_so_far finishes n t b q = cc
  accepts_so_far (fails r) n t b q = absurd (not_accepting inside (fails r) n t b (λ e. let w : ◌≡◌ {A = ℕ} 0 1 = cc in omega arith) q)

  start_stays : (s : List Step) (t b : Tally) (z : Start) → t.start ≡ some z → verdict (decision inside t s) ≡ accepted b → b.start ≡ some z
  unfolding decision verdict
  start_stays [] t b z e = λ q. let w : ◌≡◌ {A = ℕ} 0 1 = cc in absurd (omega arith)
  start_stays (step n x ∷ s) t b z e = go (turn inside t n x) refl (λ t'. start_stays s t' b z)
    where
      go : (y : Turn) → turn inside t n x ≡ y → ((t' : Tally) → t'.start ≡ some z → verdict (decision inside t' s) ≡ accepted b → b.start ≡ some z)
          → verdict (onward n y (λ t'. decision inside t' s)) ≡ accepted b → b.start ≡ some z
      go (on t') p h q = h t' (turn_keeps x n t t' z p e) q
      go (stop v) p h q = ap (λ (u : Tally). u.start) (sym (accepts_so_far x n t b (p ∙ ap stop q))) ∙ e

  -- ---- one step

  more_together : (t : Tally) → one_more (together a t) ≡ together a (one_more t)
  more_together t = λ i. record { records = sym (add-suc a.records t.records) i; start = or_else a.start t.start }

  started_together : (x : Start) (t : Tally) → started x (together a t) ≡ together a (started x t)
  started_together x t = λ i. record { records = a.records + t.records; start = or_else_assoc a.start t.start (some x) i }

  -- B's start so far agrees with A's, and so does one that is A's
  no_differ : (y x : Start) (o : Option Start) → Agreeing (some y) o → x ≡ y → differ o (some x) ≡ false
  no_differ y x none g e = refl
  no_differ y x (some z) g e = rw (e, ← g) (self y)
    where
      self : (y : Start) → differ (some y) (some y) ≡ false
      self y = ap not (same_self y)

  still_agree : (y x : Start) (o : Option Start) → Agreeing (some y) o → x ≡ y → Agreeing (some y) (or_else o (some x))
  still_agree y x none g e = sym e
  still_agree y x (some z) g e = g

  -- the start after one that differs from A's is not A's
  disagree : (y x : Start) (o : Option Start) → Agreeing (some y) o → differ o (some x) ≡ false → x ≢ y → (z : Start) × (or_else o (some x) ≡ some z) × (y ≢ z)
  disagree y x none g d n = (x, refl, λ e. n (sym e))
  disagree y x (some z) g d n = absurd (n (agreed z x d ∙ sym g))

  start_on : (n : ℕ) (x : Start) (t : Tally) → differ t.start (some x) ≡ false → turn inside t n (starts x) ≡ on (started x t)
  unfolding turn
  start_on n x t d = rw d

  start_stop : (n : ℕ) (x : Start) (t : Tally) → differ t.start (some x) ≡ true → turn inside t n (starts x) ≡ stop (refused start_conflict n)
  unfolding turn
  start_stop n x t d = rw d

  -- A's start, and a start of B, after a tally that agrees
  module _ (n : ℕ) (x : Start) (s₁ s₂ : List Step) (t : Tally) where
    abbrev Outcome : Type 0
    Outcome = Fate t (step (k + suc n) (starts x) ∷ s₁) (step (suc n) (starts x) ∷ s₂)

    both_start : ((y : Start) → a.start ≡ some y → x ≡ y) → differ t.start (some x) ≡ false → differ (or_else a.start t.start) (some x) ≡ false
        → Fate (started x t) s₁ s₂ → Outcome
    both_start f d e h =
        both_go_on n (starts x) s₁ s₂ t (started x t) (λ z q y r. let s : x ≡ z = cc in sym s ∙ f y r) (start_on (suc n) x t d)
        (start_on (k + suc n) x (together a t) e ∙ ap on (started_together x t)) h

    both_refuse : a.start ≡ none → differ t.start (some x) ≡ true → Outcome
    both_refuse e d =
        both_stop n (starts x) s₁ s₂ t (refused start_conflict (suc n)) (λ z q y r. let w : ◌≡◌ {A = ℕ} 0 1 = cc in absurd (omega arith)) (start_stop (suc n) x t d)
        (start_stop (k + suc n) x (together a t) (rw e d)) (λ b q. let w : ◌≡◌ {A = ℕ} 0 1 = cc in absurd (omega arith))

    joined_refuses : (y : Start) → a.start ≡ some y → Agreeing (some y) t.start → differ (some y) (some x) ≡ true → Outcome
    unfolding decision verdict
    joined_refuses y e g d =
        conflict (suc n) (meets_here inside a t (suc n) y x s₂ e (differing y x d)) (rw (start_stop (k + suc n) x (together a t) (rw e d)))
        (λ b. go (differ t.start (some x)) refl b)
      where
        go : (c : Bool) → differ t.start (some x) ≡ c → (b : Tally) → verdict (decision inside t (step (suc n) (starts x) ∷ s₂)) ≡ accepted b → Agreeing a.start b.start → ⊥
        go true c b q = let r : refused start_conflict (suc n) ≡ accepted b = rw (start_stop (suc n) x t c) at q in let w : ◌≡◌ {A = ℕ} 0 1 = cc in absurd (omega arith)
        go false c b q =
            let (z, is, ne) = disagree y x t.start g c (differing y x d) in
            let r : verdict (decision inside (started x t) s₂) ≡ accepted b = rw (start_on (suc n) x t c) at q in
            rw (e, start_stays s₂ (started x t) b z is r) ne

  after_step : (n : ℕ) (x : Action) (s₁ s₂ : List Step) → ((stated : ℕ) → counts stated ≢ x) → After s₁ s₂ → After (step (k + suc n) x ∷ s₁) (step (suc n) x ∷ s₂)
  unfolding turn
  after_step n (places what) s₁ s₂ never h t g = go (outside inside what) refl
    where
      none_other : NoOther inside a (places what)
      none_other z e = let w : ◌≡◌ {A = ℕ} 0 1 = cc in absurd (omega arith)

      go : (o : Option ℕ) → outside inside what ≡ o → Fate t (step (k + suc n) (places what) ∷ s₁) (step (suc n) (places what) ∷ s₂)
      go none q = both_go_on n (places what) s₁ s₂ t (one_more t) none_other (rw q) (rw q (ap on (more_together t))) (h (one_more t) g)
      go (some b) q =
          both_stop n (places what) s₁ s₂ t (refused (outside_window b) (suc n)) none_other (rw q) (rw q) (λ b e. let w : ◌≡◌ {A = ℕ} 0 1 = cc in absurd (omega arith))
  after_step n (starts x) s₁ s₂ never h t g = by_first a.start refl g
    where
      by_first : (o : Option Start) → a.start ≡ o → Agreeing o t.start → Outcome n x s₁ s₂ t
      by_first none e g' = go (differ t.start (some x)) refl
        where
          go : (b : Bool) → differ t.start (some x) ≡ b → Outcome n x s₁ s₂ t
          go true d = both_refuse n x s₁ s₂ t e d
          go false d = both_start n x s₁ s₂ t (λ y q. let w : ◌≡◌ {A = ℕ} 0 1 = cc in absurd (omega arith)) d (rw e d) (h (started x t) (rw e tt))
      by_first (some y) e g' = go (differ (some y) (some x)) refl
        where
          go : (b : Bool) → differ (some y) (some x) ≡ b → Outcome n x s₁ s₂ t
          go true d = joined_refuses n x s₁ s₂ t y e g' d
          go false d =
              let is = agreed y x d in
              both_start n x s₁ s₂ t (λ z q. let s : y ≡ z = cc in is ∙ s) (no_differ y x t.start g' is) (rw e d) (h (started x t) (rw e (still_agree y x t.start g' is)))
  after_step n (counts c) s₁ s₂ never h t g = absurd (never c refl)
  after_step n finishes s₁ s₂ never h t g =
      both_stop n finishes s₁ s₂ t (accepted t) (λ z e. let w : ◌≡◌ {A = ℕ} 0 1 = cc in absurd (omega arith)) refl refl (λ b e. let s : t ≡ b = cc in rw (← s) g)
  after_step n (fails r) s₁ s₂ never h t g =
      both_stop n (fails r) s₁ s₂ t (refused r (suc n)) (λ z e. let w : ◌≡◌ {A = ℕ} 0 1 = cc in absurd (omega arith)) refl refl (λ b e. let w : ◌≡◌ {A = ℕ} 0 1 = cc in absurd (omega arith))

  after_acts : (n : ℕ) (acts : List Action) (s₁ s₂ : List Step) → NoCount acts → After s₁ s₂ → After (map (step (k + suc n)) acts ++ s₁) (map (step (suc n)) acts ++ s₂)
  after_acts n [] s₁ s₂ never h = h
  after_acts n (x ∷ acts) s₁ s₂ never h =
      after_step n x (map (step (k + suc n)) acts ++ s₁) (map (step (suc n)) acts ++ s₂) (λ c e. never c (Memᴰ.head e))
      (after_acts n acts s₁ s₂ (λ c m. never c (Memᴰ.tail m)) h)

  pub after_tally : {S : Type 0} (src : Source S) → ((s : S) (line : List ℕ) → NoCount (src.act s line))
      → (s : S) (n : ℕ) (ls : List (List ℕ)) → After (steps src s (k + suc n) ls) (steps src s (suc n) ls)
  unfolding steps decision verdict
  after_tally src never s n [] = λ t g. alike (quiet_none inside a t) refl (λ b e. let w : ◌≡◌ {A = ℕ} 0 1 = cc in absurd (omega arith))
  after_tally src never s n ([] ∷ ls) = rw (← add-suc k (suc n)) (after_tally src never s (suc n) ls)
  after_tally src never s n ((c ∷ l) ∷ ls) =
      let s' = src.next s (c ∷ l) in
      after_acts n (src.act s (c ∷ l)) (steps src s' (suc (k + suc n)) ls) (steps src s' (suc (suc n)) ls) (never s (c ∷ l))
      (rw (← add-suc k (suc n)) (after_tally src never s' (suc n) ls))

-- what is stated does not go by the numbers of lines
stated_acts : (n m : ℕ) (acts : List Action) (s₁ s₂ : List Step) → stated s₁ ≡ stated s₂ → stated (map (step n) acts ++ s₁) ≡ stated (map (step m) acts ++ s₂)
stated_acts n m [] s₁ s₂ e = e
stated_acts n m (x ∷ acts) s₁ s₂ e = stated_cons n m x (map (step n) acts ++ s₁) (map (step m) acts ++ s₂) (stated_acts n m acts s₁ s₂ e)

pub stated_anywhere : {S : Type 0} (src : Source S) (s : S) (n m : ℕ) (ls : List (List ℕ)) → stated (steps src s n ls) ≡ stated (steps src s m ls)
unfolding steps
stated_anywhere src s n m [] = refl
stated_anywhere src s n m ([] ∷ ls) = stated_anywhere src s (suc n) (suc m) ls
stated_anywhere src s n m ((c ∷ l) ∷ ls) =
    let s' = src.next s (c ∷ l) in
    stated_acts n m (src.act s (c ∷ l)) (steps src s' (suc n) ls) (steps src s' (suc m) ls) (stated_anywhere src s' (suc n) (suc m) ls)

-- ---- lines after lines

module _ {S : Type 0} (src : Source S) where
  pub steps_append : (s : S) (n : ℕ) (ls rest : List (List ℕ)) → steps src s n (ls ++ rest) ≡ steps src s n ls ++ steps src (state_after src s ls) (n + length ls) rest
  unfolding steps state_after
  steps_append s n [] rest = rw (add-zero n)
  steps_append s n ([] ∷ ls) rest = rw (add-suc n (length ls), ← suc-add n (length ls)) (steps_append s (suc n) ls rest)
  steps_append s n ((c ∷ l) ∷ ls) rest =
      let s' = src.next s (c ∷ l) in
      let first = map (step n) (src.act s (c ∷ l)) in
      rw (add-suc n (length ls), ← suc-add n (length ls))
      (ap (λ (x : List Step). first ++ x) (steps_append s' (suc n) ls rest)
      ∙ sym (append_assoc first (steps src s' (suc n) ls) (steps src (state_after src s' ls) (suc n + length ls) rest)))

  pub state_append : (s : S) (ls rest : List (List ℕ)) → state_after src s (ls ++ rest) ≡ state_after src (state_after src s ls) rest
  unfolding state_after
  state_append s [] rest = refl
  state_append s ([] ∷ ls) rest = state_append s ls rest
  state_append s ((c ∷ l) ∷ ls) rest = state_append (src.next s (c ∷ l)) ls rest

  pub none_append : (s : S) (ls rest : List (List ℕ)) → NoneEnds src s ls → NoneEnds src (state_after src s ls) rest → NoneEnds src s (ls ++ rest)
  unfolding state_after
  none_append s [] rest h g = g
  none_append s ([] ∷ ls) rest h g = none_append s ls rest h g
  none_append s ((c ∷ l) ∷ ls) rest (x, h) g = (x, none_append (src.next s (c ∷ l)) ls rest h g)
