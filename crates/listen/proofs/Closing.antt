-- The lines of a good dump: the last is an end record, and no other is.
-- Assumes nothing.
use Prim.Native.Nat.{ℕ, suc, ◌+◌}
use mathlib.Core.Path.{◌≡◌, refl, sym, ap, ◌∙◌}
use mathlib.Core.Logic.{◌≢◌}
use mathlib.Core.Bool.{Bool, true, false}
use mathlib.Core.Option.{Option, none, some}
use mathlib.Core.List.{List, [], ◌∷◌, ◌++◌}
use native.Mathlib.Omega.{arith}
use lib.Dec.{eqb}
use lib.ListN.{length}
use Rattle.record.specs.Refusals.{Refusal}
use Rattle.steps.specs.Steps.{Placement, Action, places, starts, counts, finishes, fails, Tally, started, accepted, refused, by, outside, differ, at_data, turn, decision, Turn}
use Rattle.steps.specs.Steps as steps
use Rattle.steps.specs.Source.{Source}
use Rattle.steps.specs.Source as source
use Rattle.steps.specs.Taken.{Standing, at_first, Went, on, stopped, placed_by, onward, acted, at_line}
use Rattle.steps.proofs.Source.{count_refuses, start_refuses}
use Rattle.steps.proofs.Taken.{acts_are}
use Rattle.intake.specs.Past.{ends, EndsAlike}
use Rattle.listen.specs.Listen.{is_end}
use Rattle.listen.specs.Claims.{DecidedByLast}
use Rattle.listen.proofs.Following.{onward_steps, acts, after, Comes, same_decision}

-- ---- actions

module _ (inside : ℕ → Bool) (n : ℕ) where
  -- an action that lets the load go on is not the end
  no_end : (a : Action) (more : List Action) (t t' : Tally) → turn inside t n a ≡ steps.on t' → ends (a ∷ more) ≡ ends more
  unfolding turn
  no_end (places what) more t t' e = refl
  no_end (starts s) more t t' e = refl
  no_end (counts c) more t t' e = refl
  no_end finishes more t t' e = let z : ◌≡◌ {A = ℕ} 0 1 = cc in absurd (omega arith)
  no_end (fails r) more t t' e = refl

  -- one that accepts is
  the_end : (a : Action) (more : List Action) (t k : Tally) → turn inside t n a ≡ steps.stop (accepted k) → ends (a ∷ more) ≡ true
  unfolding turn
  the_end (places what) more t k e = go (outside inside what) e
    where
      go : (o : Option ℕ) → at_data n o t ≡ steps.stop (accepted k) → ends more ≡ true
      go none q = let z : ◌≡◌ {A = ℕ} 0 1 = cc in absurd (omega arith)
      go (some a) q = let z : ◌≡◌ {A = ℕ} 0 1 = cc in absurd (omega arith)
  the_end (starts s) more t k e = absurd (start_refuses n t (started s t) k (differ t.start (some s)) e)
  the_end (counts c) more t k e = absurd (count_refuses n c t k (eqb c t.records) e)
  the_end finishes more t k e = refl
  the_end (fails r) more t k e = let z : ◌≡◌ {A = ℕ} 0 1 = cc in absurd (omega arith)

  -- what actions come to says whether the end is among them: not where the load goes on, and where it accepts
  abbrev pub EndsSo : {S : Type 0} → List Action → Went S → Type 0
  EndsSo acts (on st) = ends acts ≡ false
  EndsSo acts (stopped v ps) = (k : Tally) → v ≡ accepted k → ends acts ≡ true

  ends_too : {S : Type 0} (acts acts' : List Action) (w : Went S) → ends acts ≡ ends acts' → EndsSo acts' w → EndsSo acts w
  ends_too acts acts' (on st) e h = e ∙ h
  ends_too acts acts' (stopped v ps) e h = λ k q. e ∙ h k q

  pub acts_end : {S : Type 0} (s : S) (acts : List Action) (t : Tally) (ps : List Placement) → EndsSo acts (acted inside n s t ps acts)
  unfolding acted
  acts_end s [] t ps = refl
  acts_end {S} s (a ∷ acts) t ps = go (turn inside t n a) refl (λ t'. acts_end s acts t' (ps ++ placed_by a))
    where
      go : (x : Turn) → turn inside t n a ≡ x → ((t' : Tally) → EndsSo acts (acted inside n s t' (ps ++ placed_by a) acts))
          → EndsSo (a ∷ acts) (onward x ps (λ t'. acted inside n s t' (ps ++ placed_by a) acts))
      go (steps.on t') e ih = ends_too (a ∷ acts) acts (acted inside n s t' (ps ++ placed_by a) acts) (no_end a acts t t' e) (ih t')
      go (steps.stop v) e ih = λ k q. the_end a acts t k (e ∙ ap steps.stop q)

-- ---- lines

-- what ends no lines is no line
pub nothing_left : (xs ys : List (List ℕ)) → xs ++ ys ≡ [] → ys ≡ []
nothing_left [] ys e = e
nothing_left (x ∷ xs) ys e = let z : ◌≡◌ {A = ℕ} 0 1 = cc in absurd (omega arith)

module _ {S : Type 0} (src : Source S) where
  -- a load met the line in some state: there it was not refused, and it had this to say of the end
  abbrev pub Met : (line : List ℕ) → Bool → Type 0
  Met [] b = b ≡ false
  Met (c ∷ l) b = (s : S) × (ends (src.act s (c ∷ l)) ≡ b) × ((r : Refusal) → src.act s (c ∷ l) ≢ fails r ∷ [])

  -- all lines were met, and the last is an end record and no other is
  abbrev pub AllMet : List (List ℕ) → Type 0
  AllMet [] = ⊥
  AllMet (line ∷ []) = Met line true
  AllMet (line ∷ (line' ∷ ls)) = Met line false × AllMet (line' ∷ ls)

  met_more : (line : List ℕ) (ls : List (List ℕ)) → Met line false → AllMet ls → AllMet (line ∷ ls)
  met_more line [] e h = absurd h
  met_more line (line' ∷ ls) e h = (e, h)

  -- ---- so it is where a load accepts by the last line

  module _ (inside : ℕ → Bool) where
    abbrev Accepts : (n : ℕ) → Standing S → List (List ℕ) → Tally → Type 0
    Accepts n st ls t = decision inside st.tally (onward_steps src inside n st ls) ≡ some (by (n + length ls) (accepted t))

    -- a line that is refused stops the load with that refusal
    stops : (n : ℕ) (st : Standing S) (line : List ℕ) (r : Refusal) → src.act st.state line ≡ fails r ∷ [] → at_line src inside n st line ≡ stopped (refused r n) st.stated
    unfolding at_line acted turn
    stops n st line r q = rw q

    pub all_met : (ls : List (List ℕ)) (n : ℕ) (st : Standing S) (t : Tally) → Accepts n st ls t → AllMet ls
    unfolding source.steps decision at_line
    all_met [] n st t e = let z : ◌≡◌ {A = ℕ} 0 1 = cc in absurd (omega arith)
    all_met ([] ∷ ls) n st t e = met_more [] ls refl (all_met ls (suc n) st t (e ∙ ap (λ (j : ℕ). some (by j (accepted t))) (omega arith)))
    all_met ((c ∷ l) ∷ ls) n st t e =
        go (at_line src inside (suc n) st (c ∷ l)) refl (λ later. acts_are inside (suc n) (after src inside n st c l) (acts src inside n st c l) st.tally st.stated later)
        (acts_end inside (suc n) (after src inside n st c l) (acts src inside n st c l) st.tally st.stated) (all_met ls (suc n))
      where
        alone : (ls : List (List ℕ)) → length ls ≡ 0 → Met (c ∷ l) true → AllMet ((c ∷ l) ∷ ls)
        alone [] q h = h
        alone (x ∷ xs) q h = absurd (omega arith)

        go : (w : Went S) → at_line src inside (suc n) st (c ∷ l) ≡ w → Comes src inside n st c l w → EndsSo inside (suc n) (acts src inside n st c l) w
            → ((st' : Standing S) (t : Tally) → Accepts (suc n) st' ls t → AllMet ls) → AllMet ((c ∷ l) ∷ ls)
        go (on st') p are es ih =
            met_more (c ∷ l) ls (st.state, es, λ r q. let f = stops (suc n) st (c ∷ l) r q in let z : ◌≡◌ {A = ℕ} 0 1 = cc in omega arith)
            (ih st' t (sym (same_decision src inside n st c l st' p are ls) ∙ e ∙ ap (λ (j : ℕ). some (by j (accepted t))) (omega arith)))
        go (stopped v ps) p are es ih =
            let f = (are (source.steps src (after src inside n st c l) (suc (suc n)) ls)).0 in
            let q : v ≡ accepted t = cc in
            let m : suc n ≡ n + suc (length ls) = cc in
            alone ls (omega arith) (st.state, es t q, λ r g. let f' = stops (suc n) st (c ∷ l) r g in let z : ◌≡◌ {A = ℕ} 0 1 = cc in omega arith)

  -- each of them was met
  pub met_there : (ahead later : List (List ℕ)) (line : List ℕ) → AllMet (ahead ++ (line ∷ later)) → (b : Bool) × Met line b
  met_there [] [] line h = (true, h)
  met_there [] (x ∷ later) line h = (false, h.0)
  met_there (a ∷ []) later line h = met_there [] later line h.1
  met_there (a ∷ (a' ∷ ahead)) later line h = met_there (a' ∷ ahead) later line h.1

  -- ---- the last is an end record, and no other is

  abbrev pub Closed : List (List ℕ) → Type 0
  Closed [] = ⊥
  Closed (line ∷ []) = is_end src line ≡ true
  Closed (line ∷ (line' ∷ ls)) = (is_end src line ≡ false) × Closed (line' ∷ ls)

  -- so it is with a tail of them
  pub closed_tail : (ahead tail : List (List ℕ)) → tail ≢ [] → Closed (ahead ++ tail) → Closed tail
  closed_tail [] tail ne h = h
  closed_tail (line ∷ ahead) tail ne h = closed_tail ahead tail ne (go (ahead ++ tail) refl h)
    where
      go : (ls : List (List ℕ)) → ahead ++ tail ≡ ls → Closed (line ∷ ls) → Closed ls
      go [] e c = absurd (ne (nothing_left ahead tail e))
      go (line' ∷ ls) e c = c.1

  module _ (alike : EndsAlike src) where
    end_there : (line : List ℕ) (b : Bool) → Met line b → is_end src line ≡ b
    unfolding is_end
    end_there [] b m = sym m
    end_there (c ∷ l) b m = alike src.beginning m.0 (c ∷ l) ∙ m.1

    closes : (ls : List (List ℕ)) → AllMet ls → Closed ls
    closes [] h = h
    closes (line ∷ []) h = end_there line true h
    closes (line ∷ (line' ∷ ls)) h = (end_there line false h.0, closes (line' ∷ ls) h.1)

-- the lines that a load accepts by the last of them
module _ {S : Type 0} (src : Source S) (inside : ℕ → Bool) (ls : List (List ℕ)) (t : Tally) (e : DecidedByLast src inside ls (accepted t)) where
  pub good_met : AllMet src ls
  good_met = all_met src inside ls 0 (at_first src) t (e ∙ ap (λ (j : ℕ). some (by j (accepted t))) (omega arith))

  pub good_closed : EndsAlike src → Closed src ls
  good_closed alike = closes src alike ls good_met
