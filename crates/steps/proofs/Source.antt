-- What stands after the line that decides does not matter, for any source: one induction over the lines.
-- Assumes nothing.
use mathlib.Core.Path.{◌≡◌, refl, sym, ap, ◌∙◌}
use Prim.Native.Nat.{ℕ, suc, ◌+◌, ◌≤◌, ◌<◌}
use native.Mathlib.Omega.{arith}
use mathlib.Core.Bool.{Bool, true, false}
use mathlib.Core.Option.{Option, none, some}
use mathlib.Core.List.{List, [], ◌∷◌, ◌++◌, map}
use lib.ListN.{length}
use lib.Dec.{eqb}
use Rattle.std.specs.Prelude.{if◌then◌else◌}
use Rattle.record.specs.Refusals.{count_mismatch, start_conflict}
use Rattle.reader.specs.Lines.{lines}
use Rattle.reader.proofs.Cutting.{lines_closed, through_head}
use Rattle.steps.specs.Steps.{Placement, Action, places, starts, counts, finishes, fails, Step, step, Tally, nothing_yet, started, Verdict, accepted, refused, Decision, by, outside, differ, Turn, on, stop, at_data, turn, onward, decision, stated}
use Rattle.steps.specs.Source.{Source, steps, steps_of, Agree, NothingAfterTheLF}

-- the line of a decision
pub decided_on : Option Decision → ℕ
decided_on none = 0
decided_on (some (by n v)) = n

-- ---- one step

-- what an action states is put before what the later ones state, unless it finishes or fails: the same before the same is the same
pub stated_cons : (n m : ℕ) (a : Action) (s₁ s₂ : List Step) → stated s₁ ≡ stated s₂ → stated (step n a ∷ s₁) ≡ stated (step m a ∷ s₂)
unfolding stated
stated_cons n m (places what) s₁ s₂ e = ap (λ (ps : List Placement). what ++ ps) e
stated_cons n m (starts x) s₁ s₂ e = e
stated_cons n m (counts c) s₁ s₂ e = e
stated_cons n m finishes s₁ s₂ e = refl
stated_cons n m (fails r) s₁ s₂ e = refl

-- a count does not accept
pub count_refuses : (n c : ℕ) (t k : Tally) (b : Bool) → (if b then on t else stop (refused (count_mismatch c t.records) n)) ≡ stop (accepted k) → ⊥
count_refuses n c t k true e = let z : ◌≡◌ {A = ℕ} 0 1 = cc in omega arith
count_refuses n c t k false e = let z : ◌≡◌ {A = ℕ} 0 1 = cc in omega arith

-- nor does a start
pub start_refuses : (n : ℕ) (t t' k : Tally) (b : Bool) → (if b then stop (refused start_conflict n) else on t') ≡ stop (accepted k) → ⊥
start_refuses n t t' k true e = let z : ◌≡◌ {A = ℕ} 0 1 = cc in omega arith
start_refuses n t t' k false e = let z : ◌≡◌ {A = ℕ} 0 1 = cc in omega arith

module _ (inside : ℕ → Bool) where
  -- an action that accepts is the end: nothing after it is stated
  pub accepts_at_end : (t k : Tally) (n : ℕ) (a : Action) (s : List Step) → turn inside t n a ≡ stop (accepted k) → stated (step n a ∷ s) ≡ []
  unfolding turn stated
  accepts_at_end t k n (places what) s = go (outside inside what)
    where
      go : (o : Option ℕ) → at_data n o t ≡ stop (accepted k) → what ++ stated s ≡ []
      go none e = cc
      go (some a) e = cc
  accepts_at_end t k n (starts x) s = λ e. absurd (start_refuses n t (started x t) k (differ t.start (some x)) e)
  accepts_at_end t k n (counts c) s = λ e. absurd (count_refuses n c t k (eqb c t.records) e)
  accepts_at_end t k n finishes s = λ e. refl
  accepts_at_end t k n (fails r) s = λ e. refl

  agree_cons : (m n : ℕ) (a : Action) (s₁ s₂ : List Step) → ((t : Tally) → Agree inside m t s₁ s₂)
      → (t : Tally) → Agree inside m t (step n a ∷ s₁) (step n a ∷ s₂)
  unfolding decision
  agree_cons m n a s₁ s₂ h t = λ v. go v (turn inside t n a) refl
    where
      go : (v : Verdict) (x : Turn) → turn inside t n a ≡ x
          → onward n x (λ t'. decision inside t' s₁) ≡ some (by m v)
          → (onward n x (λ t'. decision inside t' s₂) ≡ some (by m v)) × ((k : Tally) → v ≡ accepted k → stated (step n a ∷ s₁) ≡ stated (step n a ∷ s₂))
      go v (on t') q e = let (d, s) = h t' v e in (d, λ k p. stated_cons n n a s₁ s₂ (s k p))
      go v (stop w) q e =
          (e, λ k p. let x : turn inside t n a ≡ stop (accepted k) = cc in accepts_at_end t k n a s₁ x ∙ sym (accepts_at_end t k n a s₂ x))

  agree_after : (m n : ℕ) (acts : List Action) (s₁ s₂ : List Step) → ((t : Tally) → Agree inside m t s₁ s₂)
      → (t : Tally) → Agree inside m t (map (step n) acts ++ s₁) (map (step n) acts ++ s₂)
  agree_after m n [] s₁ s₂ h = h
  agree_after m n (a ∷ acts) s₁ s₂ h = agree_cons m n a (map (step n) acts ++ s₁) (map (step n) acts ++ s₂) (agree_after m n acts s₁ s₂ h)

  -- ---- a decision on lines from n on is by line n or a later one

  abbrev From : ℕ → List Step → Type 0
  From n s = (t : Tally) (m : ℕ) (v : Verdict) → decision inside t s ≡ some (by m v) → n ≤ m

  from_cons : (n : ℕ) (a : Action) (s : List Step) → From n s → From n (step n a ∷ s)
  unfolding decision decided_on
  from_cons n a s h t m v = go (turn inside t n a)
    where
      go : (x : Turn) → onward n x (λ t'. decision inside t' s) ≡ some (by m v) → n ≤ m
      go (on t') q = h t' m v q
      go (stop w) q = omega (arith, ap decided_on q)

  from_line : (n : ℕ) (acts : List Action) (s : List Step) → From n s → From n (map (step n) acts ++ s)
  from_line n [] s h = h
  from_line n (a ∷ acts) s h = from_cons n a (map (step n) acts ++ s) (from_line n acts s h)

  module _ {S : Type 0} (src : Source S) where
    from_lines : (s : S) (n : ℕ) (ls : List (List ℕ)) → From n (steps src s n ls)
    unfolding steps decision
    from_lines s n [] = λ t m v e. let z : ◌≡◌ {A = ℕ} 0 1 = cc in absurd (omega arith)
    from_lines s n ([] ∷ ls) = λ t m v e. omega (arith, from_lines s (suc n) ls t m v e)
    from_lines s n ((c ∷ l) ∷ ls) =
        let s' = src.next s (c ∷ l) in
        from_line n (src.act s (c ∷ l)) (steps src s' (suc n) ls) (λ t m v e. omega (arith, from_lines s' (suc n) ls t m v e))

    same : (s : S) (n m : ℕ) (ls rest₁ rest₂ : List (List ℕ)) → m < n + length ls
        → (t : Tally) → Agree inside m t (steps src s n (ls ++ rest₁)) (steps src s n (ls ++ rest₂))
    unfolding steps
    same s n m [] rest₁ rest₂ h t = λ v e. absurd (omega (arith, from_lines s n rest₁ t m v e))
    same s n m ([] ∷ ls) rest₁ rest₂ h t = same s (suc n) m ls rest₁ rest₂ (omega arith) t
    same s n m ((c ∷ l) ∷ ls) rest₁ rest₂ h t =
        let s' = src.next s (c ∷ l) in
        agree_after m n (src.act s (c ∷ l)) (steps src s' (suc n) (ls ++ rest₁)) (steps src s' (suc n) (ls ++ rest₂))
        (same s' (suc n) m ls rest₁ rest₂ (omega arith)) t

pub nothing_after_the_LF : NothingAfterTheLF
unfolding steps_of
nothing_after_the_LF S src inside text₁ text₂ n head t₁ t₂ =
    let h₁ = through_head n text₁ head t₁ in
    let h₂ = through_head n text₂ head t₂ in
    rw (h₁.text_is, h₂.text_is, lines_closed h₁.whole h₁.tail, lines_closed h₁.whole h₂.tail)
    (same inside src src.beginning 1 n (lines head) (lines h₁.tail) (lines h₂.tail) (omega (arith, h₁.count)) nothing_yet)
