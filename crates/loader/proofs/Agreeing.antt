-- Two rows of lines that are both accepted: lines that say the same come to the same tally and state the same, wherever their numbers begin;
-- empty lines do not count.
-- Assumes nothing.
use Rattle.std.proofs.Common.{◌≡◌, ℕ, suc, Bool, true, false, eqb, List, [], ◌∷◌, ◌++◌, map, sym, refl, ap, arith}
use mathlib.Core.Option.{Option, none, some}
use Rattle.std.specs.Prelude.{if◌then◌else◌}
use Rattle.record.specs.Refusals.{count_mismatch, start_conflict}
use Rattle.record.specs.Line.{Said, says, wrong, judge}
use Rattle.record.specs.Noise.{SaysARecord}
use Rattle.steps.specs.Steps.{Placement, Action, places, starts, counts, finishes, fails, Step, step, Tally, one_more, started, accepted, refused, by, outside, differ, on, stop, at_data, turn, onward, decision, stated}
use Rattle.steps.specs.Source.{steps}
use Rattle.intel.specs.Placing.{Base, act, base_after, intel, intel_by}

-- ---- two lists of steps that are both accepted

module _ (inside : ℕ → Bool) where
  -- if both are accepted from the same tally on, they come to the same tally and state the same
  abbrev pub Agreed : (s s' : List Step) → Type 0
  Agreed s s' =
      (tally : Tally) (m m' : ℕ) (t t' : Tally)
      → decision inside tally s ≡ some (by m (accepted t)) → decision inside tally s' ≡ some (by m' (accepted t'))
      → (t ≡ t') × (stated s ≡ stated s')

  -- the same action before both, on whatever lines
  agreed_step : (n n' : ℕ) (a : Action) (s s' : List Step) → Agreed s s' → Agreed (step n a ∷ s) (step n' a ∷ s')
  unfolding decision turn stated
  agreed_step n n' (places what) s s' g tally m m' t t' = go (outside inside what)
    where
      go : (o : Option ℕ)
          → onward n (at_data n o tally) (λ k. decision inside k s) ≡ some (by m (accepted t))
          → onward n' (at_data n' o tally) (λ k. decision inside k s') ≡ some (by m' (accepted t'))
          → (t ≡ t') × (what ++ stated s ≡ what ++ stated s')
      go none e e' = let (p, q) = g (one_more tally) m m' t t' e e' in (p, ap (λ (ps : List Placement). what ++ ps) q)
      go (some a) e e' = (cc, cc)
  agreed_step n n' (starts x) s s' g tally m m' t t' = go (differ tally.start (some x))
    where
      go : (b : Bool)
          → onward n (if b then stop (refused start_conflict n) else on (started x tally)) (λ k. decision inside k s) ≡ some (by m (accepted t))
          → onward n' (if b then stop (refused start_conflict n') else on (started x tally)) (λ k. decision inside k s') ≡ some (by m' (accepted t'))
          → (t ≡ t') × (stated s ≡ stated s')
      go true e e' = (cc, cc)
      go false e e' = g (started x tally) m m' t t' e e'
  agreed_step n n' (counts c) s s' g tally m m' t t' = go (eqb c tally.records)
    where
      go : (b : Bool)
          → onward n (if b then on tally else stop (refused (count_mismatch c tally.records) n)) (λ k. decision inside k s) ≡ some (by m (accepted t))
          → onward n' (if b then on tally else stop (refused (count_mismatch c tally.records) n')) (λ k. decision inside k s') ≡ some (by m' (accepted t'))
          → (t ≡ t') × (stated s ≡ stated s')
      go true e e' = g tally m m' t t' e e'
      go false e e' = (cc, cc)
  agreed_step n n' finishes s s' g tally m m' t t' = λ e e'. (cc, refl)
  agreed_step n n' (fails r) s s' g tally m m' t t' = λ e e'. (cc, refl)

  agreed_line : (n n' : ℕ) (acts : List Action) (s s' : List Step) → Agreed s s' → Agreed (map (step n) acts ++ s) (map (step n') acts ++ s')
  agreed_line n n' [] s s' g = g
  agreed_line n n' (a ∷ acts) s s' g = agreed_step n n' a (map (step n) acts ++ s) (map (step n') acts ++ s') (agreed_line n n' acts s s' g)

-- ---- lines that a load passes

-- empty, or a record
abbrev pub Fine : (line : List ℕ) → Type 0
Fine [] = Unit
Fine (c ∷ line) = SaysARecord (c ∷ line)

-- what is said on a line, if it has a character
abbrev pub word : (line : List ℕ) → Option Said
word [] = none
word (c ∷ line) = some (judge (c ∷ line))

module _ (inside : ℕ → Bool) where
  -- the same of lines, wherever their numbers begin
  abbrev pub Agree : (ls ls' : List (List ℕ)) → Type 0
  Agree ls ls' = (n n' : ℕ) (base : Base) → Agreed inside (steps intel base n ls) (steps intel base n' ls')

  pub agree_swap : (ls ls' : List (List ℕ)) → Agree ls ls' → Agree ls' ls
  agree_swap ls ls' g n n' base tally m m' t t' e e' = let (p, q) = g n' n base tally m' m t' t e' e in (sym p, sym q)

  -- a text without an end record is not accepted
  pub agree_none : (ls : List (List ℕ)) → Agree [] ls
  unfolding decision steps
  agree_none ls n n' base tally m m' t t' e e' = (cc, cc)

  -- a line that is accepted is fine
  fine : (line : List ℕ) (ls : List (List ℕ)) (n : ℕ) (base : Base) (tally : Tally) (m : ℕ) (t : Tally)
      → decision inside tally (steps intel base n (line ∷ ls)) ≡ some (by m (accepted t)) → Fine line
  unfolding decision turn steps intel_by act
  fine [] ls n base tally m t e = tt
  fine (c ∷ line) ls n base tally m t e = go (judge (c ∷ line)) refl e
    where
      go : (s : Said) → judge (c ∷ line) ≡ s → decision inside tally (map (step n) (act base s) ++ steps intel (base_after base s) (suc n) ls) ≡ some (by m (accepted t)) → SaysARecord (c ∷ line)
      go (says kind address payload) q e = (kind, address, payload, q)
      go (wrong r) q e = let z : ◌≡◌ {A = ℕ} 0 1 = cc in absurd (omega arith)

  pub agree_fine : (line line' : List ℕ) (ls ls' : List (List ℕ)) → (Fine line → Fine line' → Agree (line ∷ ls) (line' ∷ ls')) → Agree (line ∷ ls) (line' ∷ ls')
  agree_fine line line' ls ls' g n n' base tally m m' t t' e e' =
      g (fine line ls n base tally m t e) (fine line' ls' n' base tally m' t' e') n n' base tally m m' t t' e e'

  -- lines that say the same
  pub agree_word : (line line' : List ℕ) (ls ls' : List (List ℕ)) → word line ≡ word line' → Agree ls ls' → Agree (line ∷ ls) (line' ∷ ls')
  unfolding steps intel_by
  agree_word [] [] ls ls' w g = λ n n'. g (suc n) (suc n')
  agree_word [] (c ∷ line') ls ls' w g = let z : ◌≡◌ {A = ℕ} 0 1 = cc in absurd (omega arith)
  agree_word (c ∷ line) [] ls ls' w g = let z : ◌≡◌ {A = ℕ} 0 1 = cc in absurd (omega arith)
  agree_word (c ∷ line) (c' ∷ line') ls ls' w g = λ n n' base.
      let j : judge (c ∷ line) ≡ judge (c' ∷ line') = cc in
      let s = judge (c' ∷ line') in
      rw j (agreed_line inside n n' (act base s) (steps intel (base_after base s) (suc n) ls) (steps intel (base_after base s) (suc n') ls') (g (suc n) (suc n') (base_after base s)))

  -- a line that is empty, if it is accepted
  pub agree_skip : (line : List ℕ) (ls ls' : List (List ℕ)) → (Fine line → line ≡ []) → Agree ls ls' → Agree (line ∷ ls) ls'
  unfolding steps
  agree_skip [] ls ls' h g = λ n n'. g (suc n) n'
  agree_skip (c ∷ line) ls ls' h g = λ n n' base tally m m' t t' e e'.
      let z : c ∷ line ≡ [] = h (fine (c ∷ line) ls n base tally m t e) in
      let w : ◌≡◌ {A = ℕ} 0 1 = cc in absurd (omega arith)

  pub agree_same : (ls : List (List ℕ)) → Agree ls ls
  agree_same [] = agree_none []
  agree_same (line ∷ ls) = agree_word line line ls ls refl (agree_same ls)

  pub agree_after : (hs ls ls' : List (List ℕ)) → Agree ls ls' → Agree (hs ++ ls) (hs ++ ls')
  agree_after [] ls ls' g = g
  agree_after (line ∷ hs) ls ls' g = agree_word line line (hs ++ ls) (hs ++ ls') refl (agree_after hs ls ls' g)
