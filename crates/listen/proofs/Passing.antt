-- Skipping is a load of the source that passes over a text.
-- Assumes nothing.
use Prim.Native.Nat.{ℕ, suc, ◌+◌, ◌≤◌, ◌<◌}
use mathlib.Core.Path.{◌≡◌, refl, sym, ap, ◌∙◌}
use mathlib.Core.Bool.{Bool, true, false}
use mathlib.Core.Option.{none, some}
use mathlib.Core.List.{List, [], ◌∷◌, ◌++◌, map}
use native.Mathlib.Omega.{arith}
use lib.ListN.{length, drop}
use Rattle.steps.specs.Steps.{Step, step, nothing_yet, Verdict, accepted, by, turn, decision}
use Rattle.steps.specs.Source.{Source, steps}
use Rattle.intake.specs.Past.{ends_text, passed, past}
use Rattle.listen.specs.Listen.{front, skipping, silent, is_end, listen}
use Rattle.listen.specs.Claims.{SkipsAsPast}
use Rattle.listen.proofs.Exactly.{skips_on, skips_last}

module _ {S : Type 0} (src : Source S) (inside : ℕ → Bool) where
  -- the steps of lines that are passed over, after n lines
  abbrev past_steps : (n : ℕ) → List (List ℕ) → List Step
  past_steps n ls = steps (past src) tt (suc n) ls

  pub record Skipped (n : ℕ) (ls : List (List ℕ)) (m : ℕ) (v : Verdict) : Type 0 where
    pub k : ℕ
    pub number : m ≡ n + k
    pub nothing_stated : v ≡ accepted nothing_yet
    pub some_line : 0 < k
    pub there : k ≤ length ls
    pub heard : listen src inside skipping ls ≡ listen src inside front (drop k ls)

  not_yet : (n : ℕ) (ls : List (List ℕ)) → decision inside nothing_yet (past_steps n ls) ≡ none → listen src inside skipping ls ≡ silent skipping
  unfolding steps decision turn listen is_end
  not_yet n [] e = refl
  not_yet n ([] ∷ ls) e = skips_on src inside [] ls refl ∙ not_yet (suc n) ls e
  not_yet n ((c ∷ l) ∷ ls) e = go (ends_text src (c ∷ l)) refl e (not_yet (suc n) ls)
    where
      go : (b : Bool) → ends_text src (c ∷ l) ≡ b → decision inside nothing_yet (map (step (suc n)) (passed b) ++ past_steps (suc n) ls) ≡ none
          → (decision inside nothing_yet (past_steps (suc n) ls) ≡ none → listen src inside skipping ls ≡ silent skipping)
          → listen src inside skipping ((c ∷ l) ∷ ls) ≡ silent skipping
      go true p q ih = let z : ◌≡◌ {A = ℕ} 0 1 = cc in absurd (omega arith)
      go false p q ih = skips_on src inside (c ∷ l) ls p ∙ ih q

  -- one more line is skipped
  more : (n m : ℕ) (v : Verdict) (line : List ℕ) (ls : List (List ℕ)) → is_end src line ≡ false → Skipped (suc n) ls m v → Skipped n (line ∷ ls) m v
  more n m v line ls e s =
      record {
        k = suc s.k;
        number = omega (arith, s.number);
        nothing_stated = s.nothing_stated;
        some_line = omega arith;
        there = omega (arith, s.there);
        heard = skips_on src inside line ls e ∙ s.heard;
      }

  by_then : (n m : ℕ) (v : Verdict) (ls : List (List ℕ)) → decision inside nothing_yet (past_steps n ls) ≡ some (by m v) → Skipped n ls m v
  unfolding steps decision turn is_end
  by_then n m v [] e = let z : ◌≡◌ {A = ℕ} 0 1 = cc in absurd (omega arith)
  by_then n m v ([] ∷ ls) e = more n m v [] ls refl (by_then (suc n) m v ls e)
  by_then n m v ((c ∷ l) ∷ ls) e = go (ends_text src (c ∷ l)) refl e (by_then (suc n) m v ls)
    where
      go : (b : Bool) → ends_text src (c ∷ l) ≡ b → decision inside nothing_yet (map (step (suc n)) (passed b) ++ past_steps (suc n) ls) ≡ some (by m v)
          → (decision inside nothing_yet (past_steps (suc n) ls) ≡ some (by m v) → Skipped (suc n) ls m v) → Skipped n ((c ∷ l) ∷ ls) m v
      go true p q ih =
          let x : suc n ≡ m = cc in
          let y : accepted nothing_yet ≡ v = cc in
          record { k = 1; number = omega arith; nothing_stated = sym y; some_line = omega arith; there = omega arith; heard = skips_last src inside (c ∷ l) ls p }
      go false p q ih = more n m v (c ∷ l) ls p (ih q)

pub skips_as_past : SkipsAsPast
skips_as_past S src inside ls = (not_yet src inside 0 ls, λ n v e. go n v (by_then src inside 0 n v ls e))
  where
    go : (n : ℕ) (v : Verdict) → Skipped src inside 0 ls n v → (v ≡ accepted nothing_yet) × (0 < n) × (n ≤ length ls) × (listen src inside skipping ls ≡ listen src inside front (drop n ls))
    go n v s =
        let p : s.k ≡ n = omega (arith, s.number) in
        (s.nothing_stated, omega (arith, s.some_line), omega (arith, s.there), s.heard ∙ ap (λ (j : ℕ). listen src inside front (drop j ls)) p)
