-- A dump from its first line on: it waits while a load of its lines is not decided, and else it is said and what follows it is heard.
-- Assumes nothing.
use Prim.Native.Nat.{ℕ, ◌≤◌, ◌<◌}
use mathlib.Core.Path.{◌≡◌, refl, sym, ap, ◌∙◌}
use mathlib.Core.Logic.{◌≢◌, inl, inr}
use mathlib.Core.Bool.{Bool}
use mathlib.Core.Option.{none, some}
use mathlib.Core.List.{List, [], ◌∷◌, append-nil}
use native.Mathlib.Omega.{arith}
use lib.ListN.{length, take, drop, take-append-drop}
use Rattle.steps.specs.Steps.{Placement, nothing_yet, Tally, Verdict, accepted, refused, by, decision, stated}
use Rattle.steps.specs.Source.{Source}
use Rattle.steps.specs.Taken.{Standing, at_first}
use Rattle.listen.specs.Listen.{front, within, said, reaching, mode_after, silent, first, hear, listen}
use Rattle.listen.specs.Skipping.{dump_steps}
use Rattle.listen.proofs.Following.{Decides, Follows, follow}

module _ {S : Type 0} (src : Source S) (inside : ℕ → Bool) where
  -- the first line of a dump is taken as from within, after no line
  as_within : (line : List ℕ) (ls : List (List ℕ)) → line ≢ [] → listen src inside front (line ∷ ls) ≡ listen src inside (within 0 (at_first src)) (line ∷ ls)
  unfolding listen hear
  as_within [] ls ne = absurd (ne refl)
  as_within (c ∷ l) ls ne = refl

  -- no line decides
  pub record FrontWaits (ls : List (List ℕ)) : Type 0 where
    pub lines : ℕ
    pub standing : Standing S
    pub heard : listen src inside front ls ≡ silent (within lines standing)

  -- line n decides, as it does where the lines end with it
  pub record FrontDecides (ls : List (List ℕ)) (n : ℕ) (v : Verdict) : Type 0 where
    pub some_line : 0 < n
    pub there : n ≤ length ls
    pub heard : listen src inside front ls ≡ first (said v (reaching v (stated (dump_steps src ls))) ∷ []) (listen src inside (mode_after v) (drop n ls))
    pub alone : decision inside nothing_yet (dump_steps src (take n ls)) ≡ some (by n v)
    pub states : reaching v (stated (dump_steps src (take n ls))) ≡ reaching v (stated (dump_steps src ls))

  -- the decision that was followed is the load's
  followed : (ls : List (List ℕ)) (d : Decides src inside 0 (at_first src) ls) → decision inside nothing_yet (dump_steps src ls) ≡ some (by d.k d.verdict)
  followed ls d =
      ap (λ (x : List (List ℕ)). decision inside nothing_yet (dump_steps src x)) (sym (take-append-drop d.k ls)) ∙ d.decides (drop d.k ls) ∙ ap (λ (j : ℕ). some (by j d.verdict)) (omega arith)

  reached_by : (v : Verdict) (xs ys : List Placement) → ((t : Tally) → v ≡ accepted t → xs ≡ ys) → reaching v xs ≡ reaching v ys
  reached_by (accepted t) xs ys h = h t refl
  reached_by (refused r n) xs ys h = refl

  -- what was reached is what all the lines state, and what those through the deciding one state
  module _ (ls : List (List ℕ)) (d : Decides src inside 0 (at_first src) ls) where
    reached_all : reaching d.verdict d.reached ≡ reaching d.verdict (stated (dump_steps src ls))
    reached_all =
        reached_by d.verdict d.reached (stated (dump_steps src ls))
        (λ t q. sym (d.states (drop d.k ls) t q) ∙ ap (λ (x : List (List ℕ)). stated (dump_steps src x)) (take-append-drop d.k ls))

    reached_alone : reaching d.verdict (stated (dump_steps src (take d.k ls))) ≡ reaching d.verdict d.reached
    reached_alone =
        reached_by d.verdict (stated (dump_steps src (take d.k ls))) d.reached
        (λ t q. ap (λ (x : List (List ℕ)). stated (dump_steps src x)) (sym (append-nil (take d.k ls))) ∙ d.states [] t q)

    decided_so : listen src inside front ls ≡ listen src inside (within 0 (at_first src)) ls → FrontDecides ls d.k d.verdict
    decided_so e =
        record {
          some_line = d.some_line;
          there = d.there;
          heard = e ∙ d.heard ∙ ap (λ (ps : List Placement). first (said d.verdict ps ∷ []) (listen src inside (mode_after d.verdict) (drop d.k ls))) reached_all;
          alone = ap (λ (x : List (List ℕ)). decision inside nothing_yet (dump_steps src x)) (sym (append-nil (take d.k ls))) ∙ d.decides [] ∙ ap (λ (j : ℕ). some (by j d.verdict)) (omega arith);
          states = reached_alone ∙ reached_all;
        }

  pub front_waits : (line : List ℕ) (ls : List (List ℕ)) → line ≢ [] → decision inside nothing_yet (dump_steps src (line ∷ ls)) ≡ none → FrontWaits (line ∷ ls)
  front_waits line ls ne e = go (follow src inside (line ∷ ls) 0 (at_first src))
    where
      go : Follows src inside 0 (at_first src) (line ∷ ls) → FrontWaits (line ∷ ls)
      go (inl w) = record { lines = w.lines; standing = w.standing; heard = as_within line ls ne ∙ w.heard }
      go (inr d) = let f = followed (line ∷ ls) d in let z : ◌≡◌ {A = ℕ} 0 1 = cc in absurd (omega arith)

  pub front_decides : (line : List ℕ) (ls : List (List ℕ)) (n : ℕ) (v : Verdict) → line ≢ []
      → decision inside nothing_yet (dump_steps src (line ∷ ls)) ≡ some (by n v) → FrontDecides (line ∷ ls) n v
  front_decides line ls n v ne e = go (follow src inside (line ∷ ls) 0 (at_first src))
    where
      go : Follows src inside 0 (at_first src) (line ∷ ls) → FrontDecides (line ∷ ls) n v
      go (inl w) = let u : decision inside nothing_yet (dump_steps src (line ∷ ls)) ≡ none = w.undecided in let z : ◌≡◌ {A = ℕ} 0 1 = cc in absurd (omega arith)
      go (inr d) =
          let f = followed (line ∷ ls) d in
          let p : d.k ≡ n = cc in
          let q : d.verdict ≡ v = cc in
          rw (← p, ← q) (decided_so (line ∷ ls) d (as_within line ls ne))
