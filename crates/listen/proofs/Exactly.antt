-- What is heard is what the decisions of loads say, and nothing else is.
-- Assumes nothing.
use Prim.Native.Nat.{ℕ, zero, suc, ◌≤◌}
use mathlib.Core.Path.{◌≡◌, refl, sym, ap, subst, ◌∙◌}
use mathlib.Core.Logic.{◌≢◌}
use mathlib.Core.Bool.{Bool, true, false}
use mathlib.Core.Option.{Option, none, some}
use mathlib.Core.List.{List, [], ◌∷◌, ◌++◌}
use native.Mathlib.Omega.{arith}
use lib.ListN.{length, drop, length-drop}
use Rattle.steps.specs.Steps.{nothing_yet, Verdict, accepted, refused, Decision, by, decision, stated}
use Rattle.steps.specs.Source.{Source}
use Rattle.listen.specs.Listen.{Mode, front, within, skipping, Saying, said, reaching, mode_after, Listened, silent, first, is_end, hear, listen}
use Rattle.listen.specs.Skipping.{dump_steps, NoneEnds, Place, beginning, midway, unknown, place_after, place_of, HeardAs, no_line, empty_line, undecided, decided, all_skipped, skipped}
use Rattle.listen.specs.Claims.{CameTo, HeardExactly}
use Rattle.listen.proofs.Fronts.{front_waits, front_decides}

-- the mode at a place between dumps
abbrev mode_at : {S : Type 0} → Place → Mode S
mode_at beginning = front
mode_at midway = front
mode_at unknown = skipping

-- a line with a byte is not empty
pub has_byte : (c : ℕ) (l : List ℕ) → (c ∷ l) ≢ []
has_byte c l e = let z : ◌≡◌ {A = ℕ} 0 1 = cc in omega arith

module _ {S : Type 0} (src : Source S) (inside : ℕ → Bool) where
  -- ---- skipping

  -- a line that is no end record is skipped
  pub skips_on : (line : List ℕ) (ls : List (List ℕ)) → is_end src line ≡ false → listen src inside skipping (line ∷ ls) ≡ listen src inside skipping ls
  unfolding listen hear
  skips_on line ls e = rw e

  -- after one that is, a dump begins
  pub skips_last : (line : List ℕ) (ls : List (List ℕ)) → is_end src line ≡ true → listen src inside skipping (line ∷ ls) ≡ listen src inside front ls
  unfolding listen hear
  skips_last line ls e = rw e

  pub skips_all : (ls more : List (List ℕ)) → NoneEnds src ls → listen src inside skipping (ls ++ more) ≡ listen src inside skipping more
  skips_all [] more h = refl
  skips_all (line ∷ ls) more h = skips_on line (ls ++ more) h.0 ∙ skips_all ls more h.1

  pub skips_silent : (ls : List (List ℕ)) → NoneEnds src ls → listen src inside skipping ls ≡ silent skipping
  unfolding listen
  skips_silent [] h = refl
  skips_silent (line ∷ ls) h = skips_on line ls h.0 ∙ skips_silent ls h.1

  -- ---- what is said by the decisions is heard

  instead : (g h : Listened S) (ss : List Saying) (to : Place) → g ≡ h → CameTo h ss to → CameTo g ss to
  instead g h ss to e c = (ap (λ (x : Listened S). x.says) e ∙ c.0, ap (λ (x : Listened S). place_of x.mode) e ∙ c.1)

  mode_there : (v : Verdict) → mode_at {S = S} (place_after v) ≡ mode_after v
  mode_there (accepted t) = refl
  mode_there (refused r n) = refl

  sound : (from : Place) (ls : List (List ℕ)) (ss : List Saying) (to : Place) → HeardAs src inside from ls ss to → CameTo (listen src inside (mode_at from) ls) ss to
  unfolding listen hear
  sound from ls ss to no_line = (refl, refl)
  sound from ls ss to (empty_line ls' ss' to' h) = sound beginning ls' ss' to' h
  sound from ls ss to (undecided line ls' ne e) =
      let w = front_waits src inside line ls' ne e in
      instead _ (silent (within w.lines w.standing)) [] midway w.heard (refl, refl)
  sound from ls ss to (decided line ls' n v ss' to' ne e h) =
      let d = front_decides src inside line ls' n v ne e in
      let s = said v (reaching v (stated (dump_steps src (line ∷ ls')))) in
      let g = listen src inside (mode_after v) (drop n (line ∷ ls')) in
      let c : CameTo g ss' to' = subst (λ (m : Mode S). CameTo (listen src inside m (drop n (line ∷ ls'))) ss' to') (mode_there v) (sound (place_after v) (drop n (line ∷ ls')) ss' to' h) in
      instead _ (first (s ∷ []) g) (s ∷ ss') to' d.heard (ap (λ (x : List Saying). s ∷ x) c.0, c.1)
  sound from ls ss to (all_skipped ls' h) = instead _ (silent skipping) [] unknown (skips_silent ls' h) (refl, refl)
  sound from ls ss to (skipped ahead line later ls' ss' to' h e w c) =
      instead _ (listen src inside front later) ss' to'
      (ap (λ (x : List (List ℕ)). listen src inside skipping x) w ∙ skips_all ahead (line ∷ later) h ∙ skips_last line later e) (sound beginning later ss' to' c)

  -- ---- the decisions say something of all lines

  abbrev SaysSome : (from : Place) → List (List ℕ) → Type 0
  SaysSome from ls = (ss : List Saying) × (to : Place) × HeardAs src inside from ls ss to

  abbrev SaysBoth : List (List ℕ) → Type 0
  SaysBoth ls = SaysSome beginning ls × SaysSome unknown ls

  at_place : (v : Verdict) (ls : List (List ℕ)) → SaysBoth ls → SaysSome (place_after v) ls
  at_place (accepted t) ls h = h.0
  at_place (refused r n) ls h = h.1

  -- at a beginning
  some_front : (b : ℕ) (line : List ℕ) (ls : List (List ℕ)) → length ls ≤ b → ((ls' : List (List ℕ)) → length ls' ≤ b → SaysBoth ls') → SaysSome beginning (line ∷ ls)
  some_front b [] ls h ih = let (ss, to, x) = (ih ls h).0 in (ss, to, empty_line ls ss to x)
  some_front b (c ∷ l) ls h ih = go (decision inside nothing_yet (dump_steps src ((c ∷ l) ∷ ls))) refl
    where
      go : (o : Option Decision) → decision inside nothing_yet (dump_steps src ((c ∷ l) ∷ ls)) ≡ o → SaysSome beginning ((c ∷ l) ∷ ls)
      go none e = ([], midway, undecided (c ∷ l) ls (has_byte c l) e)
      go (some (by n v)) e =
          let d = front_decides src inside (c ∷ l) ls n v (has_byte c l) e in
          let less : length (drop n ((c ∷ l) ∷ ls)) ≤ b = omega (arith, length-drop n ((c ∷ l) ∷ ls), d.some_line) in
          let (ss, to, x) = at_place v (drop n ((c ∷ l) ∷ ls)) (ih (drop n ((c ∷ l) ∷ ls)) less) in
          (said v (reaching v (stated (dump_steps src ((c ∷ l) ∷ ls)))) ∷ ss, to, decided (c ∷ l) ls n v ss to (has_byte c l) e x)

  -- one more line is skipped
  one_more : (line : List ℕ) (ls : List (List ℕ)) (ss : List Saying) (to : Place) → is_end src line ≡ false
      → HeardAs src inside unknown ls ss to → HeardAs src inside unknown (line ∷ ls) ss to
  one_more line ls ss to e (all_skipped ls' h) = all_skipped (line ∷ ls') (e, h)
  one_more line ls ss to e (skipped ahead last later ls' ss' to' h f w x) =
      skipped (line ∷ ahead) last later (line ∷ ls') ss' to' (e, h) f (ap (λ (y : List (List ℕ)). line ∷ y) w) x

  -- at an unknown place
  some_unknown : (line : List ℕ) (ls : List (List ℕ)) → SaysBoth ls → SaysSome unknown (line ∷ ls)
  some_unknown line ls ih = go (is_end src line) refl
    where
      go : (b : Bool) → is_end src line ≡ b → SaysSome unknown (line ∷ ls)
      go true e = let (ss, to, x) = ih.0 in (ss, to, skipped [] line ls (line ∷ ls) ss to tt e refl x)
      go false e = let (ss, to, x) = ih.1 in (ss, to, one_more line ls ss to e x)

  none_said : SaysBoth []
  none_said = (([], beginning, no_line), ([], unknown, all_skipped [] tt))

  some_said : (b : ℕ) (ls : List (List ℕ)) → length ls ≤ b → SaysBoth ls
  some_said zero [] h = none_said
  some_said zero (line ∷ ls) h = absurd (omega arith)
  some_said (suc b) [] h = none_said
  some_said (suc b) (line ∷ ls) h =
      let less : length ls ≤ b = omega arith in (some_front b line ls less (λ ls' h'. some_said b ls' h'), some_unknown line ls (some_said b ls less))

  -- ---- so nothing else is heard

  only : (from : Place) (ls : List (List ℕ)) (ss : List Saying) (to : Place) → SaysSome from ls → CameTo (listen src inside (mode_at from) ls) ss to → HeardAs src inside from ls ss to
  only from ls ss to (ss', to', x) c =
      let d = sound from ls ss' to' x in
      let p : ss' ≡ ss = sym d.0 ∙ c.0 in
      let q : to' ≡ to = sym d.1 ∙ c.1 in
      rw (← p, ← q) x

pub heard_exactly : HeardExactly
heard_exactly S src inside ls ss to =
    let both = some_said src inside (length ls) ls (omega arith) in
    ((only src inside beginning ls ss to both.0, sound src inside beginning ls ss to), (only src inside unknown ls ss to both.1, sound src inside unknown ls ss to))
