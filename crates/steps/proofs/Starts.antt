-- The first start that lines state, and when two starts are the same.
-- Assumes nothing.
use mathlib.Core.Path.{◌≡◌, refl, sym, ap, ap₂, ◌∙◌, subst}
use mathlib.Core.Logic.{◌≢◌}
use Prim.Native.Nat.{ℕ}
use native.Mathlib.Omega.{arith}
use mathlib.Core.Bool.{Bool, true, false}
use mathlib.Core.Option.{Option, none, some}
use mathlib.Core.List.{List, [], ◌∷◌, ◌++◌}
use lib.Dec.{eqb}
use borrow.Author.Tests.{eqb-true, eq-eqb, not-true, not-false}
use Rattle.digits.specs.Common.{or_else, Every}
use Rattle.digits.proofs.Tests.{both}
use Rattle.steps.specs.Steps.{Start, cs_with_ip, linear_address, same_start, differ}
use Rattle.steps.specs.Starts.{first_start, StartsAt, nowhere, there, StartsAtMadeSo, StartsAtOnlySo, DifferSays}

-- ---- the same start

pub same_true : (x y : Start) → same_start x y ≡ true → x ≡ y
same_true (cs_with_ip cs ip) (cs_with_ip cs' ip') e =
    let (p, q) = both (eqb cs cs') (eqb ip ip') e in ap₂ (λ (c i : ℕ). cs_with_ip c i) (eqb-true cs cs' p) (eqb-true ip ip' q)
same_true (cs_with_ip cs ip) (linear_address a) e = let z : ◌≡◌ {A = ℕ} 0 1 = cc in absurd (omega arith)
same_true (linear_address a) (cs_with_ip cs ip) e = let z : ◌≡◌ {A = ℕ} 0 1 = cc in absurd (omega arith)
same_true (linear_address a) (linear_address a') e = ap (λ (n : ℕ). linear_address n) (eqb-true a a' e)

pub same_self : (x : Start) → same_start x x ≡ true
same_self (cs_with_ip cs ip) = rw (eq-eqb cs cs refl, eq-eqb ip ip refl)
same_self (linear_address a) = eq-eqb a a refl

-- what does not differ from the first is the first
pub agreed : (x s : Start) → differ (some x) (some s) ≡ false → s ≡ x
agreed x s e = sym (same_true x s (not-false (same_start x s) e))

-- a start that does not differ from the first is the one that is kept
pub kept_so : (o : Option Start) (s : Start) → differ o (some s) ≡ false → some s ≡ or_else o (some s)
kept_so none s d = refl
kept_so (some x) s d = ap some (agreed x s d)

pub differing : (x s : Start) → differ (some x) (some s) ≡ true → s ≢ x
differing x s e q =
    let h : same_start x s ≡ true = ap (same_start x) q ∙ same_self x in
    let z : ◌≡◌ {A = ℕ} 0 1 = cc (not-true (same_start x s) e) in omega arith

pub differ_says : DifferSays
differ_says none s = (λ e. let z : ◌≡◌ {A = ℕ} 0 1 = cc in absurd (omega arith), λ w. let e = w.1 in let z : ◌≡◌ {A = ℕ} 0 1 = cc in absurd (omega arith))
differ_says (some x) s = (λ e. (x, refl, differing x s e), λ w. other w.0 w.1 w.2)
  where
    other : (y : Start) → some x ≡ some y → s ≢ y → differ (some x) (some s) ≡ true
    other y e n = go (differ (some x) (some s)) refl
      where
        go : (b : Bool) → differ (some x) (some s) ≡ b → differ (some x) (some s) ≡ true
        go true q = q
        go false q = let h : x ≡ y = cc in absurd (n (agreed x s q ∙ h))

-- ---- the first of lines

pub starts_at_made_so : StartsAtMadeSo
unfolding first_start
starts_at_made_so start_on [] = nowhere tt
starts_at_made_so start_on (line ∷ ls) = go (start_on line) refl (first_start start_on ls) (starts_at_made_so start_on ls)
  where
    go : (o : Option Start) → start_on line ≡ o → (p : Option Start) → StartsAt start_on ls p → StartsAt start_on (line ∷ ls) (or_else o p)
    go (some s) e p h = there [] line ls s refl tt e
    go none e p (nowhere h) = nowhere (e, h)
    go none e p (there before l after s w n q) = there (line ∷ before) l after s (ap (λ (x : List (List ℕ)). line ∷ x) w) (e, n) q

none_first : (start_on : List ℕ → Option Start) (ls : List (List ℕ)) → Every (λ (line : List ℕ). start_on line ≡ none) ls → none ≡ first_start start_on ls
unfolding first_start
none_first start_on [] h = refl
none_first start_on (line ∷ ls) (e, h) = rw e (none_first start_on ls h)

some_first : (start_on : List ℕ → Option Start) (before : List (List ℕ)) (line : List ℕ) (after : List (List ℕ)) (s : Start)
    → Every (λ (earlier : List ℕ). start_on earlier ≡ none) before → start_on line ≡ some s → some s ≡ first_start start_on (before ++ (line ∷ after))
unfolding first_start
some_first start_on [] line after s h e = rw e
some_first start_on (b ∷ before) line after s (n, h) e = rw n (some_first start_on before line after s h e)

pub starts_at_only_so : StartsAtOnlySo
starts_at_only_so start_on ls o (nowhere h) = none_first start_on ls h
starts_at_only_so start_on ls o (there before line after s w h e) = rw w (some_first start_on before line after s h e)

-- one line more after lines
pub first_snoc : (start_on : List ℕ → Option Start) (ls : List (List ℕ)) (line : List ℕ) → first_start start_on (ls ++ (line ∷ [])) ≡ or_else (first_start start_on ls) (start_on line)
unfolding first_start
first_snoc start_on [] line = go (start_on line)
  where
    go : (o : Option Start) → or_else o none ≡ o
    go none = refl
    go (some s) = refl
first_snoc start_on (l ∷ ls) line = rw (first_snoc start_on ls line) (go (start_on l))
  where
    go : (o : Option Start) → or_else o (or_else (first_start start_on ls) (start_on line)) ≡ or_else (or_else o (first_start start_on ls)) (start_on line)
    go none = refl
    go (some s) = refl

pub starts_snoc : (start_on : List ℕ → Option Start) (ls : List (List ℕ)) (line : List ℕ) (o : Option Start) → StartsAt start_on ls o
    → StartsAt start_on (ls ++ (line ∷ [])) (or_else o (start_on line))
starts_snoc start_on ls line o h =
    subst (StartsAt start_on (ls ++ (line ∷ [])))
    (first_snoc start_on ls line ∙ ap (λ (x : Option Start). or_else x (start_on line)) (sym (starts_at_only_so start_on ls o h)))
    (starts_at_made_so start_on (ls ++ (line ∷ [])))

pub one_start : (start_on : List ℕ → Option Start) (ls : List (List ℕ)) (o o' : Option Start) → StartsAt start_on ls o → StartsAt start_on ls o' → o ≡ o'
one_start start_on ls o o' h h' = starts_at_only_so start_on ls o h ∙ sym (starts_at_only_so start_on ls o' h')
