-- Laws of runs: what a run states at an address, and what lies outside of one. Marks as ones painted upon cleared marks.
-- Assumes nothing.
use mathlib.Core.Path.{◌≡◌, refl, sym, ap, ap₂, subst}
use Prim.Native.Nat.{ℕ, zero, suc, ◌+◌, ◌≤◌, ◌<◌}
use native.Mathlib.Nat.{add-zero}
use native.Mathlib.Omega.{arith}
use mathlib.Core.Bool.{Bool, true, false}
use mathlib.Core.Option
use mathlib.Core.Option.{Option, none, some}
use mathlib.Core.List.{List, [], ◌∷◌, ◌++◌, map}
use lib.Dec.{eqb}
use lib.ListN.{length, get_or, replicate}
use borrow.Author.Tests.{eq-eqb, ne_eqb}
use Rattle.digits.specs.Common.{or_else}
use Rattle.std.specs.Prelude.{if◌then◌else◌}
use Rattle.steps.specs.Steps.{Placement, outside}
use Rattle.steps.specs.Sites.{last_at, mark, byte_shown, mark_shown, painted, marked}
use Rattle.steps.specs.Runs.{run, as_mark, clear_at, cleared, MarksByOnes}

-- ---- what a run states

module _ (address : ℕ) where
  step_on : (i : ℕ) → suc address + i ≡ address + suc i
  step_on i = omega arith

-- nothing before its address
pub last_before : (a address : ℕ) (bytes : List ℕ) → a < address → last_at a (run address bytes) ≡ none
unfolding last_at run
last_before a address [] h = refl
last_before a address (b ∷ bytes) h = rw (last_before a (suc address) bytes (omega arith), ne_eqb address a (omega arith))

-- byte i at the address that lies i further
pub last_within : (address i : ℕ) (bytes : List ℕ) → i < length bytes → last_at (address + i) (run address bytes) ≡ some (get_or bytes i 0)
unfolding last_at run
last_within address i [] h = absurd (omega arith)
last_within address zero (b ∷ bytes) h =
    subst (λ (a : ℕ). last_at a (run address (b ∷ bytes)) ≡ some b) (sym (add-zero address)) (rw (last_before address (suc address) bytes (omega arith), eq-eqb address address refl))
last_within address (suc i) (b ∷ bytes) h =
    subst (λ (a : ℕ). last_at a (run address (b ∷ bytes)) ≡ some (get_or bytes i 0)) (step_on address i) (rw (last_within (suc address) i bytes (omega arith)))

-- nothing after its end
pub last_beyond : (a address : ℕ) (bytes : List ℕ) → address + length bytes ≤ a → last_at a (run address bytes) ≡ none
unfolding last_at run
last_beyond a address [] h = refl
last_beyond a address (b ∷ bytes) h = rw (last_beyond a (suc address) bytes (omega arith), ne_eqb address a (omega arith))

-- the marks of a run are a run of ones
pub marks_of_run : (address : ℕ) (bytes : List ℕ) → map as_mark (run address bytes) ≡ run address (replicate (length bytes) 1)
unfolding run
marks_of_run address [] = refl
marks_of_run address (b ∷ bytes) = ap (λ (ps : List Placement). record { address = address; byte = 1 } ∷ ps) (marks_of_run (suc address) bytes)

-- ---- what lies outside

module _ (inside : ℕ → Bool) where
  pub outside_append : (ps qs : List Placement) → outside inside (ps ++ qs) ≡ or_else (outside inside ps) (outside inside qs)
  unfolding outside
  outside_append [] qs = refl
  outside_append (p ∷ ps) qs = go (inside p.address) (outside_append ps qs)
    where
      go : (b : Bool) → outside inside (ps ++ qs) ≡ or_else (outside inside ps) (outside inside qs)
          → (if b then outside inside (ps ++ qs) else some p.address) ≡ or_else (if b then outside inside ps else some p.address) (outside inside qs)
      go true e = e
      go false e = refl

  -- nothing, where each byte lies inside
  pub run_inside : (address : ℕ) (bytes : List ℕ) → ((i : ℕ) → i < length bytes → inside (address + i) ≡ true) → outside inside (run address bytes) ≡ none
  unfolding outside run
  run_inside address [] h = refl
  run_inside address (b ∷ bytes) h =
      rw (← (add-zero address), h 0 (omega arith), add-zero address)
      (run_inside (suc address) bytes (λ i l. rw (step_on address i) (h (suc i) (omega arith))))

  -- byte k, where it is the first that does not
  pub run_outside : (address k : ℕ) (bytes : List ℕ) → k < length bytes → ((i : ℕ) → i < k → inside (address + i) ≡ true) → inside (address + k) ≡ false
      → outside inside (run address bytes) ≡ some (address + k)
  unfolding outside run
  run_outside address k [] l h o = absurd (omega arith)
  run_outside address zero (b ∷ bytes) l h o = let e : inside address ≡ false = rw (add-zero address) at o in rw (e, add-zero address)
  run_outside address (suc k) (b ∷ bytes) l h o =
      let e : inside address ≡ true = rw (add-zero address) at (h 0 (omega arith)) in
      rw (e, ← step_on address k)
      (run_outside (suc address) k bytes (omega arith) (λ i l. rw (step_on address i) (h (suc i) (omega arith))) (rw (step_on address k) o))

-- ---- marks

last_one : (a : ℕ) (ps : List Placement) → last_at a (map as_mark ps) ≡ Option.map (λ b. 1) (last_at a ps)
unfolding last_at
last_one a [] = refl
last_one a (p ∷ ps) = rw (last_one a ps) (go (last_at a ps) (eqb p.address a))
  where
    go : (o : Option ℕ) (t : Bool)
        → or_else {A = ℕ} (Option.map (λ b. 1) o) (if t then some 1 else none) ≡ Option.map (λ b. 1) (or_else o (if t then some p.byte else none))
    go (some b) t = refl
    go none true = refl
    go none false = refl

mark_is : (shows : Option ℕ) (ps : List Placement) (old : ℕ) → mark_shown shows ps old ≡ byte_shown shows (map as_mark ps) (clear_at shows old)
unfolding mark_shown byte_shown mark
mark_is none ps old = refl
mark_is (some a) ps old = rw (last_one a ps) (go (last_at a ps))
  where
    go : (o : Option ℕ) → mark o ≡ Option.get_or (Option.map (λ b. 1) o) 0
    go none = refl
    go (some b) = refl

marks_from : (site : ℕ → Option ℕ) (i : ℕ) (ps : List Placement) (marks : List ℕ) → marked site i ps marks ≡ painted site i (map as_mark ps) (cleared site i marks)
unfolding marked painted cleared
marks_from site i ps [] = refl
marks_from site i ps (old ∷ marks) = ap₂ (λ (x : ℕ) (l : List ℕ). x ∷ l) (mark_is (site i) ps old) (marks_from site (suc i) ps marks)

pub marks_by_ones : MarksByOnes
marks_by_ones site ps marks = marks_from site 0 ps marks
