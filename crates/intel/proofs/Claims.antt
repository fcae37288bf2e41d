-- The refusals that a line gives, and the offender that refusal 2 names.
-- Assumes nothing.
use mathlib.Core.Path.{◌≡◌, refl, sym, ap, ◌∙◌, subst}
use Prim.Native.Nat.{ℕ}
use native.Mathlib.Omega.{arith}
use mathlib.Core.Bool.{Bool, true}
use mathlib.Core.List.{List, [], ◌∷◌}
use Rattle.record.specs.Refusals.{Refusal, number_of, contains_invalid_characters, outside_window, start_conflict}
use Rattle.record.specs.Line.{wrong}
use Rattle.digits.specs.Reading.{named}
use Rattle.record.specs.Faults.{Fault, no_colon, no_digit, short, long, odd, sum_differs, length_differs, type_unknown, size_differs}
use Rattle.record.proofs.Standing.{Stands, stands}
use Rattle.record.proofs.Claims.{names_the_offender}
use Rattle.reader.specs.Lines.{lines}
use Rattle.reader.specs.Claims.{Offends}
use Rattle.steps.specs.Steps.{Placement, Verdict, refused}
use Rattle.steps.specs.Account.{Decided, one_of, Among}
use Rattle.intel.specs.Lines.{Stops, the_end, no_record, first_outside, start_differs, account, line_refusals, LinesGive}

-- ---- the numbers of refusals

-- a line that is refused by itself gives one of 1 to 9, whatever other numbers there are
pub fault_among : {line : List ℕ} {r : Refusal} (more : List ℕ) → Fault line r → one_of (1 ∷ 2 ∷ 3 ∷ 4 ∷ 5 ∷ 6 ∷ 7 ∷ 8 ∷ 9 ∷ more) (number_of r) ≡ true
fault_among more (no_colon a) = refl
fault_among more (no_digit p f) = refl
fault_among more (short a b c d) = refl
fault_among more (long a b c d) = refl
fault_among more (odd a b c d e f) = refl
fault_among more (sum_differs a b c d e f g h) = refl
fault_among more (length_differs a b c d e f g h) = refl
fault_among more (type_unknown a b c d e f g) = refl
fault_among more (size_differs a b c d e f g h) = refl

stops_among : {inside : ℕ → Bool} {ahead : List (List ℕ)} {line : List ℕ} {n : ℕ} {v : Verdict} → Stops inside ahead line n v → Among line_refusals v
stops_among (the_end tally e c) = tt
stops_among {line} (no_record r b e) = fault_among (17 ∷ 21 ∷ []) (subst (Stands line) e (stands line))
stops_among (first_outside before after p e i o) = refl
stops_among (start_differs s first e a d) = refl

pub lines_give : LinesGive
lines_give inside ahead line n v stops = stops_among stops

-- ---- the offender

-- of the answers of a line only its own refusal has the number 2
pub named_by : {text : List ℕ} {inside : ℕ → Bool} {ps : List Placement} {n m : ℕ} {v : Verdict} {r : Refusal} → Decided (account inside) (lines text) ps n v → v ≡ refused r m → number_of r ≡ 2
    → (place : ℕ) × Offends text m place × (r ≡ contains_invalid_characters (named place))
named_by {text} {inside} {ps} {n} {m} {v} {r} d = go d.stops refl
  where
    go : {k : ℕ} {v : Verdict} → Stops inside d.ahead d.line k v → k ≡ n → v ≡ refused r m → number_of r ≡ 2 → (place : ℕ) × Offends text m place × (r ≡ contains_invalid_characters (named place))
    go (the_end tally e c) k q two = let z : ◌≡◌ {A = ℕ} 0 1 = cc in absurd (omega arith)
    go {k} (no_record w b e) same q two =
        let is : w ≡ r = cc in
        let at-m : k ≡ m = cc in
        let (place, f, said) = (names_the_offender d.line r).0 (e ∙ ap wrong is, two) in
        (place, record { line = d.line; before = d.ahead; after = d.later; stands = d.whole; number = sym at-m ∙ same ∙ d.number; first = f }, said)
    go (first_outside before after p e i o) k q two = let is : outside_window p.address ≡ r = cc in absurd (omega (arith, ap number_of is))
    go (start_differs s first e a d) k q two = let is : start_conflict ≡ r = cc in absurd (omega (arith, ap number_of is))
