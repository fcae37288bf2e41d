-- The first character after the start that is not a digit: as many places after the start as digits lead, and one more.
-- Assumes nothing.
use Prim.Native.Nat.{ℕ, zero, suc, ◌<◌, ◌≤◌}
use mathlib.Core.Path.{◌≡◌, refl, ap, subst}
use mathlib.Core.Bool.{false}
use mathlib.Core.List.{List, [], ◌∷◌}
use native.Mathlib.Omega.{arith}
use lib.ListN.{length, get_or}
use Rattle.digits.specs.Digits.{all_digits, leading}
use Rattle.digits.proofs.Leading.{Leads, leads, bad_at}
use Rattle.record.specs.Faults.{FirstOffenderAfter}
use Rattle.digits.specs.Hex.{IsHex}
use Rattle.digits.proofs.Tests.{split}
use Rattle.digits.proofs.Hex.{is_hex, not_hex, hex_not}

pub first_offender : (start : ℕ) (ds : List ℕ) → all_digits ds ≡ false → FirstOffenderAfter start (start ∷ ds) (suc (leading ds))
first_offender start ds e =
    let l = leads ds e in
    record { starts = refl; behind = omega arith; inside = omega (arith, l.inside); offends = not_hex (get_or ds (leading ds) 0) l.other; least = least l }
  where
    least : Leads ds (leading ds) → (i : ℕ) → 0 < i → i < length (start ∷ ds) → ¬ IsHex (get_or (start ∷ ds) i 0) → suc (leading ds) ≤ i
    least l zero h k n = absurd (omega arith)
    least l (suc i) h k n =
        split (suc (leading ds)) (suc i) (λ g. g) (λ g. absurd (n (is_hex (get_or ds i 0) (l.earlier i (omega arith)))))

pub same_place : (start : ℕ) (line : List ℕ) (p q : ℕ) → FirstOffenderAfter start line p → FirstOffenderAfter start line q → p ≡ q
same_place start line p q f g = omega (arith, f.least q g.behind g.inside g.offends, g.least p f.behind f.inside f.offends)

-- a line with an offender: what stands after its start
pub record Offended (start : ℕ) (line : List ℕ) (place : ℕ) : Type 0 where
  pub digits : List ℕ
  pub starts : line ≡ start ∷ digits
  pub bad : all_digits digits ≡ false
  pub counts : place ≡ suc (leading digits)

pub offended : (start : ℕ) (line : List ℕ) (place : ℕ) → FirstOffenderAfter start line place → Offended start line place
offended start [] place f = absurd (omega (arith, f.inside))
offended start (c ∷ ds) zero f = absurd (omega (arith, f.behind))
offended start (c ∷ ds) (suc i) f =
    let bad : all_digits ds ≡ false = bad_at ds i (omega (arith, f.inside)) (hex_not (get_or ds i 0) f.offends) in
    let starts : c ∷ ds ≡ start ∷ ds = ap (λ (x : ℕ). x ∷ ds) f.starts in
    record {
      digits = ds;
      starts = starts;
      bad = bad;
      counts = same_place start (start ∷ ds) (suc i) (suc (leading ds)) (subst (λ (l : List ℕ). FirstOffenderAfter start l (suc i)) starts f) (first_offender start ds bad);
    }
