-- From the searches in a row of marks to the flags of its places: the next marked place, and where a piece ends.
-- Assumes nothing.
use mathlib.Core.Path.{◌≡◌, ◌∙◌}
use mathlib.Core.Logic.{◌≢◌, ◌⊎◌, inl, inr}
use Prim.Native.Nat.{ℕ, ◌+◌, ◌-◌, ◌%◌, ◌≤◌, ◌<◌}
use native.Mathlib.Omega.{arith}
use mathlib.Core.List.{List}
use lib.ListN.{length, get_or}
use Rattle.marks.specs.Marks.{Marked, Unmarked, flags, NextMarked, NextUnmarked}
use Rattle.marks.proofs.Rows.{flags_length, flags_say}
use Rattle.marks.proofs.Claims.{flag_marked}
use Rattle.digits.proofs.Tests.{split}
use Rattle.page.specs.Helpers.{reach, PieceEnd}

-- from one place up to another no flag is 1, and that of the other is, or it is the end
pub record NextFlag (flags : List ℕ) (from r : ℕ) : Type 0 where
  pub low : from ≤ r
  pub high : r ≤ length flags
  pub unmarked : (i : ℕ) → from ≤ i → i < r → get_or flags i 0 ≢ 1
  pub there : (r ≡ length flags) ⊎ (get_or flags r 0 ≡ 1)

pub next_flag : (marks : List ℕ) (places from r : ℕ) → from ≤ places → NextMarked marks places from r → NextFlag (flags places marks) from r
next_flag marks places from r h n =
    record {
      low = n.low;
      high = omega (arith, n.high, flags_length places marks);
      unmarked = λ i a b e. n.passed i a b (flag_marked places marks i e);
      there = go n.there;
    }
  where
    at_end : places ≤ r → r ≡ length (flags places marks)
    at_end u = omega (arith, n.high, flags_length places marks)

    go : (places ≤ r) ⊎ Marked marks r → (r ≡ length (flags places marks)) ⊎ (get_or (flags places marks) r 0 ≡ 1)
    go (inl u) = inl (at_end u)
    go (inr m) = split places r (λ u. inl (at_end u)) (λ u. inr (flags_say places marks r u ∙ m))

-- a piece ends before a place without a mark, or as far as it may reach
pub piece_ends : (marks : List ℕ) (places first start end r : ℕ) → start < places → end ≡ reach (first + start) start places → NextUnmarked marks end (start + 1) r
    → PieceEnd (flags places marks) first start r
piece_ends marks places first start end r l e n =
    record {
      more = omega (arith, n.low);
      inside = omega (arith, flags_length places marks, below);
      few = omega (arith, below);
      unbroken = omega (arith, below);
      marked = λ i a b. flags_say places marks i (omega (arith, below)) ∙ n.passed i (omega arith) b;
      ends = go n.there;
    }
  where
    below : r ≤ end
    below = omega (arith, n.high)

    Ends : Type 0
    Ends = (r ≡ length (flags places marks)) ⊎ ((r ≡ start + 16) ⊎ (((first + start) % 65536 + r ≡ start + 65536) ⊎ (get_or (flags places marks) r 0 ≢ 1)))

    far : r ≡ end → Ends
    far h =
        split r (start + 15)
        (λ u. split (places - start) (65536 - (first + start) % 65536) (λ v. inl (omega (arith, flags_length places marks))) (λ v. inr (inr (inl (omega arith)))))
        (λ u. inr (inl (omega arith)))

    go : (end ≤ r) ⊎ Unmarked marks r → Ends
    go (inl u) = far (omega (arith, below))
    go (inr u) = inr (inr (inr (λ h. u (flag_marked places marks r h))))
