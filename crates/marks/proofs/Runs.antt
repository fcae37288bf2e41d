-- Laws of a run of places whose marks are set or taken away: cut in two, outside the row, and within one byte.
-- Assumes nothing.
use Prim.Native.Nat.{ℕ, zero, suc, ◌+◌, ◌-◌, ◌*◌, ◌/◌, ◌%◌, ◌^◌, ◌≤◌, ◌<◌, min}
use mathlib.Core.Path.{◌≡◌, refl, sym, ap, ap₂, ◌∙◌}
use mathlib.Core.Logic.{◌⊎◌, inl, inr}
use mathlib.Core.Bool.{Bool, true, false, ◌||◌}
use mathlib.Core.List.{List}
use native.Mathlib.Omega.{arith}
use native.Mathlib.Nat.{add-zero, zero-add}
use lib.Bits.{bit_or}
use lib.Dec.{T, eqb, ltb, eqb→eq, ltb→lt}
use lib.ListN.{length, get_or, set, length-set}
use lib.Seq.{get_or-set_same, set_out, set-set}
use Rattle.marks.specs.Marks.{byte_of, mark_at, with_bits, with_mark, changed_run, ones_at}
use Rattle.marks.proofs.Below.{split, all_below, below}
use Rattle.marks.proofs.Bits.{flag, with_twice}
use Rattle.marks.proofs.Rows.{its_byte, its_bit, changed_length, changed_there, changed_elsewhere}

-- ---- masks, computed

or_right : (a b : Bool) → (T a → ⊥) → T (a || b) → T b
or_right true b n t = absurd (n tt)
or_right false b n t = t

module _ (f g : ℕ → ℕ → ℕ) where
  abbrev pub agree_within : ℕ → ℕ → Bool
  agree_within r n = ltb 8 (r + n) || eqb (f r n) (g r n)

  -- two rules of a part of a byte agree where the test says so at each
  pub within : T (all_below 9 (λ r. all_below 9 (agree_within r))) → (r n : ℕ) → r + n ≤ 8 → f r n ≡ g r n
  within t r n h =
      eqb→eq (f r n) (g r n)
      (or_right (ltb 8 (r + n)) (eqb (f r n) (g r n)) (λ u. omega (arith, ltb→lt 8 (r + n) u))
      (below 9 (agree_within r) (below 9 (λ r. all_below 9 (agree_within r)) t r (omega arith)) n (omega arith)))

-- as the shifts have it
pub ones_shifted : (r n : ℕ) → r + n ≤ 8 → 255 / 2 ^ (8 - n) * 2 ^ r % 2 ^ 8 ≡ ones_at r n
unfolding all_below
ones_shifted = within (λ r n. 255 / 2 ^ (8 - n) * 2 ^ r % 2 ^ 8) ones_at tt

ones_more : (r n : ℕ) → r + n ≤ 8 → bit_or (ones_at r 1) (ones_at (suc r) n) ≡ ones_at r (suc n)
unfolding all_below
ones_more = within (λ r n. bit_or (ones_at r 1) (ones_at (suc r) n)) (λ r n. ones_at r (suc n)) tt

-- ---- place by place

pub run_in_two : (on : Bool) (marks : List ℕ) (a n m : ℕ) → changed_run on marks a (n + m) ≡ changed_run on (changed_run on marks a n) (a + n) m
unfolding changed_run
run_in_two on marks a zero m = ap₂ (changed_run on marks) (sym (add-zero a)) (zero-add m)
run_in_two on marks a (suc n) m =
    ap (changed_run on marks a) (one_out n m) ∙ run_in_two on (with_mark on marks a) (suc a) n m
    ∙ ap (λ (b : ℕ). changed_run on (changed_run on (with_mark on marks a) (suc a) n) b m) (one_over a n)
  where
    one_out : (n m : ℕ) → suc n + m ≡ suc (n + m)
    one_out n m = omega arith

    one_over : (a n : ℕ) → suc a + n ≡ a + suc n
    one_over a n = omega arith

pub run_length : (on : Bool) (marks : List ℕ) (a n : ℕ) → length (changed_run on marks a n) ≡ length marks
unfolding changed_run
run_length on marks a zero = refl
run_length on marks a (suc n) = run_length on (with_mark on marks a) (suc a) n ∙ changed_length on marks a

-- places elsewhere stay
pub run_elsewhere : (on : Bool) (marks : List ℕ) (a n p : ℕ) → (p < a) ⊎ (a + n ≤ p) → mark_at (changed_run on marks a n) p ≡ mark_at marks p
unfolding changed_run
run_elsewhere on marks a zero p o = refl
run_elsewhere on marks a (suc n) p o = run_elsewhere on (with_mark on marks a) (suc a) n p (later o) ∙ changed_elsewhere on marks a p (other o)
  where
    later : (p < a) ⊎ (a + suc n ≤ p) → (p < suc a) ⊎ (suc a + n ≤ p)
    later (inl l) = inl (omega arith)
    later (inr l) = inr (omega arith)

    other : (p < a) ⊎ (a + suc n ≤ p) → p ≡ a → ⊥
    other (inl l) e = omega arith
    other (inr l) e = omega arith

-- places of the run are marked, or else none is
pub run_inside : (on : Bool) (marks : List ℕ) (a n p : ℕ) → a ≤ p → p < a + n → p < 8 * length marks → mark_at (changed_run on marks a n) p ≡ flag on
unfolding changed_run
run_inside on marks a zero p l h i = absurd (omega arith)
run_inside on marks a (suc n) p l h i =
    split p a
    (λ u. run_elsewhere on (with_mark on marks a) (suc a) n p (inl (omega arith)) ∙ ap (mark_at (with_mark on marks a)) (both p a l u) ∙ changed_there on marks a (omega arith))
    (λ u. run_inside on (with_mark on marks a) (suc a) n p u (omega arith) (omega (arith, changed_length on marks a)))
  where
    both : (p a : ℕ) → a ≤ p → p ≤ a → p ≡ a
    both p a l k = omega arith

-- ---- byte by byte

one : (on : Bool) (marks : List ℕ) (p : ℕ) → with_mark on marks p ≡ set marks (p / 8) (with_bits on (byte_of marks p) (ones_at (p % 8) 1))
unfolding with_mark
one on marks p = ap (λ (x : ℕ). set marks (p / 8) (with_bits on (byte_of marks p) x)) (single (p % 8))
  where
    single : (r : ℕ) → 2 ^ r ≡ ones_at r 1
    single r = omega arith

pub run_outside : (on : Bool) (marks : List ℕ) (a n : ℕ) → 8 * length marks ≤ a → changed_run on marks a n ≡ marks
unfolding changed_run
run_outside on marks a zero h = refl
run_outside on marks a (suc n) h =
    ap (λ (l : List ℕ). changed_run on l (suc a) n) (one on marks a ∙ set_out marks (a / 8) (with_bits on (byte_of marks a) (ones_at (a % 8) 1)) (omega arith))
    ∙ run_outside on marks (suc a) n (omega arith)

-- one place by its byte and its bit
one_bit : (on : Bool) (marks : List ℕ) (q r : ℕ) → r < 8 → with_mark on marks (8 * q + r) ≡ set marks q (with_bits on (get_or marks q 0) (ones_at r 1))
unfolding byte_of
one_bit on marks q r h =
    one on marks (8 * q + r) ∙ ap₂ (λ (q r : ℕ). set marks q (with_bits on (get_or marks q 0) (ones_at r 1))) (its_byte q r h) (its_bit q r h)

-- a run within a byte is one operation
pub run_part : (on : Bool) (marks : List ℕ) (q r n : ℕ) → q < length marks → r + suc n ≤ 8
    → changed_run on marks (8 * q + r) (suc n) ≡ set marks q (with_bits on (get_or marks q 0) (ones_at r (suc n)))
unfolding changed_run
run_part on marks q r zero i h = one_bit on marks q r (omega arith)
run_part on marks q r (suc n) i h =
    ap₂ (λ (l : List ℕ) (a : ℕ). changed_run on l a (suc n)) (one_bit on marks q r (omega arith)) (next q r)
    ∙ run_part on (set marks q y) q (suc r) n (omega (arith, length-set marks q y)) (omega arith)
    ∙ ap (λ (x : ℕ). set (set marks q y) q (with_bits on x (ones_at (suc r) (suc n)))) (get_or-set_same marks q y 0 i)
    ∙ set-set marks q y (with_bits on y (ones_at (suc r) (suc n)))
    ∙ ap (set marks q) (with_twice on (get_or marks q 0) (ones_at r 1) (ones_at (suc r) (suc n)) ∙ ap (with_bits on (get_or marks q 0)) (ones_more r (suc n) (omega arith)))
  where
    y : ℕ
    y = with_bits on (get_or marks q 0) (ones_at r 1)

    next : (q r : ℕ) → suc (8 * q + r) ≡ 8 * q + suc r
    next q r = omega arith

part_of : (on : Bool) (marks : List ℕ) (q r n : ℕ) → q < length marks → 0 < n → r + n ≤ 8
    → changed_run on marks (8 * q + r) n ≡ set marks q (with_bits on (get_or marks q 0) (ones_at r n))
part_of on marks q r zero i z h = absurd (omega arith)
part_of on marks q r (suc n) i z h = run_part on marks q r n i h

-- what is left of a run, after the part of it that lies in one byte
pub run_on : (on : Bool) (marks : List ℕ) (q r left count x : ℕ) → q < length marks → r < 8 → 0 < left → count ≡ min (8 - r) left
    → x ≡ with_bits on (get_or marks q 0) (ones_at r count)
    → changed_run on (set marks q x) (8 * (q + 1) + 0) (left - count) ≡ changed_run on marks (8 * q + r) left
unfolding changed_run
run_on on marks q r left count x i h z e m =
    ap (λ (l : List ℕ). changed_run on l (8 * (q + 1) + 0) (left - count))
    (ap (set marks q) m ∙ sym (part_of on marks q r count i (omega arith) (omega arith)))
    ∙ split left (8 - r)
    (λ l. ap₂ (λ (k m : ℕ). changed_run on (changed_run on marks (8 * q + r) k) (8 * (q + 1) + 0) m) (all_of l) (none_of l))
    (λ l. ap (λ (a : ℕ). changed_run on (changed_run on marks (8 * q + r) count) a (left - count)) (after_it l)
    ∙ sym (run_in_two on marks (8 * q + r) count (left - count)) ∙ ap (changed_run on marks (8 * q + r)) whole)
  where
    all_of : left ≤ 8 - r → count ≡ left
    all_of l = omega arith

    none_of : left ≤ 8 - r → left - count ≡ 0
    none_of l = omega arith

    after_it : 8 - r < left → 8 * (q + 1) + 0 ≡ 8 * q + r + count
    after_it l = omega arith

    whole : count + (left - count) ≡ left
    whole = omega arith
