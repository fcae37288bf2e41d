-- Laws of the searches: the lowest set bit, what the bits from a place on say, and what is found among them.
-- Assumes nothing.
use Prim.Native.Nat.{ℕ, zero, suc, min, ◌+◌, ◌-◌, ◌*◌, ◌/◌, ◌%◌, ◌^◌, ◌≤◌, ◌<◌}
use mathlib.Core.Path.{◌≡◌, refl, sym, ap, ◌∙◌, subst}
use mathlib.Core.Logic.{◌⊎◌, inl, inr, ⊎_elim}
use mathlib.Core.List.{List}
use mathlib.Core.Bool.{Bool, true, false}
use native.Mathlib.Omega.{arith}
use native.Mathlib.Nat.{pow-suc}
use lib.Pow.{shr-shr, shr_lt}
use lib.Count.{count_trailing_zeros, under}
use lib.ListN.{length, get_or}
use Rattle.marks.specs.Marks.{bit, byte_of, mark_at, row_length, sought, Marked, Unmarked, Lowest, LowestPlace, Next, NextOf, NextMarked, NextUnmarked}
use Rattle.marks.specs.Claims.{IsFirstUnused}
use Rattle.marks.proofs.Below.{split}
use Rattle.marks.proofs.Bits.{bit_none, bit_after, bit_flipped}
use Rattle.marks.proofs.Rows.{mark_small, outside}

-- a 1 where there is no mark
unfoldable pub gap_at : (marks : List ℕ) (place : ℕ) → ℕ
gap_at marks place = 1 - mark_at marks place

-- what a search has found, by what is 1 at a place: the first from a place on, or the number of places
pub record Seen (at : ℕ → ℕ) (places from r : ℕ) : Type 0 where
  pub low : from ≤ r
  pub high : r ≤ places
  pub none : (p : ℕ) → from ≤ p → p < r → at p ≡ 0
  pub there : (r ≡ places) ⊎ (at r ≡ 1)

-- it is the next marked place, or the next without a mark
pub seen_marked : (marks : List ℕ) (places from r : ℕ) → Seen (mark_at marks) places from r → NextMarked marks places from r
seen_marked marks places from r x =
    record {
      low = x.low;
      high = omega (arith, x.high);
      passed = λ p l h e. omega (arith, x.none p l h);
      there = ⊎_elim (λ e. inl (omega arith)) (λ e. inr e) x.there;
    }

pub seen_unmarked : (marks : List ℕ) (places from r : ℕ) → Seen (gap_at marks) places from r → NextUnmarked marks places from r
unfolding gap_at
seen_unmarked marks places from r x =
    record {
      low = x.low;
      high = omega (arith, x.high);
      passed = λ p l h. omega (arith, x.none p l h, mark_small marks p);
      there = ⊎_elim (λ e. inl (omega arith)) (λ e. inr (λ m. omega arith)) x.there;
    }

-- a 1 at each place that is sought: that is marked, or else that is not
unfoldable pub sought_at : (marked : Bool) (marks : List ℕ) (place : ℕ) → ℕ
sought_at true = mark_at
sought_at false = gap_at

pub seen_next : (marked : Bool) (marks : List ℕ) (places from r : ℕ) → Seen (sought_at marked marks) places from r → NextOf marked marks places from r
unfolding sought_at
seen_next true = seen_marked
seen_next false = seen_unmarked

-- where there are no places from a place on, none is passed
pub none_to_pass : (P Q : ℕ → Type 0) (places from : ℕ) → places ≤ from → Next P Q places from from
none_to_pass P Q places from h = record { low = omega arith; high = omega arith; passed = λ p l u. absurd (omega arith); there = inl h }

pub none_next : (marked : Bool) (marks : List ℕ) (places from : ℕ) → places ≤ from → NextOf marked marks places from from
none_next true marks = none_to_pass (Unmarked marks) (Marked marks)
none_next false marks = none_to_pass (Marked marks) (Unmarked marks)

-- ---- the lowest set bit

lowest_of : (d t : ℕ) → ((d ≡ 0) × (under d t ≡ suc t)) ⊎ ((0 < d) × (under d t ≡ 0))
lowest_of zero t = inl (refl, refl)
lowest_of (suc d) t = inr (omega arith, refl)

bit_0 : (x : ℕ) → bit x 0 ≡ x % 2
unfolding bit
bit_0 x = omega arith

-- the bits below it are 0
pub below_lowest : (k x i : ℕ) → i < count_trailing_zeros k x → bit x i ≡ 0
unfolding count_trailing_zeros
below_lowest zero x i h = absurd (omega arith)
below_lowest (suc k) x i h = which (λ j m. below_lowest k (x / 2) j m) i h (lowest_of (x % 2) (count_trailing_zeros k (x / 2)))
  where
    which : ((j : ℕ) → j < count_trailing_zeros k (x / 2) → bit (x / 2) j ≡ 0) → (i : ℕ) → i < under (x % 2) (count_trailing_zeros k (x / 2))
        → ((x % 2 ≡ 0) × (under (x % 2) (count_trailing_zeros k (x / 2)) ≡ suc (count_trailing_zeros k (x / 2)))) ⊎ ((0 < x % 2) × (under (x % 2) (count_trailing_zeros k (x / 2)) ≡ 0))
        → bit x i ≡ 0
    which rest i h (inr e) = absurd (omega arith)
    which rest zero h (inl e) = bit_0 x ∙ e.0
    which rest (suc i) h (inl e) = bit_after x i ∙ rest i (omega arith)

-- it is 1, and stands below the number's length
pub lowest_set : (k x n : ℕ) → 0 < x → x < 2 ^ k → x < 2 ^ n → (bit x (count_trailing_zeros k x) ≡ 1) × (count_trailing_zeros k x < n)
unfolding count_trailing_zeros
lowest_set zero x n z h m = absurd (omega arith)
lowest_set (suc k) x zero z h m = absurd (omega arith)
lowest_set (suc k) x (suc n) z h m =
    which (λ l. lowest_set k (x / 2) n l (omega (arith, pow-suc 2 k)) (omega (arith, pow-suc 2 n))) (lowest_of (x % 2) (count_trailing_zeros k (x / 2)))
  where
    which : (0 < x / 2 → (bit (x / 2) (count_trailing_zeros k (x / 2)) ≡ 1) × (count_trailing_zeros k (x / 2) < n))
        → ((x % 2 ≡ 0) × (under (x % 2) (count_trailing_zeros k (x / 2)) ≡ suc (count_trailing_zeros k (x / 2)))) ⊎ ((0 < x % 2) × (under (x % 2) (count_trailing_zeros k (x / 2)) ≡ 0))
        → (bit x (under (x % 2) (count_trailing_zeros k (x / 2))) ≡ 1) × (under (x % 2) (count_trailing_zeros k (x / 2)) < suc n)
    which rest (inr e) = (ap (bit x) e.1 ∙ bit_0 x ∙ omega arith, omega arith)
    which rest (inl e) =
        let r = rest (omega arith) in
        (ap (bit x) e.1 ∙ bit_after x (count_trailing_zeros k (x / 2)) ∙ r.0, omega arith)

-- ---- the bits from a place on

-- bits that say of each place of a byte, from a place on, what is there
abbrev pub Says : (at : ℕ → ℕ) (place bits : ℕ) → Type 0
Says at i x = (p : ℕ) → i ≤ p → p < i + (8 - i % 8) → at p ≡ bit x (p - i)

-- a byte's bits from one on
from_bit : (y r k : ℕ) → bit y (r + k) ≡ bit (y / 2 ^ r) k
unfolding bit
from_bit y r k = ap (λ (x : ℕ). x % 2) (sym (shr-shr y r k))

module _ (marks : List ℕ) (i : ℕ) where
  same_byte_too : (p : ℕ) → i ≤ p → p < i + (8 - i % 8) → p / 8 ≡ i / 8
  same_byte_too p l h = omega arith

  bits_on : (p : ℕ) → i ≤ p → p < i + (8 - i % 8) → p % 8 ≡ i % 8 + (p - i)
  bits_on p l h = omega arith

  in_its_byte : (p : ℕ) → i ≤ p → p < i + (8 - i % 8) → mark_at marks p ≡ bit (byte_of marks i) (p % 8)
  unfolding mark_at byte_of
  in_its_byte p l h = ap (λ (q : ℕ). bit (get_or marks q 0) (p % 8)) (same_byte_too p l h)

  pub byte_says : (x : ℕ) → x ≡ byte_of marks i / 2 ^ (i % 8) → Says (mark_at marks) i x
  byte_says x e p l h =
      in_its_byte p l h ∙ ap (bit (byte_of marks i)) (bits_on p l h) ∙ from_bit (byte_of marks i) (i % 8) (p - i) ∙ ap (λ (y : ℕ). bit y (p - i)) (sym e)

  pub gaps_say : (x : ℕ) → byte_of marks i < 256 → x ≡ (255 - byte_of marks i) / 2 ^ (i % 8) → Says (gap_at marks) i x
  unfolding gap_at
  gaps_say x b e p l h =
      ap (λ (m : ℕ). 1 - m) (in_its_byte p l h) ∙ sym (bit_flipped (byte_of marks i) (p % 8) b (omega arith))
      ∙ ap (bit (255 - byte_of marks i)) (bits_on p l h) ∙ from_bit (255 - byte_of marks i) (i % 8) (p - i) ∙ ap (λ (y : ℕ). bit y (p - i)) (sym e)

sought_says : (marked : Bool) (marks : List ℕ) (place x : ℕ) → byte_of marks place < 256 → x ≡ sought marked (byte_of marks place) / 2 ^ (place % 8)
    → Says (sought_at marked marks) place x
unfolding sought sought_at
sought_says true marks place x b e = byte_says marks place x e
sought_says false marks place x b e = gaps_say marks place x b e

-- a byte from a place on says what is sought of each place from there on
pub part_says : (marked : Bool) (marks : List ℕ) (place byte x : ℕ) → byte < 256 → byte ≡ byte_of marks place → x ≡ sought marked byte
    → Says (sought_at marked marks) place (x / 2 ^ (place % 8))
part_says marked marks place byte x b e s =
    sought_says marked marks place (x / 2 ^ (place % 8)) (omega arith) (ap (λ (y : ℕ). y / 2 ^ (place % 8)) (s ∙ ap (sought marked) e))

-- they are as many as the byte has from there on
pub bits_small : (y i x : ℕ) → x ≡ y / 2 ^ (i % 8) → y < 256 → x < 2 ^ (8 - i % 8)
bits_small y i x e b = subst (λ (z : ℕ). z < 2 ^ (8 - i % 8)) (sym e) (shr_lt (8 - i % 8) (i % 8) (subst (λ (k : ℕ). y < 2 ^ k) (eight i) b))
  where
    eight : (i : ℕ) → 8 ≡ 8 - i % 8 + i % 8
    eight i = omega arith

-- a whole byte is the bits from its first place on
pub whole_byte : (y q : ℕ) → y ≡ y / 2 ^ (8 * q % 8)
whole_byte y q = sym (ap (λ (r : ℕ). y / 2 ^ r) (first_bit q) ∙ div_one y)
  where
    first_bit : (q : ℕ) → 8 * q % 8 ≡ 0
    first_bit q = omega arith

    div_one : (x : ℕ) → x / 2 ^ 0 ≡ x
    div_one x = omega arith

pub its_first : (marks : List ℕ) (q : ℕ) → get_or marks q 0 ≡ byte_of marks (8 * q)
unfolding byte_of
its_first marks q = ap (λ (a : ℕ). get_or marks a 0) (first_byte q)
  where
    first_byte : (q : ℕ) → q ≡ 8 * q / 8
    first_byte q = omega arith

-- a whole byte says what is sought of each place that it holds
pub whole_says : (marked : Bool) (marks : List ℕ) (q x : ℕ) → get_or marks q 0 < 256 → x ≡ sought marked (get_or marks q 0) → Says (sought_at marked marks) (8 * q) x
whole_says marked marks q x b e =
    sought_says marked marks (8 * q) x (omega (arith, its_first marks q))
    (whole_byte x q ∙ ap (λ (y : ℕ). y / 2 ^ (8 * q % 8)) (e ∙ ap (sought marked) (its_first marks q)))

module _ (at : ℕ → ℕ) where
  -- none is set: there is none up to the byte's end
  pub none_left : (i x : ℕ) → Says at i x → x ≡ 0 → (p : ℕ) → i ≤ p → p < i + (8 - i % 8) → at p ≡ 0
  none_left i x says z p l h = says p l h ∙ ap (λ (y : ℕ). bit y (p - i)) z ∙ bit_none (p - i)

  -- the lowest set bit from a place on, after places where there is none, is the next
  pub found : (places from i x r : ℕ) → from ≤ i → ((j : ℕ) → from ≤ j → j < i → at j ≡ 0) → Says at i x → x < 2 ^ (8 - i % 8)
      → LowestPlace places i x r → Seen at places from r
  found places from i x r l none says b f =
      record {
        low = omega (arith, f.low);
        high = f.high;
        none = λ p a h. split i p (λ k. says p k (omega (arith, f.near (8 - i % 8) b)) ∙ f.clear (p - i) (omega arith)) (λ k. none p a k);
        there = ⊎_elim (λ h. inl h) (λ h. inr (says r f.low (f.near (8 - i % 8) b) ∙ h)) f.there;
      }

-- the lowest set bit from the number of places on
pub found_unused : (marks : List ℕ) (places x r : ℕ) → (places % 8 ≡ 0 → ⊥) → Says (mark_at marks) places x → r < 8 - places % 8
    → Lowest x r → IsFirstUnused marks places (places + r)
unfolding row_length
found_unused marks places x r n says b f =
    record {
      low = omega arith;
      high = split (places % 8) 0 (λ l. absurd (n (omega arith))) (λ l. omega arith);
      set = says (places + r) (omega arith) (omega arith) ∙ ap (bit x) (back places r) ∙ f.set;
      none_before = λ j l h. says j l (omega arith) ∙ f.clear (j - places) (omega arith);
    }
  where
    back : (a k : ℕ) → a + k - a ≡ k
    back a k = omega arith

pub gap_outside : (marks : List ℕ) (p : ℕ) → 8 * length marks ≤ p → gap_at marks p ≡ 1
unfolding gap_at
gap_outside marks p h = ap (λ (m : ℕ). 1 - m) (outside marks p h)

-- outside the row each place is sought, where those without a mark are
pub sought_outside : (marked : Bool) (marks : List ℕ) (p : ℕ) → marked ≡ false → 8 * length marks ≤ p → sought_at marked marks p ≡ 1
unfolding sought_at
sought_outside marked marks p e h = ap (λ (on : Bool). sought_at on marks p) e ∙ gap_outside marks p h

-- after the last byte looked at there is no mark
pub none_after : (marks : List ℕ) (places at : ℕ) → min (row_length places) (length marks) ≤ at → (j : ℕ) → 8 * at ≤ j → j < places → mark_at marks j ≡ 0
unfolding row_length
none_after marks places at e j l h = outside marks j (omega arith)

-- after it no place is sought, unless those without a mark are and the row ends early
pub rest_passed : (marked : Bool) (marks : List ℕ) (places bytes end at : ℕ) → bytes ≡ row_length places → end ≡ min bytes (length marks) → end ≤ at
    → ((marked ≡ false) × (bytes ≤ end)) ⊎ (marked ≡ true) → (j : ℕ) → 8 * at ≤ j → j < places → sought_at marked marks j ≡ 0
unfolding sought_at row_length
rest_passed marked marks places bytes end at b e h (inl x) j l k = absurd (omega (arith, x.1))
rest_passed marked marks places bytes end at b e h (inr x) j l k = ap (λ (on : Bool). sought_at on marks j) x ∙ none_after marks places at (omega arith) j l k

module _ (P : ℕ → Type 0) where
  -- what holds from one place up to another, and from there up to a third
  pub further : (a b c : ℕ) → ((j : ℕ) → a ≤ j → j < b → P j) → ((j : ℕ) → b ≤ j → j < c → P j) → (j : ℕ) → a ≤ j → j < c → P j
  further a b c f g j l h = split b j (λ k. g j k h) (λ k. f j l k)
