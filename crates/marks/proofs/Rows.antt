-- Laws of a row of marks: what a place says after another was marked or its mark was taken away, rows unpacked, and rows packed.
-- Assumes nothing.
use Prim.Native.Nat.{ℕ, zero, suc, ◌+◌, ◌*◌, ◌/◌, ◌%◌, ◌^◌, ◌≤◌, ◌<◌}
use mathlib.Core.Path.{◌≡◌, refl, sym, ap, ap₂, ◌∙◌}
use mathlib.Core.List.{List}
use native.Mathlib.Omega.{arith}
use mathlib.Core.Bool.{Bool}
use lib.ListN.{length, get_or, set, replicate, length-set, length-replicate, get_or-replicate, get_or-eq_default}
use lib.Seq.{get_or-set_same, get_or-set_other, set_out, ext_get_or}
use Rattle.marks.specs.Marks.{bit, byte_of, mark_at, with_bits, with_mark, listed, flags, number, packed, row_length, UnusedClear}
use Rattle.marks.specs.Claims.{Bytes}
use Rattle.marks.proofs.Below.{split, same_or}
use Rattle.marks.proofs.Bits.{flag, bit_small, bit_there, bit_other, bit_of_number, number_of_bits, number_same, bit_none}

pub mark_small : (marks : List ℕ) (p : ℕ) → mark_at marks p ≤ 1
unfolding mark_at
mark_small marks p = bit_small (byte_of marks p) (p % 8)

pub outside : (marks : List ℕ) (p : ℕ) → 8 * length marks ≤ p → mark_at marks p ≡ 0
unfolding mark_at byte_of
outside marks p h = ap (λ (x : ℕ). bit x (p % 8)) (get_or-eq_default marks 0 (omega arith)) ∙ bit_none (p % 8)

-- the place of bit i of byte q
pub its_byte : (q i : ℕ) → i < 8 → (8 * q + i) / 8 ≡ q
its_byte q i h = omega arith

pub its_bit : (q i : ℕ) → i < 8 → (8 * q + i) % 8 ≡ i
its_bit q i h = omega arith

pub here : (marks : List ℕ) (q i : ℕ) → i < 8 → mark_at marks (8 * q + i) ≡ bit (get_or marks q 0) i
unfolding mark_at byte_of
here marks q i h = ap₂ (λ (q i : ℕ). bit (get_or marks q 0) i) (its_byte q i h) (its_bit q i h)

-- ---- another byte at a place's byte

module _ (marks : List ℕ) (p y : ℕ) where
  -- another byte's places stay
  pub other_byte : (j : ℕ) → (j / 8 ≡ p / 8 → ⊥) → mark_at (set marks (p / 8) y) j ≡ mark_at marks j
  unfolding mark_at byte_of
  other_byte j n = ap (λ (x : ℕ). bit x (j % 8)) (get_or-set_other marks (p / 8) (j / 8) y 0 n)

  -- this byte's places are its bits
  pub same_byte : (j : ℕ) → p / 8 < length marks → j / 8 ≡ p / 8 → mark_at (set marks (p / 8) y) j ≡ bit y (j % 8)
  unfolding mark_at byte_of
  same_byte j h e = ap (λ (x : ℕ). bit x (j % 8)) (ap (λ (q : ℕ). get_or (set marks (p / 8) y) q 0) e ∙ get_or-set_same marks (p / 8) y 0 h)

  -- a place whose bit is as it was stays
  pub kept : (j : ℕ) → (j / 8 ≡ p / 8 → bit y (j % 8) ≡ bit (byte_of marks p) (j % 8)) → mark_at (set marks (p / 8) y) j ≡ mark_at marks j
  unfolding mark_at byte_of
  kept j h =
      same_or (j / 8) (p / 8)
      (λ e. split (length marks) (p / 8)
      (λ o. ap (λ (l : List ℕ). mark_at l j) (set_out marks (p / 8) y o))
      (λ i. same_byte j i e ∙ h e ∙ ap (λ (q : ℕ). bit (get_or marks q 0) (j % 8)) (sym e)))
      (λ n. other_byte j n)

-- ---- a place marked, or its mark taken away

module _ (on : Bool) (marks : List ℕ) (p : ℕ) where
  pub changed_length : length (with_mark on marks p) ≡ length marks
  unfolding with_mark
  changed_length = length-set marks (p / 8) (with_bits on (byte_of marks p) (2 ^ (p % 8)))

  pub changed_there : p < 8 * length marks → mark_at (with_mark on marks p) p ≡ flag on
  unfolding with_mark
  changed_there h =
      same_byte marks p (with_bits on (byte_of marks p) (2 ^ (p % 8))) p (omega arith) refl ∙ bit_there on (byte_of marks p) (p % 8) (omega arith)

  pub changed_elsewhere : (j : ℕ) → (j ≡ p → ⊥) → mark_at (with_mark on marks p) j ≡ mark_at marks j
  unfolding with_mark
  changed_elsewhere j n =
      kept marks p (with_bits on (byte_of marks p) (2 ^ (p % 8))) j
      (λ e. bit_other on (byte_of marks p) (p % 8) (j % 8) (omega arith) (omega arith) (λ r. n (omega arith)))

-- ---- none marked

pub zeros_none : (n p : ℕ) → mark_at (replicate n 0) p ≡ 0
unfolding mark_at byte_of
zeros_none n p =
    split n (p / 8)
    (λ o. outside (replicate n 0) p (omega (arith, length-replicate {A = ℕ} n 0)))
    (λ i. ap (λ (x : ℕ). bit x (p % 8)) (get_or-replicate n (p / 8) 0 0 i) ∙ bit_none (p % 8))

pub zeros_bytes : (n i : ℕ) → get_or (replicate n 0) i 0 < 256
zeros_bytes n i =
    split n i
    (λ l. omega (arith, get_or-eq_default (replicate {A = ℕ} n 0) 0 {n = i} (omega (arith, length-replicate {A = ℕ} n 0))))
    (λ l. omega (arith, get_or-replicate {A = ℕ} n i 0 0 l))

-- ---- listed

pub listed_length : (f : ℕ → ℕ) (n : ℕ) → length (listed f n) ≡ n
unfolding listed
listed_length f zero = refl
listed_length f (suc n) = ap suc (listed_length (λ i. f (suc i)) n)

pub listed_at : (f : ℕ → ℕ) (n i : ℕ) → i < n → get_or (listed f n) i 0 ≡ f i
unfolding listed
listed_at f zero i h = absurd (omega arith)
listed_at f (suc n) zero h = refl
listed_at f (suc n) (suc i) h = listed_at (λ i. f (suc i)) n i (omega arith)

pub listed_is : (f : ℕ → ℕ) (n : ℕ) (l : List ℕ) → length l ≡ n → ((i : ℕ) → i < n → f i ≡ get_or l i 0) → listed f n ≡ l
listed_is f n l e h =
    ext_get_or 0 (listed f n) l (listed_length f n ∙ sym e) (λ i k. let b : i < n = omega (arith, listed_length f n) in listed_at f n i b ∙ h i b)

-- ---- unpacked

pub flags_length : (n : ℕ) (marks : List ℕ) → length (flags n marks) ≡ n
unfolding flags
flags_length n marks = listed_length (mark_at marks) n

pub flags_say : (n : ℕ) (marks : List ℕ) (p : ℕ) → p < n → get_or (flags n marks) p 0 ≡ mark_at marks p
unfolding flags
flags_say n marks p h = listed_at (mark_at marks) n p h

-- what a row is unpacked to: the list of what its places say
pub flags_are : (n : ℕ) (marks l : List ℕ) → length l ≡ n → ((i : ℕ) → i < n → mark_at marks i ≡ get_or l i 0) → flags n marks ≡ l
unfolding flags
flags_are n marks l e h = listed_is (mark_at marks) n l e h

-- ---- packed, and back

pub packed_size : (list : List ℕ) → length (packed list) ≡ row_length (length list)
unfolding packed
packed_size list = listed_length (λ q. number 8 (λ i. get_or list (8 * q + i) 0)) (row_length (length list))

-- each flag is 0 or 1: the place says the flag
pub packed_at : (list : List ℕ) → ((i : ℕ) → get_or list i 0 ≤ 1) → (p : ℕ) → p < 8 * row_length (length list) → mark_at (packed list) p ≡ get_or list p 0
unfolding packed mark_at byte_of
packed_at list s p h =
    ap (λ (x : ℕ). bit x (p % 8)) (listed_at (λ q. number 8 (λ i. get_or list (8 * q + i) 0)) (row_length (length list)) (p / 8) (omega arith))
    ∙ bit_of_number 8 (λ i. get_or list (8 * (p / 8) + i) 0) (λ i. s (8 * (p / 8) + i)) (p % 8) (omega arith)
    ∙ ap (λ (q : ℕ). get_or list q 0) (back p)
  where
    back : (p : ℕ) → 8 * (p / 8) + p % 8 ≡ p
    back p = omega arith

pub unpacked_packed : (list : List ℕ) → ((i : ℕ) → get_or list i 0 ≤ 1) → flags (length list) (packed list) ≡ list
unfolding row_length
unpacked_packed list s = flags_are (length list) (packed list) list refl (λ i k. packed_at list s i (omega arith))

pub packed_unpacked : (n : ℕ) (marks : List ℕ) → Bytes marks → length marks ≡ row_length n → UnusedClear n marks → packed (flags n marks) ≡ marks
unfolding packed
packed_unpacked n marks b e u =
    listed_is (λ q. number 8 (λ i. get_or (flags n marks) (8 * q + i) 0)) (row_length (length (flags n marks))) marks
    (e ∙ ap row_length (sym (flags_length n marks)))
    (λ q k. number_same 8 (λ i. get_or (flags n marks) (8 * q + i) 0) (bit (get_or marks q 0)) (λ i h. flag_at q i h) ∙ number_of_bits 8 (get_or marks q 0) (b q))
  where
    flag_at : (q i : ℕ) → i < 8 → get_or (flags n marks) (8 * q + i) 0 ≡ bit (get_or marks q 0) i
    flag_at q i h =
        split n (8 * q + i)
        (λ l. get_or-eq_default (flags n marks) 0 (omega (arith, flags_length n marks)) ∙ sym (u (8 * q + i) l) ∙ here marks q i h)
        (λ l. flags_say n marks (8 * q + i) l ∙ here marks q i h)

-- rows of one length whose unused bits are 0 are equal where they are equal unpacked
pub same_unpacked : (n : ℕ) (marks marks' : List ℕ) → Bytes marks → Bytes marks' → length marks ≡ row_length n → length marks' ≡ row_length n
    → UnusedClear n marks → UnusedClear n marks' → flags n marks ≡ flags n marks' → marks ≡ marks'
same_unpacked n marks marks' b b' e e' u u' h = sym (packed_unpacked n marks b e u) ∙ ap packed h ∙ packed_unpacked n marks' b' e' u'
