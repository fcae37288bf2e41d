-- What digits spell when one of them becomes another digit, or two neighbours change places: as many bytes. Their sum moves by the
-- difference of the two digits, times 16, 1 or 15, which is not a multiple of 256.
-- Assumes nothing.
use Prim.Native.Nat.{ℕ, suc, ◌+◌, ◌*◌, ◌%◌, ◌/◌, ◌<◌}
use mathlib.Core.Path.{◌≡◌, refl, sym, ap, ap₂, subst}
use mathlib.Core.Logic.{◌≢◌}
use mathlib.Core.List.{List, [], ◌∷◌, ◌++◌}
use native.Mathlib.Omega.{arith}
use lib.ListN.{length}
use Rattle.checksum.specs.Checksum.{sum}
use Rattle.digits.specs.Digits.{digit}
use Rattle.digits.specs.Hex.{Hex, Spells, more}
use Rattle.digits.proofs.Hex.{hex_digit, hex_small, spells_length}

-- ---- two sums

-- they are apart by the difference of two digits: of a high digit, of a low one, or of two that changed places, either way
pub data Apart (x y s t : ℕ) : Type 0 where
  high : s + 16 * y ≡ t + 16 * x → Apart x y s t
  low : s + y ≡ t + x → Apart x y s t
  down : s + 15 * y ≡ t + 15 * x → Apart x y s t
  up : s + 15 * x ≡ t + 15 * y → Apart x y s t

apart_more : {x y s t : ℕ} (k : ℕ) → Apart x y s t → Apart x y (k + s) (k + t)
apart_more k (high e) = high (omega arith)
apart_more k (low e) = low (omega arith)
apart_more k (down e) = down (omega arith)
apart_more k (up e) = up (omega arith)

-- of different digits, not both are multiples of 256
pub not_both : {x y s t : ℕ} → Apart x y s t → x < 16 → y < 16 → x ≢ y → s % 256 ≡ 0 → t % 256 ≢ 0
not_both {x} {y} {s} {t} (high e) h k n z q =
    let p : 16 * (s / 256) + y ≡ 16 * (t / 256) + x = omega arith in
    let r : s / 256 ≡ t / 256 = omega arith in
    n (omega arith)
not_both (low e) h k n z q = n (omega arith)
not_both {x} {y} {s} {t} (down e) h k n z q = let r : s / 256 ≡ t / 256 = omega arith in n (omega arith)
not_both {x} {y} {s} {t} (up e) h k n z q = let r : s / 256 ≡ t / 256 = omega arith in n (omega arith)

-- ---- the characters

-- these characters spell bytes that are apart from those by the digits x and y
pub record Respelt (x y : ℕ) (ds bytes : List ℕ) : Type 0 where
  pub bytes' : List ℕ
  pub spells : Spells ds bytes'
  pub as_many : length bytes' ≡ length bytes
  pub apart : Apart x y (sum bytes) (sum bytes')
  pub same : x ≡ y → bytes' ≡ bytes
  pub first_digit : x < 16
  pub second_digit : y < 16

-- one byte more, before these
one_byte_more : {x y a b byte p q : ℕ} {ds bytes : List ℕ} → Hex a p → Hex b q → byte ≡ p * 16 + q → Respelt x y ds bytes → Respelt x y (a ∷ b ∷ ds) (byte ∷ bytes)
unfolding sum
one_byte_more {byte = byte} p q e r = record {
  bytes' = byte ∷ r.bytes';
  spells = more p q e r.spells;
  as_many = ap suc r.as_many;
  apart = apart_more byte r.apart;
  same = λ z. ap (λ (l : List ℕ). byte ∷ l) (r.same z);
  first_digit = r.first_digit;
  second_digit = r.second_digit;
}

-- a digit by the value that the judge computes
pub own : {c x : ℕ} → Hex c x → Hex c (digit c)
own {c} h = subst (λ (z : ℕ). Hex c z) (sym (hex_digit h)) h

own_small : {c x : ℕ} → Hex c x → digit c < 16
own_small h = hex_small (own h)

-- one digit became another
pub respelt : (before : List ℕ) (c d : ℕ) (after : List ℕ) {bytes : List ℕ} → Hex d (digit d) → Spells (before ++ (c ∷ after)) bytes
    → Respelt (digit c) (digit d) (before ++ (d ∷ after)) bytes
unfolding sum
respelt [] c d after h (more {bytes = bs} p q e s) =
    let i = hex_digit p in
    record {
      bytes' = _;
      spells = more h q refl s;
      as_many = refl;
      apart = high (omega arith);
      same = λ z. ap (λ (n : ℕ). n ∷ bs) (omega arith);
      first_digit = own_small p;
      second_digit = hex_small h;
    }
respelt (a ∷ []) c d after h (more {bytes = bs} p q e s) =
    let i = hex_digit q in
    record {
      bytes' = _;
      spells = more p h refl s;
      as_many = refl;
      apart = low (omega arith);
      same = λ z. ap (λ (n : ℕ). n ∷ bs) (omega arith);
      first_digit = own_small q;
      second_digit = hex_small h;
    }
respelt (a ∷ b ∷ before) c d after h (more p q e s) = one_byte_more p q e (respelt before c d after h s)

-- two neighbours changed places
pub swapped : (before : List ℕ) (c d : ℕ) (after : List ℕ) {bytes : List ℕ} → Spells (before ++ (c ∷ d ∷ after)) bytes
    → Respelt (digit c) (digit d) (before ++ (d ∷ c ∷ after)) bytes
unfolding sum
swapped [] c d after (more {bytes = bs} p q e s) =
    let i = hex_digit p in
    let j = hex_digit q in
    record {
      bytes' = _;
      spells = more (own q) (own p) refl s;
      as_many = refl;
      apart = down (omega arith);
      same = λ z. ap (λ (n : ℕ). n ∷ bs) (omega arith);
      first_digit = own_small p;
      second_digit = own_small q;
    }
swapped (a ∷ []) c d (b ∷ after) (more {byte = k} p q e (more {byte = l} {bytes = bs} p' q' e' s)) =
    let i = hex_digit q in
    let j = hex_digit p' in
    record {
      bytes' = _;
      spells = more p (own p') refl (more (own q) q' refl s);
      as_many = refl;
      apart = up (omega arith);
      same = λ z. ap₂ (λ (m n : ℕ). m ∷ n ∷ bs) (omega arith) (omega arith);
      first_digit = own_small q;
      second_digit = own_small p';
    }
swapped (a ∷ []) c d [] s = absurd (omega (arith, spells_length s))
swapped (a ∷ b ∷ before) c d after (more p q e s) = one_byte_more p q e (swapped before c d after s)
