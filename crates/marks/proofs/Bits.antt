-- Laws of the bits of a byte. What holds of every byte goes by the laws of the operations; what holds of a power of two is computed.
-- Assumes nothing.
use Prim.Native.Nat.{ℕ, zero, suc, ◌+◌, ◌-◌, ◌*◌, ◌/◌, ◌%◌, ◌^◌, ◌≤◌, ◌<◌, max}
use mathlib.Core.Path.{◌≡◌, refl, sym, ap, ap₂, ◌∙◌}
use mathlib.Core.Bool.{Bool, true, false}
use native.Mathlib.Omega.{arith}
use native.Mathlib.Nat.{pow-suc, zero-div}
use lib.Pow.{shr-shr}
use lib.Arith.{bin_ind}
use Rattle.std.proofs.lemmas.Nat.{and-not, and_comm}
use lib.Bits.{bit_and, bit_or, or_step, or_lt, and_step, and_le_l}
use lib.Dec.{T, eqb, leb, eqb→eq, leb→le}
use borrow.Author.Tests.{eq-eqb, ne_eqb}
use Rattle.marks.specs.Marks.{bit, with_bits, number}
use Rattle.marks.proofs.Below.{all_below, below}

pub bit_small : (x i : ℕ) → bit x i ≤ 1
unfolding bit
bit_small x i = omega arith

pub bit_none : (i : ℕ) → bit 0 i ≡ 0
unfolding bit
bit_none i = ap (λ (x : ℕ). x % 2) (zero-div (2 ^ i))

-- ---- the bits of a mask set, or else cleared

-- the digit that is written last is read back
last : (q t : ℕ) → t ≤ 1 → (q * 2 + t) % 2 ≡ t
last q t h = omega arith

-- and so is what stands before it
rest : (q t : ℕ) → t ≤ 1 → (q * 2 + t) / 2 ≡ q
rest q t h = omega arith

-- one digit of it
digit : Bool → ℕ → ℕ → ℕ
digit true a b = max a b
digit false a b = a - b

digit_small : (on : Bool) (a b : ℕ) → a ≤ 1 → b ≤ 1 → digit on a b ≤ 1
unfolding digit
digit_small true a b h k = omega arith
digit_small false a b h k = omega arith

digit_twice : (on : Bool) (a b c : ℕ) → a ≤ 1 → digit on (digit on a b) c ≡ digit on a (max b c)
unfolding digit
digit_twice true a b c h = omega arith
digit_twice false a b c h = omega arith

-- digit by digit
step : (on : Bool) (a b : ℕ) → with_bits on a b ≡ with_bits on (a / 2) (b / 2) * 2 + digit on (a % 2) (b % 2)
unfolding with_bits digit
step true a b = or_step a b
step false a b = omega (arith, and_step a b, and_le_l (a / 2) (b / 2))

module _ (on : Bool) (a b : ℕ) where
  small : digit on (a % 2) (b % 2) ≤ 1
  small = digit_small on (a % 2) (b % 2) (omega arith) (omega arith)

  odd : with_bits on a b % 2 ≡ digit on (a % 2) (b % 2)
  odd = ap (λ (x : ℕ). x % 2) (step on a b) ∙ last (with_bits on (a / 2) (b / 2)) (digit on (a % 2) (b % 2)) small

  half : with_bits on a b / 2 ≡ with_bits on (a / 2) (b / 2)
  half = ap (λ (x : ℕ). x / 2) (step on a b) ∙ rest (with_bits on (a / 2) (b / 2)) (digit on (a % 2) (b % 2)) small

bit_first : (x : ℕ) → bit x 0 ≡ x % 2
unfolding bit
bit_first x = omega arith

one_more : (i : ℕ) → suc i ≡ 1 + i
one_more i = omega arith

pub bit_after : (x i : ℕ) → bit x (suc i) ≡ bit (x / 2) i
unfolding bit
bit_after x i = ap (λ (k : ℕ). x / 2 ^ k % 2) (one_more i) ∙ ap (λ (y : ℕ). y % 2) (sym (shr-shr x 1 i))

-- each bit
bit_with : (on : Bool) (a b i : ℕ) → bit (with_bits on a b) i ≡ digit on (bit a i) (bit b i)
bit_with on a b zero = bit_first (with_bits on a b) ∙ odd on a b ∙ ap₂ (digit on) (sym (bit_first a)) (sym (bit_first b))
bit_with on a b (suc i) =
    bit_after (with_bits on a b) i ∙ ap (λ (x : ℕ). bit x i) (half on a b) ∙ bit_with on (a / 2) (b / 2) i
    ∙ ap₂ (digit on) (sym (bit_after a i)) (sym (bit_after b i))

or_half : (a b : ℕ) → bit_or a b / 2 ≡ bit_or (a / 2) (b / 2)
unfolding with_bits
or_half = half true

or_odd : (a b : ℕ) → bit_or a b % 2 ≡ max (a % 2) (b % 2)
unfolding with_bits digit
or_odd = odd true

none_twice : (on : Bool) (b c : ℕ) → with_bits on (with_bits on 0 b) c ≡ with_bits on 0 (bit_or b c)
unfolding with_bits
none_twice true b c = refl
none_twice false b c = refl

-- by two masks, one after the other
pub with_twice : (on : Bool) (a b c : ℕ) → with_bits on (with_bits on a b) c ≡ with_bits on a (bit_or b c)
with_twice on =
    bin_ind (λ (a : ℕ). (b c : ℕ) → with_bits on (with_bits on a b) c ≡ with_bits on a (bit_or b c)) (none_twice on)
    (λ a ih b c.
    step on (with_bits on a b) c
    ∙ ap₂ (λ (x y : ℕ). x * 2 + y)
    (ap (λ (x : ℕ). with_bits on x (c / 2)) (half on a b) ∙ ih (b / 2) (c / 2) ∙ ap (with_bits on (a / 2)) (sym (or_half b c)))
    (ap (λ (x : ℕ). digit on x (c % 2)) (odd on a b) ∙ digit_twice on (a % 2) (b % 2) (c % 2) (omega arith) ∙ ap (digit on (a % 2)) (sym (or_odd b c)))
    ∙ sym (step on a (bit_or b c)))

pub with_small : (on : Bool) (a b : ℕ) → a < 256 → b < 256 → with_bits on a b < 256
unfolding with_bits
with_small true a b h k = or_lt 8 a b h k
with_small false a b h k = omega arith

-- ---- powers of two, computed

unfoldable pub flag : Bool → ℕ
flag true = 1
flag false = 0

module _ (f : ℕ → ℕ → ℕ) (g : ℕ → ℕ → ℕ) where
  abbrev pub agree : ℕ → ℕ → Bool
  agree i j = eqb (f i j) (g i j)

  -- two rules of two numbers below 8 agree where the test says so at each pair
  pub both_below : T (all_below 8 (λ i. all_below 8 (agree i))) → (i j : ℕ) → i < 8 → j < 8 → f i j ≡ g i j
  both_below t i j h k = eqb→eq (f i j) (g i j) (below 8 (agree i) (below 8 (λ i. all_below 8 (agree i)) t i h) j k)

power_is : (i j : ℕ) → i < 8 → j < 8 → bit (2 ^ i) j ≡ flag (eqb i j)
unfolding bit flag all_below
power_is = both_below (λ i j. bit (2 ^ i) j) (λ i j. flag (eqb i j)) tt

pub power_small : (i : ℕ) → i < 8 → 2 ^ i < 256
unfolding all_below
power_small i h = omega (arith, leb→le (2 ^ i) 128 (below 8 (λ i. leb (2 ^ i) 128) tt i h))

-- ---- a bit set, or else cleared

digit_one : (on : Bool) (a : ℕ) → a ≤ 1 → digit on a (flag true) ≡ flag on
unfolding digit flag
digit_one true a h = omega arith
digit_one false a h = omega arith

digit_none : (on : Bool) (a : ℕ) → digit on a (flag false) ≡ a
unfolding digit flag
digit_none true a = omega arith
digit_none false a = omega arith

pub bit_there : (on : Bool) (x i : ℕ) → i < 8 → bit (with_bits on x (2 ^ i)) i ≡ flag on
bit_there on x i h = bit_with on x (2 ^ i) i ∙ ap (digit on (bit x i)) (power_is i i h h ∙ ap flag (eq-eqb i i refl)) ∙ digit_one on (bit x i) (bit_small x i)

pub bit_other : (on : Bool) (x i j : ℕ) → i < 8 → j < 8 → (j ≡ i → ⊥) → bit (with_bits on x (2 ^ i)) j ≡ bit x j
bit_other on x i j h k n =
    bit_with on x (2 ^ i) j ∙ ap (digit on (bit x j)) (power_is i j h k ∙ ap flag (ne_eqb i j (λ q. n (sym q)))) ∙ digit_none on (bit x j)

-- every bit the other way, computed for each byte
pub bit_flipped : (x i : ℕ) → x < 256 → i < 8 → bit (255 - x) i ≡ 1 - bit x i
unfolding all_below bit
bit_flipped x i h k =
    eqb→eq (bit (255 - x) i) (1 - bit x i)
    (below 8 (λ i. eqb (bit (255 - x) i) (1 - bit x i)) (below 256 (λ x. all_below 8 (λ i. eqb (bit (255 - x) i) (1 - bit x i))) tt x h) i k)

-- ---- a byte is its eight bits

pub number_same : (n : ℕ) (f g : ℕ → ℕ) → ((i : ℕ) → i < n → f i ≡ g i) → number n f ≡ number n g
unfolding number
number_same zero f g h = refl
number_same (suc n) f g h =
    ap₂ (λ (x y : ℕ). x + 2 * y) (h 0 (omega arith)) (number_same n (λ i. f (suc i)) (λ i. g (suc i)) (λ i k. h (suc i) (omega arith)))

pub bit_of_number : (n : ℕ) (f : ℕ → ℕ) → ((i : ℕ) → f i ≤ 1) → (i : ℕ) → i < n → bit (number n f) i ≡ f i
unfolding number bit
bit_of_number zero f s i h = absurd (omega arith)
bit_of_number (suc n) f s zero h = let a = s 0 in omega arith
bit_of_number (suc n) f s (suc i) h =
    let a = s 0 in
    let e : number (suc n) f / 2 ≡ number n (λ j. f (suc j)) = omega arith in
    bit_after (number (suc n) f) i ∙ ap (λ (x : ℕ). bit x i) e ∙ bit_of_number n (λ j. f (suc j)) (λ j. s (suc j)) i (omega arith)

pub number_of_bits : (n x : ℕ) → x < 2 ^ n → number n (bit x) ≡ x
unfolding number bit
number_of_bits zero x h = omega arith
number_of_bits (suc n) x h =
    let p = pow-suc 2 n in
    let e = number_of_bits n (x / 2) (omega arith) in
    let same = number_same n (λ i. bit x (suc i)) (bit (x / 2)) (λ i k. bit_after x i) in
    omega arith

pub number_small : (n : ℕ) (f : ℕ → ℕ) → ((i : ℕ) → f i ≤ 1) → number n f < 2 ^ n
unfolding number
number_small zero f s = omega arith
number_small (suc n) f s = omega (arith, pow-suc 2 n, number_small n (λ i. f (suc i)) (λ i. s (suc i)), s 0)

-- a mask cleared as the program does it: the bits that the flipped mask leaves are the byte less those of the mask
pub cleared_byte : (byte mask : ℕ) → byte < 256 → mask < 256 → bit_and byte (255 - mask) ≡ with_bits false byte mask
unfolding with_bits
cleared_byte byte mask h k = omega (arith, and-not 8 mask byte k h, and_comm byte (255 - mask), and_comm byte mask)
