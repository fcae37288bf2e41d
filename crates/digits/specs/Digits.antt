-- Hexadecimal digits, the bytes that pairs of them spell, and the numbers that bytes say.
-- Assumes nothing.
use Rattle.std.specs.Prelude.{◌≡◌, ℕ, suc, ◌+◌, ◌-◌, ◌*◌, Bool, true, ◌&&◌, List, [], ◌∷◌, nat_le, nat_lt}
use Rattle.std.specs.Prelude.{if◌then◌else◌}

unfoldable pub between : (low high c : ℕ) → Bool
between low high c = nat_le low c && nat_le c high

-- the value of a digit, 0 to 9, A to F or a to f; 16 for any other byte
unfoldable pub digit : ℕ → ℕ
unfolding between
digit c =
    if between 48 57 c then c - 48 else
    if between 65 70 c then c - 55 else
    if between 97 102 c then c - 87 else
    16

-- the contract of `digit_value`
pub record DigitValue (c r : ℕ) : Type 0 where
  pub answer : r ≡ digit c

abbrev pub is_digit : ℕ → Bool
is_digit c = nat_lt (digit c) 16

unfoldable pub all_digits : List ℕ → Bool
unfolding digit
all_digits [] = true
all_digits (c ∷ cs) = is_digit c && all_digits cs

-- how many digits stand ahead of the first character that is none
unfoldable pub leading : List ℕ → ℕ
unfolding digit
leading [] = 0
leading (c ∷ cs) = if is_digit c then suc (leading cs) else 0

-- two digits to a byte, high digit first
unfoldable pub bytes : List ℕ → List ℕ
unfolding digit
bytes (a ∷ b ∷ cs) = (digit a * 16 + digit b) ∷ bytes cs
bytes (a ∷ []) = []
bytes [] = []

-- a number of several bytes, high byte first, behind `high` of it that is read already
unfoldable pub number_after : (high : ℕ) → List ℕ → ℕ
number_after high [] = high
number_after high (b ∷ bs) = number_after (high * 256 + b) bs

abbrev pub big_endian : List ℕ → ℕ
big_endian bs = number_after 0 bs
