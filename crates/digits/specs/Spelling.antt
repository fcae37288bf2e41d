-- Digits written: bytes put into an output as capitals, two to a byte.
-- Assumes nothing.
use Rattle.std.specs.Prelude.{◌≡◌, ℕ, ◌+◌, ◌*◌, ◌/◌, ◌%◌, ◌<◌, ◌≤◌, ◌⊎◌, List, [], ◌∷◌, length, nat_lt}
use Rattle.checksum.specs.Checksum.{sum}
use Rattle.digits.specs.Common.{pasted}
use Rattle.std.specs.Prelude.{if◌then◌else◌}

-- the capital digit of a value below 16
unfoldable pub capital_digit : ℕ → ℕ
capital_digit x = if nat_lt x 10 then 48 + x else 55 + x

unfoldable pub spelt : List ℕ → List ℕ
unfolding capital_digit
spelt [] = []
spelt (b ∷ bs) = capital_digit (b / 16) ∷ capital_digit (b % 16) ∷ spelt bs

-- a digit that is not a small letter: 0 to 9, or A to F
abbrev pub Capital : ℕ → Type 0
Capital c = ((48 ≤ c) × (c ≤ 57)) ⊎ ((65 ≤ c) × (c ≤ 70))

-- the contract of `capital_digit`
pub record CapitalDigit (byte r : ℕ) : Type 0 where
  pub answer : r ≡ capital_digit (byte % 16)

-- a byte's two digits were put at a place
pub record Put (byte : ℕ) (out : List ℕ) (at : ℕ) (out' : List ℕ) : Type 0 where
  pub left : out' ≡ pasted out at (spelt (byte ∷ []))

-- bytes were spelt at the output's first places, and sum to r with a sum before them
pub record Spelt (bytes : List ℕ) (before : ℕ) (out : List ℕ) (r : ℕ) (out' : List ℕ) : Type 0 where
  pub sums : r ≡ (before + sum bytes) % 256
  pub left : out' ≡ pasted out 0 (spelt bytes)

-- the contract of `spell`
pub record Spell (bytes : List ℕ) (before : ℕ) (out : List ℕ) (r : ℕ) (out' : List ℕ) : Type 0 where
  pub written : 2 * length bytes ≤ length out → Spelt bytes before out r out'
  pub no_room : length out < 2 * length bytes → (r ≡ before) × (out' ≡ out)
