-- Hexadecimal digits as a relation, and the bytes that pairs of them spell. Nothing here computes.
-- Assumes nothing.
use Rattle.std.specs.Prelude.{◌≡◌, ℕ, ◌+◌, ◌*◌, ◌<◌, ◌≤◌, List, [], ◌∷◌}

-- the character c is the hexadecimal digit of value x: 0 to 9, A to F, a to f
pub data Hex (c x : ℕ) : Type 0 where
  decimal : c ≡ 48 + x → x < 10 → Hex c x
  capital : c + 10 ≡ 65 + x → 10 ≤ x → x < 16 → Hex c x
  small : c + 10 ≡ 97 + x → 10 ≤ x → x < 16 → Hex c x

-- the characters spell the bytes, two to a byte, high digit first
pub data Spells : (digits bytes : List ℕ) → Type 0 where
  none : Spells [] []
  more : {a b x y byte : ℕ} {cs bytes : List ℕ} → Hex a x → Hex b y → byte ≡ x * 16 + y → Spells cs bytes → Spells (a ∷ b ∷ cs) (byte ∷ bytes)

-- the character is a hexadecimal digit
abbrev pub IsHex : ℕ → Type 0
IsHex c = (x : ℕ) × Hex c x
