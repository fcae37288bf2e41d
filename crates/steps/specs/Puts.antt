-- What lines put, byte by byte. `Puts n i byte` says that byte i of line n, where the first line is 0, is put at an address, and which byte it is.
-- The last byte at an address, what a load owes a place by it, and the first byte outside.
-- Assumes nothing.
use Rattle.std.specs.Prelude.{◌≡◌, ◌↔◌, ◌⊎◌, ℕ, suc, ◌≤◌, ◌<◌, Bool, true, false}

-- the last byte that is put at the address
pub record LastPut (Puts : (n i byte : ℕ) → Type 0) (byte : ℕ) : Type 0 where
  pub line : ℕ
  pub i : ℕ
  pub puts : Puts line i byte
  pub none_later : (n j b : ℕ) → Puts n j b → (n < line) ⊎ ((n ≡ line) × (j ≤ i))

-- what an accepted load owes the place of the address: its byte before, its mark and its byte after
pub record OwedPut (Puts : (n i byte : ℕ) → Type 0) (old mark byte : ℕ) : Type 0 where
  pub one_or_zero : (mark ≡ 1) ⊎ (mark ≡ 0)
  pub marked_iff_put : (mark ≡ 1) ↔ ((n : ℕ) × (i : ℕ) × (b : ℕ) × Puts n i b)
  pub marked_holds : mark ≡ 1 → LastPut Puts byte
  pub unmarked_keeps : mark ≡ 0 → byte ≡ old

-- the first byte that is put outside, whatever its address, on a line whose number counts from 1: every earlier byte lies inside
pub record FirstOut (inside : ℕ → Bool) (Puts : (n i address byte : ℕ) → Type 0) (address line : ℕ) : Type 0 where
  pub n : ℕ
  pub i : ℕ
  pub byte : ℕ
  pub number : line ≡ suc n
  pub puts : Puts n i address byte
  pub out : inside address ≡ false
  pub earlier : (m j a b : ℕ) → Puts m j a b → (m < n) ⊎ ((m ≡ n) × (j < i)) → inside a ≡ true
