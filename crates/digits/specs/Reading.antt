-- Digits read: how many lead a row of characters, and the bytes that the leading ones spell.
-- Assumes nothing.
use Rattle.std.specs.Prelude.{◌≡◌, ℕ, ◌*◌, ◌/◌, ◌%◌, ◌≤◌, min, Bool, List, length, take}
use Rattle.checksum.specs.Checksum.{sum}
use Rattle.digits.specs.Common.{pasted}
use Rattle.digits.specs.Digits.{all_digits, leading, bytes}

-- a place of a line as a refusal names it, the first character's being 0: 65,535 for any place beyond that
abbrev pub named : (place : ℕ) → ℕ
named place = min place 65535

-- the contract of `first_other`
pub record FirstOther (ds : List ℕ) (r : ℕ) : Type 0 where
  pub answer : r ≡ leading ds

-- the contract of `name_place`
pub record NamePlace (place r : ℕ) : Type 0 where
  pub answer : r ≡ named place

-- pairs of characters, and a buffer for their bytes
pub record Decodable (ds buf : List ℕ) : Type 0 where
  pub even : length ds % 2 ≡ 0
  pub room : length ds ≤ 2 * length buf

-- as many pairs of characters as there is room for their bytes
abbrev pub pairs : (ds : List ℕ) (room : ℕ) → List ℕ
pairs ds room = take (2 * min (length ds / 2) room) ds

-- the bytes that are spelt before the first character that is not a digit
abbrev pub led : List ℕ → List ℕ
led ds = take (leading ds / 2) (bytes ds)

-- the contract of `decode`, with the pairs that there is room for
pub record Decoded (ds buf : List ℕ) (whole : Bool) (total : ℕ) (buf' : List ℕ) : Type 0 where
  pub digits : whole ≡ all_digits ds
  pub sums : total ≡ sum (led ds) % 256
  pub left : buf' ≡ pasted buf 0 (led ds)
