-- Intel's format, as a relation: which lines say which records. Nothing here computes, and no order of refusals is in it.
-- Assumes nothing.
use Rattle.std.specs.Prelude.{ℕ, ◌+◌, ◌*◌, ◌%◌, ◌≡◌, List, [], ◌∷◌, ◌++◌, length}
use Rattle.checksum.specs.Checksum.{sum}
use Rattle.digits.specs.Hex.{Spells}

-- a record of the type may have a payload of n bytes
pub data Size (kind n : ℕ) : Type 0 where
  type_00 : kind ≡ 0 → Size kind n
  type_01 : kind ≡ 1 → n ≡ 0 → Size kind n
  type_02 : kind ≡ 2 → n ≡ 2 → Size kind n
  type_03 : kind ≡ 3 → n ≡ 4 → Size kind n
  type_04 : kind ≡ 4 → n ≡ 2 → Size kind n
  type_05 : kind ≡ 5 → n ≡ 4 → Size kind n

-- RECLEN, LOAD OFFSET (high byte, low byte), RECTYP, INFO or DATA, CHKSUM
abbrev pub layout : (len high low kind : ℕ) (payload : List ℕ) (check : ℕ) → List ℕ
layout len high low kind payload check = len ∷ high ∷ low ∷ kind ∷ (payload ++ (check ∷ []))

-- the line says a record of the type, at the address, with the payload
pub record Format (line : List ℕ) (kind address : ℕ) (payload : List ℕ) : Type 0 where
  pub digits : List ℕ
  pub high : ℕ
  pub low : ℕ
  pub check : ℕ
  pub starts : line ≡ 58 ∷ digits
  pub spells : Spells digits (layout (length payload) high low kind payload check)
  pub addressed : address ≡ high * 256 + low
  pub sums : sum (layout (length payload) high low kind payload check) % 256 ≡ 0
  pub sized : Size kind (length payload)
