-- Motorola's format, as a relation: which lines say which records. Nothing here computes, and no order of refusals is in it.
-- Assumes nothing.
use Rattle.std.specs.Prelude.{◌≡◌, ℕ, ◌+◌, ◌%◌, ◌≤◌, List, [], ◌∷◌, ◌++◌, length}
use Rattle.checksum.specs.Checksum.{sum}
use Rattle.digits.specs.Digits.{big_endian}
use Rattle.digits.specs.Hex.{Hex, Spells}

-- a type that is named, and how many bytes its address has
pub data Width (kind n : ℕ) : Type 0 where
  type_0 : kind ≡ 0 → n ≡ 2 → Width kind n
  type_1 : kind ≡ 1 → n ≡ 2 → Width kind n
  type_2 : kind ≡ 2 → n ≡ 3 → Width kind n
  type_3 : kind ≡ 3 → n ≡ 4 → Width kind n
  type_5 : kind ≡ 5 → n ≡ 2 → Width kind n
  type_7 : kind ≡ 7 → n ≡ 4 → Width kind n
  type_8 : kind ≡ 8 → n ≡ 3 → Width kind n
  type_9 : kind ≡ 9 → n ≡ 2 → Width kind n

-- a record of the type may have n bytes of data: a header and data any number, a count and an end none
pub data Size (kind n : ℕ) : Type 0 where
  holds : kind ≤ 3 → Size kind n
  empty : n ≡ 0 → Size kind n

-- count, address and data: what the checksum is taken over
abbrev pub body : (count : ℕ) (place payload : List ℕ) → List ℕ
body count place payload = count ∷ (place ++ payload)

abbrev pub layout : (count : ℕ) (place payload : List ℕ) (check : ℕ) → List ℕ
layout count place payload check = body count place payload ++ (check ∷ [])

-- the byte that is the ones' complement of the sum's low byte: the two make a byte of ones alone
abbrev pub Complements : (bytes : List ℕ) (check : ℕ) → Type 0
Complements bytes check = sum bytes % 256 + check ≡ 255

-- the line says a record of the type, at the address, with the data
pub record Format (line : List ℕ) (kind address : ℕ) (payload : List ℕ) : Type 0 where
  pub type_digit : ℕ
  pub digits : List ℕ
  pub place : List ℕ
  pub check : ℕ
  pub starts : line ≡ 83 ∷ type_digit ∷ digits
  pub typed : Hex type_digit kind
  pub wide : Width kind (length place)
  pub spells : Spells digits (layout (length place + length payload + 1) place payload check)
  pub addressed : address ≡ big_endian place
  pub sums : Complements (body (length place + length payload + 1) place payload) check
  pub sized : Size kind (length payload)
