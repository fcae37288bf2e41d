-- What can be wrong with a line, as a relation: each refusal from 1 to 9 with the facts that make it the first that applies.
-- Assumes nothing.
use Rattle.std.specs.Prelude.{◌≡◌, ℕ, ◌+◌, ◌*◌, ◌%◌, ◌<◌, ◌≤◌, ◌≢◌, List, [], ◌∷◌, ◌++◌, length}
use Rattle.digits.specs.Common.{Every}
use Rattle.record.specs.Refusals.{Refusal, missing_start_code, contains_invalid_characters, record_too_short, record_too_long, record_not_even_length, checksum_mismatch, payload_length_mismatch, unsupported_record_type, invalid_length_for_type}
use Rattle.digits.specs.Reading.{named}
use Rattle.digits.specs.Hex.{Hex, Spells, IsHex}
use Rattle.record.specs.Faults.{FirstOffenderAfter}
use Rattle.srec.specs.Line.{complement_sum}
use Rattle.srec.specs.Format.{Width, Size, body, layout, Complements}

-- the place of the first character after the S that is not a digit, the S being 0
abbrev pub FirstOffender : (line : List ℕ) (place : ℕ) → Type 0
FirstOffender line place = FirstOffenderAfter 83 line place

-- the line is an S, the digit of a type, and digits
pub record Typed (line : List ℕ) (kind : ℕ) (digits : List ℕ) : Type 0 where
  pub type_digit : ℕ
  pub starts : line ≡ 83 ∷ type_digit ∷ digits
  pub typed : Hex type_digit kind
  pub hex : Every IsHex digits

-- a type that the format does not name
abbrev pub Unnamed : (kind : ℕ) → Type 0
Unnamed kind = (n : ℕ) → ¬ Width kind n

-- the line is an S, the digit of a named type, and digits that spell these fields with their checksum: what stands before refusals 7 and 9
pub record SumsUp (line : List ℕ) (kind count : ℕ) (place payload : List ℕ) (check : ℕ) : Type 0 where
  pub digits : List ℕ
  pub typed : Typed line kind digits
  pub wide : Width kind (length place)
  pub spells : Spells digits (layout count place payload check)
  pub most : length (layout count place payload check) ≤ 256
  pub sums : Complements (body count place payload) check

pub data Fault (line : List ℕ) : Refusal → Type 0 where
  no_start : ((cs : List ℕ) → line ≢ 83 ∷ cs) → Fault line missing_start_code
  no_digit : (place : ℕ) → FirstOffender line place → Fault line (contains_invalid_characters (named place))
  no_type : line ≡ 83 ∷ [] → Fault line record_too_short
  type_unknown : (kind : ℕ) (ds : List ℕ) → Typed line kind ds → Unnamed kind → Fault line (unsupported_record_type kind)
  short : (kind n : ℕ) (ds : List ℕ) → Typed line kind ds → Width kind n → length ds < 4 + 2 * n → Fault line record_too_short
  long : (kind n : ℕ) (ds : List ℕ) → Typed line kind ds → Width kind n → 512 < length ds → Fault line record_too_long
  odd : (kind n : ℕ) (ds : List ℕ) → Typed line kind ds → Width kind n → 4 + 2 * n ≤ length ds → length ds ≤ 512 → length ds % 2 ≡ 1
      → Fault line record_not_even_length
  sum_differs : (kind n : ℕ) (ds bytes : List ℕ) (stated : ℕ)
      → Typed line kind ds → Width kind n → Spells ds (bytes ++ (stated ∷ [])) → n < length bytes → length bytes ≤ 255
      → stated ≢ complement_sum bytes → Fault line (checksum_mismatch (complement_sum bytes) stated)
  length_differs : (kind count : ℕ) (place payload : List ℕ) (check : ℕ)
      → SumsUp line kind count place payload check → count ≢ length place + length payload + 1 → Fault line payload_length_mismatch
  size_differs : (kind count : ℕ) (place payload : List ℕ) (check : ℕ)
      → SumsUp line kind count place payload check → count ≡ length place + length payload + 1 → ¬ Size kind (length payload)
      → Fault line invalid_length_for_type
