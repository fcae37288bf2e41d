-- What can be wrong with a line, as a relation: each refusal from 1 to 9 with the facts that make it the first that applies.
-- Assumes nothing.
use Rattle.std.specs.Prelude.{ℕ, ◌%◌, ◌<◌, ◌≤◌, ◌≡◌, ◌≢◌, List, [], ◌∷◌, ◌++◌, length, get_or}
use Rattle.checksum.specs.Checksum.{sum, negated_sum}
use Rattle.digits.specs.Common.{Every}
use Rattle.digits.specs.Hex.{IsHex, Spells}
use Rattle.record.specs.Refusals.{Refusal, missing_start_code, contains_invalid_characters, record_too_short, record_too_long, record_not_even_length, checksum_mismatch, payload_length_mismatch, unsupported_record_type, invalid_length_for_type}
use Rattle.digits.specs.Reading.{named}
use Rattle.record.specs.Format.{Size, layout}

-- the place of the first character after a start character that is not a digit, the start's being 0: the least such place
pub record FirstOffenderAfter (start : ℕ) (line : List ℕ) (place : ℕ) : Type 0 where
  pub starts : get_or line 0 0 ≡ start
  pub behind : 0 < place
  pub inside : place < length line
  pub offends : ¬ IsHex (get_or line place 0)
  pub least : (i : ℕ) → 0 < i → i < length line → ¬ IsHex (get_or line i 0) → place ≤ i

-- the same after a colon
abbrev pub FirstOffender : (line : List ℕ) (place : ℕ) → Type 0
FirstOffender line place = FirstOffenderAfter 58 line place

-- the line is a colon and digits that spell these bytes, which sum to zero: what stands before refusals 7 to 9
pub record SumsUp (line bytes : List ℕ) : Type 0 where
  pub digits : List ℕ
  pub starts : line ≡ 58 ∷ digits
  pub spells : Spells digits bytes
  pub most : length bytes ≤ 260
  pub sums : sum bytes % 256 ≡ 0

pub data Fault (line : List ℕ) : Refusal → Type 0 where
  no_colon : ((ds : List ℕ) → line ≢ 58 ∷ ds) → Fault line missing_start_code
  no_digit : (place : ℕ) → FirstOffender line place → Fault line (contains_invalid_characters (named place))
  short : (ds : List ℕ) → line ≡ 58 ∷ ds → Every IsHex ds → length ds < 10 → Fault line record_too_short
  long : (ds : List ℕ) → line ≡ 58 ∷ ds → Every IsHex ds → 520 < length ds → Fault line record_too_long
  odd : (ds : List ℕ) → line ≡ 58 ∷ ds → Every IsHex ds → 10 ≤ length ds → length ds ≤ 520 → length ds % 2 ≡ 1 → Fault line record_not_even_length
  sum_differs : (ds body : List ℕ) (stated : ℕ)
      → line ≡ 58 ∷ ds → Spells ds (body ++ (stated ∷ [])) → 4 ≤ length body → length body ≤ 259
      → stated ≢ negated_sum body → Fault line (checksum_mismatch (negated_sum body) stated)
  length_differs : (len high low kind check : ℕ) (payload : List ℕ)
      → SumsUp line (layout len high low kind payload check) → len ≢ length payload → Fault line payload_length_mismatch
  type_unknown : (high low kind check : ℕ) (payload : List ℕ)
      → SumsUp line (layout (length payload) high low kind payload check) → 5 < kind → Fault line (unsupported_record_type kind)
  size_differs : (high low kind check : ℕ) (payload : List ℕ)
      → SumsUp line (layout (length payload) high low kind payload check) → kind ≤ 5 → ¬ Size kind (length payload)
      → Fault line invalid_length_for_type
