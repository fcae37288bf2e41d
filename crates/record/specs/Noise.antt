-- What noise can do to a line that says a record: one character changed, lost or added, two neighbours swapped, a line cut short.
-- Each claim is proved in `proofs/Noise.antt`: the same name, in small letters.
-- Assumes nothing.
use Rattle.std.specs.Prelude.{ℕ, ◌+◌, ◌<◌, ◌≤◌, ◌≡◌, ◌≢◌, List, [], ◌∷◌, ◌++◌, length}
use Rattle.checksum.specs.Checksum.{negated_sum}
use Rattle.record.specs.Refusals.{Refusal, missing_start_code, contains_invalid_characters, checksum_mismatch}
use Rattle.record.specs.Line.{says, wrong, judge}
use Rattle.digits.specs.Hex.{Hex, Spells, IsHex}

-- the line says a record
abbrev pub SaysARecord : (line : List ℕ) → Type 0
SaysARecord line = (kind : ℕ) × (address : ℕ) × (payload : List ℕ) × (judge line ≡ says kind address payload)

-- ---- one wrong character

-- one letter in its two cases
pub data TwoCases (c d : ℕ) : Type 0 where
  lowered : 65 ≤ c → c ≤ 90 → d ≡ c + 32 → TwoCases c d
  raised : 65 ≤ d → d ≤ 90 → c ≡ d + 32 → TwoCases c d

-- The answer to a line in which the character c at a position, the colon's being 0, became d. `refuse` says a refusal in the
-- words of whoever answers, and `same` is the answer to the record that the line was.
pub data AnswerToWrong {A : Type 0} (refuse : Refusal → A) (same : A) (position c d : ℕ) (line : List ℕ) : A → Type 0 where
  -- the colon is gone: 1
  colon_gone : position ≡ 0 → AnswerToWrong refuse same position c d line (refuse missing_start_code)
  -- not a digit, after the colon: 2, with exactly this position
  digit_gone : 0 < position → ¬ IsHex d → AnswerToWrong refuse same position c d line (refuse (contains_invalid_characters position))
  -- a digit of another value: 6, with the checksum of the bytes that the line spells now and the one that it states now
  other_value : 0 < position → (x y : ℕ) → Hex c x → Hex d y → x ≢ y
      → (digits body : List ℕ) (stated : ℕ) → line ≡ 58 ∷ digits → Spells digits (body ++ (stated ∷ []))
      → AnswerToWrong refuse same position c d line (refuse (checksum_mismatch (negated_sum body) stated))
  -- a letter in its other case: the same answer
  other_case : 0 < position → IsHex c → TwoCases c d → AnswerToWrong refuse same position c d line same

-- one character of a line that says a record, changed to any other
abbrev pub OneWrongCharacter : Type 0
OneWrongCharacter =
    (before : List ℕ) (c d : ℕ) (after : List ℕ) (kind address : ℕ) (payload : List ℕ) → c ≢ d
    → judge (before ++ (c ∷ after)) ≡ says kind address payload
    → AnswerToWrong wrong (says kind address payload) (length before) c d (before ++ (d ∷ after)) (judge (before ++ (d ∷ after)))

-- and no answer is left open: there is only one
abbrev pub OneAnswerToWrong : Type 1
OneAnswerToWrong =
    (A : Type 0) (refuse : Refusal → A) (same : A) (position c d : ℕ) (line : List ℕ) (a a' : A)
    → AnswerToWrong refuse same position c d line a → AnswerToWrong refuse same position c d line a' → a ≡ a'

-- ---- one slip

-- at most one character of a row changed, lost or added, or two neighbours swapped
pub data Slip : (row row' : List ℕ) → Type 0 where
  no_slip : {row : List ℕ} → Slip row row
  one_changed : (before : List ℕ) (old new : ℕ) (after : List ℕ) → Slip (before ++ (old ∷ after)) (before ++ (new ∷ after))
  one_lost : (before : List ℕ) (lost : ℕ) (after : List ℕ) → Slip (before ++ (lost ∷ after)) (before ++ after)
  one_added : (before : List ℕ) (added : ℕ) (after : List ℕ) → Slip (before ++ after) (before ++ (added ∷ after))
  two_swapped : (before : List ℕ) (left right : ℕ) (after : List ℕ) → Slip (before ++ (left ∷ right ∷ after)) (before ++ (right ∷ left ∷ after))

-- after one slip a line that says a record says the same record, or none
abbrev pub OneSlip : Type 0
OneSlip = (line line' : List ℕ) → Slip line line' → SaysARecord line → SaysARecord line' → judge line ≡ judge line'

-- with a character lost or added it says none: of two lines, one with a character more, not both say a record
abbrev pub OneMoreCharacter : Type 0
OneMoreCharacter = (before : List ℕ) (c : ℕ) (after : List ℕ) → SaysARecord (before ++ (c ∷ after)) → ¬ SaysARecord (before ++ after)

-- cut short, or going on, it says none: no line of a record is the beginning of another's
abbrev pub NoRecordGoesOn : Type 0
NoRecordGoesOn = (line more : List ℕ) → SaysARecord line → SaysARecord (line ++ more) → more ≡ []
