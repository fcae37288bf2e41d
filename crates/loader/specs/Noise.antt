-- What noise can do to a whole dump. A text that a load accepts is damaged: then the load of the damaged text is refused, or it is the very
-- same load. Each claim is proved in `proofs/Noise.antt`: the same name, in small letters.
-- Assumes nothing.
use Rattle.std.specs.Prelude.{◌≡◌, ℕ, ◌≢◌, List, [], ◌∷◌, ◌++◌, take, drop, replicate, slice_set}
use Rattle.digits.specs.Common.{Every}
use Rattle.record.specs.Refusals.{Refusal, contains_invalid_characters, record_too_short, checksum_mismatch}
use Rattle.record.specs.Noise.{Slip}
use Rattle.reader.specs.Lines.{LF, CR}
use Rattle.steps.specs.Aliases.{Loading}
use Rattle.steps.specs.Steps.{Tally, Verdict, accepted, refused}
use Rattle.steps.specs.Sites.{Loaded}
use Rattle.loader.specs.Load.{load, Load}
use Rattle.steps.specs.Told.{told_loading}
use Rattle.loader.specs.Claims.{example}

-- ---- damage

abbrev pub NoLF : List ℕ → Type 0
NoLF l = Every (λ (c : ℕ). c ≢ LF) l

-- at most one slip in each line: one character changed, lost or added, or two neighbours swapped. The LFs stay.
pub data Slips : (text text' : List ℕ) → Type 0 where
  the_rest : {text : List ℕ} → Slips text text
  last_line : {line line' : List ℕ} → NoLF line → NoLF line' → Slip line line' → Slips line line'
  one_more : {line line' text text' : List ℕ} → NoLF line → NoLF line' → Slip line line' → Slips text text'
      → Slips (line ++ (LF ∷ text)) (line' ++ (LF ∷ text'))

-- Six ways in which a text is damaged. A slip is four of them: one byte changed, lost or added, or two neighbours swapped, anywhere in the
-- text, LF and CR too.
pub data Damaged : (text text' : List ℕ) → Type 0 where
  one_slip : {text text' : List ℕ} → Slip text text' → Damaged text text'
  one_in_each_line : {text text' : List ℕ} → Slips text text' → Damaged text text'
  cut_off : (before after : List ℕ) → Damaged (before ++ after) before

-- ---- what becomes of the load

-- It is refused, and page and marks are as they were; or it is the very same: answer, page and marks. `same`, p and m are what the load of
-- the text returned and left.
pub data RefusedOrSame (page marks : List ℕ) (same : Verdict) (p m : List ℕ) : Verdict → (page' marks' : List ℕ) → Type 0 where
  is_refused : (why : Refusal) (line : ℕ) → RefusedOrSame page marks same p m (refused why line) page marks
  is_the_same : RefusedOrSame page marks same p m same p m

-- of `load`, by its contract alone
abbrev pub DamageIsNoticed : Type 0
DamageIsNoticed =
    (text text' : List ℕ) → Damaged text text'
    → (first : ℕ) (page marks : List ℕ) (r : Loading) (p m : List ℕ) (tally : Tally) → Load text first page marks r p m → told_loading r ≡ accepted tally
    → (r' : Loading) (p' m' : List ℕ) → Load text' first page marks r' p' m'
    → RefusedOrSame page marks (told_loading r) p m (told_loading r') p' m'

-- ---- examples: both ways out are taken

-- document 01's load, of what became of its text
abbrev pub example_load : (text : List ℕ) → Loaded
example_load text = load text 0x12000 (replicate 8 9) (7 ∷ [])

pub record Examples : Type 0 where
  -- a letter in its other case
  pub small_letter : example_load (slice_set example 13 101) ≡ example_load example
  -- a digit of another value
  pub other_digit : (example_load (slice_set example 25 56)).answer ≡ refused (checksum_mismatch 0x73 0x83) 2
  -- CR in place of the first LF: two lines become one
  pub joined : (example_load (slice_set example 15 CR)).answer ≡ refused (contains_invalid_characters 15) 1
  -- CR before it
  pub CR_added : example_load (take 15 example ++ (CR ∷ drop 15 example)) ≡ example_load example
  -- the two digits of a checksum swapped
  pub swapped : (example_load (slice_set (slice_set example 27 51) 28 56)).answer ≡ refused (checksum_mismatch 0x83 0x38) 2
  -- the last LF cut off, and one digit more
  pub LF_cut_off : example_load (take 41 example) ≡ example_load example
  pub digit_cut_off : (example_load (take 40 example)).answer ≡ refused record_too_short 3
