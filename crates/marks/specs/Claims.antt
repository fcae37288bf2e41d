-- What is claimed of a row of marks beyond the contracts. Each claim is proved in `proofs/`: the same name, in small letters.
-- Assumes nothing.
use Rattle.std.specs.Prelude.{ℕ, ◌+◌, ◌*◌, ◌≤◌, ◌<◌, ◌≡◌, Bool, ◌⊎◌, List, [], ◌∷◌, length, get_or}
use Rattle.std.proofs.Math.Option.{none, some}
use Rattle.marks.specs.Aliases.{Unused}
use Rattle.marks.specs.Marks.{row_length, RowLength, IsMarked, FirstUnused, Clears, MarkRun, ClearRun, mark_at, Marked, flags, packed, first_unused, UnusedClear, marked_run, cleared_run, NextMarked, NextUnmarked}

-- ---- a row and its places

-- so many bytes hold all places, and one byte less would not
abbrev pub RowHoldsPlaces : Type 0
RowHoldsPlaces = (places : ℕ) → (places ≤ 8 * row_length places) × (8 * row_length places < places + 8)

-- each number is a byte: what `Every Byte` of `digits` says, one floor below it
abbrev pub Bytes : List ℕ → Type 0
Bytes marks = (i : ℕ) → get_or marks i 0 < 256

-- a mark is 0 or 1
abbrev pub Flag : ℕ → Type 0
Flag m = (m ≡ 0) ⊎ (m ≡ 1)

abbrev pub MarkIsFlag : Type 0
MarkIsFlag = (marks : List ℕ) (p : ℕ) → Flag (mark_at marks p)

-- ---- the marks of places, as a list

-- a list that has a number for each place, and at each place its mark
pub record FlagsOf (places : ℕ) (marks list : List ℕ) : Type 0 where
  pub as_many : length list ≡ places
  pub say : (p : ℕ) → p < places → get_or list p 0 ≡ mark_at marks p

-- `flags` is such, and nothing else is
abbrev pub FlagsMadeSo : Type 0
FlagsMadeSo = (places : ℕ) (marks : List ℕ) → FlagsOf places marks (flags places marks)

abbrev pub FlagsOnlySo : Type 0
FlagsOnlySo = (places : ℕ) (marks list : List ℕ) → FlagsOf places marks list → list ≡ flags places marks

-- ---- packed

-- a list of zeros and ones
abbrev pub AllFlags : List ℕ → Type 0
AllFlags list = (i : ℕ) → Flag (get_or list i 0)

-- the row of a list: bytes, as many as its places need; at each place its mark; and unused bits that are 0
pub record RowOf (list marks : List ℕ) : Type 0 where
  pub as_many : length marks ≡ row_length (length list)
  pub bytes : Bytes marks
  pub say : (p : ℕ) → p < length list → mark_at marks p ≡ get_or list p 0
  pub unused : UnusedClear (length list) marks

-- `packed` is such, and nothing else is
abbrev pub RowMadeSo : Type 0
RowMadeSo = (list : List ℕ) → AllFlags list → RowOf list (packed list)

abbrev pub RowOnlySo : Type 0
RowOnlySo = (list marks : List ℕ) → RowOf list marks → marks ≡ packed list

-- there and back
abbrev pub UnpackedPacked : Type 0
UnpackedPacked = (list : List ℕ) → AllFlags list → flags (length list) (packed list) ≡ list

abbrev pub PackedUnpacked : Type 0
PackedUnpacked =
    (places : ℕ) (marks : List ℕ) → Bytes marks → length marks ≡ row_length places → UnusedClear places marks → packed (flags places marks) ≡ marks

-- ---- a run of places

-- a row with a run marked, said of each place: inside the run it is marked, elsewhere it keeps its mark, used or unused
pub record RunMarked (marks : List ℕ) (from len : ℕ) (marks' : List ℕ) : Type 0 where
  pub same_length : length marks' ≡ length marks
  pub bytes : Bytes marks → Bytes marks'
  pub inside : (p : ℕ) → from ≤ p → p < from + len → p < 8 * length marks → mark_at marks' p ≡ 1
  pub elsewhere : (p : ℕ) → (p < from) ⊎ (from + len ≤ p) → mark_at marks' p ≡ mark_at marks p

-- `marked_run` is such, and of a row of bytes nothing else is
abbrev pub RunMadeSo : Type 0
RunMadeSo = (marks : List ℕ) (from len : ℕ) → RunMarked marks from len (marked_run marks from len)

abbrev pub RunOnlySo : Type 0
RunOnlySo = (marks : List ℕ) (from len : ℕ) (marks' : List ℕ) → Bytes marks → RunMarked marks from len marks' → marks' ≡ marked_run marks from len

-- a row with the marks of a run taken away, said of each place: no place of the run is marked, elsewhere each keeps its mark, used or unused
pub record RunCleared (marks : List ℕ) (from len : ℕ) (marks' : List ℕ) : Type 0 where
  pub same_length : length marks' ≡ length marks
  pub bytes : Bytes marks → Bytes marks'
  pub inside : (place : ℕ) → from ≤ place → place < from + len → mark_at marks' place ≡ 0
  pub elsewhere : (place : ℕ) → (place < from) ⊎ (from + len ≤ place) → mark_at marks' place ≡ mark_at marks place

-- `cleared_run` is such, and of a row of bytes nothing else is
abbrev pub RunClearedSo : Type 0
RunClearedSo = (marks : List ℕ) (from len : ℕ) → RunCleared marks from len (cleared_run marks from len)

abbrev pub RunClearedOnlySo : Type 0
RunClearedOnlySo = (marks : List ℕ) (from len : ℕ) (marks' : List ℕ) → Bytes marks → RunCleared marks from len marks' → marks' ≡ cleared_run marks from len

-- from outside the row it changes nothing
abbrev pub RunOutside : Type 0
RunOutside = (marks : List ℕ) (from len : ℕ) → 8 * length marks ≤ from → marked_run marks from len ≡ marks

-- a run in two parts
abbrev pub RunInTwo : Type 0
RunInTwo = (marks : List ℕ) (from n m : ℕ) → marked_run marks from (n + m) ≡ marked_run (marked_run marks from n) (from + n) m

-- ---- unused bits

-- the bit that has this place is unused and set, and no lower unused bit is set
pub record IsFirstUnused (marks : List ℕ) (places place : ℕ) : Type 0 where
  pub low : places ≤ place
  pub high : place < 8 * row_length places
  pub set : Marked marks place
  pub none_before : (p : ℕ) → places ≤ p → p < place → mark_at marks p ≡ 0

-- `first_unused` names such a bit, and else, in a row for these places, all unused bits are 0
abbrev pub UnusedFound : Type 0
UnusedFound = (places : ℕ) (marks : List ℕ) (place : ℕ) → first_unused places marks ≡ some place → IsFirstUnused marks places place

abbrev pub NoneUnused : Type 0
NoneUnused = (places : ℕ) (marks : List ℕ) → length marks ≡ row_length places → first_unused places marks ≡ none → UnusedClear places marks

abbrev pub OneFirstUnused : Type 0
OneFirstUnused = (marks : List ℕ) (places p q : ℕ) → IsFirstUnused marks places p → IsFirstUnused marks places q → p ≡ q

-- where the number of places is a multiple of 8 there are no unused bits
abbrev pub NoUnusedBits : Type 0
NoUnusedBits = (eighth : ℕ) (marks : List ℕ) → first_unused (8 * eighth) marks ≡ none

-- ---- no second answer meets a contract

abbrev pub RowLengthUnique : Type 0
RowLengthUnique = (places r r' : ℕ) → RowLength places r → RowLength places r' → r ≡ r'

abbrev pub IsMarkedUnique : Type 0
IsMarkedUnique = (marks : List ℕ) (place : ℕ) (r r' : Bool) → IsMarked marks place r → IsMarked marks place r' → r ≡ r'

abbrev pub FirstUnusedUnique : Type 0
FirstUnusedUnique = (marks : List ℕ) (places : ℕ) (r r' : Unused) → FirstUnused marks places r → FirstUnused marks places r' → r ≡ r'

abbrev pub ClearUnique : Type 0
ClearUnique = (marks m m' : List ℕ) → Clears marks m → Clears marks m' → m ≡ m'

abbrev pub MarkRunUnique : Type 0
MarkRunUnique = (marks : List ℕ) (from len : ℕ) (m m' : List ℕ) → MarkRun marks from len m → MarkRun marks from len m' → m ≡ m'

abbrev pub ClearRunUnique : Type 0
ClearRunUnique = (marks : List ℕ) (from len : ℕ) (m m' : List ℕ) → ClearRun marks from len m → ClearRun marks from len m' → m ≡ m'

abbrev pub NextMarkedUnique : Type 0
NextMarkedUnique = (marks : List ℕ) (places from r r' : ℕ) → NextMarked marks places from r → NextMarked marks places from r' → r ≡ r'

abbrev pub NextUnmarkedUnique : Type 0
NextUnmarkedUnique = (marks : List ℕ) (places from r r' : ℕ) → NextUnmarked marks places from r → NextUnmarked marks places from r' → r ≡ r'

-- ---- examples

pub record Examples : Type 0 where
  -- places 0, 3 and 9 of 10
  pub packs : packed (1 ∷ 0 ∷ 0 ∷ 1 ∷ 0 ∷ 0 ∷ 0 ∷ 0 ∷ 0 ∷ 1 ∷ []) ≡ 0x09 ∷ 0x02 ∷ []
  pub unpacks : flags 10 (0x09 ∷ 0x02 ∷ []) ≡ 1 ∷ 0 ∷ 0 ∷ 1 ∷ 0 ∷ 0 ∷ 0 ∷ 0 ∷ 0 ∷ 1 ∷ []
  pub runs : marked_run (0x00 ∷ 0x00 ∷ []) 6 4 ≡ 0xC0 ∷ 0x03 ∷ []
  pub clears : cleared_run (0xFF ∷ 0xFF ∷ []) 6 4 ≡ 0x3F ∷ 0xFC ∷ []
  -- of 3 places with marks A2, bits 1, 5 and 7 are set; 5 is the lowest unused one
  pub unused : first_unused 3 (0xA2 ∷ []) ≡ some 5
  pub used : first_unused 3 (0x02 ∷ []) ≡ none
  pub lengths : (row_length 0 ≡ 0) × (row_length 1 ≡ 1) × (row_length 8 ≡ 1) × (row_length 9 ≡ 2) × (row_length 65536 ≡ 8192)
