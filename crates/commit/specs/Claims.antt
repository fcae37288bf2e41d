-- What is claimed of a commit. Each claim is proved in `proofs/Claims.antt`: the same name, in small letters.
-- Assumes nothing.
use Rattle.std.specs.Prelude.{ℕ, ◌<◌, ◌≡◌, Bool, true, List, [], ◌∷◌, length, get_or, replicate}
use Rattle.marks.specs.Marks.{row_length, Marked, Unmarked, flags, packed}
use Rattle.steps.specs.Steps.{Placement, Tally, accepted, stated}
use Rattle.steps.specs.Source.{Source, steps_of}
use Rattle.steps.specs.Sites.{painted, marked}
use Rattle.window.specs.Window.{window}
use Rattle.window.specs.Promises.{Painted}
use Rattle.window.specs.Load.{load_window}
use Rattle.commit.specs.Commit.{committed, Commit}

-- ---- place by place

-- a marked place holds the staged byte, and any other its own
pub record Committed (stage stated page page' : List ℕ) : Type 0 where
  pub same_length : length page' ≡ length page
  pub there : (i : ℕ) → i < length page → Marked stated i → get_or page' i 0 ≡ get_or stage i 0
  pub elsewhere : (i : ℕ) → i < length page → Unmarked stated i → get_or page' i 0 ≡ get_or page i 0

-- `committed` is such, and nothing else is
abbrev pub CommittedMadeSo : Type 0
CommittedMadeSo = (stage stated page : List ℕ) → Committed stage stated page (committed stage stated page)

abbrev pub CommittedOnlySo : Type 0
CommittedOnlySo = (stage stated page page' : List ℕ) → Committed stage stated page page' → page' ≡ committed stage stated page

-- no second answer, page or marks meets the contract
abbrev pub CommitUnique : Type 0
CommitUnique =
    (stage stated page marks : List ℕ) (r r' : Bool) (p p' m m' : List ℕ)
    → Commit stage stated page marks r p m → Commit stage stated page marks r' p' m' → (r ≡ r') × (p ≡ p') × (m ≡ m')

-- ---- staging and a commit, beside a load

-- placements that were painted on a stage with cleared marks, whatever it held: a commit paints them on the page, and its marks are theirs alone
abbrev pub CommitsWhatWasPainted : Type 0
CommitsWhatWasPainted =
    (first : ℕ) (ps : List Placement) (page marks stage stage' stated' : List ℕ)
    → length marks ≡ row_length (length page) → length stage ≡ length page
    → let site = window first (length page) in
    Painted site ps stage (replicate (length marks) 0) stage' stated'
    → (committed stage' stated' page ≡ painted site 0 ps page) × (stated' ≡ packed (marked site 0 ps (flags (length page) marks)))

-- a text that is accepted, of any source: where what it states was painted on a stage with cleared marks, whatever the stage held, a commit leaves
-- the page and the marks that a load of the text leaves
abbrev pub CommitsAsLoad : Type 1
CommitsAsLoad =
    (S : Type 0) (src : Source S) (text : List ℕ) (first : ℕ) (page marks stage stage' stated' : List ℕ) (tally : Tally)
    → let l = load_window src text first page marks in
    l.answer ≡ accepted tally → length stage ≡ length page
    → Painted (window first (length page)) (stated (steps_of src text)) stage (replicate (length marks) 0) stage' stated'
    → (r : Bool) (page' marks' : List ℕ) → Commit stage' stated' page marks r page' marks'
    → (r ≡ true) × (page' ≡ l.page) × (marks' ≡ l.marks)

-- ---- examples

pub record Examples : Type 0 where
  -- places 0 and 2 of 3 are marked
  pub copies : committed (0xA1 ∷ 0xA2 ∷ 0xA3 ∷ []) (0x05 ∷ []) (0x01 ∷ 0x02 ∷ 0x03 ∷ []) ≡ 0xA1 ∷ 0x02 ∷ 0xA3 ∷ []
  -- the bits after place 2 say nothing of the page
  pub unused : committed (0xA1 ∷ 0xA2 ∷ 0xA3 ∷ []) (0xF8 ∷ []) (0x01 ∷ 0x02 ∷ 0x03 ∷ []) ≡ 0x01 ∷ 0x02 ∷ 0x03 ∷ []
