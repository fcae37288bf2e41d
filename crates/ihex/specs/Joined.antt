-- One dump upon another, of `ihex_load`: document 02's eighth wish, with the start of its tenth, in its numbers. Each claim is proved in `proofs/Joined.antt`.
-- Assumes nothing.
use Rattle.std.specs.Prelude.{ℕ, ◌+◌, ◌<◌, max, ◌≡◌, ◌≢◌, ◌↔◌, ◌⊎◌, List, [], ◌∷◌, ◌++◌, length, get_or, replicate}
use Rattle.std.proofs.Math.Option.{Option, none}
use Rattle.digits.specs.Common.{Every}
use Rattle.record.specs.Refusals.{bad_window, start_conflict}
use Rattle.reader.specs.Lines.{LF, lines}
use Rattle.marks.specs.Marks.{mark_at}
use Rattle.steps.specs.Steps.{Start, nothing_yet}
use Rattle.steps.specs.Join.{after_lines, Conflict}
use Rattle.window.specs.Load.{room_of}
use Rattle.intel.specs.Placing.{steps_of, placements}
use Rattle.intel.specs.Lines.{start_on}
use Rattle.loader.specs.Joined.{joined, lines_before_B, Seen, end_record}
use Rattle.codes.specs.Codes.{OK, LoadNumbers, refused_with}
use Rattle.ihex.specs.Entries.{six, IhexLoad}
use Rattle.ihex.specs.Loads.{InNumbers}

-- ---- the starts

-- a start of A and a start of B, as they are returned: one of both is none, or they are the same
pub data StartsAgree (ra rb : LoadNumbers) : Type 0 where
  none_of_A : ra.start ≡ 0 → StartsAgree ra rb
  none_of_B : rb.start ≡ 0 → StartsAgree ra rb
  the_same : ra.start ≡ rb.start → ra.b ≡ rb.b → ra.c ≡ rb.c → StartsAgree ra rb

-- the start of both: A's, or else B's
pub record StartOfBoth (ra rb r : LoadNumbers) : Type 0 where
  pub of_A : ra.start ≢ 0 → (r.start ≡ ra.start) × (r.b ≡ ra.b) × (r.c ≡ ra.c)
  pub or_else_of_B : ra.start ≡ 0 → (r.start ≡ rb.start) × (r.b ≡ rb.b) × (r.c ≡ rb.c)

-- B, loaded into this window, comes to a start other than the one that was returned for A, on its line n
pub record MeetsOtherStart (first : ℕ) (page marks : List ℕ) (ra : LoadNumbers) (b : List ℕ) (n : ℕ) : Type 0 where
  pub start : Option Start
  pub returned : InNumbers ra start
  pub conflict : Conflict (room_of first page marks).inside start nothing_yet (steps_of b) n

-- ---- what is returned

-- what is returned for the joined text, by what is returned for A and for B, after k lines: the same code as for B. With IHEX_OK the counts add, and
-- the start is that of both; with a refusal the values are B's, and the line is B's after those k, where 0 stays 0
pub record ReturnedAfter (k : ℕ) (ra rb r : LoadNumbers) : Type 0 where
  pub code_is : r.code ≡ rb.code
  pub line_is : r.line ≡ after_lines k rb.line
  pub counts_add : rb.code ≡ OK → r.a ≡ ra.a + rb.a
  pub start_is : rb.code ≡ OK → StartOfBoth ra rb r
  pub refusal_is : rb.code ≢ OK → (r.start ≡ rb.start) × (r.a ≡ rb.a) × (r.b ≡ rb.b) × (r.c ≡ rb.c)

-- IHEX_REFUSED + IHEX_START_CONFLICT
abbrev pub START_CONFLICT : ℕ
START_CONFLICT = (refused_with start_conflict).code

-- that is returned, unless B comes to a start other than A's: then START_CONFLICT, at that line after those k, with no values
pub data JoinedReturns (k : ℕ) (meets : (n : ℕ) → Type 0) (ra rb r : LoadNumbers) : Type 0 where
  as_for_B : ((n : ℕ) → ¬ meets n) → ReturnedAfter k ra rb r → JoinedReturns k meets ra rb r
  other_start : (n : ℕ) → meets n → r ≡ six START_CONFLICT (k + n) 0 0 0 0 → JoinedReturns k meets ra rb r

-- if IHEX_OK is returned for A, then this is returned for the joined text, whatever the three pages and marks of the same lengths hold
abbrev pub IhexJoined : Type 0
IhexJoined =
    (first : ℕ) (a b page marks page' marks' page'' marks'' : List ℕ)
    → length page' ≡ length page → length marks' ≡ length marks → length page'' ≡ length page → length marks'' ≡ length marks
    → (ra : LoadNumbers) (p m : List ℕ) → IhexLoad a first page marks ra p m → ra.code ≡ OK
    → (rb : LoadNumbers) (p' m' : List ℕ) → IhexLoad b first page' marks' rb p' m'
    → (r : LoadNumbers) (p'' m'' : List ℕ) → IhexLoad (joined a b) first page'' marks'' r p'' m''
    → JoinedReturns (lines_before_B a) (MeetsOtherStart first page marks ra b) ra rb r

-- so IHEX_OK is returned for the joined text exactly when it is returned for B and the starts of both agree
abbrev pub IhexJoinedAccepted : Type 0
IhexJoinedAccepted =
    (first : ℕ) (a b page marks page' marks' page'' marks'' : List ℕ)
    → length page' ≡ length page → length marks' ≡ length marks → length page'' ≡ length page → length marks'' ≡ length marks
    → (ra : LoadNumbers) (p m : List ℕ) → IhexLoad a first page marks ra p m → ra.code ≡ OK
    → (rb : LoadNumbers) (p' m' : List ℕ) → IhexLoad b first page' marks' rb p' m'
    → (r : LoadNumbers) (p'' m'' : List ℕ) → IhexLoad (joined a b) first page'' marks'' r p'' m''
    → (r.code ≡ OK) ↔ ((rb.code ≡ OK) × StartsAgree ra rb)

-- and where A states no start, or no line of B states one, what is returned is that for B, after A's lines and data records
abbrev pub IhexJoinedWithOneStart : Type 0
IhexJoinedWithOneStart =
    (first : ℕ) (a b page marks page' marks' page'' marks'' : List ℕ)
    → length page' ≡ length page → length marks' ≡ length marks → length page'' ≡ length page → length marks'' ≡ length marks
    → (ra : LoadNumbers) (p m : List ℕ) → IhexLoad a first page marks ra p m → ra.code ≡ OK
    → (rb : LoadNumbers) (p' m' : List ℕ) → IhexLoad b first page' marks' rb p' m'
    → (r : LoadNumbers) (p'' m'' : List ℕ) → IhexLoad (joined a b) first page'' marks'' r p'' m''
    → (ra.start ≡ 0) ⊎ Every (λ (line : List ℕ). start_on line ≡ none) (lines b) → ReturnedAfter (lines_before_B a) ra rb r

-- ---- page and marks

-- if IHEX_OK is returned for A and then for B, loaded upon the page that A left, and their starts agree, it is returned for the joined text too. The
-- page is the same, and at every bit, used or unused, the mark is the union of both marks. The old page may be any, and so may the old marks of each
-- of the three calls.
abbrev pub IhexOneUponAnother : Type 0
IhexOneUponAnother =
    (first : ℕ) (a b page marks marks' marks'' : List ℕ) → length marks'' ≡ length marks
    → (ra : LoadNumbers) (p m : List ℕ) → IhexLoad a first page marks ra p m → ra.code ≡ OK
    → (rb : LoadNumbers) (p' m' : List ℕ) → IhexLoad b first p marks' rb p' m' → rb.code ≡ OK → StartsAgree ra rb
    → (r : LoadNumbers) (p'' m'' : List ℕ) → IhexLoad (joined a b) first page marks'' r p'' m''
    → (r.code ≡ OK) × (r.a ≡ ra.a + rb.a) × (p'' ≡ p') × ((i : ℕ) → mark_at m'' i ≡ max (mark_at m i) (mark_at m' i))

-- what a panel sees then at each place of the window: of one that B states, the last byte that B states there; of one that only A states, A's; of any
-- other, the old one
abbrev pub IhexWhatAPanelSees : Type 0
IhexWhatAPanelSees =
    (first : ℕ) (a b page marks marks' : List ℕ)
    → (ra : LoadNumbers) (p m : List ℕ) → IhexLoad a first page marks ra p m → ra.code ≡ OK
    → (rb : LoadNumbers) (p' m' : List ℕ) → IhexLoad b first p marks' rb p' m' → rb.code ≡ OK
    → (i : ℕ) → i < length page → Seen (placements a) (placements b) (first + i) (get_or page i 0) (get_or p' i 0)

-- dumps for which IHEX_OK is returned, in whatever windows, may be joined in either grouping: the texts are the same
abbrev pub IhexEitherGrouping : Type 0
IhexEitherGrouping =
    (a b c : List ℕ) (first : ℕ) (page marks : List ℕ) (ra : LoadNumbers) (p m : List ℕ) → IhexLoad a first page marks ra p m → ra.code ≡ OK
    → (first' : ℕ) (page' marks' : List ℕ) (rb : LoadNumbers) (p' m' : List ℕ) → IhexLoad b first' page' marks' rb p' m' → rb.code ≡ OK
    → joined (joined a b) c ≡ joined a (joined b c)

-- a dump that states nothing, if IHEX_OK is returned: no page byte changes, and all marks are 0
abbrev pub IhexNothingStated : Type 0
IhexNothingStated =
    (text : List ℕ) (first : ℕ) (page marks : List ℕ) (r : LoadNumbers) (p m : List ℕ) → IhexLoad text first page marks r p m → r.code ≡ OK
    → placements text ≡ [] → (p ≡ page) × (m ≡ replicate (length marks) 0)

-- what is returned for a window that is refused: IHEX_REFUSED + IHEX_BAD_WINDOW
abbrev pub BAD_WINDOW : ℕ
BAD_WINDOW = (refused_with bad_window).code

-- the end record alone, without its LF or with it, unless the window is refused: IHEX_OK with no data record and no start
abbrev pub IhexEndAlone : Type 0
IhexEndAlone =
    (text : List ℕ) → (text ≡ end_record) ⊎ (text ≡ end_record ++ (LF ∷ []))
    → (first : ℕ) (page marks : List ℕ) (r : LoadNumbers) (p m : List ℕ) → IhexLoad text first page marks r p m → r.code ≢ BAD_WINDOW
    → (r ≡ six OK 0 0 0 0 0) × (p ≡ page) × (m ≡ replicate (length marks) 0)
