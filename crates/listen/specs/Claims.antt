-- What is claimed of listening, of every source and every window. Each claim is proved in `proofs/`: the same name, in small letters.
-- Assumes nothing.
use Rattle.std.specs.Prelude.{ℕ, ◌≤◌, ◌<◌, ◌≡◌, ◌≢◌, ◌↔◌, Bool, true, List, [], ◌∷◌, ◌++◌, map, length, drop}
use Rattle.std.proofs.Math.Option.{none, some}
use Rattle.digits.specs.Common.{Every}
use Rattle.record.specs.Refusals.{Refusal}
use Rattle.steps.specs.Steps.{fails, nothing_yet, Tally, Verdict, accepted, refused, by, decision, stated}
use Rattle.steps.specs.Source.{Source}
use Rattle.intel.specs.Placing.{intel}
use Rattle.srecload.specs.Placing.{s_records}
use Rattle.intake.specs.Past.{past, EndsAlike}
use Rattle.listen.specs.Listen.{Mode, front, skipping, Saying, said, Listened, silent, first, is_end, listen, stretch, listen_on}
use Rattle.listen.specs.Skipping.{dump_steps, NoneEnds, Place, beginning, unknown, place_of, HeardAs}
use Rattle.listen.specs.Parts.{Part, lines_of, all_of, AsLoad, said_of, said_in_all, reaches_of, to_page}

-- ---- what is heard

-- lines come to these sayings, and leave the listener at this place
abbrev pub CameTo : {S : Type 0} → Listened S → List Saying → Place → Type 0
CameTo h ss to = (h.says ≡ ss) × (place_of h.mode ≡ to)

-- from a known beginning, and from an unknown place: what is said is what a load decides of the lines from where each dump begins, and nothing else
abbrev pub HeardExactly : Type 1
HeardExactly =
    (S : Type 0) (src : Source S) (inside : ℕ → Bool) (ls : List (List ℕ)) (ss : List Saying) (to : Place)
    → (CameTo (listen src inside front ls) ss to ↔ HeardAs src inside beginning ls ss to)
    × (CameTo (listen src inside skipping ls) ss to ↔ HeardAs src inside unknown ls ss to)

-- skipping is a load of the source that passes over the text: nothing is said while it is not decided. It is decided by accepting nothing, and a
-- dump begins after the line that decides it
abbrev pub SkipsAsPast : Type 1
SkipsAsPast =
    (S : Type 0) (src : Source S) (inside : ℕ → Bool) (ls : List (List ℕ))
    → (decision inside nothing_yet (dump_steps (past src) ls) ≡ none → listen src inside skipping ls ≡ silent skipping)
    × ((n : ℕ) (v : Verdict) → decision inside nothing_yet (dump_steps (past src) ls) ≡ some (by n v)
    → (v ≡ accepted nothing_yet) × (0 < n) × (n ≤ length ls) × (listen src inside skipping ls ≡ listen src inside front (drop n ls)))

-- ---- whole dumps

-- the first line has a byte
abbrev pub Begins : List (List ℕ) → Type 0
Begins [] = ⊥
Begins ([] ∷ ls) = ⊥
Begins ((c ∷ line) ∷ ls) = Unit

-- a load of these lines is decided by the last of them, with this verdict
abbrev pub DecidedByLast : {S : Type 0} → Source S → (inside : ℕ → Bool) → List (List ℕ) → Verdict → Type 0
DecidedByLast src inside ls v = decision inside nothing_yet (dump_steps src ls) ≡ some (by (length ls) v)

-- the lines of one dump
pub record IsDump {S : Type 0} (src : Source S) (inside : ℕ → Bool) (ls : List (List ℕ)) (v : Verdict) : Type 0 where
  pub begins : Begins ls
  pub decided : DecidedByLast src inside ls v

-- a good dump: one that a load accepts
pub record Good {S : Type 0} (src : Source S) (inside : ℕ → Bool) : Type 0 where
  pub lines : List (List ℕ)
  pub tally : Tally
  pub is_dump : IsDump src inside lines (accepted tally)

-- what its load says of it
abbrev pub says_load : {S : Type 0} → (src : Source S) (inside : ℕ → Bool) → Good src inside → Saying
says_load src inside d = said (accepted d.tally) (stated (dump_steps src d.lines))

-- good dumps, one directly after the other
unfoldable pub in_a_row : {S : Type 0} → (src : Source S) (inside : ℕ → Bool) → List (Good src inside) → List (List ℕ)
in_a_row src inside [] = []
in_a_row src inside (d ∷ ds) = d.lines ++ in_a_row src inside ds

-- a line that has other bytes before an end record is refused, in any state
abbrev pub EndsWhole : {S : Type 0} → Source S → Type 0
EndsWhole {S} src =
    (s : S) (c : ℕ) (before rest : List ℕ) → is_end src rest ≡ true → (r : Refusal) × (src.act s (c ∷ (before ++ rest)) ≡ fails r ∷ [])

-- ---- what is lost, and what is not

module _ {S : Type 0} (src : Source S) (inside : ℕ → Bool) where
  -- from a known beginning each good dump is said as its load says it, and after the last of them another one begins
  abbrev pub RowIsSaid : Type 0
  RowIsSaid =
      (ds : List (Good src inside)) (more : List (List ℕ))
      → listen src inside front (in_a_row src inside ds ++ more) ≡ first (map (says_load src inside) ds) (listen src inside front more)

  -- a tail, from a line on, of lines that a load accepts by the last of them is skipped: nothing is said, and what follows it is heard as from a
  -- known beginning
  abbrev pub TailIsSkipped : Type 0
  TailIsSkipped =
      (ahead tail more : List (List ℕ)) (t : Tally) → DecidedByLast src inside (ahead ++ tail) (accepted t) → tail ≢ []
      → (listen src inside skipping tail ≡ silent front) × (listen src inside skipping (tail ++ more) ≡ listen src inside front more)

  -- the same from a byte on, within a line of theirs that has lost its first bytes: nothing is said. If it was the last line, the end record is lost,
  -- and skipping goes on
  abbrev pub CutTailIsSkipped : Type 0
  CutTailIsSkipped =
      (ahead later more : List (List ℕ)) (c : ℕ) (lost kept : List ℕ) (t : Tally)
      → DecidedByLast src inside (ahead ++ ((c ∷ (lost ++ kept)) ∷ later)) (accepted t)
      → ((listen src inside skipping (kept ∷ later)).says ≡ [])
      × (later ≢ [] → listen src inside skipping (kept ∷ (later ++ more)) ≡ listen src inside front more)
      × (later ≡ [] → listen src inside skipping (kept ∷ (later ++ more)) ≡ listen src inside skipping more)

  -- a refused dump, then lines with no end record, then good dumps in a row: the first of these is lost, and each later one is said as its load says it
  abbrev pub OneIsLost : Type 0
  OneIsLost =
      (dump noise : List (List ℕ)) (r : Refusal) (n : ℕ) (d : Good src inside) (ds : List (Good src inside)) (more : List (List ℕ))
      → IsDump src inside dump (refused r n) → NoneEnds src noise
      → listen src inside front (dump ++ (noise ++ (in_a_row src inside (d ∷ ds) ++ more)))
      ≡ first (said (refused r n) [] ∷ map (says_load src inside) ds) (listen src inside front more)

  -- with an end record after those lines, no good dump is lost
  abbrev pub NoneIsLost : Type 0
  NoneIsLost =
      (dump noise : List (List ℕ)) (line : List ℕ) (r : Refusal) (n : ℕ) (ds : List (Good src inside)) (more : List (List ℕ))
      → IsDump src inside dump (refused r n) → NoneEnds src noise → is_end src line ≡ true
      → listen src inside front (dump ++ (noise ++ (line ∷ (in_a_row src inside ds ++ more))))
      ≡ first (said (refused r n) [] ∷ map (says_load src inside) ds) (listen src inside front more)

  -- whatever lines are skipped through an end record, a good dump among them is the last of them: so there are never two
  abbrev pub NeverTwo : Type 0
  NeverTwo =
      (ahead before later : List (List ℕ)) (line : List ℕ) (d : Good src inside) → NoneEnds src ahead
      → ahead ++ (line ∷ []) ≡ before ++ (d.lines ++ later) → later ≡ []

  -- whatever came before a pause, what follows it is heard from a known beginning, and no good dump of a row is lost
  abbrev pub KnownAfterAPause : Type 0
  KnownAfterAPause =
      (m : Mode S) (ls : List (List ℕ)) (later : List (List (List ℕ))) (ds : List (Good src inside)) (more : List (List ℕ))
      → (listen_on src inside m (ls ∷ later) ≡ first (stretch src inside m ls).says (listen_on src inside front later))
      × (stretch src inside front (in_a_row src inside ds ++ more) ≡ first (map (says_load src inside) ds) (stretch src inside front more))

abbrev pub GoodAreSaid : Type 1
GoodAreSaid = (S : Type 0) (src : Source S) (inside : ℕ → Bool) → RowIsSaid src inside

-- a tail of an old dump is never ready
abbrev pub TailNeverReady : Type 1
TailNeverReady = (S : Type 0) (src : Source S) (inside : ℕ → Bool) → EndsAlike src → TailIsSkipped src inside

abbrev pub CutTailNeverReady : Type 1
CutTailNeverReady = (S : Type 0) (src : Source S) (inside : ℕ → Bool) → EndsAlike src → EndsWhole src → CutTailIsSkipped src inside

-- the lines of both kinds of text are such
abbrev pub HexEndsWhole : Type 0
HexEndsWhole = EndsWhole intel

abbrev pub SRecordsEndWhole : Type 0
SRecordsEndWhole = EndsWhole s_records

-- a refusal costs at most one good dump after it
abbrev pub CostsOne : Type 1
CostsOne =
    (S : Type 0) (src : Source S) (inside : ℕ → Bool) → EndsAlike src → OneIsLost src inside × NoneIsLost src inside × NeverTwo src inside

-- and none after a pause
abbrev pub NoneAfterAPause : Type 1
NoneAfterAPause = (S : Type 0) (src : Source S) (inside : ℕ → Bool) → KnownAfterAPause src inside

-- ---- each saying

-- lines that came to this fall into parts, one after the other. Each dump is said as a load of its own lines alone decides it. What reaches the
-- page is what the lines of accepted dumps state, and nothing of a refused dump or of a line that was skipped
abbrev pub Parted : {S : Type 0} → Source S → (inside : ℕ → Bool) → (says_of : Part → List Saying) → Listened S → List (List ℕ) → Type 0
Parted src inside says_of h ls =
    (parts : List Part)
    × (all_of lines_of parts ≡ ls)
    × Every (AsLoad src inside) parts
    × (h.says ≡ all_of says_of parts)
    × (to_page h.says ≡ all_of (reaches_of src inside) parts)

-- from a known beginning and from an unknown place, with no pause after the lines
abbrev pub SaidAsLoad : Type 1
SaidAsLoad =
    (S : Type 0) (src : Source S) (inside : ℕ → Bool) (ls : List (List ℕ))
    → Parted src inside (said_of src inside) (listen src inside front ls) ls × Parted src inside (said_of src inside) (listen src inside skipping ls) ls

-- and with one
abbrev pub StretchAsLoad : Type 1
StretchAsLoad =
    (S : Type 0) (src : Source S) (inside : ℕ → Bool) (ls : List (List ℕ))
    → Parted src inside (said_in_all src inside) (stretch src inside front ls) ls × Parted src inside (said_in_all src inside) (stretch src inside skipping ls) ls
