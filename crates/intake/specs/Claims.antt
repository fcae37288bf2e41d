-- What is claimed of a load that is fed, against a load of the whole text: of every source that takes a line as what is kept of it stands for. Each
-- claim is proved in `proofs/Claims.antt`, those on chunks in `proofs/Counting.antt`, those on tails in `proofs/Past.antt` and
-- `proofs/Bare.antt`, on ways in `proofs/Ways.antt`, that on S-records in
-- `proofs/Unique.antt`, and those on `begin`, `begin_tail` and `finish` in `proofs/Finishing.antt`.
-- Assumes nothing.
use Rattle.std.specs.Prelude.{◌≡◌, ℕ, suc, ◌^◌, ◌<◌, Bool, true, false, ◌||◌, ◌⊎◌, List, [], ◌++◌, length, take}
use Rattle.std.proofs.Math.Option.{none, some}
use Rattle.marks.specs.Claims.{Bytes}
use Rattle.reader.specs.Lines.{through}
use Rattle.chunks.specs.Begun.{Begun, nothing, brief, stands_for}
use Rattle.chunks.specs.Rows.{joined}
use Rattle.steps.specs.declared.LoaderError.TheVariants.{MissingEndOfFileRecord}
use Rattle.steps.specs.Aliases.{Loading}
use Rattle.steps.specs.Steps.{Placement, Tally, nothing_yet, Verdict, accepted, by, decision, verdict, stated}
use Rattle.steps.specs.Source.{Source, steps, steps_of}
use Rattle.steps.specs.Taken.{Standing, at_first, at_line}
use Rattle.window.specs.Window.{unfit}
use Rattle.intake.specs.declared.Kind.{Kind}
use Rattle.intake.specs.declared.Kind.TheVariants.{SRecords}
use Rattle.intake.specs.declared.Intake.{Intake}
use Rattle.intake.specs.Aliases.{Ending}
use Rattle.intake.specs.Machine.{Taking, Fed, wants_more, decided, takes, fed, ended_by, stated_by, ended}
use Rattle.intake.specs.Counting.{CountsOne, fed_all}
use Rattle.intake.specs.declared.Reply.{Reply}
use Rattle.intake.specs.declared.Reply.TheVariants.{WantsMore, Decided, CarryTooSmall}
use Rattle.intake.specs.Intake.{spoilt, Feeds}
use Rattle.intake.specs.Ending.{Begins, BeginsTail, Finishes}
use Rattle.intake.specs.Past.{EndsAlike, past}
use Rattle.intake.specs.Ways.{way_of}
use Rattle.intake.specs.Helpers.{nothing_met}
use Rattle.std.specs.Prelude.{None, Some}
use Rattle.steps.specs.Aliases.{refuse}

-- what is kept of a line stands for it: it does the same, and leaves the same state
pub record Briefly {S : Type 0} (src : Source S) : Type 0 where
  pub acts : (s : S) (line : List ℕ) → src.act s (stands_for (brief line)) ≡ src.act s line
  pub leaves : (s : S) (line : List ℕ) → src.next s (stands_for (brief line)) ≡ src.next s line

-- ---- cuts

-- bytes that come after what bytes came to: they are fed if more is wanted, and else they are left
abbrev pub then_fed : {S : Type 0} → Taking S → Fed S → (more : List ℕ) → Fed S
then_fed take (wants_more n st b) more = fed take n st b more
then_fed take (decided n v ps left) more = decided n v ps (left ++ more)

-- wherever bytes are cut, they come to the same
abbrev pub AnyCut : Type 1
AnyCut =
    (S : Type 0) (take : Taking S) (n : ℕ) (st : Standing S) (b : Begun) (bytes more : List ℕ)
    → fed take n st b (bytes ++ more) ≡ then_fed take (fed take n st b bytes) more

-- chunk after chunk, or all in one
abbrev pub AnyChunks : Type 1
AnyChunks =
    (S : Type 0) (take : Taking S) (n : ℕ) (st : Standing S) (b : Begun) (chunks : List (List ℕ)) → fed_all take n st b chunks ≡ fed take n st b (joined chunks)

-- ---- beside a load, of a text of fewer than 2^64 - 1 bytes that came to this

module _ {S : Type 0} (src : Source S) (inside : ℕ → Bool) (text : List ℕ) where
  -- a decision is that of the steps of the text, whatever follows: at the same line, with the same verdict. What is left is the text after the LF of that
  -- line. If the text is accepted, what was stated is what its steps state
  abbrev pub DecidesSo : (came : Fed S) → Type 0
  DecidesSo came =
      (n : ℕ) (v : Verdict) (ps : List Placement) (left : List ℕ) → Briefly src → suc (length text) < 2 ^ 64 → came ≡ decided n v ps left
      → (decision inside nothing_yet (steps_of src text) ≡ some (by n v))
      × ((head : List ℕ) × (through n text ≡ some head) × (head ++ left ≡ text))
      × ((t : Tally) → v ≡ accepted t → stated (steps_of src text) ≡ ps)

  -- a text that wants more and ends there has the verdict of its steps, and states what they state
  abbrev pub EndsSo : Taking S → (came : Fed S) → Type 0
  EndsSo take came =
      (n : ℕ) (st : Standing S) (b : Begun) → Briefly src → suc (length text) < 2 ^ 64 → came ≡ wants_more n st b
      → (ended_by (ended take n st b) ≡ verdict (decision inside nothing_yet (steps_of src text)))
      × ((t : Tally) → ended_by (ended take n st b) ≡ accepted t → stated (steps_of src text) ≡ stated_by (ended take n st b))

  -- a text that wants more has not been fed the LF of the line that decides it
  abbrev pub WaitsSo : (came : Fed S) → Type 0
  WaitsSo came =
      (n : ℕ) (st : Standing S) (b : Begun) → Briefly src → suc (length text) < 2 ^ 64 → came ≡ wants_more n st b
      → (m : ℕ) (v : Verdict) → decision inside nothing_yet (steps_of src text) ≡ some (by m v) → through m text ≡ none

-- what a text comes to that is fed from its beginning
abbrev pub fed_text : {S : Type 0} → Source S → (inside : ℕ → Bool) → (text : List ℕ) → Fed S
fed_text src inside text = fed (at_line src inside) 0 (at_first src) nothing text

abbrev pub DecidesAsLoad : Type 1
DecidesAsLoad = (S : Type 0) (src : Source S) (inside : ℕ → Bool) (text : List ℕ) → DecidesSo src inside text (fed_text src inside text)

abbrev pub EndsAsLoad : Type 1
EndsAsLoad = (S : Type 0) (src : Source S) (inside : ℕ → Bool) (text : List ℕ) → EndsSo src inside text (at_line src inside) (fed_text src inside text)

abbrev pub AsSoonAsItCame : Type 1
AsSoonAsItCame = (S : Type 0) (src : Source S) (inside : ℕ → Bool) (text : List ℕ) → WaitsSo src inside text (fed_text src inside text)

-- ---- with a tally that may be full, and chunk after chunk

-- what chunks come to that are fed from the beginning of their text
abbrev pub fed_chunks : {S : Type 0} → Source S → (inside : ℕ → Bool) → (chunks : List (List ℕ)) → Fed S
fed_chunks src inside chunks = fed_all (takes src inside) 0 (at_first src) nothing chunks

-- the same three of the text that the chunks are, for a source whose lines count one data record at most
abbrev pub ChunksAsLoad : Type 1
ChunksAsLoad =
    (S : Type 0) (src : Source S) (inside : ℕ → Bool) (chunks : List (List ℕ)) → CountsOne src
    → DecidesSo src inside (joined chunks) (fed_chunks src inside chunks)
    × EndsSo src inside (joined chunks) (takes src inside) (fed_chunks src inside chunks)
    × WaitsSo src inside (joined chunks) (fed_chunks src inside chunks)

-- ---- tails

-- what is kept of a line of a tail stands for it, and a line counts one data record at most
abbrev pub PastBriefly : Type 1
PastBriefly = (S : Type 0) (src : Source S) → Briefly src → Briefly (past src)

abbrev pub PastCountsOne : Type 1
PastCountsOne = (S : Type 0) (src : Source S) → CountsOne (past src)

-- so all of the above holds of every way: of both kinds of text, and of their tails
abbrev pub EveryWay : Type 0
EveryWay = (kind : Kind) (tail : Bool) → Briefly (way_of kind tail).source × CountsOne (way_of kind tail).source

-- a tail states nothing
abbrev pub PastStatesNothing : Type 1
PastStatesNothing = (S : Type 0) (src : Source S) (text : List ℕ) → stated (steps_of (past src) text) ≡ []

-- and no line of it is refused: the one that decides has met nothing
abbrev pub PastNeverRefuses : Type 1
PastNeverRefuses =
    (S : Type 0) (src : Source S) (inside : ℕ → Bool) (text : List ℕ) (n : ℕ) (v : Verdict) → decision inside nothing_yet (steps_of (past src) text) ≡ some (by n v)
    → v ≡ accepted nothing_yet

-- lines that a load accepts by line m, from any state and tally on, are passed over through line m: so is every tail of a text that is accepted
abbrev pub PastWhatIsAccepted : Type 1
PastWhatIsAccepted =
    (S : Type 0) (src : Source S) (inside : ℕ → Bool) (t k : Tally) (s : S) (n m : ℕ) (ls : List (List ℕ)) → EndsAlike src
    → decision inside t (steps src s n ls) ≡ some (by m (accepted k)) → decision inside nothing_yet (steps (past src) tt n ls) ≡ some (by m (accepted nothing_yet))

-- the same of the code. A tail that is fed stages nothing, and what is decided has met nothing, unless the window is refused
abbrev pub FeedsATail : Type 0
FeedsATail =
    (s : Intake) (chunk carry : List ℕ) (first : ℕ) (stage stated : List ℕ) (r : Reply) (c p m : List ℕ) → Bytes stated → s.tail ≡ true
    → Feeds s chunk carry first stage stated r c p m
    → (p ≡ stage) × (m ≡ stated) × ((l : Loading) (used : ℕ) → unfit first (length stage) (length stated) ≡ false → r ≡ Decided l used → l ≡ nothing_met)

-- where the text ends the same holds, but a tail without an end record is refused
abbrev pub FinishesATail : Type 0
FinishesATail =
    (s : Intake) (carry : List ℕ) (first : ℕ) (stage stated : List ℕ) (r : Ending) (c p m : List ℕ) → Bytes stated → s.tail ≡ true
    → Finishes s carry first stage stated r c p m
    → (p ≡ stage) × (m ≡ stated)
    × ((l : Loading) → unfit first (length stage) (length stated) ≡ false → r ≡ Some l → (l ≡ nothing_met) ⊎ (l ≡ refuse MissingEndOfFileRecord 0))

-- ---- a load of S-records, and no tail

-- S-records keep the base of the state, and state no start before their end
abbrev pub SRecordsKeepTheBase : Type 0
SRecordsKeepTheBase =
    (s s' : Intake) (chunk carry : List ℕ) (first : ℕ) (stage stated : List ℕ) (c p m : List ℕ) → s.kind ≡ SRecords → s.tail ≡ false
    → Feeds s chunk carry first stage stated (WantsMore s') c p m
    → (s'.base ≡ s.base) × (s'.tally.start ≡ None)

-- ---- no second answer meets a contract

abbrev pub BeginUnique : Type 0
BeginUnique = (kind : Kind) (stated : List ℕ) (r r' : Intake) (m m' : List ℕ) → Begins kind stated r m → Begins kind stated r' m' → (r ≡ r') × (m ≡ m')

abbrev pub BeginTailUnique : Type 0
BeginTailUnique = (kind : Kind) (r r' : Intake) → BeginsTail kind r → BeginsTail kind r' → r ≡ r'

-- the carry is fixed where the load is refused before all else
abbrev pub FinishUnique : Type 0
FinishUnique =
    (s : Intake) (carry : List ℕ) (first : ℕ) (stage stated : List ℕ) (r r' : Ending) (c c' p p' m m' : List ℕ) → Bytes stated
    → Finishes s carry first stage stated r c p m → Finishes s carry first stage stated r' c' p' m'
    → (r ≡ r') × (p ≡ p') × (m ≡ m') × ((spoilt s carry || unfit first (length stage) (length stated)) ≡ true → c ≡ c')

-- of the carry the bytes are fixed that a state counts as used, and all where the carry is too small
abbrev pub SameCarry : Reply → (carry carry' : List ℕ) → Type 0
SameCarry (WantsMore s) carry carry' = take s.used carry ≡ take s.used carry'
SameCarry (Decided l used) carry carry' = Unit
SameCarry CarryTooSmall carry carry' = carry ≡ carry'

-- with marks that are bytes
abbrev pub FeedUnique : Type 0
FeedUnique =
    (s : Intake) (chunk carry : List ℕ) (first : ℕ) (stage stated : List ℕ) (r r' : Reply) (c c' p p' m m' : List ℕ) → Bytes stated
    → Feeds s chunk carry first stage stated r c p m → Feeds s chunk carry first stage stated r' c' p' m' → (r ≡ r') × (p ≡ p') × (m ≡ m') × SameCarry r c c'
