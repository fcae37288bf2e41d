-- What is claimed of a salvage. Each claim is proved in `proofs/`: the same name, in small letters.
-- Assumes nothing.
use Rattle.std.specs.Prelude.{ℕ, suc, ◌+◌, ◌≤◌, ◌<◌, ◌≡◌, ◌≢◌, ◌↔◌, ◌⊎◌, length, get_or}
use mathlib.Core.List.{List, [], ◌∷◌, ◌++◌, map, Memᴰ}
use Rattle.digits.specs.Common.{Every, text}
use Rattle.record.specs.Refusals.{Refusal, number_of, missing_start_code, checksum_mismatch}
use Rattle.record.specs.Meaning.{Meaning, end_of_file}
use Rattle.record.specs.declared.Record.{Record}
use Rattle.record.specs.Record.{meant, Inside}
use Rattle.record.specs.Written.{Sayable, line_of}
use Rattle.reader.specs.Lines.{LF, lines}
use Rattle.reader.specs.Row.{Numbered, on, sayings, row}
use Rattle.reader.specs.Text.{default_options}
use Rattle.writer.specs.Text.{chars}
use Rattle.writer.specs.Object.{object}
use Rattle.page.specs.Spoken.{said_of}
use Rattle.marks.specs.Marks.{mark_at}
use Rattle.steps.specs.Steps.{Placement, Tally, accepted, refused as not-loaded}
use Rattle.intel.specs.Placing.{Base, from_start, stated_by, base_behind, placements}
use Rattle.loader.specs.Load.{load}
use Rattle.salvage.specs.Salvage.{refused, base_unknown, Reason, Fate, kept, dropped, Sorted, of, fates, Entry, entry, end_added, saved, clean, removed}
use Rattle.salvage.specs.Fates.{Says, GoesOn, Reached, Fated}
use Rattle.salvage.specs.Standing.{Stands, DiffersInRefused, Undamaged, Among}

-- ---- what becomes of each line

-- a line is kept, or dropped for this reason, exactly where the text's lines say so
abbrev pub FatesOfLines : Type 0
FatesOfLines = (text : List ℕ) (n : ℕ) (what : Fate) → Memᴰ (of n what) (fates text) ↔ Fated (lines text) n what

-- and nothing else becomes of it
abbrev pub OneFate : Type 0
OneFate = (text : List ℕ) (n : ℕ) (what what' : Fate) → Fated (lines text) n what → Fated (lines text) n what' → what ≡ what'

-- ---- nothing is lost in silence

-- a line that is in the clean file, or in the list
pub data Accounted (text : List ℕ) (n : ℕ) (line : List ℕ) : Type 0 where
  is_kept : (m : Meaning) → Says line m → Memᴰ (of n (kept m)) (fates text) → Memᴰ m (saved text) → Accounted text n line
  is_listed : (why : Reason) → Memᴰ (entry n why) (removed text) → Accounted text n line

-- each line with a byte, through the first end record, is one of those
abbrev pub NothingLost : Type 0
NothingLost =
    (text : List ℕ) (n : ℕ) (ahead : List (List ℕ)) (line : List ℕ) → Reached (lines text) n ahead line → line ≢ [] → Accounted text n line

-- no line is an end record
abbrev pub NoEnd : (text : List ℕ) → Type 0
NoEnd text = Every GoesOn (lines text)

-- a line is in the list exactly where it is dropped for that reason, and an added end exactly where the text has no end record
abbrev pub ListedExactly : Type 0
ListedExactly =
    (text : List ℕ) (n : ℕ) (why : Reason)
    → Memᴰ (entry n why) (removed text) ↔ (Fated (lines text) n (dropped why) ⊎ ((entry n why ≡ end_added) × NoEnd text))

-- a record is in the clean file exactly where a line with it is kept, and an added end exactly where the text has no end record
abbrev pub SavedExactly : Type 0
SavedExactly =
    (text : List ℕ) (m : Meaning)
    → Memᴰ m (saved text) ↔ (((n : ℕ) × Fated (lines text) n (kept m)) ⊎ ((m ≡ end_of_file) × NoEnd text))

-- line numbers ascend
unfoldable pub Ascending : (above : ℕ) → List Sorted → Type 0
Ascending above [] = Unit
Ascending above (of n what ∷ later) = (above < n) × Ascending n later

abbrev pub NumbersAscend : Type 0
NumbersAscend = (text : List ℕ) → Ascending 0 (fates text)

-- they ascend in the list too, except that an added end, which comes last, has number 0
unfoldable pub Rising : (above : ℕ) → List Entry → Type 0
Rising above [] = Unit
Rising above (entry n why ∷ later) = ((above < n) × Rising n later) ⊎ ((entry n why ≡ end_added) × (later ≡ []))

abbrev pub ListRises : Type 0
ListRises = (text : List ℕ) → Rising 0 (removed text)

-- together, clean file and list have as many lines as were read. An added end stands in both, and there is one exactly where no line is an end
abbrev pub Counted : Type 0
Counted =
    (text : List ℕ)
    → ((length (saved text) + length (removed text) ≡ length (fates text)) × (¬ NoEnd text))
    ⊎ ((length (saved text) + length (removed text) ≡ length (fates text) + 2) × NoEnd text)

-- ---- the clean file

-- the last of the records is an end record, and no other is
pub data OneEnd : List Meaning → Type 0 where
  the_last : OneEnd (end_of_file ∷ [])
  ahead_of_it : {m : Meaning} {ms : List Meaning} → m ≢ end_of_file → OneEnd ms → OneEnd (m ∷ ms)

abbrev pub SavedEnds : Type 0
SavedEnds = (text : List ℕ) → OneEnd (saved text)

-- a line can hold each record that is saved
abbrev pub SavedSayable : Type 0
SavedSayable = (text : List ℕ) → Every Sayable (saved text)

-- the clean file's lines are those of the saved records, in order, as the writer writes them
abbrev pub CleanLines : Type 0
CleanLines = (text : List ℕ) → lines (clean text) ≡ map line_of (saved text)

-- what such lines say, numbered from n on
unfoldable pub spoken : (n : ℕ) → List Meaning → List Numbered
spoken n [] = []
spoken n (m ∷ ms) = on n (said_of m) ∷ spoken (suc n) ms

-- read with both stops on, the clean file says the saved records, each on a line of its own
abbrev pub CleanSays : Type 0
CleanSays = (text : List ℕ) → row default_options (clean text) ≡ spoken 1 (saved text)

-- what records state, one after the other, from a base on
unfoldable pub all_stated : Base → List Meaning → List Placement
unfolding stated_by base_behind
all_stated base [] = []
all_stated base (m ∷ ms) = stated_by base m ++ all_stated (base_behind base m) ms

abbrev pub CleanStates : Type 0
CleanStates = (text : List ℕ) → placements (clean text) ≡ all_stated from_start (saved text)

-- it is the text that the object writer writes for any list of records that mean the saved ones, with their payloads inside the pool
abbrev pub CleanIsObject : Type 0
CleanIsObject =
    (text : List ℕ) (rs : List Record) (pool : List ℕ) → map (λ r. meant r pool) rs ≡ saved text → Every (λ r. Inside r (length pool)) rs
    → object rs pool ≡ chars (clean text)

-- salvaged again it is itself, and nothing is removed
abbrev pub CleanIsClean : Type 0
CleanIsClean = (text : List ℕ) → (clean (clean text) ≡ clean text) × (removed (clean text) ≡ [])

-- loaded into any window, it is accepted, or refused with 16 for the window, with 17 for a byte outside, or with 21 for a start that differs
abbrev pub CleanLoads : Type 0
CleanLoads =
    (text : List ℕ) (first : ℕ) (page marks : List ℕ) → let v = (load (clean text) first page marks).answer in
    ((tally : Tally) × (v ≡ accepted tally)) ⊎ ((r : Refusal) × (line : ℕ) × (v ≡ not-loaded r line) × Memᴰ (number_of r) (16 ∷ 17 ∷ 21 ∷ []))

-- it is at most 13 bytes longer than the text: an end record and a LF may be added
abbrev pub CleanShort : Type 0
CleanShort = (text : List ℕ) → length (clean text) ≤ length text + 13

-- the list has at most one entry for each line that has a byte, and one more. There are at most as many such lines as bytes
abbrev pub with_a_byte : (text : List ℕ) → ℕ
with_a_byte text = length (sayings 1 (lines text))

abbrev pub RemovedFew : Type 0
RemovedFew = (text : List ℕ) → (length (removed text) ≤ with_a_byte text + 1) × (with_a_byte text ≤ length text)

-- ---- what can be relied on

-- If the capture stands for an undamaged text, that text states each byte of the clean file, at the same address, before its end record, and
-- in the same order. A byte of the clean file may be older than the last one that the undamaged text states at its address.
abbrev pub SalvageInOrder : Type 0
SalvageInOrder = (text undamaged : List ℕ) → Stands (lines text) (lines undamaged) → Undamaged undamaged → Among (placements (clean text)) (placements undamaged)

abbrev pub SalvageIsStated : Type 0
SalvageIsStated =
    (text undamaged : List ℕ) → Stands (lines text) (lines undamaged) → Undamaged undamaged
    → (p : Placement) → Memᴰ p (placements (clean text)) → Memᴰ p (placements undamaged)

-- document 02's own form, which is a case
abbrev pub AskedIsACase : Type 0
AskedIsACase = (captured undamaged : List (List ℕ)) → DiffersInRefused captured undamaged → Stands captured undamaged

abbrev pub AsAsked : Type 0
AsAsked =
    (text undamaged : List ℕ) → DiffersInRefused (lines text) (lines undamaged) → Undamaged undamaged
    → (p : Placement) → Memᴰ p (placements (clean text)) → Memᴰ p (placements undamaged)

-- a capture may break off at any byte, also in the middle of a line
abbrev pub CutOffAnywhere : Type 0
CutOffAnywhere = (text more : List ℕ) → Undamaged (text ++ more) → Among (placements (clean text)) (placements (text ++ more))

-- the undamaged text states each byte that a load of the clean file leaves at a marked place
abbrev pub LoadedIsStated : Type 0
LoadedIsStated =
    (text undamaged : List ℕ) → Stands (lines text) (lines undamaged) → Undamaged undamaged
    → (first : ℕ) (page marks : List ℕ) (tally : Tally) → let l = load (clean text) first page marks in
    l.answer ≡ accepted tally → (i : ℕ) → i < length page → mark_at l.marks i ≡ 1
    → Memᴰ (record { address = first + i; byte = get_or l.page i 0 }) (placements undamaged)

-- nothing is lost of a text that is not damaged: its clean file states the same
abbrev pub UndamagedStays : Type 0
UndamagedStays = (text : List ℕ) → Undamaged text → placements (clean text) ≡ placements text

-- ---- examples

abbrev pub lf : List ℕ → List ℕ → List ℕ
lf line rest = line ++ (LF ∷ rest)

abbrev pub the_end : List ℕ
the_end = text ":00000001FF"

abbrev pub eleven : List ℕ
eleven = text ":0100000011EE"

abbrev pub start : List ℕ
start = text ":04000005000000CD2A"

abbrev pub linear_0 : List ℕ
linear_0 = text ":020000040000FA"

abbrev pub x_line : List ℕ
x_line = text "x"

abbrev pub at_0 : (byte : ℕ) → Placement
at_0 byte = record { address = 0; byte = byte }

-- what is not claimed, and is false
pub record Limits : Type 0 where
  -- the last byte that an undamaged text states at an address may be lost, and an older one kept
  pub older_kept : placements (clean (lf eleven (lf (text ":0100000022DE") (lf the_end [])))) ≡ at_0 0x11 ∷ []
  pub older_stated : placements (lf eleven (lf (text ":0100000022DD") (lf the_end []))) ≡ at_0 0x11 ∷ at_0 0x22 ∷ []
  -- where the end record itself was damaged, the lines after it are kept. The list names the damaged line
  pub tail_kept : placements (clean (lf eleven (lf (text ":00000001FE") (lf linear_0 (lf (text ":010000009966") (lf the_end [])))))) ≡ at_0 0x11 ∷ at_0 0x99 ∷ []
  pub tail_removed : removed (lf eleven (lf (text ":00000001FE") (lf linear_0 (lf (text ":010000009966") (lf the_end []))))) ≡ entry 2 (refused (checksum_mismatch 0xFF 0xFE)) ∷ []
  pub tail_stated : placements (lf eleven (lf the_end (lf linear_0 (lf (text ":010000009966") (lf the_end []))))) ≡ at_0 0x11 ∷ []
  -- a line that was emptied is not refused: nothing is listed, and bytes may lie at another address
  pub emptied_kept : placements (clean (lf [] (lf eleven (lf the_end [])))) ≡ at_0 0x11 ∷ []
  pub emptied_removed : removed (lf [] (lf eleven (lf the_end []))) ≡ []
  pub emptied_stated : placements (lf (text ":020000040001F9") (lf eleven (lf the_end []))) ≡ record { address = 0x10000; byte = 0x11 } ∷ []
  -- nor is one that was lost whole
  pub lost_kept : placements (clean (lf eleven (lf the_end []))) ≡ at_0 0x11 ∷ []
  pub lost_removed : removed (lf eleven (lf the_end [])) ≡ []
  -- two wrong characters in one line can cancel each other. It was `:0100000011EE`
  pub cancelled_kept : placements (clean (lf (text ":0100000012ED") (lf the_end []))) ≡ at_0 0x12 ∷ []
  pub cancelled_removed : removed (lf (text ":0100000012ED") (lf the_end [])) ≡ []

pub record Examples : Type 0 where
  -- nothing at all: the end is added
  pub nothing_clean : clean [] ≡ lf the_end []
  pub nothing_removed : removed [] ≡ end_added ∷ []
  -- a banner before the records may stand for a base
  pub banner_clean : clean (lf x_line (lf eleven (lf eleven (lf the_end [])))) ≡ lf the_end []
  pub banner_removed : removed (lf x_line (lf eleven (lf eleven (lf the_end [])))) ≡ entry 1 (refused missing_start_code) ∷ entry 2 base_unknown ∷ entry 3 base_unknown ∷ []
  -- after a refused line, data is dropped until a type 04. Empty lines are counted, but not listed
  pub again_clean : clean (lf eleven (lf [] (lf (text ":00000001FE") (lf eleven (lf linear_0 (lf eleven the_end)))))) ≡ lf eleven (lf linear_0 (lf eleven (lf the_end [])))
  pub again_removed : removed (lf eleven (lf [] (lf (text ":00000001FE") (lf eleven (lf linear_0 (lf eleven the_end))))))
      ≡ entry 3 (refused (checksum_mismatch 0xFF 0xFE)) ∷ entry 4 base_unknown ∷ []
  -- an end is added, and listed last
  pub added_clean : clean (lf eleven x_line) ≡ lf eleven (lf the_end [])
  pub added_removed : removed (lf eleven x_line) ≡ entry 2 (refused missing_start_code) ∷ end_added ∷ []
  -- a start is kept while the base is unknown
  pub start_clean : clean (lf x_line (lf start (lf the_end []))) ≡ lf start (lf the_end [])
  pub start_removed : removed (lf x_line (lf start (lf the_end []))) ≡ entry 1 (refused missing_start_code) ∷ []
  -- small letters, and an address in the end record, come out as the writer writes them. Nothing is read after the end record
  pub rewritten_clean : clean (lf (text ":0100000011ee") (lf (text ":00123401b9") (lf x_line []))) ≡ lf eleven (lf the_end [])
  pub rewritten_removed : removed (lf (text ":0100000011ee") (lf (text ":00123401b9") (lf x_line []))) ≡ []
