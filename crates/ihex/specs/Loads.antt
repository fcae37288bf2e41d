-- What is claimed of `ihex_load` and `ihex_load_srecords`, in their numbers: demand 3 of document 01, why they return what they return, what their
-- packed marks say, the start, and that dumps of both kinds that state the same leave the same. Each is said once for a load of any source, and then of both.
-- Assumes nothing.
use Rattle.std.specs.Prelude.{ℕ, ◌+◌, ◌<◌, ◌≡◌, ◌≢◌, ◌↔◌, Bool, List, ◌∷◌, ◌++◌, length, get_or}
use Rattle.std.proofs.Math.Option.{Option, none, some}
use Rattle.digits.specs.Common.{Every}
use Rattle.record.specs.Meaning.{end_of_file}
use Rattle.marks.specs.Marks.{row_length, flags, mark_at, Marked, UnusedClear}
use Rattle.reader.specs.Lines.{lines, through}
use Rattle.steps.specs.Steps.{Start, cs_with_ip, linear_address, Verdict, by, stated}
use Rattle.steps.specs.Starts.{StartsAt}
use Rattle.steps.specs.Source.{Source, steps_of}
use Rattle.steps.specs.Sites.{Loaded, OwedAt}
use Rattle.steps.specs.Account.{Account}
use Rattle.window.specs.Load.{stopping_by_window}
use Rattle.window.specs.Reasons.{Why}
use Rattle.window.specs.Loads.{byte_load}
use Rattle.intel.specs.Placing.{intel, placements}
use Rattle.intel.specs.Lines.{record_on, start_on, account}
use Rattle.srecload.specs.Placing.{s_end, s_records}
use Rattle.srecload.specs.Load as srecload
use Rattle.srecload.specs.Claims.{record_on as srecord-on, account as s-account}
use Rattle.codes.specs.Codes.{OK, LoadNumbers, load_numbers}
use Rattle.ihex.specs.Entries.{IhexLoadBy, IhexLoad, IhexLoadSrecords}

-- demand 3, first half: of two texts that are the same through the LF of the line at which the first load stops, into windows of the same
-- lengths, the same is returned, the start included, whatever follows that LF and whatever page and marks held; and if it is IHEX_OK, the marks are the same,
-- and the bytes at marked places
abbrev pub LoadNonInterference : {S : Type 0} → Source S → Type 0
LoadNonInterference src =
    (text₁ text₂ : List ℕ) (first : ℕ) (page₁ marks₁ page₂ marks₂ : List ℕ)
    → length page₁ ≡ length page₂ → length marks₁ ≡ length marks₂
    → (line : ℕ) (v : Verdict) → stopping_by_window src text₁ first page₁ marks₁ ≡ some (by line v)
    → (head : List ℕ) → through line text₁ ≡ some head → through line text₂ ≡ some head
    → (r₁ : LoadNumbers) (p₁ m₁ : List ℕ) (r₂ : LoadNumbers) (p₂ m₂ : List ℕ)
    → IhexLoadBy src text₁ first page₁ marks₁ r₁ p₁ m₁ → IhexLoadBy src text₂ first page₂ marks₂ r₂ p₂ m₂
    → (r₁ ≡ r₂) × (r₁.code ≡ OK → (m₁ ≡ m₂) × ((i : ℕ) → Marked m₁ i → get_or p₁ i 0 ≡ get_or p₂ i 0))

abbrev pub IhexNonInterference : Type 0
IhexNonInterference = LoadNonInterference intel

abbrev pub IhexLoadSrecordsNonInterference : Type 0
IhexLoadSrecordsNonInterference = LoadNonInterference s_records

-- demand 3, second half: of one load that returns IHEX_OK, at each place of the window. The mark is 1 exactly where a data record before the
-- end record states a byte, and there the page holds what the last such record states; else it is 0, and the page keeps its byte
abbrev pub LoadWhatIsStored : {S : Type 0} → Source S → Type 0
LoadWhatIsStored src =
    (text : List ℕ) (first : ℕ) (page marks : List ℕ) (r : LoadNumbers) (p m : List ℕ) → IhexLoadBy src text first page marks r p m → r.code ≡ OK
    → (i : ℕ) → i < length page → OwedAt (stated (steps_of src text)) (first + i) (get_or page i 0) (mark_at m i) (get_or p i 0)

abbrev pub IhexWhatIsStored : Type 0
IhexWhatIsStored = LoadWhatIsStored intel

abbrev pub IhexLoadSrecordsWhatIsStored : Type 0
IhexLoadSrecordsWhatIsStored = LoadWhatIsStored s_records

-- a refusal changes no byte of the page or of the marks
abbrev pub LoadKeeps : {S : Type 0} → Source S → Type 0
LoadKeeps src =
    (text : List ℕ) (first : ℕ) (page marks : List ℕ) (r : LoadNumbers) (p m : List ℕ) → IhexLoadBy src text first page marks r p m → r.code ≢ OK
    → (p ≡ page) × (m ≡ marks)

abbrev pub IhexLoadKeeps : Type 0
IhexLoadKeeps = LoadKeeps intel

abbrev pub IhexLoadSrecordsKeeps : Type 0
IhexLoadSrecordsKeeps = LoadKeeps s_records

-- what is returned has a reason, and nothing else has one
pub record Reasoned (Because : Verdict → Type 0) (r : LoadNumbers) : Type 0 where
  pub verdict : Verdict
  pub why : Because verdict
  pub told : r ≡ load_numbers verdict
  pub only : (v : Verdict) → Because v → v ≡ verdict

-- of a load, in the text's lines and the window, by what its format says of a line
abbrev pub LoadReasoned : {S : Type 0} → Source S → (account : (inside : ℕ → Bool) → Account) → Type 0
LoadReasoned src account =
    (text : List ℕ) (first : ℕ) (page marks : List ℕ) (r : LoadNumbers) (p m : List ℕ) → IhexLoadBy src text first page marks r p m
    → Reasoned (Why src account text first page marks) r

abbrev pub IhexLoadReasons : Type 0
IhexLoadReasons = LoadReasoned intel account

abbrev pub IhexLoadSrecordsReasons : Type 0
IhexLoadSrecordsReasons = LoadReasoned s_records s-account

-- ---- the start

-- a start, in the numbers of a load: IHEX_NO_START; IHEX_START_SEGMENT_ADDRESS with CS in b and IP in c; or IHEX_START_LINEAR_ADDRESS with the
-- address in b. What is not named is 0
pub data InNumbers (r : LoadNumbers) : Option Start → Type 0 where
  no_start : r.start ≡ 0 → r.b ≡ 0 → r.c ≡ 0 → InNumbers r none
  cs_ip : (cs ip : ℕ) → r.start ≡ 3 → r.b ≡ cs → r.c ≡ ip → InNumbers r (some (cs_with_ip cs ip))
  linear : (address : ℕ) → r.start ≡ 5 → r.b ≡ address → r.c ≡ 0 → InNumbers r (some (linear_address address))

-- a text has these lines, and then a line with this property, before which no line has it
pub record UpTo (Last : List ℕ → Type 0) (ls ahead : List (List ℕ)) : Type 0 where
  pub line : List ℕ
  pub later : List (List ℕ)
  pub whole : ls ≡ ahead ++ (line ∷ later)
  pub last : Last line
  pub none_earlier : Every (λ (l : List ℕ). ¬ Last l) ahead

-- the start of a text of Intel HEX, in numbers: that of the first line before the end record that states one, and else none
abbrev pub StartTold : (text : List ℕ) → LoadNumbers → Type 0
StartTold text r =
    (ahead : List (List ℕ)) × (o : Option Start)
    × UpTo (λ (line : List ℕ). record_on line ≡ some end_of_file) (lines text) ahead × StartsAt start_on ahead o × InNumbers r o

-- where `ihex_load` returns IHEX_OK, it is told
abbrev pub IhexLoadStart : Type 0
IhexLoadStart =
    (text : List ℕ) (first : ℕ) (page marks : List ℕ) (r : LoadNumbers) (p m : List ℕ) → IhexLoad text first page marks r p m → r.code ≡ OK → StartTold text r

-- a line is an end of S-records, with this address
abbrev pub SEnd : (line : List ℕ) → Type 0
SEnd line = (address : ℕ) × (srecord-on line ≡ some (s_end address))

-- the start of a text of S-records, in numbers: the address of the first end, as a linear address
abbrev pub SStartTold : (text : List ℕ) → LoadNumbers → Type 0
SStartTold text r = (ahead : List (List ℕ)) × (u : UpTo SEnd (lines text) ahead) × InNumbers r (some (linear_address u.last.0))

abbrev pub IhexLoadSrecordsStart : Type 0
IhexLoadSrecordsStart =
    (text : List ℕ) (first : ℕ) (page marks : List ℕ) (r : LoadNumbers) (p m : List ℕ) → IhexLoadSrecords text first page marks r p m → r.code ≡ OK → SStartTold text r

-- a refusal reports no start
abbrev pub LoadRefusedNoStart : {S : Type 0} → Source S → Type 0
LoadRefusedNoStart src =
    (text : List ℕ) (first : ℕ) (page marks : List ℕ) (r : LoadNumbers) (p m : List ℕ) → IhexLoadBy src text first page marks r p m → r.code ≢ OK → r.start ≡ 0

abbrev pub IhexRefusedNoStart : Type 0
IhexRefusedNoStart = LoadRefusedNoStart intel

abbrev pub IhexLoadSrecordsRefusedNoStart : Type 0
IhexLoadSrecordsRefusedNoStart = LoadRefusedNoStart s_records

-- ---- packed marks

-- packed marks say what marks of a byte each would say: the same is returned, and the page is the same; if it is IHEX_OK, the marks, unpacked, are
-- the others, and the unused bits are 0
pub record UnpackedNumbers (page : List ℕ) (bytes : Loaded) (r : LoadNumbers) (p m : List ℕ) : Type 0 where
  pub told : r ≡ load_numbers bytes.answer
  pub page_is : p ≡ bytes.page
  pub unpacked : r.code ≡ OK → flags (length page) m ≡ bytes.marks
  pub unused : r.code ≡ OK → UnusedClear (length page) m

abbrev pub LoadPackedAsBytes : {S : Type 0} → Source S → Type 0
LoadPackedAsBytes src =
    (text : List ℕ) (first : ℕ) (page marks byte-marks : List ℕ) (r : LoadNumbers) (p m : List ℕ)
    → (length marks ≡ row_length (length page)) ↔ (length byte-marks ≡ length page)
    → IhexLoadBy src text first page marks r p m → UnpackedNumbers page (byte_load src text first page byte-marks) r p m

abbrev pub IhexPackedAsBytes : Type 0
IhexPackedAsBytes = LoadPackedAsBytes intel

abbrev pub IhexLoadSrecordsPackedAsBytes : Type 0
IhexLoadSrecordsPackedAsBytes = LoadPackedAsBytes s_records

-- ---- both kinds

-- where `ihex_load` and `ihex_load_srecords` return IHEX_OK, for the same window and the same old page, and the texts state the same placements in the
-- same order, they leave the same page and the same marks. The old marks may differ, and so may the number of data records and the start
abbrev pub IhexBothKinds : Type 0
IhexBothKinds =
    (text text' : List ℕ) (first : ℕ) (page marks marks' : List ℕ)
    → (r : LoadNumbers) (p m : List ℕ) → IhexLoad text first page marks r p m → r.code ≡ OK
    → (r' : LoadNumbers) (p' m' : List ℕ) → IhexLoadSrecords text' first page marks' r' p' m' → r'.code ≡ OK
    → placements text ≡ srecload.placements text' → (p ≡ p') × (m ≡ m')
