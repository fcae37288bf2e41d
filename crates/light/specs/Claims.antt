-- What is claimed of the light, for one call of `dump` or `dump_srecords`, and for any number of them in turn. Each claim is proved in `proofs/Claims.antt` or `proofs/History.antt`.
-- Assumes nothing.
use Rattle.std.specs.Prelude.{◌≡◌, ℕ, ◌+◌, ◌*◌, ◌<◌, ◌≤◌, true, ◌≢◌, ◌⊎◌, ◌↔◌, List, [], ◌∷◌, ◌++◌, map, length, ◌==◌}
use Rattle.std.proofs.Math.Option.{Option, none, some}
use Rattle.std.specs.Prelude.{if◌then◌else◌}
use Rattle.record.specs.Refusals.{Refusal, bad_window}
use Rattle.reader.specs.Lines.{through}
use Rattle.steps.specs.Steps.{Placement, Step, Tally, Verdict, accepted, refused, by, verdict, stated}
use Rattle.steps.specs.Source.{Source, steps_of}
use Rattle.steps.specs.Sites.{last_at, LastStated, stopping_by, stopping_in}
use Rattle.steps.specs.Told.{told_loading}
use Rattle.window.specs.Window.{unfit, window, one_window}
use Rattle.intel.specs.Placing.{intel}
use Rattle.srecload.specs.Placing.{s_records}
use Rattle.light.specs.declared.Light.{Light}
use Rattle.light.specs.Aliases.{Made}
use Rattle.light.specs.declared.Dumped.{Dumped}
use Rattle.light.specs.Colors.{Color, broken, no_count, green, Outcome, refused_one, uncounted, counted, forward, colors, LastCount, Shows, Sixteen}
use Rattle.light.specs.Light.{told_color, told_count, load_for, SetUp, Dumps}
use Rattle.std.specs.Prelude.{None}

-- ---- what a dump says, from its steps and the lengths of its buffers alone

-- the count of two bytes that are stated
abbrev pub count_of : (high low : Option ℕ) → Outcome
count_of none low = uncounted
count_of (some h) none = uncounted
count_of (some h) (some l) = counted (256 * h + l)

-- what is stated for a place of a window
abbrev pub stated_for : Option ℕ → List Placement → Option ℕ
stated_for none ps = none
stated_for (some address) ps = last_at address ps

-- by the verdict on its steps
unfoldable pub said_by : (shows : ℕ → Option ℕ) (high low : ℕ) → List Placement → Verdict → Outcome
unfolding last_at
said_by shows high low ps (accepted t) = count_of (stated_for (shows high) ps) (stated_for (shows low) ps)
said_by shows high low ps (refused r line) = refused_one

-- a dump with these steps, into a page and marks of these lengths: what the buffers held does not matter
unfoldable pub said : Light → List Step → (page marks : ℕ) → Outcome
unfolding said_by stopping_by one_window window stated verdict
said l steps page marks =
    if page == l.length
    then said_by (window l.first page) l.high l.low (stated steps) (verdict (stopping_in (one_window l.first page marks) steps))
    else refused_one

-- ---- calls, one after the other

-- a dump is of Intel HEX or of S-records
pub data Kind : Type 0 where
  hex : Kind
  srecords : Kind

abbrev pub steps_by : Kind → (text : List ℕ) → List Step
steps_by hex text = steps_of intel text
steps_by srecords text = steps_of s_records text

-- a call: what it was given, what it returned, and what the buffers held then
pub record Call : Type 0 where
  pub kind : Kind
  pub text : List ℕ
  pub page : List ℕ
  pub marks : List ℕ
  pub returned : Dumped
  pub page_after : List ℕ
  pub marks_after : List ℕ

abbrev pub MeetsBy : Kind → Light → Call → Type 0
MeetsBy hex l c = Dumps intel l c.text c.page c.marks c.returned c.page_after c.marks_after
MeetsBy srecords l c = Dumps s_records l c.text c.page c.marks c.returned c.page_after c.marks_after

-- it meets the contract of its function, with this light
abbrev pub Meets : Light → Call → Type 0
Meets l c = MeetsBy c.kind l c

-- each is made with the light that the one before returned
abbrev pub InTurn : Light → List Call → Type 0
InTurn l [] = Unit
InTurn l (c ∷ cs) = Meets l c × InTurn c.returned.light cs

-- what a call's dump says
abbrev pub said_of : Light → Call → Outcome
said_of l c = said l (steps_by c.kind c.text) (length c.page) (length c.marks)

abbrev pub shown : Call → Color
shown c = told_color c.returned.color

-- over any number of dumps in turn each color follows from the history alone: from what each dump says, and the count that the light knew at first
abbrev pub ByHistory : Type 0
ByHistory = (l : Light) (cs : List Call) → InTurn l cs → map shown cs ≡ colors (told_count l.known) (map (said_of l) cs)

-- what a dump says has a count of 16 bits, if it has one
abbrev pub SaidSixteen : Type 0
SaidSixteen = (l : Light) (kind : Kind) (text : List ℕ) (page marks : ℕ) → Sixteen (said l (steps_by kind text) page marks)

-- of a row of things, each of which says something of the count: each is shown as `Shows` says, after the history of those before it
abbrev pub EachShows : {A : Type 0} (says : A → Outcome) (Shown : A → Color → Type 0) (history : List Outcome) → List A → Type 0
EachShows says Shown history [] = Unit
EachShows says Shown history (c ∷ cs) =
    ((k : Color) × Shows history (says c) k × Shown c k) × EachShows says Shown (history ++ (says c ∷ [])) cs

-- the same without computing, for a light that knows no count at first
abbrev pub ShowsHistory : Type 0
ShowsHistory = (l : Light) (cs : List Call) → l.known ≡ None → InTurn l cs → EachShows (said_of l) (λ (c : Call) (k : Color). shown c ≡ k) [] cs

-- the same dump twice running, with buffers of equal sizes and whatever contents, is never green the second time
abbrev pub NeverGreenTwice : Type 0
NeverGreenTwice =
    (l : Light) (c c' : Call) → Meets l c → Meets c.returned.light c' → c.kind ≡ c'.kind → c.text ≡ c'.text
    → length c.page ≡ length c'.page → length c.marks ≡ length c'.marks → shown c' ≢ green

-- a dump whose count did not move forward is never green, whatever else it holds
abbrev pub UnmovedNeverGreen : Type 0
UnmovedNeverGreen =
    (l : Light) (c : Call) → Meets l c → (before count : ℕ) → told_count l.known ≡ some before → said_of l c ≡ counted count
    → (forward before count ≡ 0) ⊎ (32767 < forward before count) → shown c ≢ green

-- ---- one dump

-- a dump is accepted and states this count: the last data records before its end that state the two places state its high and its low byte
pub record StatesCount {S : Type 0} (src : Source S) (l : Light) (text page marks : List ℕ) (count : ℕ) : Type 0 where
  pub tally : Tally
  pub accepted_so : (load_for src l text page marks).answer ≡ accepted tally
  pub high : ℕ
  pub low : ℕ
  pub high_stated : LastStated (l.first + l.high) high (stated (steps_of src text))
  pub low_stated : LastStated (l.first + l.low) low (stated (steps_of src text))
  pub count_is : count ≡ 256 * high + low

-- Green means: this dump was accepted, it states a byte for both places of the count before its end record, and the count that it states is 1 to
-- 32,767 ahead of the one that was stated last, modulo 65,536.
pub record MeansGreen (States Last : ℕ → Type 0) : Type 0 where
  pub count : ℕ
  pub states : States count
  pub before : ℕ
  pub stated_last : Last before
  pub ahead : 1 ≤ forward before count
  pub not_far : forward before count ≤ 32767

-- of one dump, with what the light knows for what was stated last
abbrev pub GreenMeans : Type 1
GreenMeans =
    (S : Type 0) (src : Source S) (l : Light) (text page marks : List ℕ) (r : Dumped) (p m : List ℕ) → Dumps src l text page marks r p m
    → (told_color r.color ≡ green) ↔ MeansGreen (StatesCount src l text page marks) (λ (b : ℕ). told_count l.known ≡ some b)

-- of a row of things, each of which says something of the count: each is green exactly if that is what it means, after the history of those before it
abbrev pub EachGreen : {A : Type 0} (says : A → Outcome) (Green : A → Type 0) (States : A → ℕ → Type 0) (history : List Outcome) → List A → Type 0
EachGreen says Green States history [] = Unit
EachGreen says Green States history (c ∷ cs) =
    (Green c ↔ MeansGreen (States c) (λ (b : ℕ). LastCount history (some b))) × EachGreen says Green States (history ++ (says c ∷ [])) cs

abbrev pub StatesBy : Kind → Light → (text page marks : List ℕ) (count : ℕ) → Type 0
StatesBy hex l text page marks count = StatesCount intel l text page marks count
StatesBy srecords l text page marks count = StatesCount s_records l text page marks count

-- so it is over any number of dumps in turn, for a light that knows no count at first
abbrev pub GreenInHistory : Type 0
GreenInHistory =
    (l : Light) (cs : List Call) → l.known ≡ None → InTurn l cs
    → EachGreen (said_of l) (λ (c : Call). shown c ≡ green) (λ (c : Call). StatesBy c.kind l c.text c.page c.marks) [] cs

-- what stands after the line at which a dump is decided changes neither its color nor what is remembered, whatever the buffers held
abbrev pub NothingAfter : Type 1
NothingAfter =
    (S : Type 0) (src : Source S) (l : Light) (text₁ text₂ page₁ marks₁ page₂ marks₂ : List ℕ) (r₁ r₂ : Dumped) (p₁ m₁ p₂ m₂ : List ℕ)
    → Dumps src l text₁ page₁ marks₁ r₁ p₁ m₁ → Dumps src l text₂ page₂ marks₂ r₂ p₂ m₂ → length page₁ ≡ length page₂ → length marks₁ ≡ length marks₂
    → (line : ℕ) (v : Verdict) → stopping_in (one_window l.first (length page₁) (length marks₁)) (steps_of src text₁) ≡ some (by line v)
    → (head : List ℕ) → through line text₁ ≡ some head → through line text₂ ≡ some head
    → r₁ ≡ r₂

-- a refusal is broken, changes no byte of page or marks, and forgets nothing
abbrev pub RefusalChangesNothing : Type 1
RefusalChangesNothing =
    (S : Type 0) (src : Source S) (l : Light) (text page marks : List ℕ) (r : Dumped) (p m : List ℕ) → Dumps src l text page marks r p m
    → (w : Refusal) (line : ℕ) → told_loading r.answer ≡ refused w line
    → (told_color r.color ≡ broken) × (r.light ≡ l) × (p ≡ page) × (m ≡ marks)

-- 16 with line 0, whatever the text is: for a page of another length than at set-up, and for a window that the loader refuses
abbrev pub BadWindowWhatever : Type 1
BadWindowWhatever =
    (S : Type 0) (src : Source S) (l : Light) (text page marks : List ℕ) (r : Dumped) (p m : List ℕ) → Dumps src l text page marks r p m
    → (length page ≢ l.length) ⊎ (unfit l.first (length page) (length marks) ≡ true) → told_loading r.answer ≡ refused bad_window 0

-- a light made up by hand, with a place outside its window, shows no count for an accepted dump
abbrev pub OutsideNoCount : Type 1
OutsideNoCount =
    (S : Type 0) (src : Source S) (l : Light) (text page marks : List ℕ) (r : Dumped) (p m : List ℕ) → Dumps src l text page marks r p m
    → (l.length ≤ l.high) ⊎ (l.length ≤ l.low) → (t : Tally) → told_loading r.answer ≡ accepted t → told_color r.color ≡ no_count

-- ---- set-up, and the contracts

-- BadPlace exactly where a place lies outside
abbrev pub BadPlaceExactly : Type 0
BadPlaceExactly = (first length high low : ℕ) (r : Made) → SetUp first length high low r → (r ≡ None) ↔ ((length ≤ high) ⊎ (length ≤ low))

abbrev pub SetUpUnique : Type 0
SetUpUnique = (first length high low : ℕ) (r r' : Made) → SetUp first length high low r → SetUp first length high low r' → r ≡ r'

-- a dump has one answer, one light, one page and one row of marks after it
abbrev pub OneDump : {S : Type 0} → Source S → Type 0
OneDump src =
    (l : Light) (text page marks : List ℕ) (r r' : Dumped) (p p' m m' : List ℕ)
    → Dumps src l text page marks r p m → Dumps src l text page marks r' p' m' → (r ≡ r') × (p ≡ p') × (m ≡ m')

abbrev pub DumpUnique : Type 0
DumpUnique = OneDump intel

abbrev pub DumpSrecordsUnique : Type 0
DumpSrecordsUnique = OneDump s_records
