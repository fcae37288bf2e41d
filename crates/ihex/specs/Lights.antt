-- What is claimed of `ihex_set_up_light`, `ihex_light` and `ihex_light_srecords`, in their numbers: document 02, wish 14. Each claim is proved in
-- `proofs/Lights.antt`.
-- Assumes nothing.
use Rattle.std.specs.Prelude.{ℕ, ◌≤◌, ◌<◌, ◌≡◌, ◌≢◌, ◌↔◌, ◌⊎◌, List, [], ◌∷◌, map, length}
use Rattle.std.proofs.Math.Option.{some}
use Rattle.record.specs.Refusals.{bad_window}
use Rattle.reader.specs.Lines.{through}
use Rattle.steps.specs.Steps.{Verdict, refused, by}
use Rattle.steps.specs.Source.{Source, steps_of}
use Rattle.steps.specs.Sites.{stopping_in}
use Rattle.window.specs.Window.{one_window}
use Rattle.intel.specs.Placing.{intel}
use Rattle.srecload.specs.Placing.{s_records}
use Rattle.light.specs.declared.Light.{Light}
use Rattle.light.specs.Colors.{Color, no_count, Outcome, counted, forward, colors}
use Rattle.light.specs.Light.{told_count, made_of}
use Rattle.light.specs.Claims.{said, Kind, hex, srecords, steps_by, EachShows, StatesCount, MeansGreen, EachGreen, StatesBy}
use Rattle.codes.specs.Codes.{OK, load_numbers}
use Rattle.codes.specs.Lights.{color_number, GREEN, BROKEN, count_number, light_of, BAD_PLACE}
use Rattle.ihex.specs.Entries.{IhexLoadBy, IhexSetUpLight, LightNumbers, lit, IhexLightBy, IhexLight, IhexLightSrecords}
use Rattle.std.specs.Prelude.{Some}

-- ---- set-up

-- 24 exactly if a place lies outside the page
abbrev pub IhexSetUpLightExactly : Type 0
IhexSetUpLightExactly =
    (first length high low r known : ℕ) → IhexSetUpLight first length high low r known → (r ≡ BAD_PLACE) ↔ ((length ≤ high) ⊎ (length ≤ low))

-- else IHEX_OK, and the five numbers are the light that was set up
abbrev pub IhexSetUpLightMakes : Type 0
IhexSetUpLightMakes =
    (first length high low r known : ℕ) → IhexSetUpLight first length high low r known → r ≢ BAD_PLACE
    → (r ≡ OK) × (made_of first length high low ≡ Some (light_of first length high low known))

abbrev pub IhexSetUpLightUnique : Type 0
IhexSetUpLightUnique =
    (first length high low r known r' known' : ℕ) → IhexSetUpLight first length high low r known → IhexSetUpLight first length high low r' known'
    → (r ≡ r') × (known ≡ known')

-- ---- calls, one after the other

-- a call of one of the two functions: what it was given, what it returned, and what the buffers held then
pub record LightCall : Type 0 where
  pub kind : Kind
  pub text : List ℕ
  pub page : List ℕ
  pub marks : List ℕ
  pub returned : LightNumbers
  pub page_after : List ℕ
  pub marks_after : List ℕ

abbrev pub MeetsBy : Kind → Light → LightCall → Type 0
MeetsBy hex l c = IhexLight c.text l c.page c.marks c.returned c.page_after c.marks_after
MeetsBy srecords l c = IhexLightSrecords c.text l c.page c.marks c.returned c.page_after c.marks_after

-- it meets the contract of its function, with this light
abbrev pub Meets : Light → LightCall → Type 0
Meets l c = MeetsBy c.kind l c

-- each is made with the same window and places, and with the count that the one before left
abbrev pub InTurn : (first length high low known : ℕ) → List LightCall → Type 0
InTurn first length high low known [] = Unit
InTurn first length high low known (c ∷ cs) = Meets (light_of first length high low known) c × InTurn first length high low c.returned.known cs

-- what a call's dump says of the count, from its text and the lengths of its buffers alone
abbrev pub said_of : Light → LightCall → Outcome
said_of l c = said l (steps_by c.kind c.text) (length c.page) (length c.marks)

abbrev pub shown : LightCall → ℕ
shown c = c.returned.color

-- over any number of dumps in turn each color follows from the history alone: from what each dump says, and the count that was known at first
abbrev pub IhexLightByHistory : Type 0
IhexLightByHistory =
    (first length high low known : ℕ) (cs : List LightCall) → InTurn first length high low known cs
    → let l = light_of first length high low known in
    map shown cs ≡ map color_number (colors (told_count l.known) (map (said_of l) cs))

-- the same without computing, from the set-up on
abbrev pub IhexLightShowsHistory : Type 0
IhexLightShowsHistory =
    (first length high low r known : ℕ) (cs : List LightCall) → IhexSetUpLight first length high low r known → InTurn first length high low known cs
    → EachShows (said_of (light_of first length high low known)) (λ (c : LightCall) (k : Color). shown c ≡ color_number k) [] cs

-- from the set-up on each dump is green exactly if it is accepted, states a byte for both places of the count before its end record, and the count
-- that it states is 1 to 32,767 ahead of the one that was stated last, modulo 65,536
abbrev pub IhexLightGreenInHistory : Type 0
IhexLightGreenInHistory =
    (first length high low r known : ℕ) (cs : List LightCall) → IhexSetUpLight first length high low r known → InTurn first length high low known cs
    → let l = light_of first length high low known in
    EachGreen (said_of l) (λ (c : LightCall). shown c ≡ GREEN) (λ (c : LightCall). StatesBy c.kind l c.text c.page c.marks) [] cs

-- the same dump twice running, with buffers of equal sizes and whatever contents, is never green the second time
abbrev pub IhexLightNeverGreenTwice : Type 0
IhexLightNeverGreenTwice =
    (first length' high low known : ℕ) (c c' : LightCall)
    → Meets (light_of first length' high low known) c → Meets (light_of first length' high low c.returned.known) c'
    → c.kind ≡ c'.kind → c.text ≡ c'.text → length c.page ≡ length c'.page → length c.marks ≡ length c'.marks → shown c' ≢ GREEN

-- a dump whose count did not move forward is never green, whatever else it holds
abbrev pub IhexLightUnmovedNeverGreen : Type 0
IhexLightUnmovedNeverGreen =
    (l : Light) (c : LightCall) → Meets l c → (before count : ℕ) → told_count l.known ≡ some before → said_of l c ≡ counted count
    → (forward before count ≡ 0) ⊎ (32767 < forward before count) → shown c ≢ GREEN

-- ---- one dump, of any source

-- what green means, with what is known for what was stated last
abbrev pub IhexLightGreenMeans : Type 1
IhexLightGreenMeans =
    (S : Type 0) (src : Source S) (text : List ℕ) (l : Light) (page marks : List ℕ) (r : LightNumbers) (p m : List ℕ)
    → IhexLightBy src text l page marks r p m
    → (r.color ≡ GREEN) ↔ MeansGreen (StatesCount src l text page marks) (λ (b : ℕ). told_count l.known ≡ some b)

-- broken exactly if it is refused
abbrev pub IhexLightBroken : Type 1
IhexLightBroken =
    (S : Type 0) (src : Source S) (text : List ℕ) (l : Light) (page marks : List ℕ) (r : LightNumbers) (p m : List ℕ)
    → IhexLightBy src text l page marks r p m → (r.color ≡ BROKEN) ↔ (r.load.code ≢ OK)

-- a refusal changes no byte of page or marks, and forgets nothing
abbrev pub IhexLightKeeps : Type 1
IhexLightKeeps =
    (S : Type 0) (src : Source S) (text : List ℕ) (l : Light) (page marks : List ℕ) (r : LightNumbers) (p m : List ℕ)
    → IhexLightBy src text l page marks r p m → r.load.code ≢ OK → (r.known ≡ count_number (told_count l.known)) × (p ≡ page) × (m ≡ marks)

-- into a page of the light's length it is a load: what `ihex_load` or `ihex_load_srecords` promises is promised of it
abbrev pub IhexLightLoads : Type 1
IhexLightLoads =
    (S : Type 0) (src : Source S) (text : List ℕ) (l : Light) (page marks : List ℕ) (r : LightNumbers) (p m : List ℕ)
    → IhexLightBy src text l page marks r p m → length page ≡ l.length → IhexLoadBy src text l.first page marks r.load p m

-- into a page of another length it is refused with 16, whatever the text is, and line is 0
abbrev pub IhexLightMisfit : Type 1
IhexLightMisfit =
    (S : Type 0) (src : Source S) (text : List ℕ) (l : Light) (page marks : List ℕ) (r : LightNumbers) (p m : List ℕ)
    → IhexLightBy src text l page marks r p m → length page ≢ l.length
    → r ≡ lit (load_numbers (refused bad_window 0)) BROKEN (count_number (told_count l.known))

-- a light made up by hand, with a place outside its page, shows no count for an accepted dump
abbrev pub IhexLightOutsideNoCount : Type 1
IhexLightOutsideNoCount =
    (S : Type 0) (src : Source S) (text : List ℕ) (l : Light) (page marks : List ℕ) (r : LightNumbers) (p m : List ℕ)
    → IhexLightBy src text l page marks r p m → (l.length ≤ l.high) ⊎ (l.length ≤ l.low) → r.load.code ≡ OK → r.color ≡ color_number no_count

-- what follows the LF of the line at which the load stops changes nothing that is returned, whatever the buffers held
abbrev pub IhexLightNothingAfter : Type 1
IhexLightNothingAfter =
    (S : Type 0) (src : Source S) (l : Light) (text₁ text₂ page₁ marks₁ page₂ marks₂ : List ℕ) (r₁ r₂ : LightNumbers) (p₁ m₁ p₂ m₂ : List ℕ)
    → IhexLightBy src text₁ l page₁ marks₁ r₁ p₁ m₁ → IhexLightBy src text₂ l page₂ marks₂ r₂ p₂ m₂
    → length page₁ ≡ length page₂ → length marks₁ ≡ length marks₂
    → (line : ℕ) (v : Verdict) → stopping_in (one_window l.first (length page₁) (length marks₁)) (steps_of src text₁) ≡ some (by line v)
    → (head : List ℕ) → through line text₁ ≡ some head → through line text₂ ≡ some head
    → r₁ ≡ r₂

-- no second answer meets the contract
abbrev pub OneLight : {S : Type 0} → Source S → Type 0
OneLight src =
    (text : List ℕ) (l : Light) (page marks : List ℕ) (r : LightNumbers) (p m : List ℕ) (r' : LightNumbers) (p' m' : List ℕ)
    → IhexLightBy src text l page marks r p m → IhexLightBy src text l page marks r' p' m' → (r ≡ r') × (p ≡ p') × (m ≡ m')

abbrev pub IhexLightUnique : Type 0
IhexLightUnique = OneLight intel

abbrev pub IhexLightSrecordsUnique : Type 0
IhexLightSrecordsUnique = OneLight s_records
