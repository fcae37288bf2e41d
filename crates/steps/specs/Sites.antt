-- Where bytes are stored: a site, ℕ → Option ℕ, says which address each place of a page shows, or that it shows none. One window is a site.
-- Demand 3 is claimed here of every source and every site. Each claim is proved in `proofs/Sites.antt`.
-- Assumes nothing.
use Rattle.std.specs.Prelude.{◌≡◌, ◌≢◌, ◌↔◌, ◌⊎◌, ℕ, suc, ◌<◌, Bool, true, eqb, length, get_or}
use Rattle.std.proofs.Math.Option
use Rattle.std.proofs.Math.Option.{Option, none, some}
use mathlib.Core.List.{List, [], ◌∷◌, ◌++◌, Memᴰ}
use Rattle.digits.specs.Common.{or_else, Every}
use Rattle.std.specs.Prelude.{if◌then◌else◌}
use Rattle.record.specs.Refusals.{Refusal}
use Rattle.reader.specs.Lines.{through}
use Rattle.steps.specs.Steps.{Placement, Step, Tally, nothing_yet, Verdict, accepted, refused, Decision, by, decision, verdict, stated}
use Rattle.steps.specs.Source.{Source, steps_of}

-- ---- a place

-- the byte that the last placement at an address states: a later one, if there is one, and else the first
unfoldable pub last_at : (address : ℕ) → List Placement → Option ℕ
last_at address [] = none
last_at address (p ∷ ps) = or_else (last_at address ps) (if eqb p.address address then some p.byte else none)

-- 1 where something is stated, else 0
unfoldable pub mark : Option ℕ → ℕ
mark none = 0
mark (some b) = 1

-- a place that shows an address holds the byte last stated there, or what it held; any other place what it held
unfoldable pub byte_shown : (shows : Option ℕ) → List Placement → (old : ℕ) → ℕ
unfolding last_at
byte_shown none ps old = old
byte_shown (some address) ps old = Option.get_or (last_at address ps) old

-- its mark says whether something is stated there; any other place keeps its mark
unfoldable pub mark_shown : (shows : Option ℕ) → List Placement → (old : ℕ) → ℕ
unfolding last_at mark
mark_shown none ps old = old
mark_shown (some address) ps old = mark (last_at address ps)

-- ---- page and marks

-- the page's places from place i on, with these placements upon them
unfoldable pub painted : (site : ℕ → Option ℕ) → (i : ℕ) → List Placement → (page : List ℕ) → List ℕ
unfolding byte_shown
painted site i ps [] = []
painted site i ps (old ∷ page) = byte_shown (site i) ps old ∷ painted site (suc i) ps page

-- the marks of those places
unfoldable pub marked : (site : ℕ → Option ℕ) → (i : ℕ) → List Placement → (marks : List ℕ) → List ℕ
unfolding mark_shown
marked site i ps [] = []
marked site i ps (old ∷ marks) = mark_shown (site i) ps old ∷ marked site (suc i) ps marks

-- ---- the load

-- what is returned, and what page and marks hold then
pub record Loaded : Type 0 where
  pub answer : Verdict
  pub page : List ℕ
  pub marks : List ℕ

-- a refusal leaves page and marks as they were; an acceptance writes what was stated
unfoldable pub store : (site : ℕ → Option ℕ) → List Placement → (page marks : List ℕ) → Verdict → Loaded
unfolding painted marked
store site ps page marks (accepted tally) = record { answer = accepted tally; page = painted site 0 ps page; marks = marked site 0 ps marks }
store site ps page marks (refused r line) = record { answer = refused r line; page = page; marks = marks }

-- where a load goes: what is wrong with it, if anything is; the addresses that it takes; and its site
pub record Room : Type 0 where
  pub fault : Option Refusal
  pub inside : ℕ → Bool
  pub site : ℕ → Option ℕ

-- where and how steps stop a load: before the first line if the room has a fault, else at the first line that decides, if one does
unfoldable pub stopping_by : Option Refusal → (inside : ℕ → Bool) → List Step → Option Decision
unfolding decision
stopping_by none inside steps = decision inside nothing_yet steps
stopping_by (some r) inside steps = some (by 0 (refused r 0))

abbrev pub stopping_in : Room → List Step → Option Decision
stopping_in room steps = stopping_by room.fault room.inside steps

-- a load of steps into a room
unfoldable pub load_steps : Room → List Step → (page marks : List ℕ) → Loaded
unfolding store stated verdict stopping_by
load_steps room steps page marks = store room.site (stated steps) page marks (verdict (stopping_in room steps))

-- a load of a text, as a source reads it
unfoldable pub load : {S : Type 0} → Source S → Room → (text page marks : List ℕ) → Loaded
unfolding load_steps steps_of
load src room text page marks = load_steps room (steps_of src text) page marks

-- ---- demand 3, first half

-- the place shows an address
abbrev pub Shown : (site : ℕ → Option ℕ) → (place : ℕ) → Type 0
Shown site i = (address : ℕ) × (site i ≡ some address)

-- two loads agree: in their answers and, if those accept, where an address is shown, in the marks and, where they are 1, in the bytes
pub record Alike (site : ℕ → Option ℕ) (l₁ l₂ : Loaded) : Type 0 where
  pub answers : l₁.answer ≡ l₂.answer
  pub marks : (t : Tally) → l₁.answer ≡ accepted t → (i : ℕ) → i < length l₁.marks → Shown site i → get_or l₁.marks i 0 ≡ get_or l₂.marks i 0
  pub bytes : (t : Tally) → l₁.answer ≡ accepted t → (i : ℕ) → i < length l₁.page → i < length l₁.marks → Shown site i → get_or l₁.marks i 0 ≡ 1
      → get_or l₁.page i 0 ≡ get_or l₂.page i 0

-- two texts that are the same through the LF of the line at which the first load stops: text after it and old contents of page and marks
-- can change no answer, no mark and no marked byte
abbrev pub NonInterference : Type 1
NonInterference =
    (S : Type 0) (src : Source S) (room : Room) (text₁ text₂ page₁ marks₁ page₂ marks₂ : List ℕ)
    → length page₁ ≡ length page₂ → length marks₁ ≡ length marks₂
    → (line : ℕ) (v : Verdict) → stopping_in room (steps_of src text₁) ≡ some (by line v)
    → (head : List ℕ) → through line text₁ ≡ some head → through line text₂ ≡ some head
    → Alike room.site (load src room text₁ page₁ marks₁) (load src room text₂ page₂ marks₂)

-- ---- demand 3, second half

-- some placement of the list is at the address
abbrev pub Stated : (address : ℕ) → List Placement → Type 0
Stated address ps = (p : Placement) × Memᴰ p ps × (p.address ≡ address)

-- the last placement of the list that is at the address states the byte
pub record LastStated (address byte : ℕ) (ps : List Placement) : Type 0 where
  pub before : List Placement
  pub after : List Placement
  pub whole : ps ≡ before ++ (record { address = address; byte = byte } ∷ after)
  pub none_later : (p : Placement) → Memᴰ p after → p.address ≢ address

-- what an accepted load owes a place that shows an address: its byte before, its mark and its byte after
pub record OwedAt (ps : List Placement) (address old mark byte : ℕ) : Type 0 where
  pub one_or_zero : (mark ≡ 1) ⊎ (mark ≡ 0)
  pub marked_iff_stated : (mark ≡ 1) ↔ Stated address ps
  pub marked_holds : mark ≡ 1 → LastStated address byte ps
  pub unmarked_keeps : mark ≡ 0 → byte ≡ old

-- what it owes any place: one that shows no address keeps byte and mark
abbrev pub Owed : (shows : Option ℕ) → List Placement → (old old-mark mark byte : ℕ) → Type 0
Owed none ps old old-mark mark byte = (mark ≡ old-mark) × (byte ≡ old)
Owed (some address) ps old old-mark mark byte = OwedAt ps address old mark byte

-- of one accepted load, at each place: what was stated before the end is there, the last byte of each address, and nothing else
abbrev pub WhatIsStored : Type 1
WhatIsStored =
    (S : Type 0) (src : Source S) (room : Room) (text page marks : List ℕ) (tally : Tally)
    → let l = load src room text page marks in
    l.answer ≡ accepted tally → (i : ℕ) → i < length page → i < length marks
    → Owed (room.site i) (stated (steps_of src text)) (get_or page i 0) (get_or marks i 0) (get_or l.marks i 0) (get_or l.page i 0)

-- which leaves nothing open
abbrev pub OwedUnique : Type 0
OwedUnique =
    (shows : Option ℕ) (ps : List Placement) (old old-mark mark mark' byte byte' : ℕ)
    → Owed shows ps old old-mark mark byte → Owed shows ps old old-mark mark' byte' → (mark ≡ mark') × (byte ≡ byte')

-- every byte that an accepted load states is inside
abbrev pub AllInside : Type 1
AllInside =
    (S : Type 0) (src : Source S) (room : Room) (text page marks : List ℕ) (tally : Tally)
    → (load src room text page marks).answer ≡ accepted tally
    → Every (λ (p : Placement). room.inside p.address ≡ true) (stated (steps_of src text))

-- a refusal changes no byte and no mark
abbrev pub RefusalChangesNothing : Type 1
RefusalChangesNothing =
    (S : Type 0) (src : Source S) (room : Room) (text page marks : List ℕ) (r : Refusal) (line : ℕ)
    → let l = load src room text page marks in
    l.answer ≡ refused r line → (l.page ≡ page) × (l.marks ≡ marks)

-- no load changes a length
abbrev pub SizesKept : Type 1
SizesKept =
    (S : Type 0) (src : Source S) (room : Room) (text page marks : List ℕ)
    → let l = load src room text page marks in (length l.page ≡ length page) × (length l.marks ≡ length marks)
