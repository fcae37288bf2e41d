-- What is claimed of a load through one window, whatever source reads the text. Demand 3: what stands after the line at which a load stops, and
-- what the buffers held before, can change no answer and no mark; a place is marked exactly when a data record before the end record states it,
-- and holds what the last such record states; every other place keeps its byte. Each claim is proved in `proofs/Loads.antt`.
-- Assumes nothing.
use Rattle.std.specs.Prelude.{◌≡◌, ◌↔◌, ℕ, ◌+◌, ◌^◌, ◌<◌, Bool, not, ◌||◌, List, eqb, ltb, length, get_or}
use Rattle.std.proofs.Math.Option.{none, some}
use Rattle.std.specs.Prelude.{if◌then◌else◌}
use Rattle.record.specs.Refusals.{Refusal, bad_window}
use Rattle.reader.specs.Lines.{through}
use Rattle.marks.specs.Marks.{row_length, mark_at, Marked, flags, UnusedClear}
use Rattle.steps.specs.Aliases.{Loading}
use Rattle.steps.specs.Steps.{Tally, Verdict, accepted, refused, by, stated}
use Rattle.steps.specs.Source.{Source, steps_of}
use Rattle.steps.specs.Sites.{Loaded, Room, OwedAt}
use Rattle.steps.specs.Sites as sites
use Rattle.window.specs.Window.{within, window}
use Rattle.window.specs.Load.{stopping_by_window, load_window, LoadWindow}

-- ---- two loads

-- two loads agree: in their answers and, if those accept, in their marks and in the bytes at marked places
pub record Alike (l₁ l₂ : Loaded) : Type 0 where
  pub answers : l₁.answer ≡ l₂.answer
  pub marks : (tally : Tally) → l₁.answer ≡ accepted tally → l₁.marks ≡ l₂.marks
  pub bytes : (tally : Tally) → l₁.answer ≡ accepted tally → (i : ℕ) → Marked l₁.marks i → get_or l₁.page i 0 ≡ get_or l₂.page i 0

-- demand 3, first half: two texts that are the same through the LF of the line at which the first load stops; text after it and old contents of
-- page and marks may differ
abbrev pub NonInterference : Type 1
NonInterference =
    (S : Type 0) (src : Source S) (text₁ text₂ : List ℕ) (first : ℕ) (page₁ marks₁ page₂ marks₂ : List ℕ)
    → length page₁ ≡ length page₂ → length marks₁ ≡ length marks₂
    → (line : ℕ) (v : Verdict) → stopping_by_window src text₁ first page₁ marks₁ ≡ some (by line v)
    → (head : List ℕ) → through line text₁ ≡ some head → through line text₂ ≡ some head
    → Alike (load_window src text₁ first page₁ marks₁) (load_window src text₂ first page₂ marks₂)

-- two accepted texts, of whatever sources, that state the same placements in the same order leave the same page and the same marks, whatever the
-- marks were
abbrev pub SamePlacements : Type 1
SamePlacements =
    (S₁ S₂ : Type 0) (src₁ : Source S₁) (src₂ : Source S₂) (text₁ text₂ : List ℕ) (first : ℕ) (page marks₁ marks₂ : List ℕ) (t₁ t₂ : Tally)
    → let l₁ = load_window src₁ text₁ first page marks₁ in
    let l₂ = load_window src₂ text₂ first page marks₂ in
    l₁.answer ≡ accepted t₁ → l₂.answer ≡ accepted t₂ → stated (steps_of src₁ text₁) ≡ stated (steps_of src₂ text₂)
    → (l₁.page ≡ l₂.page) × (l₁.marks ≡ l₂.marks)

-- ---- one load

-- demand 3, second half: of one accepted load, at each place of the window
abbrev pub WhatIsStored : Type 1
WhatIsStored =
    (S : Type 0) (src : Source S) (text : List ℕ) (first : ℕ) (page marks : List ℕ) (tally : Tally)
    → let l = load_window src text first page marks in
    l.answer ≡ accepted tally → (i : ℕ) → i < length page
    → OwedAt (stated (steps_of src text)) (first + i) (get_or page i 0) (mark_at l.marks i) (get_or l.page i 0)

abbrev pub RefusalChangesNothing : Type 1
RefusalChangesNothing =
    (S : Type 0) (src : Source S) (text : List ℕ) (first : ℕ) (page marks : List ℕ) (r : Refusal) (line : ℕ)
    → let l = load_window src text first page marks in
    l.answer ≡ refused r line → (l.page ≡ page) × (l.marks ≡ marks)

abbrev pub SizesKept : Type 1
SizesKept =
    (S : Type 0) (src : Source S) (text : List ℕ) (first : ℕ) (page marks : List ℕ)
    → let l = load_window src text first page marks in (length l.page ≡ length page) × (length l.marks ≡ length marks)

-- no second answer, and no second page or marks, meets the contract
abbrev pub LoadWindowUnique : Type 1
LoadWindowUnique =
    (S : Type 0) (src : Source S) (text : List ℕ) (first : ℕ) (page marks : List ℕ) (r r' : Loading) (p p' m m' : List ℕ)
    → LoadWindow src text first page marks r p m → LoadWindow src text first page marks r' p' m' → (r ≡ r') × (p ≡ p') × (m ≡ m')

-- ---- marks of a byte each

-- 16 wants as many marks as the page has places
unfoldable pub byte_unfit : (first page marks : ℕ) → Bool
byte_unfit first page marks = not (eqb page marks) || ltb 65536 page || ltb (2 ^ 32) (first + page)

unfoldable pub byte_window : (first page marks : ℕ) → Room
unfolding byte_unfit within window
byte_window first page marks =
    record { fault = if byte_unfit first page marks then some bad_window else none; inside = within first page; site = window first page }

-- a load whose marks are 0 or 1, a byte for each place
unfoldable pub byte_load : {S : Type 0} → Source S → List ℕ → (first : ℕ) (page marks : List ℕ) → Loaded
unfolding sites.load byte_window
byte_load src text first page marks = sites.load src (byte_window first (length page) (length marks)) text page marks

-- the packed load and the other: the same answer and the same page; if they accept, the packed marks, unpacked, are the others, and the unused bits
-- are 0; if they refuse, every byte of the packed marks is as it was
pub record UnpacksTo (page marks : List ℕ) (packed bytes : Loaded) : Type 0 where
  pub answers : packed.answer ≡ bytes.answer
  pub pages : packed.page ≡ bytes.page
  pub unpacked : (tally : Tally) → packed.answer ≡ accepted tally → flags (length page) packed.marks ≡ bytes.marks
  pub unused : (tally : Tally) → packed.answer ≡ accepted tally → UnusedClear (length page) packed.marks
  pub kept : (r : Refusal) (line : ℕ) → packed.answer ≡ refused r line → packed.marks ≡ marks

-- for every source, text, window and page, and any old marks of both kinds, where both have the length that they should or neither has it
abbrev pub PackedAsBytes : Type 1
PackedAsBytes =
    (S : Type 0) (src : Source S) (text : List ℕ) (first : ℕ) (page marks byte-marks : List ℕ)
    → (length marks ≡ row_length (length page)) ↔ (length byte-marks ≡ length page)
    → UnpacksTo page marks (load_window src text first page marks) (byte_load src text first page byte-marks)
