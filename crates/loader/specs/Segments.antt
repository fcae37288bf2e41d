-- What a load stores by Intel's sums, and which texts are loaded as they would be without segments. Each claim is proved in
-- `proofs/Segments.antt`, `proofs/Stored.antt` or `proofs/Apart.antt`.
-- Assumes nothing.
use Rattle.std.specs.Prelude.{◌≡◌, ℕ, suc, ◌+◌, ◌<◌, ◌≤◌, true, false, ◌≢◌, ◌⊎◌, ◌↔◌, List, [], ◌∷◌, ◌++◌, length, slice_index}
use Rattle.std.proofs.Math.Option.{some}
use Rattle.digits.specs.Common.{Every, text}
use Rattle.record.specs.Refusals.{outside_window}
use Rattle.record.specs.Line.{says, wrong}
use Rattle.record.specs.Meaning.{Meaning, data_at, end_of_file, extended_segment, start_segment, extended_linear, start_linear, meaning}
use Rattle.reader.specs.Lines.{lines}
use Rattle.reader.specs.Row.{Numbered, on, row}
use Rattle.reader.specs.Text.{default_options}
use Rattle.steps.specs.Steps.{Tally, Verdict, accepted, refused, stated}
use Rattle.steps.specs.Sites.{Loaded, Room}
use Rattle.steps.specs.Sites as sites
use Rattle.steps.specs.Packed.{repacked, load_packed}
use Rattle.marks.specs.Marks.{mark_at, flags}
use Rattle.window.specs.Window.{within, one_window}
use Rattle.intel.specs.Placing.{Base, from_segment, from_linear, segment, from_start, stated_by, base_behind, intel_by, along}
use Rattle.window.specs.Load.{room_of}
use Rattle.loader.specs.Load.{load}
use Rattle.intel.specs.Lines.{record_on}
use Rattle.intel.specs.Sums.{Puts, LastPut}
use Rattle.loader.specs.Claims.{beyond}

-- ---- demand 3 by Intel's sums

-- what an accepted load owes a place, from the lines ahead of the end record: its address, its byte before, its mark and its byte after
pub record Owed (ahead : List (List ℕ)) (address old mark byte : ℕ) : Type 0 where
  pub one_or_zero : (mark ≡ 1) ⊎ (mark ≡ 0)
  pub marked_iff_put : (mark ≡ 1) ↔ ((n : ℕ) × (dri : ℕ) × (b : ℕ) × Puts ahead n dri address b)
  pub marked_holds : mark ≡ 1 → LastPut ahead address byte
  pub unmarked_keeps : mark ≡ 0 → byte ≡ old

-- which leaves nothing open
abbrev pub OwedUnique : Type 0
OwedUnique =
    (ahead : List (List ℕ)) (address old mark mark' byte byte' : ℕ)
    → Owed ahead address old mark byte → Owed ahead address old mark' byte' → (mark ≡ mark') × (byte ≡ byte')

-- the lines ahead of the first end record put every byte inside this window, and the load leaves each place the mark and the byte that it owes
pub record Stored (text : List ℕ) (first : ℕ) (page : List ℕ) (l : Loaded) : Type 0 where
  pub ahead : List (List ℕ)
  pub end : List ℕ
  pub later : List (List ℕ)
  pub whole : lines text ≡ ahead ++ (end ∷ later)
  pub ends : record_on end ≡ some end_of_file
  pub none_ahead : Every (λ (line : List ℕ). record_on line ≢ some end_of_file) ahead
  pub inside : (n dri a b : ℕ) → Puts ahead n dri a b → within first (length page) a ≡ true
  pub places : (i : ℕ) → i < length page → Owed ahead (first + i) (slice_index page i) (mark_at l.marks i) (slice_index l.page i)

abbrev pub StoredByIntel : Type 0
StoredByIntel =
    (text : List ℕ) (first : ℕ) (page marks : List ℕ) (tally : Tally)
    → let l = load text first page marks in
    l.answer ≡ accepted tally → Stored text first page l

-- the first byte that lines put outside a window, on a line whose number counts from 1: every earlier byte lies inside
pub record FirstOutside (ls : List (List ℕ)) (first size address line : ℕ) : Type 0 where
  pub n : ℕ
  pub dri : ℕ
  pub byte : ℕ
  pub number : line ≡ suc n
  pub puts : Puts ls n dri address byte
  pub out : within first size address ≡ false
  pub earlier : (m d a b : ℕ) → Puts ls m d a b → (m < n) ⊎ ((m ≡ n) × (d < dri)) → within first size a ≡ true

-- refusal 17 names it
abbrev pub OutsideByIntel : Type 0
OutsideByIntel =
    (text : List ℕ) (first : ℕ) (page marks : List ℕ) (address line : ℕ)
    → (load text first page marks).answer ≡ refused (outside_window address) line → FirstOutside (lines text) first (length page) address line

-- ---- without segments

-- the base, with no segment to it: a byte lies at (base + offset + i) modulo 2^32 whatever record set it
unfoldable pub flat : Base → Base
flat (from_segment base) = from_linear base
flat (from_linear base) = from_linear base

-- the load of a text, placed so
unfoldable pub flat_load : List ℕ → (first : ℕ) (page marks : List ℕ) → Loaded
unfolding flat intel_by load_packed one_window
flat_load text first page marks = load_packed (intel_by flat) (room_of first page marks) text page marks

-- a load is that of what the reader says of the text with both stops on, by whatever function of the base bytes are placed
abbrev pub LoadByRow : Type 0
LoadByRow =
    (f : Base → Base) (room : Room) (text page marks : List ℕ)
    → load_packed (intel_by f) room text page marks
    ≡ repacked marks (sites.load_steps room (along f from_start (row default_options text)) page (flags (length page) marks))

-- offsets up to this end lie in the base's segment, if it has one
abbrev pub Fits : Base → (end : ℕ) → Type 0
Fits (from_segment base) end = end ≤ 65536
Fits (from_linear base) end = Unit

-- the record does not pass its segment's end: only a data record could
abbrev pub InSegment : Base → Meaning → Type 0
InSegment base (data_at offset bytes) = Fits base (offset + length bytes)
InSegment base end_of_file = Unit
InSegment base (extended_segment number) = Unit
InSegment base (start_segment cs ip) = Unit
InSegment base (extended_linear number) = Unit
InSegment base (start_linear number) = Unit

-- no record of the row does
abbrev pub InSegments : Base → List Numbered → Type 0
InSegments base [] = Unit
InSegments base (on n (says kind address payload) ∷ row) =
    InSegment base (meaning kind address payload) × InSegments (base_behind base (meaning kind address payload)) row
InSegments base (on n (wrong r) ∷ row) = InSegments base row

-- a data record in a segment, with numbers of 16 bits as a line has them, lies where it would without segments exactly if it does not pass the
-- segment's end
abbrev pub RecordUnchanged : Type 0
RecordUnchanged =
    (number offset : ℕ) (bytes : List ℕ) → number < 65536 → offset < 65536
    → (stated_by (flat (segment number)) (data_at offset bytes) ≡ stated_by (segment number) (data_at offset bytes)) ↔ (offset + length bytes ≤ 65536)

-- the steps of what the reader says with both stops on are what they are without segments exactly if no data record passes its segment's end, through the line at which the
-- reading stops: the first end record, or the first line that is refused
abbrev pub TextUnchanged : Type 0
TextUnchanged =
    (text : List ℕ) → let read = row default_options text in (along flat from_start read ≡ along (λ base. base) from_start read) ↔ InSegments from_start read

-- and then so is its load into every window: answer, page and marks
abbrev pub LoadUnchanged : Type 0
LoadUnchanged =
    (text : List ℕ) (first : ℕ) (page marks : List ℕ) → InSegments from_start (row default_options text)
    → flat_load text first page marks ≡ load text first page marks

-- refused with 17
abbrev pub Outside : Verdict → Type 0
Outside v = (address : ℕ) × (line : ℕ) × (v ≡ refused (outside_window address) line)

-- what both loads accept has no record that passes its segment's end
abbrev pub NeverBoth : Type 0
NeverBoth =
    (text : List ℕ) (first : ℕ) (page marks : List ℕ) (t t' : Tally)
    → (flat_load text first page marks).answer ≡ accepted t → (load text first page marks).answer ≡ accepted t' → InSegments from_start (row default_options text)

-- where the two loads are not the same, one of them is refused with 17
abbrev pub SameOrOutside : Type 0
SameOrOutside =
    (text : List ℕ) (first : ℕ) (page marks : List ℕ)
    → let l = load text first page marks in
    let f = flat_load text first page marks in
    (f ≡ l) ⊎ (Outside f.answer ⊎ Outside l.answer)

-- ---- examples

pub record Examples : Type 0 where
  -- without segments document 01's record states FFFF and 10000
  pub beyond_flat : stated (along flat from_start (row default_options beyond)) ≡ record { address = 0xFFFF; byte = 0xAA } ∷ record { address = 0x10000; byte = 0xBB } ∷ []
