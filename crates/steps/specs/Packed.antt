-- Marks packed into bits: document 02's seventh wish. A load into a page with packed marks is a load of the same marks unpacked; what it leaves is
-- packed again. The claim, that each place has the mark that the other load gives it, is proved in `proofs/Packed.antt`.
-- Assumes nothing.
use Rattle.std.specs.Prelude.{◌≡◌, ℕ, List, length}
use Rattle.marks.specs.Marks.{flags, packed}
use Rattle.marks.specs.Claims.{RowOf}
use Rattle.record.specs.Refusals.{Refusal}
use Rattle.steps.specs.Steps.{Tally, Verdict, accepted, refused}
use Rattle.steps.specs.Source.{Source}
use Rattle.steps.specs.Sites.{Loaded, Room, load}

-- the row of marks after a load: an acceptance packs the marks of the places, a refusal leaves every byte as it was
unfoldable pub row_after : Verdict → (row places : List ℕ) → List ℕ
unfolding packed
row_after (accepted tally) row places = packed places
row_after (refused r line) row places = row

abbrev pub repacked : (row : List ℕ) → Loaded → Loaded
repacked row l = record { answer = l.answer; page = l.page; marks = row_after l.answer row l.marks }

-- a load of a text into a page with a packed row of marks, one bit for each place of the page
unfoldable pub load_packed : {S : Type 0} → Source S → Room → (text page row : List ℕ) → Loaded
unfolding load flags row_after
load_packed src room text page row = repacked row (load src room text page (flags (length page) row))

-- the two loads agree: in their answers, in the page, and, if they accept, in the marks: the packed row is that of the marks by places, with its
-- unused bits 0. A refusal leaves the row as it was, unused bits too.
pub record AsUnpacked (row : List ℕ) (packed plain : Loaded) : Type 0 where
  pub answers : packed.answer ≡ plain.answer
  pub pages : packed.page ≡ plain.page
  pub marks : (tally : Tally) → packed.answer ≡ accepted tally → RowOf plain.marks packed.marks
  pub kept : (r : Refusal) (line : ℕ) → packed.answer ≡ refused r line → packed.marks ≡ row

-- for every source, room and text
abbrev pub PackedLoads : Type 1
PackedLoads =
    (S : Type 0) (src : Source S) (room : Room) (text page row : List ℕ)
    → AsUnpacked row (load_packed src room text page row) (load src room text page (flags (length page) row))
