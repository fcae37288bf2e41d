-- The file of a page with marks, document 02's fourth request: its records, its text, and what stands in its place.
-- Assumes nothing.
use Rattle.std.specs.Prelude.{ℕ, ◌+◌, ◌/◌, ◌%◌, Bool, false, List, [], ◌∷◌, ◌++◌, eqb, length}
use Rattle.std.proofs.Math.Option.{Option, none, some}
use Rattle.std.specs.Prelude.{if◌then◌else◌}
use Rattle.record.specs.Refusals.{bad_window, bad_mark}
use Rattle.record.specs.declared.Record.{Record}
use Rattle.record.specs.declared.Record.TheVariants.{Data, EndOfFile, ExtendedLinearAddress}
use Rattle.marks.specs.Marks.{flags, first_unused}
use Rattle.writer.specs.Text.{Text, chars, refused}
use Rattle.writer.specs.Object.{joined_lines}
use Rattle.window.specs.Window.{unfit}
use Rattle.page.specs.Pieces.{Piece, pieces}

-- ---- the records

abbrev pub lies_at : (first : ℕ) → Piece → ℕ
lies_at first p = first + p.place

-- the upper 16 bits of a piece's address
abbrev pub upper : (first : ℕ) → Piece → ℕ
upper first p = lies_at first p / 65536

-- its data record: the page is the pool that the payload lies in
abbrev pub data_of : (first : ℕ) → Piece → Record
data_of first p = Data (lies_at first p % 65536) p.place p.size

unfoldable pub is_latest : Option ℕ → (upper : ℕ) → Bool
is_latest none u = false
is_latest (some v) u = eqb v u

-- a type 04 record before the first data record, and wherever the upper 16 bits change
unfoldable pub extension : (latest : Option ℕ) (upper : ℕ) → List Record
unfolding is_latest
extension latest u = if is_latest latest u then [] else ExtendedLinearAddress u ∷ []

-- the records of these pieces behind the latest upper 16 bits, if there are any; the end record is last
unfoldable pub records : (first : ℕ) (latest : Option ℕ) → List Piece → List Record
unfolding extension
records first latest [] = EndOfFile ∷ []
records first latest (p ∷ ps) = extension latest (upper first p) ++ (data_of first p ∷ records first (some (upper first p)) ps)

unfoldable pub page_records : (first : ℕ) (flags : List ℕ) → List Record
unfolding records pieces
page_records first flags = records first none (pieces first 0 none flags)

-- ---- the text

-- the file of a page whose marks are a number for each place: each record's line as our writer writes it, with one LF
abbrev pub flag_file : (first : ℕ) (page flags : List ℕ) → List ℕ
flag_file first page flags = joined_lines (page_records first flags) page

-- with packed marks it is that of the marks, unpacked
unfoldable pub file : (first : ℕ) (page marks : List ℕ) → List ℕ
unfolding joined_lines page_records flags
file first page marks = flag_file first page (flags (length page) marks)

-- 19 names the lowest unused bit that is set
abbrev pub unless_unused : Option ℕ → Text → Text
unless_unused none t = t
unless_unused (some place) t = refused (bad_mark place)

-- 16, then 19, and else the file; 15 comes where an output has no room for it
unfoldable pub page_text : (first : ℕ) (page marks : List ℕ) → Text
unfolding unfit first_unused file
page_text first page marks =
    if unfit first (length page) (length marks) then refused bad_window else
    unless_unused (first_unused (length page) marks) (chars (file first page marks))
