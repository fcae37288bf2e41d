-- What is claimed of a page written back. What its records are stands in `Shape`. Each claim is proved in `proofs/`: the same name, in small letters.
-- Assumes nothing.
use Rattle.std.specs.Prelude.{ℕ, ◌+◌, ◌*◌, ◌<◌, ◌≤◌, ◌≡◌, ◌⊎◌, List, [], ◌∷◌, ◌++◌, map, length, get_or, take, drop, replicate}
use Rattle.std.proofs.Math.Option.{none, some}
use Rattle.digits.specs.Common.{Every, Byte, text}
use Rattle.record.specs.Refusals.{output_full, bad_window, bad_mark}
use Rattle.record.specs.declared.Record.{Record}
use Rattle.record.specs.Line.{judge}
use Rattle.record.specs.Written.{rewritten}
use Rattle.reader.specs.Lines.{LF, lines}
use Rattle.marks.specs.Marks.{mark_at, Marked, flags, UnusedClear}
use Rattle.marks.specs.Claims.{Bytes, IsFirstUnused}
use Rattle.writer.specs.Told.{ToldWritten, wrote, refuses}
use Rattle.writer.specs.Text.{chars, refused}
use Rattle.writer.specs.Line.{line}
use Rattle.writer.specs.Object.{object}
use Rattle.steps.specs.Aliases.{Loading}
use Rattle.steps.specs.Steps.{accepted}
use Rattle.steps.specs.Sites.{Loaded}
use Rattle.loader.specs.Load.{load, Load}
use Rattle.steps.specs.Told.{told_loading}
use Rattle.window.specs.Claims.{Window}
use Rattle.page.specs.declared.PageError.{PageError}
use Rattle.page.specs.declared.PageError.TheVariants.{OutputFull}
use Rattle.page.specs.Aliases.{Paged}
use Rattle.page.specs.Pieces.{pieces}
use Rattle.page.specs.File.{page_records, file, page_text}
use Rattle.page.specs.Told.{told_page, PageFileLength, WritePage}
use Rattle.std.specs.Prelude.{Err, Ok}

-- ---- a page that is written

-- a page that neither 16 nor 19 refuses
pub record Page (first : ℕ) (page marks : List ℕ) : Type 0 where
  pub window : Window first page marks
  pub unused : UnusedClear (length page) marks

-- the text is the object of its records, so each has its line and the one end record is last
abbrev pub FileIsObject : Type 0
FileIsObject = (first : ℕ) (page marks : List ℕ) → Window first page marks → object (page_records first (flags (length page) marks)) page ≡ chars (file first page marks)

-- its lines are those of the records
abbrev pub FileLines : Type 0
FileLines = (first : ℕ) (page marks : List ℕ) → lines (file first page marks) ≡ map (λ (r : Record). line r page) (page_records first (flags (length page) marks))

-- each is the line that our writer writes for what it says
abbrev pub LinesCanonical : Type 0
LinesCanonical =
    (first : ℕ) (page marks : List ℕ) → Window first page marks → Every Byte page
    → Every (λ (l : List ℕ). rewritten (judge l) ≡ some l) (lines (file first page marks))

-- ---- loaded again

-- the load of the file: its marks are the marks, at marked places its bytes are the bytes, and every other place keeps its byte
pub record Restores (page marks old-page : List ℕ) (l : Loaded) : Type 0 where
  pub same_marks : l.marks ≡ marks
  pub same_bytes : (i : ℕ) → Marked marks i → get_or l.page i 0 ≡ get_or page i 0
  pub others_kept : (i : ℕ) → mark_at marks i ≡ 0 → get_or l.page i 0 ≡ get_or old-page i 0

-- into the same window, whatever page and marks held, it is accepted with all its data records, and it states no start
abbrev pub LoadsBack : Type 0
LoadsBack =
    (first : ℕ) (page marks old-page old-marks : List ℕ) → Page first page marks → Every Byte page → Bytes marks
    → length old-page ≡ length page → length old-marks ≡ length marks
    → let l = load (file first page marks) first old-page old-marks in
    (l.answer ≡ accepted (record { records = length (pieces first 0 none (flags (length page) marks)); start = none })) × Restores page marks old-page l

-- the n bytes that `write_page` says it wrote, given to `load`: that they were written says that window and marks are good
abbrev pub WrittenLoadsBack : Type 0
WrittenLoadsBack =
    (first : ℕ) (page marks out : List ℕ) (n : ℕ) (out' old-page old-marks : List ℕ) (r : Loading) (page' marks' : List ℕ)
    → Every Byte page → Bytes marks → length old-page ≡ length page → length old-marks ≡ length marks
    → WritePage first page marks out (Ok n) out' → Load (take n out') first old-page old-marks r page' marks'
    → (told_loading r ≡ accepted (record { records = length (pieces first 0 none (flags (length page) marks)); start = none }))
    × Restores page marks old-page (record { answer = told_loading r; page = page'; marks = marks' })

-- ---- two pages

-- for one window, equal marks and equal marked bytes give equal files
abbrev pub EqualFiles : Type 0
EqualFiles =
    (first : ℕ) (page₁ page₂ marks : List ℕ) → length page₁ ≡ length page₂
    → ((i : ℕ) → Marked marks i → get_or page₁ i 0 ≡ get_or page₂ i 0)
    → file first page₁ marks ≡ file first page₂ marks

-- so two such pages are answered alike, refusals and all, and leave an output alike
abbrev pub EqualAnswers : Type 0
EqualAnswers =
    (first : ℕ) (page₁ page₂ marks out : List ℕ) (r₁ r₂ : Paged) (o₁ o₂ : List ℕ) → length page₁ ≡ length page₂
    → ((i : ℕ) → Marked marks i → get_or page₁ i 0 ≡ get_or page₂ i 0)
    → WritePage first page₁ marks out r₁ o₁ → WritePage first page₂ marks out r₂ o₂ → (r₁ ≡ r₂) × (o₁ ≡ o₂)

-- and nothing else gives equal files
abbrev pub FilesTell : Type 0
FilesTell =
    (first : ℕ) (page₁ marks₁ page₂ marks₂ : List ℕ) → Page first page₁ marks₁ → Page first page₂ marks₂ → Every Byte page₁ → Every Byte page₂ → Bytes marks₁ → Bytes marks₂
    → length page₁ ≡ length page₂ → file first page₁ marks₁ ≡ file first page₂ marks₂
    → (marks₁ ≡ marks₂) × ((i : ℕ) → Marked marks₁ i → get_or page₁ i 0 ≡ get_or page₂ i 0)

-- ---- why a page is answered as it is

-- a reason for an answer, for an output of this much room
pub data Why (first : ℕ) (page marks : List ℕ) (room : ℕ) : ToldWritten → Type 0 where
  no_window : ¬ Window first page marks → Why first page marks room (refuses bad_window)
  ill_marked : (place : ℕ) → Window first page marks → IsFirstUnused marks (length page) place → Why first page marks room (refuses (bad_mark place))
  no_room : Page first page marks → room < length (file first page marks) → Why first page marks room (refuses output_full)
  all_written : Page first page marks → length (file first page marks) ≤ room → Why first page marks room (wrote (length (file first page marks)))

-- each answer has one
abbrev pub Reasons : Type 0
Reasons = (first : ℕ) (page marks out : List ℕ) (r : Paged) (out' : List ℕ) → WritePage first page marks out r out' → Why first page marks (length out) (told_page r)

-- and no second answer has one
abbrev pub OneReason : Type 0
OneReason = (first : ℕ) (page marks : List ℕ) (room : ℕ) (t t' : ToldWritten) → Why first page marks room t → Why first page marks room t' → t ≡ t'

-- where the number of places is a multiple of 8 no bit is unused, and 19 has no reason
abbrev pub NoBadMark : Type 0
NoBadMark = (first : ℕ) (page marks : List ℕ) (room eighth place : ℕ) → length page ≡ 8 * eighth → ¬ Why first page marks room (refuses (bad_mark place))

-- seven bytes for each place of the page and 58 more have room for every file
abbrev pub RoomEnough : Type 0
RoomEnough = (first : ℕ) (page marks : List ℕ) → Window first page marks → length (file first page marks) ≤ 7 * length page + 58

-- so each answer of `page_file_length` has the reason that it has in every output with that room, and is never 15
abbrev pub LengthReasons : Type 0
LengthReasons =
    (first : ℕ) (page marks : List ℕ) (r : Paged) (space : ℕ) → PageFileLength first page marks r → 7 * length page + 58 ≤ space → Why first page marks space (told_page r)

-- `page_file_length` answers as `write_page` does, but that the latter may lack the room
abbrev pub LengthAsWritten : Type 0
LengthAsWritten =
    (first : ℕ) (page marks out : List ℕ) (r r' : Paged) (out' : List ℕ) → PageFileLength first page marks r → WritePage first page marks out r' out'
    → (r ≡ r') ⊎ ((r' ≡ Err OutputFull) × ((n : ℕ) × (r ≡ Ok n) × (length out < n)))

-- of the page it sees the length alone
abbrev pub LengthOfLengths : Type 0
LengthOfLengths =
    (first : ℕ) (page₁ page₂ marks : List ℕ) (r₁ r₂ : Paged) → length page₁ ≡ length page₂
    → PageFileLength first page₁ marks r₁ → PageFileLength first page₂ marks r₂ → r₁ ≡ r₂

-- ---- the output

abbrev pub RefusalChangesNothing : Type 0
RefusalChangesNothing = (first : ℕ) (page marks out : List ℕ) (e : PageError) (out' : List ℕ) → WritePage first page marks out (Err e) out' → out' ≡ out

-- the first n bytes are the file, and what lies behind them is as it was
abbrev pub RestUntouched : Type 0
RestUntouched =
    (first : ℕ) (page marks out : List ℕ) (n : ℕ) (out' : List ℕ) → WritePage first page marks out (Ok n) out'
    → (take n out' ≡ file first page marks) × (drop n out' ≡ drop n out)

-- ---- no second answer meets a contract

abbrev pub ToldApart : Type 0
ToldApart = (a b : Paged) → told_page a ≡ told_page b → a ≡ b

abbrev pub PageFileLengthUnique : Type 0
PageFileLengthUnique = (first : ℕ) (page marks : List ℕ) (r r' : Paged) → PageFileLength first page marks r → PageFileLength first page marks r' → r ≡ r'

abbrev pub WritePageUnique : Type 0
WritePageUnique =
    (first : ℕ) (page marks out : List ℕ) (r r' : Paged) (o o' : List ℕ)
    → WritePage first page marks out r o → WritePage first page marks out r' o' → (r ≡ r') × (o ≡ o')

-- ---- examples

pub record Examples : Type 0 where
  -- nothing is marked: the end record alone
  pub bare : file 0 (1 ∷ 2 ∷ []) (0 ∷ []) ≡ text ":00000001FF" ++ (LF ∷ [])
  -- FFFE to 10011 but for 10010: two bytes, other upper bits, sixteen, and one behind the gap
  pub across : file 0xFFFE (replicate 20 0xAB) (0xFF ∷ 0xFF ∷ 0x0B ∷ [])
      ≡ text ":020000040000FA" ++ (LF ∷ text ":02FFFE00ABABAB") ++ (LF ∷ text ":020000040001F9")
      ++ (LF ∷ text ":10000000ABABABABABABABABABABABABABABABAB40") ++ (LF ∷ text ":01001100AB43") ++ (LF ∷ text ":00000001FF") ++ (LF ∷ [])
  -- the last three places that there are
  pub top : file 0xFFFFFFFD (1 ∷ 2 ∷ 3 ∷ []) (7 ∷ [])
      ≡ text ":02000004FFFFFC" ++ (LF ∷ text ":03FFFD00010203FB") ++ (LF ∷ text ":00000001FF") ++ (LF ∷ [])
  -- of 3 places with marks 22, bits 1 and 5 are set; bit 5 is unused
  pub unused_set : page_text 0 (1 ∷ 2 ∷ 3 ∷ []) (0x22 ∷ []) ≡ refused (bad_mark 5)
