-- What is claimed of the listing beyond the contracts, and proved in `proofs/Claims.antt`, `proofs/Whole.antt` and `proofs/Judging.antt`.
-- Assumes nothing.
use Rattle.std.specs.Prelude.{ℕ, ◌+◌, ◌*◌, ◌≤◌, ◌<◌, ◌≡◌, ◌⊎◌, ◌↔◌, true, List, [], ◌∷◌, ◌++◌, length}
use Rattle.digits.specs.Common.{Every, text}
use Rattle.record.specs.Line.{says, judge}
use Rattle.reader.specs.declared.ReaderOptions.{ReaderOptions}
use Rattle.reader.specs.Aliases.{Reply}
use Rattle.reader.specs.Answer.{answered, poured}
use Rattle.reader.specs.Lines.{lines}
use Rattle.reader.specs.Row.{Numbered, on, sayings}
use Rattle.reader.specs.Text.{told_reply}
use Rattle.listing.specs.Aliases.{Listed}
use Rattle.listing.specs.declared.Verdict.{Verdict}
use Rattle.listing.specs.Listing.{entry, ended, shown, answers, listing}
use Rattle.listing.specs.Listed.{reply_room, Lists, ListsReply, ListsFirst, ListsLast}
use Rattle.listing.specs.Status.{row_status, text_status, no_line, after_said, verdict_from, status_of, after_reply, ListingOptions, VerdictAfter, ExitStatus, TextStatus}

-- document 01's example
abbrev pub Example : Type 0
Example =
    listing (ended (text ":04012000102030403B") ++ ended [] ++ ended (text ":00000001FE") ++ ended (text ":00000001FF"))
    ≡ ended (text "records") ++ ended (text "D 0120 10203040") ++ ended (text "! 6 FF FE") ++ ended (text "E") ++ ended (text "3 answers")

-- a place of a line, which refusal 2 names, takes four digits
abbrev pub ExamplePlace : Type 0
ExamplePlace = listing (ended (text ":G")) ≡ ended (text "records") ++ ended (text "! 2 0001") ++ ended (text "1 answers")

-- an output of three times the input's length and 32 has room for the listing
abbrev pub Fits : Type 0
Fits = (input : List ℕ) → length (listing input) ≤ 3 * length input + 32

-- no second answer, and no second output, meets a contract
abbrev pub ListUnique : Type 0
ListUnique = (input out : List ℕ) (r r' : Listed) (o o' : List ℕ) → Lists input out r o → Lists input out r' o' → (r ≡ r') × (o ≡ o')

abbrev pub ListReplyUnique : Type 0
ListReplyUnique = (reply : Reply) (pool out : List ℕ) (r r' : Listed) (o o' : List ℕ) → ListsReply reply pool out r o → ListsReply reply pool out r' o' → (r ≡ r') × (o ≡ o')

abbrev pub ListFirstUnique : Type 0
ListFirstUnique = (out : List ℕ) (r r' : Listed) (o o' : List ℕ) → ListsFirst out r o → ListsFirst out r' o' → (r ≡ r') × (o ≡ o')

abbrev pub ListLastUnique : Type 0
ListLastUnique = (count : ℕ) (out : List ℕ) (r r' : Listed) (o o' : List ℕ) → ListsLast count out r o → ListsLast count out r' o' → (r ≡ r') × (o ≡ o')

-- a reply to a line, with its payload at the beginning of a pool, and that pool
pub record Answers (line pool : List ℕ) (reply : Reply) (pool' : List ℕ) : Type 0 where
  pub size : 255 ≤ length pool
  pub tells : told_reply reply ≡ answered (judge line) (length pool) 0
  pub holds : pool' ≡ poured (judge line) pool 0

-- what is shown of it is what the listing has for that line
abbrev pub ShownAsListed : Type 0
ShownAsListed = (line pool : List ℕ) (reply : Reply) (pool' : List ℕ) → Answers line pool reply pool' → shown reply pool' ≡ ended (entry (judge line))

-- an output of 542 bytes has room for it
abbrev pub RoomForEach : Type 0
RoomForEach = (line pool : List ℕ) (reply : Reply) (pool' : List ℕ) (out : ℕ) → Answers line pool reply pool' → 542 ≤ out → reply_room reply (length pool') out ≡ true

-- ---- the exit status

-- a line with a record
pub data IsRecord : Numbered → Type 0 where
  a_record : {n kind address : ℕ} {payload : List ℕ} → IsRecord (on n (says kind address payload))

-- records, and then an end record, whatever follows
pub record ReachesEnd (sayings : List Numbered) : Type 0 where
  pub before : List Numbered
  pub n : ℕ
  pub address : ℕ
  pub payload : List ℕ
  pub rest : List Numbered
  pub cut : sayings ≡ before ++ (on n (says 1 address payload) ∷ rest)
  pub records : Every IsRecord before

-- the status of a row is 0 exactly where the lines of the text reach an end record with nothing but records before it; else it is 1
abbrev pub ZeroMeans : Type 0
ZeroMeans = (input : List ℕ) → (row_status (answers input) ≡ 0) ↔ ReachesEnd (sayings 1 (lines input))

abbrev pub ZeroOrOne : Type 0
ZeroOrOne = (row : List Numbered) → (row_status row ≡ 0) ⊎ (row_status row ≡ 1)

-- that of a whole text is 2 exactly where it is too long, and else that of its row
abbrev pub TwoMeans : Type 0
TwoMeans = (input : List ℕ) → ((text_status input ≡ 2) ↔ (65536 < length input)) × (length input ≤ 65536 → text_status input ≡ row_status (answers input))

-- one law for a whole text and for one that comes line by line: a reply to a line changes the verdict as what the line says does, and what
-- a row comes to so, from no line on, is its status
abbrev pub VerdictByReply : Type 0
VerdictByReply =
    (line pool : List ℕ) (reply : Reply) (pool' : List ℕ) → Answers line pool reply pool'
    → (verdict : Verdict) → after_reply verdict reply ≡ after_said verdict (judge line)

abbrev pub StatusByVerdict : Type 0
StatusByVerdict = (row : List Numbered) → status_of (verdict_from no_line row) ≡ row_status row

abbrev pub ListingOptionsUnique : Type 0
ListingOptionsUnique = (r r' : ReaderOptions) → ListingOptions r → ListingOptions r' → r ≡ r'

abbrev pub VerdictAfterUnique : Type 0
VerdictAfterUnique = (verdict : Verdict) (reply : Reply) (r r' : Verdict) → VerdictAfter verdict reply r → VerdictAfter verdict reply r' → r ≡ r'

abbrev pub ExitStatusUnique : Type 0
ExitStatusUnique = (verdict : Verdict) (r r' : ℕ) → ExitStatus verdict r → ExitStatus verdict r' → r ≡ r'

abbrev pub TextStatusUnique : Type 0
TextStatusUnique = (input : List ℕ) (r r' : ℕ) → TextStatus input r → TextStatus input r' → r ≡ r'
