-- What is claimed of a load of S-records. Demand 3 and reasons, which `window` has for every source, said of S-records; what a line of S-records
-- does; and that nothing else meets the contract. Each claim is proved in `proofs/Demand3.antt`, `proofs/Claims.antt` or
-- `proofs/OneReason.antt`.
-- Assumes nothing.
use Rattle.std.specs.Prelude.{◌≡◌, ℕ, suc, ◌+◌, ◌<◌, ◌≤◌, Bool, true, false, ◌≢◌, ◌↔◌, List, [], ◌∷◌, ◌++◌, length, replicate, slice_index}
use Rattle.std.proofs.Math.Option.{Option, none, some}
use Rattle.digits.specs.Common.{Every, text}
use Rattle.digits.specs.Reading.{named}
use Rattle.record.specs.Refusals.{Refusal, number_of, missing_start_code, contains_invalid_characters, missing_end_of_file_record, outside_window, count_mismatch}
use Rattle.record.specs.Line.{Said, says, wrong}
use Rattle.reader.specs.Lines.{LF, lines, through}
use Rattle.srec.specs.Line.{judge}
use Rattle.srec.specs.Format.{Format}
use Rattle.srec.specs.Faults.{FirstOffender}
use Rattle.marks.specs.Marks.{row_length, mark_at}
use Rattle.marks.specs.Claims.{Bytes}
use Rattle.steps.specs.Aliases.{Loading}
use Rattle.steps.specs.Steps.{Placement, linear_address, Tally, Verdict, accepted, refused, by}
use Rattle.steps.specs.Sites.{Loaded, OwedAt}
use Rattle.steps.specs.Account.{Account, Among}
use Rattle.window.specs.declared.Row.{Row}
use Rattle.window.specs.Tables.{load_table, LoadTable}
use Rattle.window.specs.Loads.{Alike, UnpacksTo}
use Rattle.window.specs.Loads as loads
use Rattle.window.specs.Reasons.{LoadReasons, LoadOneReason, TableReasons, TableOneReason}
use Rattle.window.specs.Reasons as reasons
use Rattle.srecload.specs.declared.Taken.{Taken}
use Rattle.srecload.specs.Placing.{SMeaning, s_header, s_data, s_count, s_end, s_meaning, s_placed, s_states, s_records}
use Rattle.srecload.specs.Load.{stopping, placements, load, LoadSRecords}
use Rattle.srecload.specs.Taking.{TakeLine}

-- ---- two loads

-- demand 3, first half: two texts that are the same through the LF of the line at which the first load stops;
-- text after it and old contents of page and marks may differ
abbrev pub NonInterference : Type 0
NonInterference =
    (text₁ text₂ : List ℕ) (first : ℕ) (page₁ marks₁ page₂ marks₂ : List ℕ)
    → length page₁ ≡ length page₂ → length marks₁ ≡ length marks₂
    → (line : ℕ) (v : Verdict) → stopping text₁ first page₁ marks₁ ≡ some (by line v)
    → (head : List ℕ) → through line text₁ ≡ some head → through line text₂ ≡ some head
    → Alike (load text₁ first page₁ marks₁) (load text₂ first page₂ marks₂)

-- ---- one load

-- demand 3, second half: of one accepted load, at each place of the window
abbrev pub WhatIsStored : Type 0
WhatIsStored =
    (text : List ℕ) (first : ℕ) (page marks : List ℕ) (tally : Tally)
    → let l = load text first page marks in
    l.answer ≡ accepted tally → (i : ℕ) → i < length page
    → OwedAt (placements text) (first + i) (slice_index page i) (mark_at l.marks i) (slice_index l.page i)

abbrev pub RefusalChangesNothing : Type 0
RefusalChangesNothing =
    (text : List ℕ) (first : ℕ) (page marks : List ℕ) (r : Refusal) (line : ℕ)
    → let l = load text first page marks in
    l.answer ≡ refused r line → (l.page ≡ page) × (l.marks ≡ marks)

abbrev pub SizesKept : Type 0
SizesKept =
    (text : List ℕ) (first : ℕ) (page marks : List ℕ)
    → let l = load text first page marks in (length l.page ≡ length page) × (length l.marks ≡ length marks)

-- a load whose marks are 0 or 1, a byte for each place
abbrev pub byte_load : List ℕ → (first : ℕ) (page marks : List ℕ) → Loaded
byte_load text first page marks = loads.byte_load s_records text first page marks

-- packed marks say what marks of a byte each would say, where both have the length that they should or neither has it
abbrev pub PackedAsBytes : Type 0
PackedAsBytes =
    (text : List ℕ) (first : ℕ) (page marks byte-marks : List ℕ)
    → (length marks ≡ row_length (length page)) ↔ (length byte-marks ≡ length page)
    → UnpacksTo page marks (load text first page marks) (byte_load text first page byte-marks)

-- ---- why a load answers as it does, said of the text's lines

-- the record that is said, if one is
unfoldable pub said_record : Said → Option SMeaning
unfolding s_meaning
said_record (says kind address payload) = some (s_meaning kind address payload)
said_record (wrong r) = none

abbrev pub record_on : (line : List ℕ) → Option SMeaning
record_on line = said_record (judge line)

-- what a record of a type means: S0 is a header, S1 to S3 are data, S5 is a count, S7 to S9 are ends
pub data Means (kind address : ℕ) (payload : List ℕ) : SMeaning → Type 0 where
  of_header : kind ≡ 0 → Means kind address payload s_header
  of_data : 1 ≤ kind → kind ≤ 3 → Means kind address payload (s_data address payload)
  of_count : kind ≡ 5 → Means kind address payload (s_count address)
  of_end : 7 ≤ kind → kind ≤ 9 → Means kind address payload (s_end address)

-- a line gives a record exactly if the format has it with a type that means it
abbrev pub RecordsByFormat : Type 0
RecordsByFormat =
    (line : List ℕ) (m : SMeaning)
    → (record_on line ≡ some m) ↔ ((kind : ℕ) × (address : ℕ) × (payload : List ℕ) × Format line kind address payload × Means kind address payload m)

-- what a record, if there is one, states
unfoldable pub states : Option SMeaning → List Placement
unfolding s_states
states none = []
states (some m) = s_states m

-- how many of the lines are data records, S1 to S3
unfoldable pub counts : Option SMeaning → ℕ
counts none = 0
counts (some s_header) = 0
counts (some (s_data address bytes)) = 1
counts (some (s_count stated)) = 0
counts (some (s_end address)) = 0

unfoldable pub data_records : List (List ℕ) → ℕ
unfolding counts said_record judge
data_records [] = 0
data_records (line ∷ ls) = counts (record_on line) + data_records ls

-- a line after these does not stop a load: it is empty, a header, data with no byte outside, or a count that is right
pub data Passes (inside : ℕ → Bool) (ahead : List (List ℕ)) (line : List ℕ) : Type 0 where
  is_empty : line ≡ [] → Passes inside ahead line
  is_header : record_on line ≡ some s_header → Passes inside ahead line
  lies_inside : (address : ℕ) (bytes : List ℕ) → record_on line ≡ some (s_data address bytes)
      → Every (λ (p : Placement). inside p.address ≡ true) (s_placed address bytes) → Passes inside ahead line
  counts_right : (stated : ℕ) → record_on line ≡ some (s_count stated) → stated ≡ data_records ahead → Passes inside ahead line

-- what line n, after these, gives a load that stops at it: it is an end, whose address is the start, or it is refused, or it has a first byte
-- outside, or its count differs
pub data Stops (inside : ℕ → Bool) (ahead : List (List ℕ)) (line : List ℕ) (n : ℕ) : Verdict → Type 0 where
  the_end : (address : ℕ) → record_on line ≡ some (s_end address)
      → Stops inside ahead line n (accepted (record { records = data_records ahead; start = some (linear_address address) }))
  no_record : (r : Refusal) → line ≢ [] → judge line ≡ wrong r → Stops inside ahead line n (refused r n)
  first_outside : (before after : List Placement) (p : Placement)
      → states (record_on line) ≡ before ++ (p ∷ after) → Every (λ (q : Placement). inside q.address ≡ true) before
      → inside p.address ≡ false → Stops inside ahead line n (refused (outside_window p.address) n)
  count_differs : (stated : ℕ) → record_on line ≡ some (s_count stated) → stated ≢ data_records ahead
      → Stops inside ahead line n (refused (count_mismatch stated (data_records ahead)) n)

-- what a load asks of a line of S-records
abbrev pub account : (inside : ℕ → Bool) → Account
account inside = record { passes = Passes inside; stops = Stops inside; states = λ ahead line. states (record_on line) }

-- a reason for an answer
abbrev pub Why : (text : List ℕ) (first : ℕ) (page marks : List ℕ) → Verdict → Type 0
Why text first page marks = reasons.Why s_records account text first page marks

-- each answer has one
abbrev pub Reasons : Type 0
Reasons = LoadReasons s_records account

-- and no other answer has one: each refusal is given exactly when its reason holds
abbrev pub OneReason : Type 0
OneReason = LoadOneReason s_records account

-- so it is through a window table
abbrev pub ReasonsByTable : Type 0
ReasonsByTable = TableReasons s_records account

abbrev pub OneReasonByTable : Type 0
OneReasonByTable = TableOneReason s_records account

-- the first offender of a text's n-th line stands at the place
pub record Offends (text : List ℕ) (n place : ℕ) : Type 0 where
  pub line : List ℕ
  pub before : List (List ℕ)
  pub after : List (List ℕ)
  pub stands : lines text ≡ before ++ (line ∷ after)
  pub number : n ≡ suc (length before)
  pub first : FirstOffender line place

-- a load that is refused with 2 gives the number of a line that has an offender, and names the first one's place there
abbrev pub LoadNamesTheOffender : Type 0
LoadNamesTheOffender =
    (text : List ℕ) (first : ℕ) (page marks : List ℕ) (r : Refusal) (n : ℕ) → (load text first page marks).answer ≡ refused r n → number_of r ≡ 2
    → (place : ℕ) × Offends text n place × (r ≡ contains_invalid_characters (named place))

-- the numbers of refusals that a line can give
abbrev pub line_refusals : List ℕ
line_refusals = 1 ∷ 2 ∷ 3 ∷ 4 ∷ 5 ∷ 6 ∷ 7 ∷ 8 ∷ 9 ∷ 17 ∷ 20 ∷ []

-- those that a load can give: 13 and 16 beside them, and through a table 13 and 23
abbrev pub Total : Type 0
Total = (text : List ℕ) (first : ℕ) (page marks : List ℕ) → Among (13 ∷ 16 ∷ line_refusals) (load text first page marks).answer

abbrev pub TotalByTable : Type 0
TotalByTable =
    (owner : ℕ) (rows : List Row) (text pool marks : List ℕ) → Among (13 ∷ 23 ∷ line_refusals) (load_table s_records owner rows text pool marks).answer

-- a line that stops a load with a refusal gives one of the first list: never 13, 16 or 23
abbrev pub LinesGive : Type 0
LinesGive = (inside : ℕ → Bool) (ahead : List (List ℕ)) (line : List ℕ) (n : ℕ) (v : Verdict) → Stops inside ahead line n v → Among line_refusals v

-- ---- the contract

-- no second answer, and no second page or marks, meets the contract
abbrev pub LoadSrecordsUnique : Type 0
LoadSrecordsUnique =
    (text : List ℕ) (first : ℕ) (page marks : List ℕ) (r r' : Loading) (p p' m m' : List ℕ)
    → LoadSRecords text first page marks r p m → LoadSRecords text first page marks r' p' m' → (r ≡ r') × (p ≡ p') × (m ≡ m')

-- nor through a window table
abbrev pub LoadSrecordsTableUnique : Type 0
LoadSrecordsTableUnique =
    (owner : ℕ) (rows : List Row) (text pool marks : List ℕ) (r r' : Loading) (p p' m m' : List ℕ)
    → LoadTable s_records owner rows text pool marks r p m → LoadTable s_records owner rows text pool marks r' p' m' → (r ≡ r') × (p ≡ p') × (m ≡ m')

-- nor that of `take_line`, if the marks are bytes
abbrev pub TakeLineUnique : Type 0
TakeLineUnique =
    (line : List ℕ) (number seen first : ℕ) (page marks : List ℕ) (r r' : Taken) (p p' m m' : List ℕ) → Bytes marks
    → TakeLine line number seen first page marks r p m → TakeLine line number seen first page marks r' p' m' → (r ≡ r') × (p ≡ p') × (m ≡ m')

-- ---- examples

-- a header, a byte at 5, a count that is right, and the end, each line with its LF
abbrev pub example : List ℕ
example = text "S0030000FC" ++ (LF ∷ text "S1040005777F") ++ (LF ∷ text "S5030001FB") ++ (LF ∷ text "S9030000FC") ++ (LF ∷ [])

pub record Examples : Type 0 where
  -- only 2^32 wraps
  pub beyond : placements (text "S105FFFFAABB97" ++ (LF ∷ text "S9030000FC")) ≡ record { address = 0xFFFF; byte = 0xAA } ∷ record { address = 0x10000; byte = 0xBB } ∷ []
  pub wraps : placements (text "S307FFFFFFFFAABB97" ++ (LF ∷ text "S9030000FC")) ≡ record { address = 0xFFFFFFFF; byte = 0xAA } ∷ record { address = 0; byte = 0xBB } ∷ []
  pub sixth_place : load example 0 (replicate 8 9) (0x81 ∷ [])
      ≡ record {
        answer = accepted (record { records = 1; start = some (linear_address 0) });
        page = 9 ∷ 9 ∷ 9 ∷ 9 ∷ 9 ∷ 0x77 ∷ 9 ∷ 9 ∷ [];
        marks = 0x20 ∷ [];
      }
  -- a count of 2 after one data record
  pub miscounted : stopping (text "S1040005777F" ++ (LF ∷ text "S5030002FA")) 0 (replicate 8 9) (0 ∷ []) ≡ some (by 2 (refused (count_mismatch 2 1) 2))
  -- a count of 0 before any
  pub none_yet : stopping (text "S5030000FC" ++ (LF ∷ text "S9030000FC")) 0 [] [] ≡ some (by 2 (accepted (record { records = 0; start = some (linear_address 0) })))
  pub endless : load (text "S5030000FC") 0 [] [] ≡ record { answer = refused missing_end_of_file_record 0; page = []; marks = [] }
  pub other_kind : stopping (text ":00000001FF") 0 [] [] ≡ some (by 1 (refused missing_start_code 1))
