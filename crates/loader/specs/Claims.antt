-- What is claimed of a load. Demand 3: what stands behind the line at which a load stops, and what the buffers held before, can change no
-- answer and no mark; a place is marked exactly when a data record ahead of the end record states it, and holds what the last such record
-- states; every other place keeps its byte. Then why a load answers as it does, and that nothing else meets the contract.
-- Those of demand 3 and of reasons are what `window` says of every source, said of Intel HEX. Each is proved in `proofs/Demand3.antt`,
-- `proofs/Claims.antt` or `proofs/OneReason.antt`.
-- Assumes nothing.
use Rattle.std.specs.Prelude.{◌≡◌, ℕ, ◌+◌, ◌<◌, List, [], ◌∷◌, ◌++◌, length, replicate, slice_index}
use Rattle.std.proofs.Math.Option.{none, some}
use Rattle.digits.specs.Common.{text}
use Rattle.record.specs.Refusals.{Refusal, number_of, contains_invalid_characters, outside_window, start_conflict}
use Rattle.digits.specs.Reading.{named}
use Rattle.reader.specs.Lines.{LF, through}
use Rattle.reader.specs.Claims.{Offends}
use Rattle.marks.specs.Marks.{mark_at}
use Rattle.marks.specs.Claims.{Bytes}
use Rattle.steps.specs.Aliases.{Loading}
use Rattle.steps.specs.declared.Tally.{Tally as CodeTally}
use Rattle.steps.specs.Steps.{Placement, cs_with_ip, Tally, Verdict, accepted, refused, by}
use Rattle.steps.specs.Sites.{OwedAt}
use Rattle.steps.specs.Account.{Among}
use Rattle.window.specs.declared.Row.{Row}
use Rattle.window.specs.Tables.{load_table, LoadTable}
use Rattle.window.specs.Reasons.{LoadReasons, LoadOneReason, TableReasons, TableOneReason}
use Rattle.window.specs.Reasons as reasons
pub use Rattle.window.specs.Loads.{Alike}
use Rattle.intel.specs.Placing.{intel, placements}
use Rattle.intel.specs.Lines.{account, line_refusals}
use Rattle.loader.specs.declared.Base.{Base}
use Rattle.loader.specs.declared.Taken.{Taken}
use Rattle.loader.specs.Load.{stopping, load, Load}
use Rattle.loader.specs.Taking.{TakeLine}

-- ---- two loads

-- demand 3, first half: two texts that are the same through the LF of the line at which the first load stops;
-- text behind it and old contents of page and marks may differ
abbrev pub NonInterference : Type 0
NonInterference =
    (text₁ text₂ : List ℕ) (first : ℕ) (page₁ marks₁ page₂ marks₂ : List ℕ)
    → length page₁ ≡ length page₂ → length marks₁ ≡ length marks₂
    → (line : ℕ) (v : Verdict) → stopping text₁ first page₁ marks₁ ≡ some (by line v)
    → (head : List ℕ) → through line text₁ ≡ some head → through line text₂ ≡ some head
    → Alike (load text₁ first page₁ marks₁) (load text₂ first page₂ marks₂)

-- ---- one load

-- demand 3, second half: of one accepted load, at each place of the window
abbrev pub WhatIsStored : Type 0
WhatIsStored =
    (text : List ℕ) (first : ℕ) (page marks : List ℕ) (tally : Tally)
    → let l = load text first page marks in
    l.answer ≡ accepted tally → (i : ℕ) → i < length page
    → OwedAt (placements text) (first + i) (slice_index page i) (mark_at l.marks i) (slice_index l.page i)

-- which leaves nothing open
abbrev pub OwedAtUnique : Type 0
OwedAtUnique =
    (ps : List Placement) (address old mark mark' byte byte' : ℕ)
    → OwedAt ps address old mark byte → OwedAt ps address old mark' byte' → (mark ≡ mark') × (byte ≡ byte')

abbrev pub RefusalChangesNothing : Type 0
RefusalChangesNothing =
    (text : List ℕ) (first : ℕ) (page marks : List ℕ) (r : Refusal) (line : ℕ)
    → let l = load text first page marks in
    l.answer ≡ refused r line → (l.page ≡ page) × (l.marks ≡ marks)

abbrev pub SizesKept : Type 0
SizesKept =
    (text : List ℕ) (first : ℕ) (page marks : List ℕ)
    → let l = load text first page marks in (length l.page ≡ length page) × (length l.marks ≡ length marks)

-- ---- why a load answers as it does, said of the text's lines

-- a reason for an answer
abbrev pub Why : (text : List ℕ) (first : ℕ) (page marks : List ℕ) → Verdict → Type 0
Why text first page marks = reasons.Why intel account text first page marks

-- each answer has one
abbrev pub Reasons : Type 0
Reasons = LoadReasons intel account

-- and no other answer has one: each refusal is given exactly when its reason holds
abbrev pub OneReason : Type 0
OneReason = LoadOneReason intel account

-- so it is through a window table
abbrev pub ReasonsByTable : Type 0
ReasonsByTable = TableReasons intel account

abbrev pub OneReasonByTable : Type 0
OneReasonByTable = TableOneReason intel account

-- a load that is refused with 2 gives the number of a line that has an offender, and names the first one's place there
abbrev pub LoadNamesTheOffender : Type 0
LoadNamesTheOffender =
    (text : List ℕ) (first : ℕ) (page marks : List ℕ) (r : Refusal) (n : ℕ) → (load text first page marks).answer ≡ refused r n → number_of r ≡ 2
    → (place : ℕ) × Offends text n place × (r ≡ contains_invalid_characters (named place))

-- a load gives 13, 16 or what a line gives, `line_refusals` of `intel`; through a table 23 takes the place of 16
abbrev pub Total : Type 0
Total = (text : List ℕ) (first : ℕ) (page marks : List ℕ) → Among (13 ∷ 16 ∷ line_refusals) (load text first page marks).answer

abbrev pub TotalByTable : Type 0
TotalByTable =
    (owner : ℕ) (rows : List Row) (text pool marks : List ℕ) → Among (13 ∷ 23 ∷ line_refusals) (load_table intel owner rows text pool marks).answer

-- ---- the contract

-- no second answer, and no second page or marks, meets the contract
abbrev pub LoadTableUnique : Type 0
LoadTableUnique =
    (owner : ℕ) (rows : List Row) (text pool marks : List ℕ) (r r' : Loading) (p p' m m' : List ℕ)
    → LoadTable intel owner rows text pool marks r p m → LoadTable intel owner rows text pool marks r' p' m' → (r ≡ r') × (p ≡ p') × (m ≡ m')

abbrev pub LoadUnique : Type 0
LoadUnique =
    (text : List ℕ) (first : ℕ) (page marks : List ℕ) (r r' : Loading) (p p' m m' : List ℕ)
    → Load text first page marks r p m → Load text first page marks r' p' m' → (r ≡ r') × (p ≡ p') × (m ≡ m')

-- so it is with a line that is taken, of marks that are bytes
abbrev pub TakeLineUnique : Type 0
TakeLineUnique =
    (line : List ℕ) (n : ℕ) (base : Base) (tally : CodeTally) (first : ℕ) (page marks : List ℕ) (r r' : Taken) (p p' m m' : List ℕ) → Bytes marks
    → TakeLine line n base tally first page marks r p m → TakeLine line n base tally first page marks r' p' m' → (r ≡ r') × (p ≡ p') × (m ≡ m')

-- ---- examples

-- document 01's load, each line with its LF
abbrev pub example : List ℕ
example = text ":020000021200EA" ++ (LF ∷ text ":010005007783") ++ (LF ∷ text ":00000001FF") ++ (LF ∷ [])

-- a record that goes on behind the offset FFFF, with no extension ahead of it
abbrev pub beyond : List ℕ
beyond = text ":02FFFF00AABB9B" ++ (LF ∷ text ":00000001FF")

-- a start in capitals, the same in small letters, and the end
abbrev pub starts_twice : List ℕ
starts_twice = text ":0400000300AB00CD81" ++ (LF ∷ text ":0400000300ab00cd81") ++ (LF ∷ text ":00000001FF")

pub record Examples : Type 0 where
  pub sixth_place : load example 0x12000 (replicate 8 9) (0x81 ∷ [])
      ≡ record {
        answer = accepted (record { records = 1; start = none });
        page = 9 ∷ 9 ∷ 9 ∷ 9 ∷ 9 ∷ 0x77 ∷ 9 ∷ 9 ∷ [];
        marks = 0x20 ∷ [];
      }
  -- 6 places, and a text of the end record alone: unused bits that were set are 0 then
  pub unused_bits : load (text ":00000001FF") 0 (replicate 6 9) (0xFF ∷ []) ≡ record { answer = accepted (record { records = 0; start = none }); page = replicate 6 9; marks = 0 ∷ [] }
  pub below_it : stopping example 0x12006 (replicate 2 9) (7 ∷ []) ≡ some (by 2 (refused (outside_window 0x12005) 2))
  -- the same start twice, in both letter cases, is one start
  pub same_twice : stopping starts_twice 0 [] [] ≡ some (by 3 (accepted (record { records = 0; start = some (cs_with_ip 0xAB 0xCD) })))
  -- the same place stated as CS with IP and as a linear address
  pub two_kinds : stopping (text ":04000003000000CD2C" ++ (LF ∷ text ":04000005000000CD2A")) 0 [] [] ≡ some (by 2 (refused start_conflict 2))
  -- 16 times 1000 and 16 times 0FFF with 10 are one address, but not one start
  pub two_segments : stopping (text ":0400000310000000E9" ++ (LF ∷ text ":040000030FFF0010DB")) 0 [] [] ≡ some (by 2 (refused start_conflict 2))
  pub wraps : placements beyond ≡ record { address = 0xFFFF; byte = 0xAA } ∷ record { address = 0; byte = 0xBB } ∷ []
