-- One dump upon another: document 02's eighth wish, of Intel's records in one window. The joined text is what stands in A before the line of its
-- end record, the line `:020000020000FC` with a LF, and B. Each claim is proved in `proofs/Joined.antt`: the same name, in small letters.
-- Assumes nothing.
use Rattle.std.specs.Prelude.{◌≡◌, ℕ, suc, ◌+◌, ◌<◌, max, ◌⊎◌, ◌↔◌, List, [], ◌∷◌, ◌++◌, length, replicate, slice_index}
use Rattle.std.proofs.Math.Option.{none, some}
use mathlib.Core.List.{Memᴰ}
use Rattle.digits.specs.Common.{Every, text}
use Rattle.record.specs.Refusals.{checksum_mismatch, missing_end_of_file_record, start_conflict}
use Rattle.record.specs.Meaning.{end_of_file}
use Rattle.reader.specs.Lines.{LF, CR, lines}
use Rattle.marks.specs.Marks.{mark_at}
use Rattle.steps.specs.Steps.{Placement, linear_address, Tally, Verdict, accepted, refused}
use Rattle.steps.specs.Sites.{Loaded, Stated, LastStated}
use Rattle.steps.specs.Join as join
use Rattle.steps.specs.Join.{WholeLines, Joinable, together, Agreeing, after_verdict, AnsweredAfter}
use Rattle.window.specs.Claims.{Window}
use Rattle.window.specs.Load.{room_of}
use Rattle.intel.specs.Placing.{intel, placements}
use Rattle.loader.specs.Load.{load}
use Rattle.intel.specs.Lines.{record_on, start_on}
use Rattle.loader.specs.Claims.{beyond}

-- ---- the joined text

-- the bytes of a text before the line of its end record, as they are
abbrev pub before_end : (text : List ℕ) → List ℕ
before_end text = join.before_end intel text

-- the line that brings back the base that holds before any extension record
abbrev pub reset : List ℕ
reset = text ":020000020000FC"

-- A before its end record, that line with a LF, then B
abbrev pub joined : (a b : List ℕ) → List ℕ
joined a b = before_end a ++ (reset ++ (LF ∷ b))

-- Intel's records and that line are fit for joining
abbrev pub MayBeJoined : Type 0
MayBeJoined = Joinable intel reset

-- ---- the end record

-- the judge takes the line for an end record, however it is written
abbrev pub EndRecord : (line : List ℕ) → Type 0
EndRecord line = record_on line ≡ some end_of_file

-- a beginning of the text, as it is, made of whole lines of which none is an end record; the next line is one
pub record BeforeEnd (text before : List ℕ) : Type 0 where
  pub rest : List ℕ
  pub whole : text ≡ before ++ rest
  pub whole_lines : WholeLines before
  pub none_before : Every (λ (line : List ℕ). ¬ EndRecord line) (lines before)
  pub line : List ℕ
  pub later : List (List ℕ)
  pub next : lines rest ≡ line ∷ later
  pub is_end : EndRecord line

-- `before_end` is such for each text that has an end record, and nothing else is
abbrev pub BeforeEndMadeSo : Type 0
BeforeEndMadeSo = (text line : List ℕ) → Memᴰ line (lines text) → EndRecord line → BeforeEnd text (before_end text)

abbrev pub BeforeEndOnlySo : Type 0
BeforeEndOnlySo = (text before : List ℕ) → BeforeEnd text before → before ≡ before_end text

-- each accepted text has an end record
abbrev pub AcceptedHasEnd : Type 0
AcceptedHasEnd =
    (text : List ℕ) (first : ℕ) (page marks : List ℕ) (tally : Tally) → (load text first page marks).answer ≡ accepted tally
    → (line : List ℕ) × Memᴰ line (lines text) × EndRecord line

-- ---- the answer

-- the answer goes by the lengths of page and marks, and not by what they hold
abbrev pub AnswerByLengths : Type 0
AnswerByLengths =
    (text : List ℕ) (first : ℕ) (page marks page' marks' : List ℕ) → length page ≡ length page' → length marks ≡ length marks'
    → (load text first page marks).answer ≡ (load text first page' marks').answer

-- if A is accepted, the joined text is accepted exactly when B is and no start of B differs from A's. Counts add, and the start is A's, or else B's.
abbrev pub JoinedAccepted : Type 0
JoinedAccepted =
    (first : ℕ) (a b page marks : List ℕ) (ta tj : Tally) → (load a first page marks).answer ≡ accepted ta
    → ((load (joined a b) first page marks).answer ≡ accepted tj)
    ↔ ((tb : Tally) × ((load b first page marks).answer ≡ accepted tb) × Agreeing ta.start tb.start × (tj ≡ together ta tb))

-- B, loaded into this window, comes to a start other than A's on its line n
abbrev pub MeetsAnother : (first : ℕ) (page marks : List ℕ) → Tally → (b : List ℕ) (n : ℕ) → Type 0
MeetsAnother first page marks ta b n = join.MeetsAnother intel (room_of first page marks) ta b n

-- how many lines stand before B in the joined text: A's before its end record, and one more
abbrev pub lines_before_B : (a : List ℕ) → ℕ
lines_before_B a = suc (length (lines (before_end a)))

-- if A is accepted, the joined text is answered as B is, after those lines: a refusal has its values and its moved line, and 0, where no line is
-- named, stays 0. But where B comes to a start other than A's it is 21 at that line, moved likewise.
abbrev pub JoinedAnswered : Type 0
JoinedAnswered =
    (first : ℕ) (a b page marks : List ℕ) (ta : Tally) → (load a first page marks).answer ≡ accepted ta
    → AnsweredAfter (lines_before_B a) ta (MeetsAnother first page marks ta b) (load b first page marks).answer (load (joined a b) first page marks).answer

-- that leaves nothing open
abbrev pub JoinedOneAnswer : Type 0
JoinedOneAnswer =
    (first : ℕ) (a b page marks : List ℕ) (ta : Tally) (v : Verdict) → (load a first page marks).answer ≡ accepted ta
    → AnsweredAfter (lines_before_B a) ta (MeetsAnother first page marks ta b) (load b first page marks).answer v
    → v ≡ (load (joined a b) first page marks).answer

-- so where A states no start, or no line of B states one, the answer is B's, after A's tally and those lines
abbrev pub JoinedWithOneStart : Type 0
JoinedWithOneStart =
    (first : ℕ) (a b page marks : List ℕ) (ta : Tally) → (load a first page marks).answer ≡ accepted ta
    → (ta.start ≡ none) ⊎ Every (λ (line : List ℕ). start_on line ≡ none) (lines b)
    → (load (joined a b) first page marks).answer ≡ after_verdict (lines_before_B a) ta (load b first page marks).answer

-- ---- page and marks

-- if A is accepted, the joined text states what A states, then what B states
abbrev pub JoinedStates : Type 0
JoinedStates =
    (first : ℕ) (a b page marks : List ℕ) (ta : Tally) → (load a first page marks).answer ≡ accepted ta
    → placements (joined a b) ≡ placements a ++ placements b

-- a load upon another, and one load of both: the same page; and at every bit, used or unused, the union of both marks
pub record Upon (first second both : Loaded) : Type 0 where
  pub pages : both.page ≡ second.page
  pub marks : (p : ℕ) → mark_at both.marks p ≡ max (mark_at first.marks p) (mark_at second.marks p)

-- if both are accepted and their starts agree, loading A and then B leaves the same page as loading the joined text, whose marks are the union of
-- both loads' marks. The old page may be any, and so may the old marks of each of the three loads.
abbrev pub OneUponAnother : Type 0
OneUponAnother =
    (first : ℕ) (a b page ma mb mj : List ℕ) (ta tb : Tally) → length mj ≡ length ma
    → let la = load a first page ma in
    let lb = load b first la.page mb in
    let lj = load (joined a b) first page mj in
    la.answer ≡ accepted ta → lb.answer ≡ accepted tb → Agreeing ta.start tb.start → (lj.answer ≡ accepted (together ta tb)) × Upon la lb lj

-- what a panel sees at a place: of one that B states, the last byte that B states there; of one that only A states, A's; of any other, the old one
pub data Seen (a b : List Placement) (address old : ℕ) : (byte : ℕ) → Type 0 where
  from_B : (byte : ℕ) → LastStated address byte b → Seen a b address old byte
  from_A : (byte : ℕ) → (¬ Stated address b) → LastStated address byte a → Seen a b address old byte
  as_before : (¬ Stated address b) → (¬ Stated address a) → Seen a b address old old

-- at each place of the window: after A and then B, and, if their starts agree, after the joined text
abbrev pub WhatAPanelSees : Type 0
WhatAPanelSees =
    (first : ℕ) (a b page ma mb mj : List ℕ) (ta tb : Tally) → length mj ≡ length ma
    → let la = load a first page ma in
    let lb = load b first la.page mb in
    let lj = load (joined a b) first page mj in
    let sees : (byte i : ℕ) → Type 0 = λ byte i. Seen (placements a) (placements b) (first + i) (slice_index page i) byte in
    la.answer ≡ accepted ta → lb.answer ≡ accepted tb → (i : ℕ) → i < length page
    → sees (slice_index lb.page i) i × (Agreeing ta.start tb.start → sees (slice_index lj.page i) i)

-- ---- groupings

-- three dumps, of which the first two are accepted, in whatever windows, may be joined in either grouping: the texts are the same
abbrev pub EitherGrouping : Type 0
EitherGrouping =
    (a b c : List ℕ) (first : ℕ) (page marks : List ℕ) (ta : Tally) (first' : ℕ) (page' marks' : List ℕ) (tb : Tally)
    → (load a first page marks).answer ≡ accepted ta → (load b first' page' marks').answer ≡ accepted tb
    → joined (joined a b) c ≡ joined a (joined b c)

-- ---- nothing stated

-- an accepted dump that states nothing changes no page byte and clears all marks, unused bits too
abbrev pub NothingStated : Type 0
NothingStated =
    (text : List ℕ) (first : ℕ) (page marks : List ℕ) (tally : Tally)
    → let l = load text first page marks in
    l.answer ≡ accepted tally → placements text ≡ [] → (l.page ≡ page) × (l.marks ≡ replicate (length marks) 0)

abbrev pub end_record : List ℕ
end_record = text ":00000001FF"

-- the end record alone, without its LF and with it
abbrev pub EndAlone : Type 0
EndAlone =
    (first : ℕ) (page marks : List ℕ) → Window first page marks
    → let left : Loaded = record { answer = accepted (record { records = 0; start = none }); page = page; marks = replicate (length marks) 0 } in
    (load end_record first page marks ≡ left) × (load (end_record ++ (LF ∷ [])) first page marks ≡ left)

-- ---- examples

-- the byte 55 at 0, with CR LF, an empty line, an end record with an address, and text after it
abbrev pub large : List ℕ
large = text ":0100000055AA" ++ (CR ∷ LF ∷ LF ∷ text ":00123401B9") ++ (LF ∷ text ":00000001FF")

-- the byte 77 at 1
abbrev pub small : List ℕ
small = text ":010001007787" ++ (LF ∷ end_record)

-- the byte 55 at 10000, under a type 04 that is left in force
abbrev pub based : List ℕ
based = text ":020000040001F9" ++ (LF ∷ text ":0100000055AA") ++ (LF ∷ end_record)

-- a wrong checksum on line 1
abbrev pub wrong_sum : List ℕ
wrong_sum = text ":010001007788" ++ (LF ∷ end_record)

-- a linear start
abbrev pub starting : List ℕ
starting = text ":04000005000000CD2A" ++ (LF ∷ end_record)

pub record Examples : Type 0 where
  pub ends_by_the_judge : before_end large ≡ text ":0100000055AA" ++ (CR ∷ LF ∷ LF ∷ [])
  pub text_is : joined large small
      ≡ text ":0100000055AA" ++ (CR ∷ LF ∷ LF ∷ text ":020000020000FC") ++ (LF ∷ text ":010001007787") ++ (LF ∷ text ":00000001FF")
  -- marks 01 and 02 make 03
  pub one_load : load (joined large small) 0 (replicate 4 9) (0 ∷ []) ≡ record { answer = accepted (record { records = 2; start = none }); page = 0x55 ∷ 0x77 ∷ 9 ∷ 9 ∷ []; marks = 3 ∷ [] }
  pub the_first : load large 0 (replicate 4 9) (0 ∷ []) ≡ record { answer = accepted (record { records = 1; start = none }); page = 0x55 ∷ 9 ∷ 9 ∷ 9 ∷ []; marks = 1 ∷ [] }
  pub the_second : load small 0 (0x55 ∷ 9 ∷ 9 ∷ 9 ∷ []) (0 ∷ []) ≡ record { answer = accepted (record { records = 1; start = none }); page = 0x55 ∷ 0x77 ∷ 9 ∷ 9 ∷ []; marks = 2 ∷ [] }
  -- line 1 of B is line 4 of the joined text; refusal 13 names no line
  pub later_line : (load (joined large wrong_sum) 0 (replicate 4 9) (0 ∷ [])).answer ≡ refused (checksum_mismatch 0x87 0x88) 4
  -- A's start, then another on line 1 of B; and the same again
  pub other_start : (load (joined starting (text ":04000005000000CE29" ++ (LF ∷ end_record))) 0 [] []).answer ≡ refused start_conflict 3
  pub one_start : (load (joined starting starting) 0 [] []).answer ≡ accepted (record { records = 0; start = some (linear_address 0xCD) })
  pub no_line : (load (joined large []) 0 (replicate 4 9) (0 ∷ [])).answer ≡ refused missing_end_of_file_record 0
  -- the line between them matters: without it B's byte goes to A's base
  pub with_the_line : placements (joined based small) ≡ record { address = 0x10000; byte = 0x55 } ∷ record { address = 1; byte = 0x77 } ∷ []
  pub without_it : placements (before_end based ++ small) ≡ record { address = 0x10000; byte = 0x55 } ∷ record { address = 0x10001; byte = 0x77 } ∷ []
  -- and it is not `:020000040000FA`: a record across the offset FFFF tells them apart
  pub in_a_segment : placements (joined end_record beyond) ≡ record { address = 0xFFFF; byte = 0xAA } ∷ record { address = 0; byte = 0xBB } ∷ []
  pub under_type_04 : placements (join.joined intel (text ":020000040000FA") end_record beyond) ≡ record { address = 0xFFFF; byte = 0xAA } ∷ record { address = 0x10000; byte = 0xBB } ∷ []
