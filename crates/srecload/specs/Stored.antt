-- What a load of S-records stores, said of the text's lines: byte i of a data record lies at (address + i) modulo 2^32. Document 02, wish 9.
-- Each claim is proved in `proofs/Stored.antt`.
-- Assumes nothing.
use Rattle.std.specs.Prelude.{◌≡◌, ℕ, ◌+◌, ◌%◌, ◌^◌, ◌<◌, true, ◌≢◌, List, [], ◌∷◌, ◌++◌, length, get_or, slice_index, slice_index_or}
use Rattle.std.proofs.Math.Option.{some}
use Rattle.digits.specs.Common.{Every}
use Rattle.record.specs.Refusals.{outside_window}
use Rattle.reader.specs.Lines.{lines}
use Rattle.marks.specs.Marks.{mark_at}
use Rattle.steps.specs.Steps.{Tally, accepted, refused}
use Rattle.steps.specs.Sites.{Loaded}
use Rattle.steps.specs.Puts as puts
use Rattle.window.specs.Window.{within}
use Rattle.srecload.specs.Placing.{s_data, s_end}
use Rattle.srecload.specs.Load.{load}
use Rattle.srecload.specs.Claims.{record_on}

-- on line n (the first is 0) stands a data record, S1 to S3, and its byte i lies at the address
pub record Puts (ls : List (List ℕ)) (n i address byte : ℕ) : Type 0 where
  pub start : ℕ
  pub bytes : List ℕ
  pub there : record_on (slice_index_or ls n []) ≡ some (s_data start bytes)
  pub inside : i < length bytes
  pub holds : get_or bytes i 0 ≡ byte
  pub at : address ≡ (start + i) % 2 ^ 32

-- the last byte that is put at the address
abbrev pub LastPut : (ls : List (List ℕ)) (address byte : ℕ) → Type 0
LastPut ls address byte = puts.LastPut (λ n i b. Puts ls n i address b) byte

-- what an accepted load owes a place, from the lines before the end: its address, its byte before, its mark and its byte after
abbrev pub Owed : (ahead : List (List ℕ)) (address old mark byte : ℕ) → Type 0
Owed ahead address old mark byte = puts.OwedPut (λ n i b. Puts ahead n i address b) old mark byte

-- which leaves nothing open
abbrev pub OwedUnique : Type 0
OwedUnique =
    (ahead : List (List ℕ)) (address old mark mark' byte byte' : ℕ)
    → Owed ahead address old mark byte → Owed ahead address old mark' byte' → (mark ≡ mark') × (byte ≡ byte')

-- no end, S7 to S9
abbrev pub NoEnd : (line : List ℕ) → Type 0
NoEnd line = (address : ℕ) → record_on line ≢ some (s_end address)

-- the lines before the first end put every byte inside this window, and the load leaves each place the mark and the byte that it owes
pub record Stored (text : List ℕ) (first : ℕ) (page : List ℕ) (l : Loaded) : Type 0 where
  pub ahead : List (List ℕ)
  pub end : List ℕ
  pub later : List (List ℕ)
  pub whole : lines text ≡ ahead ++ (end ∷ later)
  pub ends : (address : ℕ) × (record_on end ≡ some (s_end address))
  pub none_ahead : Every NoEnd ahead
  pub inside : (n i a b : ℕ) → Puts ahead n i a b → within first (length page) a ≡ true
  pub places : (i : ℕ) → i < length page → Owed ahead (first + i) (slice_index page i) (mark_at l.marks i) (slice_index l.page i)

abbrev pub StoredByLines : Type 0
StoredByLines =
    (text : List ℕ) (first : ℕ) (page marks : List ℕ) (tally : Tally)
    → let l = load text first page marks in
    l.answer ≡ accepted tally → Stored text first page l

-- the first byte that lines put outside a window, on a line whose number counts from 1
abbrev pub FirstOutside : (ls : List (List ℕ)) (first size address line : ℕ) → Type 0
FirstOutside ls first size address line = puts.FirstOut (within first size) (Puts ls) address line

-- refusal 17 names it
abbrev pub OutsideByLines : Type 0
OutsideByLines =
    (text : List ℕ) (first : ℕ) (page marks : List ℕ) (address line : ℕ)
    → (load text first page marks).answer ≡ refused (outside_window address) line → FirstOutside (lines text) first (length page) address line
