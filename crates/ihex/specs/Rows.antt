-- Calls of `ihex_next_chunk`, `ihex_finish` and `ihex_shown`, chunk after chunk, and what is claimed of them, proved in `proofs/Rows.antt`.
-- Assumes nothing.
use Rattle.std.specs.Prelude.{ℕ, ◌+◌, ◌^◌, ◌≤◌, ◌<◌, ◌≡◌, ◌≢◌, ◌⊎◌, ◌↔◌, true, List, [], map, eqb, ltb, length, take, drop}
use Rattle.std.proofs.Math.Option.{Option, none, some}
use Rattle.digits.specs.Common.{Every, pasted}
use Rattle.std.specs.Prelude.{if◌then◌else◌}
use Rattle.reader.specs.declared.ReaderOptions.{ReaderOptions}
use Rattle.reader.specs.Lines.{lines, through}
use Rattle.reader.specs.Row.{sayings, stopped}
use Rattle.reader.specs.Calls.{Call}
use Rattle.chunks.specs.declared.Chunks.{Chunks}
use Rattle.chunks.specs.declared.Place.{Place}
use Rattle.chunks.specs.Next.{new_chunks, Outcome, next_outcome, finish_outcome}
use Rattle.chunks.specs.Rows.{joined, Seen, Heard, FedBy, numbered, showing}
use Rattle.chunks.specs.Claims.{TooSmall, Alike, nth_line}
use Rattle.codes.specs.Codes.{DONE, USED_UP, POOL_FULL, CARRY_TOO_SMALL}
use Rattle.codes.specs.States.{chunks_of, chunk_flags_of, place_of}
use Rattle.codes.specs.Claims.{FourFlagsRead}
use Rattle.ihex.specs.Entries.{buffer_of, ChunkRead, IhexShown}
use Rattle.ihex.specs.Calls.{Returned, in_numbers}
use Rattle.ihex.specs.Readings.{FromTheBeginning}

-- ---- a call

-- the numbers that come back: the code and its values, the six of the state, the three of the place
pub record Back : Type 0 where
  pub code : ℕ
  pub a : ℕ
  pub b : ℕ
  pub c : ℕ
  pub position : ℕ
  pub line : ℕ
  pub empties : ℕ
  pub used : ℕ
  pub skipped : ℕ
  pub flags : ℕ
  pub lies : ℕ
  pub from : ℕ
  pub len : ℕ

-- the contract of `ihex_next_chunk` and `ihex_finish`, on those numbers
abbrev pub ReadBack : Outcome → (chunk : List ℕ) → Back → (carry' pool' : List ℕ) → Type 0
ReadBack o chunk x carry' pool' =
    ChunkRead o chunk x.code x.position x.line x.empties x.used x.skipped x.flags x.lies x.from x.len x.a x.b x.c carry' pool'

-- the state and the place in them
abbrev pub state_back : Back → Chunks
state_back x = chunks_of x.position x.line x.empties x.used x.skipped x.flags

abbrev pub place_back : Back → Place
place_back x = place_of x.lies x.from x.len

-- a call of either, from a state
abbrev pub Either : (s : Chunks) (chunk carry pool : List ℕ) (at : ℕ) → Back → (carry' pool' : List ℕ) → Type 0
Either s chunk carry pool at x carry' pool' =
    ReadBack (next_outcome s chunk carry pool at) chunk x carry' pool' ⊎ ReadBack (finish_outcome s carry pool at) [] x carry' pool'

-- ---- a row of calls

-- what a caller takes down of an answer: what the call returned and left, and the line that `ihex_shown` names then
pub record Noted : Type 0 where
  pub returned : Returned
  pub shown : List ℕ

abbrev pub noted : Seen → Noted
noted x = record { returned = in_numbers x.given; shown = x.shown }

-- IHEX_USED_UP is not taken down
abbrev pub note_of : Back → (pool shown : List ℕ) → Option Noted
note_of x pool shown =
    if eqb x.code USED_UP then none else
    some (record { returned = record { code = x.code; a = x.a; b = x.b; c = x.c; line = x.line; pool = pool }; shown = shown })

-- A call of `ihex_next_chunk` or `ihex_finish`, and one of `ihex_shown` at the place that came back: all that is known of them is their
-- contracts. The caller hands on the six numbers that came back.
pub record Entered (o : Outcome) (chunk : List ℕ) (h : Heard Noted) : Type 0 where
  pub back : Back
  pub pool : List ℕ
  pub start : ℕ
  pub n : ℕ
  pub read : ReadBack o chunk back h.carry pool
  pub shows : IhexShown (place_back back) chunk h.carry start n
  pub note_is : h.note ≡ note_of back pool (take n (drop start (buffer_of (place_back back) chunk h.carry)))
  pub state_is : h.state ≡ state_back back

-- `ihex_next_chunk` at the first chunk until it is used up, then at the one after it, and `ihex_finish` where there is none
abbrev pub IhexFed : (s : Chunks) (carry : List ℕ) (chunks : List (List ℕ)) → List Call → List Noted → Type 0
IhexFed s carry chunks calls notes = FedBy Entered s carry chunks calls notes

-- from the beginning of a text: a state of 0 in all but the flags, which are the stops, and a carry of 522 bytes or more with anything in it
pub record FedFromTheBeginning (options : ReaderOptions) (carry : List ℕ) (chunks : List (List ℕ)) (calls : List Call) (notes : List Noted) : Type 0 where
  pub big : 522 ≤ length carry
  pub fed : IhexFed (chunks_of 0 0 0 0 0 (chunk_flags_of (new_chunks options))) carry chunks calls notes

-- wherever the cuts fall: the row over the lines of the joined chunks, in numbers
abbrev pub IhexAnyCuts : Type 0
IhexAnyCuts =
    (options : ReaderOptions) (carry : List ℕ) (chunks : List (List ℕ)) (calls : List Call) (notes : List Noted)
    → FedFromTheBeginning options carry chunks calls notes → notes ≡ map noted (showing options 0 (numbered 1 (lines (joined chunks))) calls)

-- the calls return and leave what those of `ihex_next` do over the joined chunks, with the same pools and positions: codes, values, line
-- numbers, pools
abbrev pub IhexSameRow : Type 0
IhexSameRow =
    (options : ReaderOptions) (carry : List ℕ) (chunks : List (List ℕ)) (calls : List Call) (notes : List Noted) (returns : List Returned) → length (joined chunks) < 2 ^ 64
    → FedFromTheBeginning options carry chunks calls notes → FromTheBeginning options (joined chunks) calls returns → map (λ (x : Noted). x.returned) notes ≡ returns

-- after a record, whose code is its type, the line shown is the line that gave it, byte for byte; nothing is shown after any other answer
abbrev pub IhexShowsTheLine : Type 0
IhexShowsTheLine =
    (options : ReaderOptions) (carry : List ℕ) (chunks : List (List ℕ)) (calls : List Call) (notes : List Noted) → length (joined chunks) < 2 ^ 64
    → FedFromTheBeginning options carry chunks calls notes
    → Every (λ (x : Noted). x.shown ≡ (if ltb x.returned.code 6 then nth_line (joined chunks) x.returned.line else [])) notes

-- a note without what the pool holds
abbrev pub without_pool : Noted → Noted
without_pool x =
    let r = x.returned in record { returned = record { code = r.code; a = r.a; b = r.b; c = r.c; line = r.line; pool = [] }; shown = x.shown }

-- two texts that are the same through the LF of line k, by which the reader has stopped, cut anywhere, with any old bytes in carries and
-- in pools of the same sizes: the same codes, values, line numbers and lines shown
abbrev pub IhexNothingElse : Type 0
IhexNothingElse =
    (options : ReaderOptions) (k : ℕ) (head carry₁ carry₂ : List ℕ) (chunks₁ chunks₂ : List (List ℕ)) (calls₁ calls₂ : List Call) (notes₁ notes₂ : List Noted)
    → Alike calls₁ calls₂ → through k (joined chunks₁) ≡ some head → through k (joined chunks₂) ≡ some head → stopped options (sayings 1 (lines head)) ≡ true
    → FedFromTheBeginning options carry₁ chunks₁ calls₁ notes₁ → FedFromTheBeginning options carry₂ chunks₂ calls₂ notes₂
    → map without_pool notes₁ ≡ map without_pool notes₂

-- ---- calls from any state

-- `ihex_finish` never returns IHEX_USED_UP, and never IHEX_IN_CHUNK in `lies`: the chunk that `ihex_shown` is given then does not matter
abbrev pub IhexFinishAnswers : Type 0
IhexFinishAnswers =
    (s : Chunks) (carry pool : List ℕ) (at : ℕ) (x : Back) (carry' pool' : List ℕ) → ReadBack (finish_outcome s carry pool at) [] x carry' pool'
    → (x.code ≢ USED_UP) × (x.lies ≢ 1)

-- only a data record, whose code is 0, changes the pool: no refusal does
abbrev pub IhexChunkKeeps : Type 0
IhexChunkKeeps =
    (s : Chunks) (chunk carry pool : List ℕ) (at : ℕ) (x : Back) (carry' pool' : List ℕ) → Either s chunk carry pool at x carry' pool' → x.code ≢ 0 → pool' ≡ pool

-- refusal 18 comes before all else and for nothing else, and changes neither the state nor a byte
pub record IhexEighteen (s : Chunks) (carry pool : List ℕ) (x : Back) (carry' pool' : List ℕ) : Type 0 where
  pub exactly : (x.code ≡ CARRY_TOO_SMALL) ↔ TooSmall s carry
  pub keeps : x.code ≡ CARRY_TOO_SMALL → (state_back x ≡ s) × (carry' ≡ carry) × (pool' ≡ pool)

abbrev pub IhexCarryFirst : Type 0
IhexCarryFirst =
    (s : Chunks) (chunk carry pool : List ℕ) (at : ℕ) (x : Back) (carry' pool' : List ℕ) → length carry' ≡ length carry
    → Either s chunk carry pool at x carry' pool' → IhexEighteen s carry pool x carry' pool'

-- IHEX_POOL_FULL keeps the state, five numbers and four flags, the used bytes of the carry and the pool
abbrev pub IhexChunkFullKeeps : Type 0
IhexChunkFullKeeps =
    (s : Chunks) (chunk carry pool : List ℕ) (at : ℕ) (x : Back) (carry' pool' : List ℕ) → Either s chunk carry pool at x carry' pool' → x.code ≡ POOL_FULL
    → (state_back x ≡ s) × (take s.used carry' ≡ take s.used carry) × (pool' ≡ pool)

-- the same call with room then gives the record: 0, its offset, the position in the pool and the payload's length, with the payload there
pub record IhexGivesThen (s : Chunks) (chunk carry : List ℕ) (call : (carry pool : List ℕ) (at : ℕ) → Outcome) : Type 0 where
  pub offset : ℕ
  pub bytes : List ℕ
  pub few : length bytes ≤ 255
  pub with_room : (carry₂ pool₂ : List ℕ) (at₂ : ℕ) (y : Back) (carry' pool' : List ℕ) → 522 ≤ length carry₂ → take s.used carry₂ ≡ take s.used carry
      → at₂ + length bytes ≤ length pool₂ → ReadBack (call carry₂ pool₂ at₂) chunk y carry' pool'
      → ((y.code ≡ 0) × (y.a ≡ offset) × (y.b ≡ at₂) × (y.c ≡ length bytes)) × (pool' ≡ pasted pool₂ at₂ bytes)

abbrev pub IhexChunkFullThenRoom : Type 0
IhexChunkFullThenRoom =
    (s : Chunks) (chunk carry pool : List ℕ) (at : ℕ) (x : Back) (carry' pool' : List ℕ) → x.code ≡ POOL_FULL
    → (ReadBack (next_outcome s chunk carry pool at) chunk x carry' pool' → IhexGivesThen s chunk carry (next_outcome s chunk))
    × (ReadBack (finish_outcome s carry pool at) [] x carry' pool' → IhexGivesThen s [] carry (finish_outcome s))

-- in a state whose text has ended each call returns IHEX_DONE, but for 18, and changes neither the state nor a byte
abbrev pub IhexChunkOnlyDone : Chunks → Type 0
IhexChunkOnlyDone s =
    (chunk carry pool : List ℕ) (at : ℕ) (x : Back) (carry' pool' : List ℕ) → 522 ≤ length carry → length carry' ≡ length carry
    → Either s chunk carry pool at x carry' pool' → (x.code ≡ DONE) × (state_back x ≡ s) × (carry' ≡ carry) × (pool' ≡ pool)

-- `ihex_finish` ends the text, unless it returns 18 or IHEX_POOL_FULL
abbrev pub IhexFinishEnds : Type 0
IhexFinishEnds =
    (s : Chunks) (carry pool : List ℕ) (at : ℕ) (x : Back) (carry' pool' : List ℕ) → ReadBack (finish_outcome s carry pool at) [] x carry' pool'
    → x.code ≢ CARRY_TOO_SMALL → x.code ≢ POOL_FULL → IhexChunkOnlyDone (state_back x)

-- once IHEX_DONE, always IHEX_DONE
abbrev pub IhexChunkDoneStays : Type 0
IhexChunkDoneStays =
    (s : Chunks) (chunk carry pool : List ℕ) (at : ℕ) (x : Back) (carry' pool' : List ℕ) → Either s chunk carry pool at x carry' pool'
    → x.code ≡ DONE → IhexChunkOnlyDone (state_back x)

-- of the flags only the first four bits are read, and the others are 0 at exit
pub record FlagsOfFour : Type 0 where
  pub others_not_read : FourFlagsRead
  pub others_zero : (s : Chunks) (chunk carry pool : List ℕ) (at : ℕ) (x : Back) (carry' pool' : List ℕ) → Either s chunk carry pool at x carry' pool' → x.flags < 16

-- ---- the line at a place

-- `ihex_shown` returns 0, and 0 in start, for any `lies` but IHEX_IN_CHUNK and IHEX_IN_CARRY, and for a `from` over the chunk's length
abbrev pub IhexShownNone : Type 0
IhexShownNone =
    (lies from len : ℕ) (chunk carry : List ℕ) (start r : ℕ) → IhexShown (place_of lies from len) chunk carry start r
    → ((lies ≢ 1) × (lies ≢ 2)) ⊎ ((lies ≡ 1) × (length chunk < from)) → (start ≡ 0) × (r ≡ 0)
