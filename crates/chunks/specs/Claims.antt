-- What is claimed of the chunk reader beyond its contracts, and proved in `proofs/Claims.antt`, `proofs/Brief.antt` and `proofs/Calls.antt`.
-- Assumes nothing.
use Rattle.std.specs.Prelude.{◌≡◌, ℕ, ◌+◌, ◌-◌, ◌^◌, ◌<◌, ◌≤◌, true, false, ◌≢◌, ◌⊎◌, List, [], ◌∷◌, ◌++◌, map, length, take, slice_index_or}
use Prim.Native.String.{String}
use Rattle.std.proofs.Math.Option.{none, some}
use Rattle.std.specs.Borrow.{Bor}
use Rattle.digits.specs.Common.{Every, text, pasted}
use Rattle.std.specs.Prelude.{if◌then◌else◌}
use Rattle.record.specs.Refusals.{pool_full, carry_too_small}
use Rattle.digits.specs.Digits.{is_digit, all_digits}
use Rattle.record.specs.Line.{judge}
use Rattle.reader.specs.declared.ReaderOptions.{ReaderOptions}
use Rattle.reader.specs.declared.ReaderError.{ReaderError}
use Rattle.reader.specs.Told.{Told, gives, refuses, done, refusal_of}
use Rattle.reader.specs.Lines.{LF, CR, lines, through}
use Rattle.reader.specs.Row.{sayings, stopped}
use Rattle.reader.specs.Text.{is_full, new_state}
use Rattle.reader.specs.Calls.{Call, Given, Calls}
use Rattle.chunks.specs.declared.Chunks.{Chunks}
use Rattle.chunks.specs.declared.Place.{Place}
use Rattle.chunks.specs.declared.LineStep.{LineStep}
use Rattle.chunks.specs.declared.ChunkStep.{ChunkStep}
use Rattle.chunks.specs.Begun.{Kept, nothing, brief, stands_for, ended, unended, look}
use Rattle.chunks.specs.Next.{tells, word_of, is_record, new_chunks, at_place, Outcome, unchanged, next_outcome, finish_outcome, NextChunk, Finish, NewChunks, Shown}
use Rattle.chunks.specs.Line.{next_line_outcome, last_line_outcome, NextLine, LastLine}
use Rattle.chunks.specs.Helpers.{ReadsLine, refusal_in_line}
use Rattle.chunks.specs.Rows.{joined, Seen, Heard, FedBy, Projects, Fed, numbered, showing}

-- a line that is kept as it is
abbrev pub kept_whole : String → Kept
kept_whole s = record { bytes = text s; skipped = 0 }

-- Some cuts. An end record is cut from its LF behind its CR, which waits; the LF comes, and the record has ended; a CR that waited is a byte
-- of its line where another byte comes; and empty lines are passed and counted; the line behind them begins in this chunk.
pub record Examples : Type 0 where
  pub waits : look 0 nothing (text ":00000001FF" ++ (CR ∷ [])) ≡ unended 0 (record { kept = kept_whole ":00000001FF"; cr = true })
  pub ends : look 0 (record { kept = kept_whole ":00000001FF"; cr = true }) (LF ∷ text ":02") ≡ ended none 0 (kept_whole ":00000001FF") (text ":02")
  pub belongs : look 0 (record { kept = kept_whole ":"; cr = true }) (text "0" ++ (LF ∷ [])) ≡ ended none 0 (record { bytes = 58 ∷ CR ∷ 48 ∷ []; skipped = 0 }) []
  pub passes : look 0 nothing (LF ∷ CR ∷ LF ∷ (text ":0" ++ (LF ∷ []))) ≡ ended (some (text ":0" ++ (LF ∷ []))) 2 (kept_whole ":0") []

-- what is kept of a line is judged as the line is
abbrev pub JudgedAsKept : Type 0
JudgedAsKept = (line : List ℕ) → judge (stands_for (brief line)) ≡ judge line

-- behind 521 bytes, of up to 65,535 digits and one byte more, the digits are left out and counted
abbrev pub LeftOutCounted : Type 0
LeftOutCounted =
    (front digits : List ℕ) (c : ℕ) → length front ≡ 521 → all_digits digits ≡ true → length digits ≤ 65535
    → brief (front ++ (digits ++ (c ∷ []))) ≡ record { bytes = front ++ (c ∷ []); skipped = length digits }

-- and what stands behind a byte that is no digit changes nothing
abbrev pub NothingBehindCounted : Type 0
NothingBehindCounted =
    (front digits more : List ℕ) (c : ℕ) → length front ≡ 521 → all_digits digits ≡ true → is_digit c ≡ false
    → brief (front ++ (digits ++ (c ∷ more))) ≡ brief (front ++ (digits ++ (c ∷ [])))

-- ---- rows of answers

-- calls from a new state, a carry of 522 bytes or more with anything in it, and any chunks: wherever the cuts fall, the row over the
-- lines of the joined chunks, answers, pools, line numbers and lines shown
abbrev pub AnyCuts : Type 0
AnyCuts =
    (options : ReaderOptions) (carry : List ℕ) (chunks : List (List ℕ)) (calls : List Call) (seen : List Seen) → 522 ≤ length carry
    → Fed (new_chunks options) carry chunks calls seen → seen ≡ showing options 0 (numbered 1 (lines (joined chunks))) calls

-- the same of any caller: its notes are what it says of that row
abbrev pub AnyCutsBy : Type 1
AnyCutsBy =
    (A : Type 0) (say : Seen → A) (Known : Outcome → (chunk : List ℕ) → Heard A → Type 0) → Projects say Known
    → (options : ReaderOptions) (carry : List ℕ) (chunks : List (List ℕ)) (calls : List Call) (notes : List A) → 522 ≤ length carry
    → FedBy Known (new_chunks options) carry chunks calls notes → notes ≡ map say (showing options 0 (numbered 1 (lines (joined chunks))) calls)

abbrev pub givens_of : List Seen → List Given
givens_of [] = []
givens_of (x ∷ seen) = x.given ∷ givens_of seen

-- a text that the text reader can be lent: the chunk reader's calls are given what the text reader's calls are given
abbrev pub SameRow : Type 0
SameRow =
    (options : ReaderOptions) (carry : List ℕ) (chunks : List (List ℕ)) (calls : List Call) (seen : List Seen) (givens : List Given)
    → length (joined chunks) < 2 ^ 64 → 522 ≤ length carry
    → Fed (new_chunks options) carry chunks calls seen → Calls (joined chunks) (new_state options) calls givens → givens_of seen ≡ givens

-- the n-th line of a text
abbrev pub nth_line : List ℕ → (n : ℕ) → List ℕ
nth_line text n = slice_index_or (lines text) (n - 1) []

-- what `shown` returns of a place is what a row has as shown there
abbrev pub ShownThere : Type 0
ShownThere = (lies : Place) (chunk carry line : Bor (List ℕ)) → Shown lies chunk carry line → line.now ≡ at_place lies chunk.now carry.now

-- the line shown is the line that gave the record, byte for byte, and nothing is shown after any other answer
abbrev pub ShowsTheLine : Type 0
ShowsTheLine =
    (options : ReaderOptions) (carry : List ℕ) (chunks : List (List ℕ)) (calls : List Call) (seen : List Seen)
    → length (joined chunks) < 2 ^ 64 → 522 ≤ length carry → Fed (new_chunks options) carry chunks calls seen
    → Every (λ (x : Seen). x.shown ≡ (if is_record x.given.told then nth_line (joined chunks) x.given.line else [])) seen

-- ---- what no answer depends on

-- calls with the same positions and with pools of the same sizes
pub data Alike : List Call → List Call → Type 0 where
  none_left : Alike [] []
  one_more : {c₁ c₂ : Call} {cs₁ cs₂ : List Call} → length c₁.pool ≡ length c₂.pool → c₁.at ≡ c₂.at → Alike cs₁ cs₂ → Alike (c₁ ∷ cs₁) (c₂ ∷ cs₂)

-- what is told, the line's number and what is shown; what the pools hold then, payloads too, is `AnyCuts`
abbrev pub without_pools : List Seen → List Seen
without_pools [] = []
without_pools (x ∷ seen) = record { given = record { told = x.given.told; pool = []; line = x.given.line }; shown = x.shown } ∷ without_pools seen

-- two texts that are the same through the LF of line k, by which the reader has stopped, cut anywhere, with any old bytes in carries and pools
abbrev pub NothingElse : Type 0
NothingElse =
    (options : ReaderOptions) (k : ℕ) (head carry₁ carry₂ : List ℕ) (chunks₁ chunks₂ : List (List ℕ)) (calls₁ calls₂ : List Call) (seen₁ seen₂ : List Seen)
    → 522 ≤ length carry₁ → 522 ≤ length carry₂ → Alike calls₁ calls₂
    → through k (joined chunks₁) ≡ some head → through k (joined chunks₂) ≡ some head → stopped options (sayings 1 (lines head)) ≡ true
    → Fed (new_chunks options) carry₁ chunks₁ calls₁ seen₁ → Fed (new_chunks options) carry₂ chunks₂ calls₂ seen₂
    → without_pools seen₁ ≡ without_pools seen₂

-- two outcomes that are heard alike
pub record SameHeard (o₁ o₂ : Outcome) : Type 0 where
  pub same_word : o₁.word ≡ o₂.word
  pub same_state : o₁.state ≡ o₂.state
  pub same_place : o₁.lies ≡ o₂.lies
  pub same_line : o₁.shows ≡ o₂.shows

-- and differ at most in the carry behind its used bytes, or at most in the pool
pub record SameButCarry (o₁ o₂ : Outcome) : Type 0 where
  pub heard : SameHeard o₁ o₂
  pub same_used : take o₁.state.used o₁.carried ≡ take o₂.state.used o₂.carried
  pub same_pool : o₁.pool ≡ o₂.pool

pub record SameButPool (o₁ o₂ : Outcome) : Type 0 where
  pub heard : SameHeard o₁ o₂
  pub same_carry : o₁.carried ≡ o₂.carried

-- in any state: the bytes of the carry that are not used
abbrev pub CarryBlind : Type 0
CarryBlind =
    (s : Chunks) (chunk carry₁ carry₂ pool : List ℕ) (at : ℕ) → 522 ≤ length carry₁ → 522 ≤ length carry₂ → take s.used carry₁ ≡ take s.used carry₂
    → SameButCarry (next_outcome s chunk carry₁ pool at) (next_outcome s chunk carry₂ pool at) × SameButCarry (finish_outcome s carry₁ pool at) (finish_outcome s carry₂ pool at)

-- and the bytes of the pool
abbrev pub PoolBlind : Type 0
PoolBlind =
    (s : Chunks) (chunk carry pool₁ pool₂ : List ℕ) (at : ℕ) → length pool₁ ≡ length pool₂
    → SameButPool (next_outcome s chunk carry pool₁ at) (next_outcome s chunk carry pool₂ at) × SameButPool (finish_outcome s carry pool₁ at) (finish_outcome s carry pool₂ at)

-- ---- calls from any state

abbrev pub TooSmall : Chunks → (carry : List ℕ) → Type 0
TooSmall s carry = (length carry < 522) ⊎ (522 < s.used)

-- refusal 18 comes before all others, and for nothing else
pub record Eighteen (s : Chunks) (carry : List ℕ) (o : Outcome) (pool : List ℕ) : Type 0 where
  pub first : TooSmall s carry → o ≡ unchanged (tells (refuses carry_too_small)) s carry pool
  pub only : o.word ≡ tells (refuses carry_too_small) → TooSmall s carry

abbrev pub CarryFirst : Type 0
CarryFirst =
    (s : Chunks) (chunk carry pool : List ℕ) (at : ℕ)
    → Eighteen s carry (next_outcome s chunk carry pool at) pool × Eighteen s carry (finish_outcome s carry pool at) pool

-- it changes nothing, the unused bytes of the carry included
abbrev pub EighteenChangesNothing : Type 0
EighteenChangesNothing =
    (s : Chunks) (chunk carry pool : List ℕ) (at : ℕ) (r : ChunkStep) (carry' pool' : List ℕ) → length carry' ≡ length carry → word_of r.reply ≡ tells (refuses carry_too_small)
    → NextChunk s chunk carry pool at r carry' pool' ⊎ Finish s carry pool at r carry' pool' → (r.state ≡ s) × (carry' ≡ carry) × (pool' ≡ pool)

-- PoolFull uses up nothing and keeps the state and the used bytes of the carry
abbrev pub FullKeeps : Type 0
FullKeeps =
    (s : Chunks) (chunk carry pool : List ℕ) (at : ℕ) (r : ChunkStep) (carry' pool' : List ℕ) → word_of r.reply ≡ tells (refuses pool_full)
    → NextChunk s chunk carry pool at r carry' pool' ⊎ Finish s carry pool at r carry' pool'
    → (r.state ≡ s) × (take s.used carry' ≡ take s.used carry) × (pool' ≡ pool)

-- the same call with room then gives the record
pub record GivesThen (s : Chunks) (carry : List ℕ) (call : (carry pool : List ℕ) (at : ℕ) → Outcome) : Type 0 where
  pub offset : ℕ
  pub bytes : List ℕ
  pub few : length bytes ≤ 255
  pub with_room : (carry' pool : List ℕ) (at : ℕ) → 522 ≤ length carry' → take s.used carry' ≡ take s.used carry → at + length bytes ≤ length pool
      → ((call carry' pool at).word ≡ tells (gives 0 (offset ∷ at ∷ length bytes ∷ []))) × ((call carry' pool at).pool ≡ pasted pool at bytes)

abbrev pub FullThenRoom : Type 0
FullThenRoom =
    (s : Chunks) (chunk carry pool : List ℕ) (at : ℕ)
    → ((next_outcome s chunk carry pool at).word ≡ tells (refuses pool_full) → GivesThen s carry (next_outcome s chunk))
    × ((finish_outcome s carry pool at).word ≡ tells (refuses pool_full) → GivesThen s carry (finish_outcome s))

-- in a state whose text has ended, all but 18 is "done", and changes nothing
abbrev pub OnlyDone : Chunks → Type 0
OnlyDone s =
    (chunk carry pool : List ℕ) (at : ℕ) → 522 ≤ length carry
    → (next_outcome s chunk carry pool at ≡ unchanged (tells done) s carry pool) × (finish_outcome s carry pool at ≡ unchanged (tells done) s carry pool)

-- `finish` ends the text, unless it is told PoolFull or 18
abbrev pub FinishEnds : Type 0
FinishEnds =
    (s : Chunks) (carry pool : List ℕ) (at : ℕ) → 522 ≤ length carry → s.used ≤ 522 → (finish_outcome s carry pool at).word ≢ tells (refuses pool_full)
    → OnlyDone (finish_outcome s carry pool at).state

-- once "done", always "done"
abbrev pub DoneStays : Type 0
DoneStays =
    (s : Chunks) (chunk carry pool : List ℕ) (at : ℕ) → (next_outcome s chunk carry pool at).word ≡ tells done → OnlyDone (next_outcome s chunk carry pool at).state

-- an answer to a line of the chunk, other than PoolFull, moves on in it: so asking with room until the chunk is used up comes to an end
abbrev pub Moves : Type 0
Moves =
    (s : Chunks) (chunk carry pool : List ℕ) (at : ℕ) (t : Told) → (next_outcome s chunk carry pool at).word ≡ tells t
    → is_full t ≡ false → t ≢ done → t ≢ refuses carry_too_small
    → (s.position < (next_outcome s chunk carry pool at).state.position) × ((next_outcome s chunk carry pool at).state.position ≤ length chunk)

-- ---- a line that was found

-- `next` answers the line that `next_line` finds, read where it lies and settled, and `finish` the one that `last_line` finds
abbrev pub ReadsWhatIsFound : Type 0
ReadsWhatIsFound =
    (s : Chunks) (chunk carry pool : List ℕ) (at : ℕ) (step : LineStep) (r : ChunkStep) (carry' pool' : List ℕ)
    → (NextLine s chunk carry step carry' → ReadsLine s step.reply step.state chunk carry' pool at false r pool' → NextChunk s chunk carry pool at r carry' pool')
    × (LastLine s carry step carry' → ReadsLine s step.reply step.state [] carry' pool at true r pool' → Finish s carry pool at r carry' pool')

-- ---- one outcome each

abbrev pub NewUnique : Type 0
NewUnique = (options : ReaderOptions) (r r' : Chunks) → NewChunks options r → NewChunks options r' → r ≡ r'

-- but for the bytes of the carry behind those that the outcome fixes
abbrev pub NextUnique : Type 0
NextUnique =
    (s : Chunks) (chunk carry pool : List ℕ) (at : ℕ) (r₁ r₂ : ChunkStep) (carry₁ carry₂ pool₁ pool₂ : List ℕ)
    → NextChunk s chunk carry pool at r₁ carry₁ pool₁ → NextChunk s chunk carry pool at r₂ carry₂ pool₂
    → let n = length (next_outcome s chunk carry pool at).carried in (r₁ ≡ r₂) × (take n carry₁ ≡ take n carry₂) × (pool₁ ≡ pool₂)

abbrev pub FinishUnique : Type 0
FinishUnique =
    (s : Chunks) (carry pool : List ℕ) (at : ℕ) (r₁ r₂ : ChunkStep) (carry₁ carry₂ pool₁ pool₂ : List ℕ)
    → Finish s carry pool at r₁ carry₁ pool₁ → Finish s carry pool at r₂ carry₂ pool₂
    → let n = length (finish_outcome s carry pool at).carried in (r₁ ≡ r₂) × (take n carry₁ ≡ take n carry₂) × (pool₁ ≡ pool₂)

abbrev pub NextLineUnique : Type 0
NextLineUnique =
    (s : Chunks) (chunk carry : List ℕ) (r₁ r₂ : LineStep) (carry₁ carry₂ : List ℕ) → NextLine s chunk carry r₁ carry₁ → NextLine s chunk carry r₂ carry₂
    → let n = length (next_line_outcome s chunk carry).carried in (r₁ ≡ r₂) × (take n carry₁ ≡ take n carry₂)

abbrev pub LastLineUnique : Type 0
LastLineUnique =
    (s : Chunks) (carry : List ℕ) (r₁ r₂ : LineStep) (carry₁ carry₂ : List ℕ) → LastLine s carry r₁ carry₁ → LastLine s carry r₂ carry₂
    → let n = length (last_line_outcome s carry).carried in (r₁ ≡ r₂) × (take n carry₁ ≡ take n carry₂)

abbrev pub ShownUnique : Type 0
ShownUnique =
    (lies : Place) (chunk carry line line' : Bor (List ℕ)) → Shown lies chunk carry line → Shown lies chunk carry line'
    → (line.ref_ptr ≡ line'.ref_ptr) × (line.now ≡ line'.now)

abbrev pub RefusalInLineUnique : Type 0
RefusalInLineUnique =
    (e : ReaderError) (skipped : ℕ) (r r' : ReaderError)
    → refusal_of r ≡ refusal_in_line skipped (refusal_of e) → refusal_of r' ≡ refusal_in_line skipped (refusal_of e) → r ≡ r'
