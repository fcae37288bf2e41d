-- Which line a call answers, when a chunk is used up, and where a line lies, said of the bytes alone and without a search. Proved in
-- `proofs/First.antt` and `proofs/Looked.antt`.
-- Assumes nothing.
use Rattle.std.specs.Prelude.{◌≡◌, ℕ, suc, ◌<◌, ◌≤◌, true, false, ◌≢◌, ◌↔◌, List, [], ◌∷◌, ◌++◌, length, take, drop, slice_index}
use Rattle.std.specs.Prelude.{if◌then◌else◌}
use Rattle.record.specs.Line.{judge}
use Rattle.reader.specs.Told.{Told, done}
use Rattle.reader.specs.Answer.{answered}
use Rattle.reader.specs.Lines.{LF, CR, Cut}
use Rattle.reader.specs.Text.{is_full}
use Rattle.chunks.specs.declared.Chunks.{Chunks}
use Rattle.chunks.specs.declared.Place.{Place}
use Rattle.chunks.specs.declared.Place.TheVariants.{Nowhere, InChunk, InCarry}
use Rattle.chunks.specs.declared.ChunkReply.TheVariants.{UsedUp}
use Rattle.chunks.specs.declared.ChunkStep.{ChunkStep}
use Rattle.chunks.specs.Begun.{stands_for}
use Rattle.chunks.specs.Next.{Word, tells, used_up, word_of, is_record, kept_in, left_out, at_place, next_outcome, finish_outcome, NextChunk, Finish}
use Rattle.chunks.specs.Claims.{TooSmall}

-- ---- lines that end in a chunk

-- The LF at `e` of a chunk ends the first line of a text, by the reader's own cut: the text is the line, then LF or CR LF, then the
-- chunk after that LF. A line that only the text's end ends does not count.
pub record EndsAt (chunk text line : List ℕ) (e : ℕ) : Type 0 where
  pub inside : e < length chunk
  pub cut : Cut text line (drop (suc e) chunk)
  pub by_LF : cut.end ≢ []

-- A line begins in what is left of a chunk: at its front, where nothing is begun, or directly after an LF.
pub data BeginsAt (s : Chunks) (chunk : List ℕ) : (from : ℕ) → Type 0 where
  at_front : s.used ≡ 0 → s.cr ≡ false → BeginsAt s chunk s.position
  after_LF : {i : ℕ} → s.position ≤ i → slice_index chunk i ≡ LF → BeginsAt s chunk (suc i)

-- the CR that waits
abbrev pub CR_waiting : Chunks → List ℕ
CR_waiting s = if s.cr then CR ∷ [] else []

-- A line was begun earlier: bytes of it are used, or the CR that waits is a byte of it. `more` is how it goes on, from that CR: it is
-- empty where the CR belongs to the line's end.
pub data BegunEarlier (s : Chunks) (more : List ℕ) : Type 0 where
  by_used : 0 < s.used → BegunEarlier s more
  by_CR : s.cr ≡ true → more ≢ [] → BegunEarlier s more

-- the line so far: the used bytes of the carry, and a zero for each digit that was left out where 522 are used
abbrev pub so_far : Chunks → (carry : List ℕ) → List ℕ
so_far s carry = stands_for (kept_in carry s.used (left_out s))

abbrev pub UsedSoFar : Type 0
UsedSoFar = (s : Chunks) (carry : List ℕ) → s.used < 522 → so_far s carry ≡ take s.used carry

-- A line that has a byte and ends at `e` in what is left of the chunk, and where it lies: in the chunk if it begins there, in the
-- carry if it was begun earlier.
pub data LineEnding (s : Chunks) (chunk carry : List ℕ) (e : ℕ) : (line : List ℕ) (lies : Place) → Type 0 where
  new_line : {from : ℕ} {line : List ℕ} → BeginsAt s chunk from → EndsAt chunk (drop from chunk) line e → line ≢ []
      → LineEnding s chunk carry e line (InChunk from (length line))
  older_line : {more : List ℕ} → BegunEarlier s more → EndsAt chunk (CR_waiting s ++ drop s.position chunk) more e
      → LineEnding s chunk carry e (so_far s carry ++ more) (InCarry (length (so_far s carry ++ more)))

-- no line with a byte ends there
abbrev pub NoLine : Chunks → (chunk carry : List ℕ) → Type 0
NoLine s chunk carry = (e : ℕ) (line : List ℕ) (lies : Place) → ¬ LineEnding s chunk carry e line lies

-- the first of them: none ends before it
pub record FirstLine (s : Chunks) (chunk carry line : List ℕ) (lies : Place) : Type 0 where
  pub ends : ℕ
  pub is_line : LineEnding s chunk carry ends line lies
  pub first : (e : ℕ) (line' : List ℕ) (lies' : Place) → LineEnding s chunk carry e line' lies' → ends ≤ e

-- The last line of a text: what is begun, with the CR that waits, if that has a byte.
pub data LastLine (s : Chunks) (carry : List ℕ) : (line : List ℕ) (lies : Place) → Type 0 where
  last_line : BegunEarlier s (CR_waiting s) → LastLine s carry (so_far s carry ++ CR_waiting s) (InCarry (length (so_far s carry ++ CR_waiting s)))

-- ---- which line is answered

-- Neither refusal 18 nor "done" is due to the state and the carry.
pub record Asking (s : Chunks) (carry : List ℕ) : Type 0 where
  pub enough : ¬ TooSmall s carry
  pub goes_on : s.finished ≡ false

-- `next` answers "used up" exactly where no line with a byte ends in what is left of the chunk, and otherwise the first such line.
-- The next call goes on directly after its LF, unless the pool was full.
pub record ByLines (s : Chunks) (chunk carry pool : List ℕ) (at : ℕ) (word : Word) (position : ℕ) : Type 0 where
  pub used_up_exactly : (word ≡ used_up) ↔ NoLine s chunk carry
  pub first_exactly : (t : Told)
      → (word ≡ tells t) ↔ ((line : List ℕ) × (lies : Place) × FirstLine s chunk carry line lies × (t ≡ answered (judge line) (length pool) at))
  pub goes_on_after : (line : List ℕ) (lies : Place) (f : FirstLine s chunk carry line lies) → is_full (answered (judge line) (length pool) at) ≡ false → position ≡ suc f.ends

abbrev pub NextByLines : Type 0
NextByLines =
    (s : Chunks) (chunk carry pool : List ℕ) (at : ℕ) → Asking s carry
    → let o = next_outcome s chunk carry pool at in ByLines s chunk carry pool at o.word o.state.position

-- so of any reply that meets the contract
abbrev pub RepliesByLines : Type 0
RepliesByLines =
    (s : Chunks) (chunk carry pool : List ℕ) (at : ℕ) (r : ChunkStep) (carry' pool' : List ℕ) → Asking s carry
    → NextChunk s chunk carry pool at r carry' pool' → ByLines s chunk carry pool at (word_of r.reply) r.state.position

abbrev pub UsedUpExactly : Type 0
UsedUpExactly =
    (s : Chunks) (chunk carry pool : List ℕ) (at : ℕ) (r : ChunkStep) (carry' pool' : List ℕ) → Asking s carry
    → NextChunk s chunk carry pool at r carry' pool' → (r.reply ≡ UsedUp) ↔ NoLine s chunk carry

-- `finish` answers "done" exactly where nothing is begun, and otherwise the last line.
pub record ByLastLine (s : Chunks) (carry pool : List ℕ) (at : ℕ) (word : Word) : Type 0 where
  pub done_exactly : (word ≡ tells done) ↔ ((line : List ℕ) (lies : Place) → ¬ LastLine s carry line lies)
  pub last_answered : (line : List ℕ) (lies : Place) → LastLine s carry line lies → word ≡ tells (answered (judge line) (length pool) at)

abbrev pub FinishByLastLine : Type 0
FinishByLastLine = (s : Chunks) (carry pool : List ℕ) (at : ℕ) → Asking s carry → ByLastLine s carry pool at (finish_outcome s carry pool at).word

abbrev pub RepliesByLastLine : Type 0
RepliesByLastLine =
    (s : Chunks) (carry pool : List ℕ) (at : ℕ) (r : ChunkStep) (carry' pool' : List ℕ) → Asking s carry
    → Finish s carry pool at r carry' pool' → ByLastLine s carry pool at (word_of r.reply)

-- ---- where it lies

-- What can be shown after an answer, and where it lies: the line that was answered if it gave a record, else nothing. `Answered line
-- lies` says which line was answered.
pub data Shows (Answered : (line : List ℕ) (lies : Place) → Type 0) : Word → (lies : Place) (shown : List ℕ) → Type 0 where
  gave_record : {t : Told} {line : List ℕ} {lies : Place} → is_record t ≡ true → Answered line lies → Shows Answered (tells t) lies line
  gave_none : {t : Told} → is_record t ≡ false → Shows Answered (tells t) Nowhere []
  used_up_shows : Shows Answered used_up Nowhere []

-- in any state, 18 and "done" included
abbrev pub NextShows : Type 0
NextShows =
    (s : Chunks) (chunk carry pool : List ℕ) (at : ℕ)
    → let o = next_outcome s chunk carry pool at in Shows (FirstLine s chunk carry) o.word o.lies o.shows

abbrev pub FinishShows : Type 0
FinishShows =
    (s : Chunks) (carry pool : List ℕ) (at : ℕ) → let o = finish_outcome s carry pool at in Shows (LastLine s carry) o.word o.lies o.shows

abbrev pub ReplyShows : Type 0
ReplyShows =
    (s : Chunks) (chunk carry pool : List ℕ) (at : ℕ) (r : ChunkStep) (carry' pool' : List ℕ)
    → (NextChunk s chunk carry pool at r carry' pool' → Shows (FirstLine s chunk carry) (word_of r.reply) r.lies (at_place r.lies chunk carry'))
    × (Finish s carry pool at r carry' pool' → Shows (LastLine s carry) (word_of r.reply) r.lies (at_place r.lies [] carry'))

-- no second line is the first, or the last
abbrev pub FirstUnique : Type 0
FirstUnique =
    (s : Chunks) (chunk carry line line' : List ℕ) (lies lies' : Place) → FirstLine s chunk carry line lies → FirstLine s chunk carry line' lies' → (line ≡ line') × (lies ≡ lies')

abbrev pub LastUnique : Type 0
LastUnique = (s : Chunks) (carry line line' : List ℕ) (lies lies' : Place) → LastLine s carry line lies → LastLine s carry line' lies' → (line ≡ line') × (lies ≡ lies')

-- and so no second place shows a line
abbrev pub ShowsUnique : Type 0
ShowsUnique =
    (s : Chunks) (chunk carry : List ℕ) (word : Word) (lies lies' : Place) (shown shown' : List ℕ)
    → (Shows (FirstLine s chunk carry) word lies shown → Shows (FirstLine s chunk carry) word lies' shown' → (lies ≡ lies') × (shown ≡ shown'))
    × (Shows (LastLine s carry) word lies shown → Shows (LastLine s carry) word lies' shown' → (lies ≡ lies') × (shown ≡ shown'))
