-- What the helpers of the chunk reader promise each other.
-- Assumes nothing.
use Rattle.std.specs.Prelude.{◌≡◌, ℕ, ◌+◌, ◌-◌, ◌<◌, ◌≤◌, Bool, ◌||◌, ◌≢◌, List, length, take, drop, ◌==◌, nat_lt, slice_index}
use Rattle.std.proofs.Math.Option.{Option, some}
use Rattle.std.specs.Prelude.{if◌then◌else◌}
use Rattle.record.specs.Refusals.{Refusal, refusal, contains_invalid_characters}
use Rattle.digits.specs.Reading.{named}
use Rattle.record.specs.Line.{judge}
use Rattle.reader.specs.Aliases.{Answer}
use Rattle.reader.specs.Told.{Told, gives, refuses, done, told}
use Rattle.reader.specs.Answer.{Reads}
use Rattle.reader.specs.Lines.{LF, CR, first_line}
use Rattle.reader.specs.Text.{is_full, ends_row}
use Rattle.chunks.specs.declared.Chunks.{Chunks}
use Rattle.chunks.specs.declared.Place.{Place}
use Rattle.chunks.specs.declared.Place.TheVariants.{Nowhere, InChunk, InCarry}
use Rattle.chunks.specs.declared.LineReply.{LineReply}
use Rattle.chunks.specs.declared.LineReply.TheVariants as found
use Rattle.chunks.specs.declared.ChunkReply.{ChunkReply}
use Rattle.chunks.specs.declared.ChunkReply.TheVariants.{UsedUp, Done, CarryTooSmall}
use Rattle.chunks.specs.declared.ChunkStep.{ChunkStep}
use Rattle.chunks.specs.declared.Cut.{Cut}
use Rattle.chunks.specs.declared.Cut.TheVariants.{Whole, Open}
use Rattle.chunks.specs.Begun.{Kept, Begun, nothing, brief, stands_for, Sought, ended, seek}
use Rattle.chunks.specs.Next.{tells, word_of, is_record, kept_in, past_line}

-- what a carry keeps, and a CR that waits
abbrev pub held : (carry : List ℕ) (used skipped : ℕ) (cr : Bool) → Begun
held carry used skipped cr = record { kept = kept_in carry used skipped; cr = cr }

-- is a line begun: bytes of it, or a CR that waits?
abbrev pub has_line : Chunks → Bool
has_line s = nat_lt 0 s.used || s.cr

-- the carry keeps this now; what it held before is its front, unless it is full
pub record Grown (carry : List ℕ) (used : ℕ) (kept : Kept) (used' skipped' : ℕ) (carry' : List ℕ) : Type 0 where
  pub holds : kept_in carry' used' skipped' ≡ kept
  pub within : used' ≤ 522
  pub more : used ≤ used'
  pub earlier : used' < 522 → take used carry' ≡ take used carry

-- the chunk was passed up to a LF or its end
pub record UpToLF (chunk : List ℕ) (position : ℕ) (b : Begun) (position' : ℕ) (b' : Begun) : Type 0 where
  pub goes_on : (start : Option (List ℕ)) (empties : ℕ) → seek start empties b (drop position chunk) ≡ seek start empties b' (drop position' chunk)
  pub from : position ≤ position'
  pub inside : position' ≤ length chunk
  pub feed : position' < length chunk → slice_index chunk position' ≡ LF

-- is the last byte of a line a CR?
abbrev pub ends_in_CR : List ℕ → Bool
ends_in_CR line = slice_index line (length line - 1) == CR

-- the search from a place of the chunk on, with nothing begun
abbrev pub seek_at : (chunk : List ℕ) (position empties : ℕ) → Sought
seek_at chunk position empties = seek (some (drop position chunk)) empties nothing (drop position chunk)

-- the first line from a position on that ends in the chunk and has a byte
pub record WholeLine (chunk : List ℕ) (position empties from len next empties' : ℕ) : Type 0 where
  pub line : seek_at chunk position empties ≡ ended (some (drop from chunk)) empties' (brief (take len (drop from chunk))) (drop next chunk)
  pub size : len ≡ length (first_line (drop from chunk))
  pub inside : from + len ≤ length chunk
  pub beyond : next ≤ length chunk

-- there is none: what is left from a place on has no LF
pub record OpenLine (chunk : List ℕ) (position empties from empties' : ℕ) : Type 0 where
  pub goes_on : seek_at chunk position empties ≡ seek_at chunk from empties'
  pub inside : from ≤ length chunk
  pub no_feed : (k : ℕ) → from ≤ k → k < length chunk → slice_index chunk k ≢ LF

abbrev pub CutAt : (chunk : List ℕ) (position empties : ℕ) → Cut → Type 0
CutAt chunk position empties (Whole from len next empties') = WholeLine chunk position empties from len next empties'
CutAt chunk position empties (Open from empties') = OpenLine chunk position empties from empties'

-- the place in its line of a byte at a place of those that are kept: the last of 522 has so many more ahead of it there
abbrev pub place_in_line : (skipped place : ℕ) → ℕ
place_in_line n place = if place == 521 then named (521 + n) else place

-- a refusal of the bytes that are kept as one of their line
abbrev pub refusal_in_line : (skipped : ℕ) → Refusal → Refusal
refusal_in_line n (refusal number values) = if number == 2 then contains_invalid_characters (place_in_line n (slice_index values 0)) else refusal number values

abbrev pub told_in_line : (skipped : ℕ) → Told → Told
told_in_line n (gives kind numbers) = gives kind numbers
told_in_line n (refuses r) = refuses (refusal_in_line n r)
told_in_line n done = done

-- an answer to a line, with the state that it leaves
pub record Settles (s : Chunks) (t : Told) (position line : ℕ) (last : Bool) (lies : Place) (r : ChunkStep) : Type 0 where
  pub answer : word_of r.reply ≡ tells t
  pub state : r.state ≡ (if is_full t then s else past_line s position line (last || ends_row s.options t))
  pub place : r.lies ≡ (if is_record t then lies else Nowhere)

-- a reply that names no line, with a state
pub record Plain (reply : ChunkReply) (s : Chunks) (r : ChunkStep) : Type 0 where
  pub reply_is : r.reply ≡ reply
  pub state_is : r.state ≡ s
  pub lies_is : r.lies ≡ Nowhere

-- what is done with the reply of a search: a line is read where it lies and settled; any other reply is handed on
abbrev pub ReadsLine : Chunks → LineReply → (state : Chunks) (chunk carry pool : List ℕ) (at : ℕ) (last : Bool) → ChunkStep → (pool' : List ℕ) → Type 0
ReadsLine s (found.InChunk from len) state chunk carry pool at last r pool' =
    (a : Answer) × Reads (judge (take len (drop from chunk))) pool at a pool' × Settles s (told a) state.position state.line last (InChunk from len) r
ReadsLine s (found.InCarry len skipped) state chunk carry pool at last r pool' =
    (a : Answer) × Reads (judge (stands_for (kept_in carry len skipped))) pool at a pool' × Settles s (told a) state.position state.line last (InCarry len) r
ReadsLine s found.UsedUp state chunk carry pool at last r pool' = Plain UsedUp state r × (pool' ≡ pool)
ReadsLine s found.Done state chunk carry pool at last r pool' = Plain Done state r × (pool' ≡ pool)
ReadsLine s found.CarryTooSmall state chunk carry pool at last r pool' = Plain CarryTooSmall state r × (pool' ≡ pool)
