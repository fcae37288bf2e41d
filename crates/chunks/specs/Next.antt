-- What `next` and `finish` answer and leave, for every state, chunk, carry and pool.
-- Assumes nothing.
use Rattle.std.specs.Prelude.{◌≡◌, ℕ, ◌+◌, ◌-◌, ◌%◌, ◌^◌, Bool, true, false, ◌||◌, List, [], length, take, drop, nat_le, nat_lt}
use Rattle.std.proofs.Math.Option.{Option, none, some}
use Rattle.std.specs.Borrow.{Bor}
use Rattle.std.specs.Prelude.{if◌then◌else◌}
use Rattle.record.specs.Record.{type_of, numbers_of}
use Rattle.record.specs.Refusals.{carry_too_small}
use Rattle.record.specs.Line.{judge}
use Rattle.reader.specs.declared.ReaderOptions.{ReaderOptions}
use Rattle.reader.specs.Told.{Told, gives, refuses, done, refusal_of}
use Rattle.reader.specs.Answer.{answered, poured}
use Rattle.reader.specs.Text.{is_full, ends_row}
use Rattle.chunks.specs.declared.Chunks.{Chunks}
use Rattle.chunks.specs.declared.Place.{Place}
use Rattle.chunks.specs.declared.Place.TheVariants.{Nowhere, InChunk, InCarry}
use Rattle.chunks.specs.declared.ChunkReply.{ChunkReply}
use Rattle.chunks.specs.declared.ChunkReply.TheVariants.{Read, Refused, UsedUp, Done, CarryTooSmall}
use Rattle.chunks.specs.declared.ChunkStep.{ChunkStep}
use Rattle.chunks.specs.Begun.{Kept, Begun, is_empty, stands_for, with_CR, counted, Sought, ended, unended, look}

-- ---- answers

-- what a call is told: what the text reader tells, or that the chunk is used up
pub data Word : Type 0 where
  tells : Told → Word
  used_up : Word

abbrev pub word_of : ChunkReply → Word
word_of (Read r) = tells (gives (type_of r) (numbers_of r))
word_of (Refused e) = tells (refuses (refusal_of e))
word_of UsedUp = used_up
word_of Done = tells done
word_of CarryTooSmall = tells (refuses carry_too_small)

unfoldable pub is_record : Told → Bool
is_record (gives kind numbers) = true
is_record (refuses r) = false
is_record done = false

-- ---- states

-- at the beginning of any text
abbrev pub new_chunks : ReaderOptions → Chunks
new_chunks options = record { position = 0; line = 0; empties = 0; used = 0; skipped = 0; cr = false; finished = false; options = options }

-- what a carry keeps of a line in its first bytes
abbrev pub kept_in : (carry : List ℕ) (used skipped : ℕ) → Kept
kept_in carry used skipped = record { bytes = take used carry; skipped = skipped }

-- how many were left out: none of a line of which fewer than 522 bytes are used
abbrev pub left_out : Chunks → ℕ
left_out s = if nat_lt s.used 522 then 0 else s.skipped

-- the line that a state and its carry hold
abbrev pub begun : Chunks → (carry : List ℕ) → Begun
begun s carry = record { kept = kept_in carry s.used (left_out s); cr = s.cr }

-- with a line begun, at the front of the next chunk
abbrev pub holding : Chunks → (empties : ℕ) → Begun → Chunks
holding s empties b =
    record {
      position = 0;
      line = s.line;
      empties = empties;
      used = length b.kept.bytes;
      skipped = b.kept.skipped;
      cr = b.cr;
      finished = false;
      options = s.options;
    }

-- behind a line that was answered: `line` is its number
abbrev pub past_line : Chunks → (position line : ℕ) (finished : Bool) → Chunks
past_line s position line finished =
    record { position = position; line = line; empties = 0; used = 0; skipped = 0; cr = false; finished = finished; options = s.options }

-- at the text's end: all else stays
abbrev pub over : Chunks → Chunks
over s =
    record {
      position = s.position;
      line = s.line;
      empties = s.empties;
      used = s.used;
      skipped = s.skipped;
      cr = s.cr;
      finished = true;
      options = s.options;
    }

-- the number of the line that stands behind the last one answered and some empty ones
abbrev pub number_behind : Chunks → (empties : ℕ) → ℕ
number_behind s empties = (s.line + counted empties) % 2 ^ 64

-- ---- places

-- the bytes at a place, as many as there are
abbrev pub at_place : Place → (chunk carry : List ℕ) → List ℕ
at_place Nowhere chunk carry = []
at_place (InChunk from len) chunk carry = take len (drop from chunk)
at_place (InCarry len) chunk carry = take len carry

-- a line begun in this chunk lies in the chunk, an older one in the carry
unfoldable pub place : (chunk : List ℕ) (start : Option (List ℕ)) (line : List ℕ) → Place
place chunk (some text) line = InChunk (length chunk - length text) (length line)
place chunk none line = InCarry (length line)

-- what such a line leaves at the carry's front
unfoldable pub in_carry : (start : Option (List ℕ)) → Kept → List ℕ
in_carry (some text) k = []
in_carry none k = k.bytes

-- ---- outcomes

pub record Outcome : Type 0 where
  pub word : Word
  pub state : Chunks
  pub lies : Place
  -- what stands there: the line that gave the record
  pub shows : List ℕ
  -- what the carry begins with; its bytes behind that are anything
  pub carried : List ℕ
  pub pool : List ℕ

-- nothing happened
unfoldable pub unchanged : Word → Chunks → (carry pool : List ℕ) → Outcome
unchanged w s carry pool = record { word = w; state = s; lies = Nowhere; shows = []; carried = carry; pool = pool }

-- a line is answered: PoolFull keeps the state and the used bytes of the carry
unfoldable pub answered_line : Chunks → (used chunk pool : List ℕ) (at : ℕ) (start : Option (List ℕ)) (empties : ℕ) → Kept → (position : ℕ) (last : Bool) → Outcome
unfolding is_full ends_row is_record place in_carry stands_for
answered_line s used chunk pool at start empties k position last =
    let line = stands_for k in
    let t = answered (judge line) (length pool) at in
    if is_full t
    then record { word = tells t; state = s; lies = Nowhere; shows = []; carried = used; pool = pool }
    else record {
      word = tells t;
      state = past_line s position (number_behind s empties) (last || ends_row s.options t);
      lies = if is_record t then place chunk start line else Nowhere;
      shows = if is_record t then line else [];
      carried = in_carry start k;
      pool = poured (judge line) pool at;
    }

unfoldable pub of_sought : Chunks → (used chunk pool : List ℕ) (at : ℕ) → Sought → Outcome
unfolding answered_line
of_sought s used chunk pool at (ended start empties kept rest) =
    answered_line s used chunk pool at start empties kept (length chunk - length rest) false
of_sought s used chunk pool at (unended empties b) =
    record { word = used_up; state = holding s empties b; lies = Nowhere; shows = []; carried = b.kept.bytes; pool = pool }

-- refusal 18, before all others: a carry under 522 bytes, or a state that counts more than 522 used
unfoldable pub too_small : Chunks → (carry : List ℕ) → Bool
too_small s carry = nat_lt (length carry) 522 || nat_lt 522 s.used

unfoldable pub next_outcome : Chunks → (chunk carry pool : List ℕ) (at : ℕ) → Outcome
unfolding too_small unchanged of_sought look
next_outcome s chunk carry pool at =
    if too_small s carry then unchanged (tells (refuses carry_too_small)) s carry pool else
    if s.finished then unchanged (tells done) s carry pool else
    of_sought s (take s.used carry) chunk pool at (look s.empties (begun s carry) (drop s.position chunk))

-- what is begun is the last line, if it has a byte
unfoldable pub finish_outcome : Chunks → (carry pool : List ℕ) (at : ℕ) → Outcome
unfolding too_small unchanged answered_line is_empty with_CR
finish_outcome s carry pool at =
    if too_small s carry then unchanged (tells (refuses carry_too_small)) s carry pool else
    if s.finished then unchanged (tells done) s carry pool else
    if is_empty (with_CR (begun s carry)).bytes
    then record { word = tells done; state = over s; lies = Nowhere; shows = []; carried = []; pool = pool }
    else answered_line s (take s.used carry) [] pool at none s.empties (with_CR (begun s carry)) 0 true

-- ---- contracts

pub record Meets (o : Outcome) (chunk : List ℕ) (r : ChunkStep) (carry' pool' : List ℕ) : Type 0 where
  pub answer : word_of r.reply ≡ o.word
  pub state : r.state ≡ o.state
  pub lies : r.lies ≡ o.lies
  pub shows : at_place r.lies chunk carry' ≡ o.shows
  pub carry : take (length o.carried) carry' ≡ o.carried
  pub left : pool' ≡ o.pool

-- the contract of `Chunks::next`
abbrev pub NextChunk : Chunks → (chunk carry pool : List ℕ) (at : ℕ) → ChunkStep → (carry' pool' : List ℕ) → Type 0
NextChunk s chunk carry pool at r carry' pool' = Meets (next_outcome s chunk carry pool at) chunk r carry' pool'

-- of `Chunks::finish`
abbrev pub Finish : Chunks → (carry pool : List ℕ) (at : ℕ) → ChunkStep → (carry' pool' : List ℕ) → Type 0
Finish s carry pool at r carry' pool' = Meets (finish_outcome s carry pool at) [] r carry' pool'

-- of `Chunks::new` and `Chunks::new_with_options`
pub record NewChunks (options : ReaderOptions) (r : Chunks) : Type 0 where
  pub answer : r ≡ new_chunks options

-- where a part of a buffer begins: at a place of it, or at its front where there is no such place
abbrev pub front : Bor (List ℕ) → (from : ℕ) → ℕ × ℕ
front s from = (s.ref_ptr.0, (if nat_le from (length s.now) then from else 0) + s.ref_ptr.1)

-- the buffer's own bytes from a place on, as many as there are
pub record PartOf (s : Bor (List ℕ)) (from len : ℕ) (part : Bor (List ℕ)) : Type 0 where
  pub begins : part.ref_ptr ≡ front s from
  pub holds : part.now ≡ take len (drop from s.now)

-- of `shown`: the line at a place, in the buffer where it lies
abbrev pub Shown : Place → (chunk carry line : Bor (List ℕ)) → Type 0
Shown Nowhere chunk carry line = PartOf chunk 0 0 line
Shown (InChunk from len) chunk carry line = PartOf chunk from len line
Shown (InCarry len) chunk carry line = PartOf carry 0 len line
