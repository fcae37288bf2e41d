-- What the helpers of the readers ask of and promise each other.
-- Assumes nothing.
use Rattle.std.specs.Prelude.{◌≡◌, ℕ, suc, ◌%◌, ◌<◌, ◌≤◌, ◌≢◌, List, length, take, drop, slice_index}
use Rattle.checksum.specs.Checksum.{sum}
use Rattle.record.specs.declared.Record.{Record}
use Rattle.digits.specs.Digits.{leading}
use Rattle.digits.specs.Reading.{named}
use Rattle.record.specs.Line.{size}
use Rattle.record.specs.Meaning.{meaning}
use Rattle.reader.specs.Aliases.{Answer}
use Rattle.reader.specs.declared.ReaderError.{ReaderError}
use Rattle.reader.specs.declared.ReaderError.TheVariants.{ContainsInvalidCharacters, InvalidLengthForType}
use Rattle.reader.specs.declared.Spot.{Spot}
use Rattle.reader.specs.Lines.{LF, first_line, next_line, a_line, no_line}
use Rattle.reader.specs.declared.State.{State}
use Rattle.reader.specs.declared.Replied.{Replied}
use Rattle.reader.specs.Told.{Told, told}
use Rattle.reader.specs.Text.{told_reply, is_full, ends_row, behind}
use Rattle.std.specs.Prelude.{if◌then◌else◌}
use Rattle.reader.specs.Answer.{given}
use Rattle.std.specs.Prelude.{Ok, Err, Some, None, Option}

-- refusal 2 of a line, whose first byte is the colon
abbrev pub invalid_at : (line : List ℕ) → ReaderError
invalid_at line = ContainsInvalidCharacters (named (suc (leading (drop 1 line))))

-- m bytes of a buffer and their sum
pub record Summed (buf : List ℕ) (m total : ℕ) : Type 0 where
  pub least : 5 ≤ m
  pub most : m ≤ 260
  pub room : 260 ≤ length buf
  pub sums : total ≡ sum (take m buf) % 256

-- a record that is told as its type and payload are, wherever the pool, or a payload that has not its type's size
pub data Special (kind : ℕ) (payload : List ℕ) : Answer → Type 0 where
  fitting : (r : Record) → size kind ≡ length payload → ((address n at : ℕ) → told (Ok r) ≡ given (meaning kind address payload) n at) → Special kind payload (Ok r)
  misfitting : size kind ≢ length payload → Special kind payload (Err InvalidLengthForType)

-- ---- lines

-- no LF stands from one place up to another
abbrev pub NoFeed : (text : List ℕ) (from to : ℕ) → Type 0
NoFeed text from to = (k : ℕ) → from ≤ k → k < to → slice_index text k ≢ LF

-- the place of the first LF, or the text's length
pub record FirstFeed (text : List ℕ) (r : ℕ) : Type 0 where
  pub inside : r ≤ length text
  pub before : (k : ℕ) → k < r → slice_index text k ≢ LF
  pub found : r < length text → slice_index text r ≡ LF

-- the first line's length
pub record LineEnd (text : List ℕ) (r : ℕ) : Type 0 where
  pub inside : r ≤ length text
  pub line : take r text ≡ first_line text

-- the next line that has a byte, and where the rest begins
pub record Ahead (text : List ℕ) (position : ℕ) (line : List ℕ) (next empties : ℕ) : Type 0 where
  pub found : next_line 0 (drop position text) ≡ a_line empties line (drop next text)
  pub beyond : next ≤ length text
  pub small : empties < length text

abbrev pub Spotted : (text : List ℕ) (position : ℕ) → Option Spot → Type 0
Spotted text position (Some spot) = Ahead text position spot.line.now spot.next spot.empties
Spotted text position None = (empties : ℕ) × (next_line 0 (drop position text) ≡ no_line empties)

-- a line that was answered, with the state before it: PoolFull leaves the state as it was
pub record Settled (s : State) (t : Told) (position line : ℕ) (r : Replied) : Type 0 where
  pub answer : told_reply r.reply ≡ t
  pub state : r.state ≡ (if is_full t then s else behind s position line (ends_row s.options t))
