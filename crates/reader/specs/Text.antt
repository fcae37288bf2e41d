-- The text reader: what a call answers and leaves, for every state, text, pool and position.
-- Assumes nothing.
use Rattle.std.specs.Prelude.{◌≡◌, ℕ, ◌+◌, ◌-◌, ◌%◌, ◌^◌, Bool, true, false, ◌&&◌, List, length, drop, ◌==◌}
use Rattle.std.specs.Borrow.{Bor}
use Rattle.std.specs.Prelude.{if◌then◌else◌}
use Rattle.record.specs.declared.Record.{Record}
use Rattle.record.specs.Record.{type_of, numbers_of}
use Rattle.record.specs.Refusals.{number_of, pool_full}
use Rattle.record.specs.Line.{judge}
use Rattle.reader.specs.declared.ReaderError.{ReaderError}
use Rattle.reader.specs.declared.ReaderOptions.{ReaderOptions}
use Rattle.reader.specs.declared.State.{State}
use Rattle.reader.specs.Aliases.{Reply}
use Rattle.reader.specs.declared.Replied.{Replied}
use Rattle.reader.specs.Told.{Told, gives, refuses, done, refusal_of, is_pool_full}
use Rattle.reader.specs.Answer.{answered, poured}
use Rattle.reader.specs.Lines.{first_line, rest, Found, a_line, no_line, next_line}
use Rattle.std.specs.Prelude.{Err, None, Ok, Some}

-- ---- the line cutter

-- the contract of `first_line`: the line, which is the text's own beginning, and where the rest begins
pub record FirstLine (text line : Bor (List ℕ)) (behind : ℕ) : Type 0 where
  pub part : line.ref_ptr ≡ text.ref_ptr
  pub first : line.now ≡ first_line text.now
  pub place : behind ≡ length text.now - length (rest text.now)

-- ---- answers

abbrev pub told_reply : Reply → Told
told_reply (Some (Ok r)) = gives (type_of r) (numbers_of r)
told_reply (Some (Err e)) = refuses (refusal_of e)
told_reply None = done

-- PoolFull: the line is not used up
unfoldable pub is_full : Told → Bool
is_full (gives kind numbers) = false
is_full (refuses r) = number_of r == number_of pool_full
is_full done = false

-- is this the reader's last answer but "done"?
unfoldable pub ends_row : ReaderOptions → Told → Bool
ends_row options (gives kind numbers) = kind == 1 && options.stop_after_eof
ends_row options (refuses r) = options.stop_after_first_error
ends_row options done = true

-- ---- states

-- both stops are on by default
abbrev pub default_options : ReaderOptions
default_options = record { stop_after_first_error = true; stop_after_eof = true }

-- at the text's beginning
abbrev pub new_state : ReaderOptions → State
new_state options = record { position = 0; line = 0; finished = false; options = options }

-- behind a line that was answered: `line` is its number
abbrev pub behind : State → (position line : ℕ) (finished : Bool) → State
behind s position line finished = record { position = position; line = line; finished = finished; options = s.options }

-- at the end: nothing more is answered, and position and line stay those of the last line that was
abbrev pub at_end : State → State
at_end s = behind s s.position s.line true

-- ---- a call

pub record Outcome : Type 0 where
  pub told : Told
  pub state : State
  pub pool : List ℕ

-- line numbers are machine numbers: a state made up by hand may count beyond them
abbrev pub next_number : State → (empties : ℕ) → ℕ
next_number s empties = (s.line + (empties + 1)) % 2 ^ 64

-- a call with this text left: PoolFull leaves all as it was
unfoldable pub of_found : State → (size : ℕ) (pool : List ℕ) (at : ℕ) → Found → Outcome
unfolding is_full ends_row answered poured judge
of_found s size pool at (no_line empties) = record { told = done; state = at_end s; pool = pool }
of_found s size pool at (a_line empties line left) =
    let t = answered (judge line) (length pool) at in
    if is_full t then record { told = t; state = s; pool = pool } else
    record {
      told = t;
      state = behind s (size - length left) (next_number s empties) (ends_row s.options t);
      pool = poured (judge line) pool at;
    }

unfoldable pub outcome : State → (text pool : List ℕ) (at : ℕ) → Outcome
unfolding of_found next_line
outcome s text pool at =
    if s.finished then record { told = done; state = s; pool = pool } else
    of_found s (length text) pool at (next_line 0 (drop s.position text))

-- what a step and a pool make of an outcome
pub record Meets (o : Outcome) (r : Replied) (pool' : List ℕ) : Type 0 where
  pub answer : told_reply r.reply ≡ o.told
  pub state : r.state ≡ o.state
  pub left : pool' ≡ o.pool

-- the contract of `State::next`
abbrev pub Next : State → (text pool : List ℕ) (at : ℕ) → Replied → (pool' : List ℕ) → Type 0
Next s text pool at r pool' = Meets (outcome s text pool at) r pool'

-- the contract of `ReaderOptions::default`
pub record Default (r : ReaderOptions) : Type 0 where
  pub answer : r ≡ default_options

-- of `ReaderOptions::ends`: is a record the last that is read?
pub record Ends (options : ReaderOptions) (given : Record) (r : Bool) : Type 0 where
  pub answer : r ≡ ends_row options (gives (type_of given) (numbers_of given))

-- of `State::new` and `State::new_with_options`
pub record New (options : ReaderOptions) (r : State) : Type 0 where
  pub answer : r ≡ new_state options

-- the contract of `ReaderError::number`
pub record Number (e : ReaderError) (r : ℕ) : Type 0 where
  pub answer : r ≡ number_of (refusal_of e)

-- the contract of `ReaderError::is_pool_full`
pub record IsPoolFull (e : ReaderError) (r : Bool) : Type 0 where
  pub answer : r ≡ is_pool_full e
