-- How a call of the text reader moves along what the lines of a text say.
-- Assumes nothing.
use Rattle.std.specs.Prelude.{◌≡◌, ℕ, suc, ◌+◌, ◌^◌, ◌<◌, true, false, List, [], length, drop}
use Rattle.std.specs.Prelude.{if◌then◌else◌}
use Rattle.record.specs.Line.{Said}
use Rattle.reader.specs.declared.State.{State}
use Rattle.reader.specs.Lines.{lines}
use Rattle.reader.specs.Row.{Numbered, sayings}
use Rattle.reader.specs.Told.{done}
use Rattle.reader.specs.Answer.{answered, poured}
use Rattle.reader.specs.Text.{is_full, ends_row, Outcome}

-- what a state has still to read of a text
unfoldable pub unread : State → List ℕ → List Numbered
unread s text = if s.finished then [] else sayings (suc s.line) (lines (drop s.position text))

-- the line numbers of what is left are machine numbers
abbrev pub Countable : State → List ℕ → Type 0
Countable s text = s.line + length (lines (drop s.position text)) < 2 ^ 64

-- what a call comes to that has this first to answer
pub record Heard (s : State) (text pool : List ℕ) (at n : ℕ) (said : Said) (more : List Numbered) (o : Outcome) : Type 0 where
  pub tells : o.told ≡ answered said (length pool) at
  pub poured_in : o.pool ≡ poured said pool at
  pub full : is_full (answered said (length pool) at) ≡ true → o.state ≡ s
  pub line : is_full (answered said (length pool) at) ≡ false → o.state.line ≡ n
  pub options : o.state.options ≡ s.options
  pub left : is_full (answered said (length pool) at) ≡ false → unread o.state text ≡ (if ends_row s.options (answered said (length pool) at) then [] else more)
  pub countable : Countable o.state text

-- and one that has nothing
pub record RanOut (s : State) (text pool : List ℕ) (o : Outcome) : Type 0 where
  pub tells : o.told ≡ done
  pub untouched : o.pool ≡ pool
  pub line : o.state.line ≡ s.line
  pub options : o.state.options ≡ s.options
  pub left : unread o.state text ≡ []
  pub countable : Countable o.state text
