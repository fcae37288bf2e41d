-- What the helpers of `list` and of `list_reply` ask of and promise each other.
-- Assumes nothing.
use Rattle.std.specs.Prelude.{ℕ, ◌+◌, ◌≤◌, ◌≡◌, List, [], ◌∷◌, ◌++◌, length}
use Rattle.digits.specs.Common.{text, pasted}
use Rattle.record.specs.Written.{two_bytes}
use Rattle.digits.specs.Spelling.{spelt}
use Rattle.record.specs.Record.{meant, Inside}
use Rattle.record.specs.declared.Record.{Record}
use Rattle.reader.specs.declared.Values.{Values}
use Rattle.reader.specs.declared.Values.TheVariants.{Nothing, Position, Byte, Bytes}
use Rattle.reader.specs.Aliases.{Reply}
use Rattle.listing.specs.Listing.{spaced, record_entry, shown, entries, answers}
use Rattle.std.specs.Prelude.{Err, None, Ok, Some}

-- these characters stand in the output from a place on, and the place behind them is answered
pub record Puts (out : List ℕ) (at : ℕ) (characters : List ℕ) (r : ℕ) (out' : List ℕ) : Type 0 where
  pub place : r ≡ at + length characters
  pub left : out' ≡ pasted out at characters

-- what is printed of a record of a type from 02 to 05, by the character of its type
unfoldable pub numbered : (character : ℕ) (bytes : List ℕ) → List ℕ
unfolding spelt
numbered character bytes = text "X" ++ (character ∷ []) ++ text " " ++ spelt bytes

-- what is printed of a refusal's values
unfoldable pub values_put : Values → List ℕ
unfolding spelt
values_put Nothing = []
values_put (Position place) = spaced (two_bytes place)
values_put (Byte byte) = spaced (byte ∷ [])
values_put (Bytes first second) = spaced (first ∷ []) ++ spaced (second ∷ [])

pub record Printable (given : Record) (pool out : List ℕ) (at : ℕ) : Type 0 where
  pub lies : Inside given (length pool)
  pub room : at + length (record_entry (meant given pool)) ≤ length out

abbrev pub Lies : Reply → (pool : List ℕ) → Type 0
Lies (Some (Ok r)) pool = Inside r (length pool)
Lies (Some (Err e)) pool = Unit
Lies None pool = Unit

pub record FitsIn (reply : Reply) (pool out : List ℕ) (at : ℕ) : Type 0 where
  pub lies : Lies reply pool
  pub room : at + length (shown reply pool) ≤ length out

pub record HasRoom (input out : List ℕ) (at : ℕ) : Type 0 where
  pub small : length input ≤ 65536
  pub room : at + length (entries (answers input)) ≤ length out

-- the entries of a text stand in the output from a place on
pub record EntriesPut (input out : List ℕ) (at behind count : ℕ) (out' : List ℕ) : Type 0 where
  pub puts : Puts out at (entries (answers input)) behind out'
  pub counts : count ≡ length (answers input)
