-- What the helpers of the writer ask of and promise each other.
-- Assumes nothing.
use Rattle.std.specs.Prelude.{◌≡◌, ℕ, ◌+◌, ◌*◌, ◌/◌, ◌%◌, ◌≤◌, List, [], ◌∷◌, length}
use Rattle.std.proofs.Math.Option.{none}
use Rattle.checksum.specs.Checksum.{sum}
use Rattle.digits.specs.Common.{pasted}
use Rattle.record.specs.declared.Record.{Record}
use Rattle.digits.specs.Spelling.{spelt}
use Rattle.writer.specs.Line.{line_refusal, line}

-- the bytes of a line before its payload
abbrev pub front : (n address kind : ℕ) → List ℕ
front n address kind = n ∷ (address / 256) ∷ (address % 256) ∷ kind ∷ []

-- a line up to its payload was put at a place, and its bytes sum to r
pub record Head (n address kind : ℕ) (out : List ℕ) (at r : ℕ) (out' : List ℕ) : Type 0 where
  pub sums : r ≡ sum (front n address kind) % 256
  pub left : out' ≡ pasted out at (58 ∷ spelt (front n address kind))

-- a line with the payload fits at the place
pub record Fitting (payload out : List ℕ) (at : ℕ) : Type 0 where
  pub most : length payload ≤ 255
  pub room : at + (11 + 2 * length payload) ≤ length out

-- a record that has a line, which fits at the place
pub record Ready (r : Record) (pool out : List ℕ) (at : ℕ) : Type 0 where
  pub fine : line_refusal r (length pool) ≡ none
  pub room : at + length (line r pool) ≤ length out
