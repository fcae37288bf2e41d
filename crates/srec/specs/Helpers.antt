-- What the helpers of the reader and the writer ask of and promise each other.
-- Assumes nothing.
use Rattle.std.specs.Prelude.{◌≡◌, ℕ, ◌+◌, ◌*◌, ◌%◌, ◌≤◌, true, List, length, take, drop, slice_index, slice_index_or}
use Rattle.std.proofs.Math.Option.{none}
use Rattle.checksum.specs.Checksum.{sum}
use Rattle.digits.specs.Common.{pasted}
use Rattle.digits.specs.Digits.{digit, big_endian}
use Rattle.digits.specs.Spelling.{spelt}
use Rattle.srec.specs.declared.SRecord.{SRecord}
use Rattle.srec.specs.Types.{is_named, width}
use Rattle.srec.specs.Written.{most_data}
use Rattle.srec.specs.Writer.{refusal_for, line}

-- the number that w bytes of a buffer from its second on say
pub record Addressed (w : ℕ) (buf : List ℕ) (r : ℕ) : Type 0 where
  pub answer : r ≡ big_endian (take w (drop 1 buf))

-- m bytes of a buffer after the digit of a named type, and their sum
pub record Summed (kind : ℕ) (buf : List ℕ) (m total : ℕ) : Type 0 where
  pub named : is_named kind ≡ true
  pub least : width kind + 2 ≤ m
  pub most : m ≤ 256
  pub room : 256 ≤ length buf
  pub sums : total ≡ sum (take m buf) % 256

-- a line that starts with an S and the digit of a named type, and a buffer for its bytes
pub record Starting (kind : ℕ) (buf line : List ℕ) : Type 0 where
  pub starts : slice_index_or line 0 0 ≡ 83
  pub long : 2 ≤ length line
  pub typed : kind ≡ digit (slice_index line 1)
  pub named : is_named kind ≡ true
  pub room : 256 ≤ length buf

-- ---- the writer

-- the digits of bytes were put at a place, and the bytes sum to r with a sum before them
pub record Row (bytes : List ℕ) (before : ℕ) (out : List ℕ) (at r : ℕ) (out' : List ℕ) : Type 0 where
  pub sums : r ≡ (before + sum bytes) % 256
  pub left : out' ≡ pasted out at (spelt bytes)

-- a line fits from the output's start on
pub record Fitting (kind : ℕ) (payload out : List ℕ) : Type 0 where
  pub named : is_named kind ≡ true
  pub digit : kind ≤ 9
  pub most : length payload ≤ most_data kind
  pub room : 6 + 2 * width kind + 2 * length payload ≤ length out

-- a record that has a line, which fits
pub record Ready (r : SRecord) (pool out : List ℕ) : Type 0 where
  pub fine : refusal_for r (length pool) ≡ none
  pub room : length (line r pool) ≤ length out
