-- A line that is begun and not ended, and how it goes on, byte by byte.
-- Assumes nothing.
use Rattle.std.specs.Prelude.{ℕ, suc, ◌+◌, ◌%◌, ◌^◌, Bool, true, false, List, [], ◌∷◌, ◌++◌, length, take, drop, replicate, ◌==◌, nat_lt, slice_index}
use Rattle.std.proofs.Math.Option.{Option, none, some}
use mathlib.Core.List.{foldl}
use Rattle.std.specs.Prelude.{if◌then◌else◌}
use Rattle.digits.specs.Digits.{is_digit}
use Rattle.digits.specs.Reading.{named}
use Rattle.reader.specs.Lines.{LF, CR}

-- What is kept of a line: bytes of it, and how many digits were left out ahead of the last of them.
pub record Kept : Type 0 where
  pub bytes : List ℕ
  pub skipped : ℕ

abbrev pub none_kept : Kept
none_kept = record { bytes = []; skipped = 0 }

-- That, and whether a CR behind it waits: it belongs to the line's end if LF comes next, and to the line if anything else does.
pub record Begun : Type 0 where
  pub kept : Kept
  pub cr : Bool

abbrev pub nothing : Begun
nothing = record { kept = none_kept; cr = false }

unfoldable pub is_empty : List ℕ → Bool
is_empty [] = true
is_empty (c ∷ line) = false

-- One byte more of a line. At most 522 are kept, one more than the longest good line has: of a longer line the first 521, and then
-- its first byte behind them that is no digit, or its last one where all are digits. The digits that it replaces are counted, up to
-- 65,535.
unfoldable pub push : Kept → ℕ → Kept
push k c =
    if nat_lt (length k.bytes) 522 then record { bytes = k.bytes ++ (c ∷ []); skipped = k.skipped } else
    if is_digit (slice_index k.bytes 521) then record { bytes = take 521 k.bytes ++ (c ∷ []); skipped = named (suc k.skipped) } else
    k

-- What is kept of a whole line.
abbrev pub brief : List ℕ → Kept
brief line = foldl push none_kept line

-- digits ahead of a row that has a byte: zeros
unfoldable pub behind_digits : ℕ → List ℕ → List ℕ
behind_digits n [] = []
behind_digits n (c ∷ cs) = replicate n 48 ++ (c ∷ cs)

-- The line that what is kept stands for: with a zero for each digit that was counted it is judged as the line is (`JudgedAsKept`).
unfoldable pub stands_for : Kept → List ℕ
unfolding behind_digits
stands_for k = take 521 k.bytes ++ behind_digits k.skipped (drop 521 k.bytes)

-- What is kept, with the CR once it is known to belong to the line.
unfoldable pub with_CR : Begun → Kept
unfolding push
with_CR b = if b.cr then push b.kept CR else b.kept

-- A byte that is no LF goes on with the line.
unfoldable pub add : Begun → ℕ → Begun
unfolding with_CR
add b c = if c == CR then record { kept = with_CR b; cr = true } else record { kept = push (with_CR b) c; cr = false }

-- Lines are counted in machine numbers.
abbrev pub counted : ℕ → ℕ
counted n = (n + 1) % 2 ^ 64

-- What a text holds for a line that is begun, with the number of empty lines that were passed ahead of it.
pub data Sought : Type 0 where
  -- The first line that ends in it and has a byte: the text from its first byte on, where it began in this text; what is kept of the
  -- line; the text behind its LF.
  ended : (start : Option (List ℕ)) (empties : ℕ) (kept : Kept) (rest : List ℕ) → Sought
  -- No such line: what is begun when the text is used up.
  unended : (empties : ℕ) → Begun → Sought

unfoldable pub seek : (start : Option (List ℕ)) (empties : ℕ) → Begun → List ℕ → Sought
unfolding is_empty add
seek start n b [] = unended n b
seek start n b (c ∷ text) =
    if c == LF
    then (if is_empty b.kept.bytes then seek (some text) (counted n) nothing text else ended start n b.kept text)
    else seek start n (add b c) text

-- The first line of what is begun and a text behind it. It begins in the text only where nothing is begun.
unfoldable pub look : (empties : ℕ) → Begun → List ℕ → Sought
unfolding is_empty with_CR seek
look n b text = seek (if is_empty (with_CR b).bytes then some text else none) n b text
