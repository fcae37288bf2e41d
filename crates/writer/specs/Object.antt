-- An object: the text of a list of records, or why it has none.
-- Assumes nothing.
use Rattle.std.specs.Prelude.{ℕ, ◌+◌, Bool, false, List, [], ◌∷◌, ◌++◌, length, ◌==◌, nat_lt}
use Rattle.std.proofs.Math.Option.{Option, none}
use Rattle.digits.specs.Common.{or_else}
use Rattle.std.specs.Prelude.{if◌then◌else◌}
use Rattle.record.specs.Refusals.{Refusal, missing_end_of_file_record, multiple_end_of_file_records}
use Rattle.record.specs.declared.Record.{Record}
use Rattle.record.specs.Record.{type_of}
use Rattle.writer.specs.Aliases.{Written}
use Rattle.writer.specs.Text.{Text, refused, unless, Writes}
use Rattle.writer.specs.Line.{line_refusal, ended_line}

abbrev pub is_end : Record → Bool
is_end r = type_of r == 1

-- how many end records there are
unfoldable pub ends : List Record → ℕ
ends [] = 0
ends (r ∷ rs) = (if is_end r then 1 else 0) + ends rs

-- the last record is an end
unfoldable pub ends_in_end : List Record → Bool
ends_in_end [] = false
ends_in_end (r ∷ []) = is_end r
ends_in_end (r ∷ q ∷ rs) = ends_in_end (q ∷ rs)

-- why the first record without a line has none
unfoldable pub first_refusal : List Record → (n : ℕ) → Option Refusal
first_refusal [] n = none
first_refusal (r ∷ rs) n = or_else (line_refusal r n) (first_refusal rs n)

-- the lines of all records, each with its LF
unfoldable pub joined_lines : List Record → (pool : List ℕ) → List ℕ
joined_lines [] pool = []
joined_lines (r ∷ rs) pool = ended_line r pool ++ joined_lines rs pool

unfoldable pub object : List Record → (pool : List ℕ) → Text
unfolding ends ends_in_end first_refusal joined_lines
object rs pool =
    if ends_in_end rs
    then (if nat_lt 1 (ends rs) then refused (multiple_end_of_file_records (ends rs)) else
    unless (first_refusal rs (length pool)) (joined_lines rs pool))
    else refused missing_end_of_file_record

-- what a writer of an object answers, and leaves in the output
abbrev pub WriteObject : List Record → (pool out : List ℕ) → Written → (out' : List ℕ) → Type 0
WriteObject rs pool out r out' = Writes (object rs pool) out 0 r out'
