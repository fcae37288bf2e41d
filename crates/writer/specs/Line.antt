-- One record: its line, or why it has none.
-- Assumes nothing.
use Rattle.std.specs.Prelude.{ℕ, ◌+◌, leb, List, [], ◌∷◌, ◌++◌, length, nat_le}
use Rattle.std.proofs.Math.Option.{Option, none, some}
use Rattle.std.specs.Prelude.{if◌then◌else◌}
use Rattle.record.specs.Refusals.{Refusal, payload_outside_pool, data_exceeds_maximum_length}
use Rattle.record.specs.declared.Record.{Record}
use Rattle.record.specs.declared.Record.TheVariants.{Data, EndOfFile, ExtendedSegmentAddress, StartSegmentAddress, ExtendedLinearAddress, StartLinearAddress}
use Rattle.record.specs.Record.{meant}
use Rattle.record.specs.Written.{line_of}
use Rattle.writer.specs.Aliases.{Written}
use Rattle.writer.specs.Told.{writer_refusal}
use Rattle.writer.specs.Text.{Text, refused, unless, Writes}
use Rattle.std.specs.Prelude.{Err, Ok}

-- why a record has no line, over a pool of n bytes
abbrev pub line_refusal : Record → (n : ℕ) → Option Refusal
line_refusal (Data offset at len) n =
    if nat_le (at + len) n
    then (if leb len 255 then none else some (data_exceeds_maximum_length len))
    else some payload_outside_pool
line_refusal EndOfFile n = none
line_refusal (ExtendedSegmentAddress a) n = none
line_refusal (StartSegmentAddress cs ip) n = none
line_refusal (ExtendedLinearAddress a) n = none
line_refusal (StartLinearAddress a) n = none

-- the line of a record whose payload lies in the pool
abbrev pub line : Record → (pool : List ℕ) → List ℕ
line r pool = line_of (meant r pool)

-- the line and its LF
abbrev pub ended_line : Record → (pool : List ℕ) → List ℕ
ended_line r pool = line r pool ++ (10 ∷ [])

abbrev pub line_text : Record → (pool : List ℕ) → Text
line_text r pool = unless (line_refusal r (length pool)) (line r pool)

abbrev pub step_text : Record → (pool : List ℕ) → Text
step_text r pool = unless (line_refusal r (length pool)) (ended_line r pool)

-- the contract of `to_record_string`
abbrev pub ToRecordString : Record → (pool out : List ℕ) → Written → (out' : List ℕ) → Type 0
ToRecordString record' pool out r out' = Writes (line_text record' pool) out 0 r out'

-- the contract of `write_step`
abbrev pub WriteStep : Record → (pool out : List ℕ) (at : ℕ) → Written → (out' : List ℕ) → Type 0
WriteStep record' pool out at r out' = Writes (step_text record' pool) out at r out'

-- the contract of `write_next`
abbrev pub WriteNext : (done : Written) → Record → (pool out : List ℕ) → Written → (out' : List ℕ) → Type 0
WriteNext (Ok at) record' pool out r out' = WriteStep record' pool out at r out'
WriteNext (Err e) record' pool out r out' = Writes (refused (writer_refusal e)) out 0 r out'
