-- One record to be written: its line, or why it has none; the writer's answer, and what it leaves in the output.
-- Assumes nothing.
use Rattle.std.specs.Prelude.{ℕ, ◌+◌, leb, List, length, nat_le, nat_lt}
use Rattle.std.proofs.Math.Option.{Option, none, some}
use Rattle.std.specs.Prelude.{if◌then◌else◌}
use Rattle.record.specs.Refusals.{Refusal, invalid_length_for_type, payload_outside_pool, data_exceeds_maximum_length, output_full, address_too_wide}
use Rattle.writer.specs.Told.{ToldWritten, wrote, refuses}
use Rattle.writer.specs.Text.{Text, unless, Leaves}
use Rattle.srec.specs.declared.SRecord.{SRecord}
use Rattle.srec.specs.declared.SWriterError.{SWriterError}
use Rattle.srec.specs.declared.SWriterError.TheVariants.{PayloadOutsidePool, InvalidLengthForType, DataExceedsMaximumLength, AddressTooWide, OutputFull}
use Rattle.srec.specs.Aliases.{SWritten}
use Rattle.srec.specs.Types.{width, fits}
use Rattle.srec.specs.Written.{beyond, most_data, written}
use Rattle.srec.specs.Record.{digit_of, data_of}
use Rattle.std.specs.Prelude.{Err, Ok}

abbrev pub swriter_refusal : SWriterError → Refusal
swriter_refusal PayloadOutsidePool = payload_outside_pool
swriter_refusal InvalidLengthForType = invalid_length_for_type
swriter_refusal (DataExceedsMaximumLength n) = data_exceeds_maximum_length n
swriter_refusal AddressTooWide = address_too_wide
swriter_refusal OutputFull = output_full

-- what an answer tells: the length of what was written, or a refusal
abbrev pub told_swritten : SWritten → ToldWritten
told_swritten (Ok n) = wrote n
told_swritten (Err e) = refuses (swriter_refusal e)

-- why a record of the type has no line, over a pool of n bytes: 11, 9, 12, 25
unfoldable pub line_refusal : (kind address at len n : ℕ) → Option Refusal
unfolding width beyond
line_refusal kind address at len n =
    if nat_le (at + len) n
    then (if fits kind len
    then (if leb len (most_data kind)
    then (if nat_lt address (beyond (width kind)) then none else some address_too_wide)
    else some (data_exceeds_maximum_length len))
    else some invalid_length_for_type)
    else some payload_outside_pool

abbrev pub refusal_for : SRecord → (n : ℕ) → Option Refusal
refusal_for r n = line_refusal (digit_of r.kind) r.address r.at r.len n

-- the line of a record whose data lies in the pool
abbrev pub line : SRecord → (pool : List ℕ) → List ℕ
line r pool = written (digit_of r.kind) r.address (data_of r pool)

abbrev pub line_text : SRecord → (pool : List ℕ) → Text
line_text r pool = unless (refusal_for r (length pool)) (line r pool)

-- the contract of `to_srecord_string`
abbrev pub ToSRecordString : SRecord → (pool out : List ℕ) → SWritten → (out' : List ℕ) → Type 0
ToSRecordString record' pool out r out' = Leaves (line_text record' pool) out 0 (told_swritten r) out'
