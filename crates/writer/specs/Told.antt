-- What an answer tells: the place behind what was written, or a refusal.
-- Assumes nothing.
use Rattle.std.specs.Prelude.{ℕ}
use Rattle.record.specs.Refusals.{Refusal, payload_outside_pool, data_exceeds_maximum_length, missing_end_of_file_record, multiple_end_of_file_records, output_full}
use Rattle.writer.specs.declared.WriterError.{WriterError}
use Rattle.writer.specs.declared.WriterError.TheVariants.{DataExceedsMaximumLength, MissingEndOfFileRecord, MultipleEndOfFileRecords, PayloadOutsidePool, OutputFull}
use Rattle.writer.specs.Aliases.{Written}
use Rattle.std.specs.Prelude.{Err, Ok}

pub data ToldWritten : Type 0 where
  wrote : (place : ℕ) → ToldWritten
  refuses : Refusal → ToldWritten

abbrev pub writer_refusal : WriterError → Refusal
writer_refusal (DataExceedsMaximumLength n) = data_exceeds_maximum_length n
writer_refusal MissingEndOfFileRecord = missing_end_of_file_record
writer_refusal (MultipleEndOfFileRecords n) = multiple_end_of_file_records n
writer_refusal PayloadOutsidePool = payload_outside_pool
writer_refusal OutputFull = output_full

abbrev pub told_written : Written → ToldWritten
told_written (Ok n) = wrote n
told_written (Err e) = refuses (writer_refusal e)
