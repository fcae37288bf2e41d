-- What a code says of the answer: which code only a full pool, a record, "done" or an accepted load has.
-- Assumes nothing.
use Prim.Native.Nat.{ℕ, ◌+◌, ◌≤◌, ◌<◌}
use mathlib.Core.Path.{◌≡◌, refl, ap}
use mathlib.Core.Logic.{◌≢◌}
use mathlib.Core.Bool.{false}
use mathlib.Core.Option.{some}
use mathlib.Core.List.{List, [], ◌∷◌}
use native.Mathlib.Omega.{arith}
use lib.Dec.{eqb, ltb}
use lib.ListN.{length}
use borrow.Author.Tests.{le-ltb, ne_eqb, eqb-false}
use Rattle.std.specs.Prelude.{if◌then◌else◌}
use Rattle.record.specs.Refusals.{Refusal, refusal, number_of, pool_full, carry_too_small}
use Rattle.record.specs.Line.{Said, says, wrong, judge}
use Rattle.record.specs.Meaning.{Meaning, data_at, end_of_file, extended_segment, start_segment, extended_linear, start_linear, meaning}
use Rattle.record.specs.declared.Record.{Record}
use Rattle.record.specs.declared.Record.TheVariants.{Data, EndOfFile, ExtendedSegmentAddress, StartSegmentAddress, ExtendedLinearAddress, StartLinearAddress}
use Rattle.record.specs.Record.{type_of}
use Rattle.digits.proofs.Tests.{both_ways}
use Rattle.record.proofs.Standing.{Stands, stands, fault_few}
use Rattle.reader.specs.declared.ReaderError.{ReaderError}
use Rattle.reader.specs.declared.ReaderError.TheVariants.{MissingStartCode, RecordTooShort, RecordTooLong, RecordNotEvenLength, ContainsInvalidCharacters, ChecksumMismatch, PayloadLengthMismatch, UnsupportedRecordType, InvalidLengthForType, PoolFull}
use Rattle.reader.specs.Aliases.{Reply}
use Rattle.reader.specs.Told.{Told, gives, refuses, done, refusal_of}
use Rattle.reader.specs.Answer.{fits_pool, given, answered}
use Rattle.reader.specs.Text.{told_reply, is_full}
use Rattle.writer.specs.Told.{ToldWritten, wrote, refuses as refuses-to-write}
use Rattle.chunks.specs.Next.{Word, tells, used_up, is_record}
use Rattle.steps.specs.Steps.{Tally, Verdict, accepted, refused}
use Rattle.codes.specs.Codes.{OK, DONE, POOL_FULL, CARRY_TOO_SMALL, value, reading, reading_chunk, writing, loading}
use Rattle.std.specs.Prelude.{Err, None, Ok, Some}

-- ---- of a reader

few_types : (r : Record) → type_of r ≤ 5
few_types (Data offset at len) = omega arith
few_types EndOfFile = omega arith
few_types (ExtendedSegmentAddress n) = omega arith
few_types (StartSegmentAddress cs ip) = omega arith
few_types (ExtendedLinearAddress n) = omega arith
few_types (StartLinearAddress n) = omega arith

few_numbers : (e : ReaderError) → number_of (refusal_of e) ≤ 10
few_numbers MissingStartCode = omega arith
few_numbers (ContainsInvalidCharacters place) = omega arith
few_numbers RecordTooShort = omega arith
few_numbers RecordTooLong = omega arith
few_numbers RecordNotEvenLength = omega arith
few_numbers (ChecksumMismatch computed stated) = omega arith
few_numbers PayloadLengthMismatch = omega arith
few_numbers (UnsupportedRecordType kind) = omega arith
few_numbers InvalidLengthForType = omega arith
few_numbers PoolFull = omega arith

refusal_code : (r : Refusal) → (reading (refuses r)).code ≡ 256 + number_of r
refusal_code (refusal n vs) = refl

pub not_full : (t : Told) → (reading t).code ≢ POOL_FULL → is_full t ≡ false
unfolding is_full
not_full (gives kind ns) h = refl
not_full (refuses (refusal n vs)) h = ne_eqb n 10 (λ e. h (ap (λ (k : ℕ). 256 + k) e))
not_full done h = refl

pub no_full_code : (r : Reply) → is_full (told_reply r) ≡ false → (reading (told_reply r)).code ≢ POOL_FULL
unfolding is_full
no_full_code (Some (Ok r)) f e = omega (arith, few_types r)
no_full_code (Some (Err w)) f e = eqb-false (number_of (refusal_of w)) 10 f (omega (arith, refusal_code (refusal_of w)))
no_full_code None f e = omega arith

pub done_code : (r : Reply) → (reading (told_reply r)).code ≡ DONE → told_reply r ≡ done
done_code (Some (Ok r)) e = absurd (omega (arith, few_types r))
done_code (Some (Err w)) e = absurd (omega (arith, few_numbers w, refusal_code (refusal_of w)))
done_code None e = refl

-- ---- of a line, and of a text in chunks

-- the word of a code over 265
unfoldable pub word_at : (code : ℕ) → Word
word_at code =
    if eqb code POOL_FULL then tells (refuses pool_full) else
    if eqb code CARRY_TOO_SMALL then tells (refuses carry_too_small) else
    if eqb code DONE then tells done else used_up

abbrev pub Clear : Word → Type 0
Clear w = 265 < (reading_chunk w).code → w ≡ word_at (reading_chunk w).code

-- and a code under 6 is a record's
abbrev pub ClearTold : Told → Type 0
ClearTold t = Clear (tells t) × (ltb (reading t).code 6 ≡ is_record t)

pub clear_line : (line : List ℕ) (n at : ℕ) → ClearTold (answered (judge line) n at)
unfolding answered given is_record word_at
clear_line line n at = go (judge line) (stands line)
  where
    meant : (m : Meaning) → ClearTold (given m n at)
    meant (data_at offset bytes) =
        both_ways (λ b. ClearTold (if b then gives 0 (offset ∷ at ∷ length bytes ∷ []) else refuses pool_full)) (fits_pool n at bytes) (λ h. absurd (omega arith), refl) (λ h. refl, refl)
    meant end_of_file = (λ h. absurd (omega arith), refl)
    meant (extended_segment number) = (λ h. absurd (omega arith), refl)
    meant (start_segment cs ip) = (λ h. absurd (omega arith), refl)
    meant (extended_linear number) = (λ h. absurd (omega arith), refl)
    meant (start_linear number) = (λ h. absurd (omega arith), refl)

    go : (said : Said) → Stands line said → ClearTold (answered said n at)
    go (says kind address payload) s = meant (meaning kind address payload)
    go (wrong (refusal number values)) s = let few = fault_few s in (λ h. absurd (omega arith), le-ltb (256 + number) 6 (omega arith))

-- ---- of a writer and of a load

-- a code of 0 is no refusal's
pub wrote_it : (t : ToldWritten) (n : ℕ) → OK ≡ (writing (some t)).code → n ≡ value (writing (some t)) 0 → wrote n ≡ t
wrote_it (wrote m) n e v = ap wrote v
wrote_it (refuses-to-write (refusal k vs)) n e v = absurd (omega arith)

pub was_accepted : (v : Verdict) → (loading v).code ≡ OK → (tally : Tally) × (v ≡ accepted tally)
was_accepted (accepted tally) e = (tally, refl)
was_accepted (refused (refusal n vs) line) e = absurd (omega arith)

pub was_refused : (v : Verdict) → (loading v).code ≢ OK → (r : Refusal) × (line : ℕ) × (v ≡ refused r line)
was_refused (accepted tally) h = absurd (h refl)
was_refused (refused r line) h = (r, line, refl)
