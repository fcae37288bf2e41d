-- One line of the listing: how much room there is for it, and that it is enough.
-- Assumes nothing.
use Prim.Native.Nat.{ℕ, ◌+◌, ◌-◌, ◌*◌, ◌/◌, ◌^◌, ◌≤◌, ◌<◌}
use mathlib.Core.Path.{◌≡◌, sym, ◌∙◌}
use mathlib.Core.Bool.{true, false}
use mathlib.Core.List.{List, [], ◌∷◌}
use native.Mathlib.Omega.{arith}
use lib.Dec.{leb}
use lib.ListN.{length, take, drop, length-append, length-take}
use borrow.Author.Tests.{le-leb, lt-leb, leb-true}
use Rattle.record.specs.Meaning.{data_at}
use Rattle.digits.specs.Spelling.{spelt}
use Rattle.record.specs.declared.Record.{Record}
use Rattle.record.specs.declared.Record.TheVariants.{Data, EndOfFile, ExtendedSegmentAddress, StartSegmentAddress, ExtendedLinearAddress, StartLinearAddress}
use Rattle.reader.specs.declared.ReaderError.{ReaderError}
use Rattle.reader.specs.declared.ReaderError.TheVariants.{MissingStartCode, RecordTooShort, RecordTooLong, RecordNotEvenLength, ContainsInvalidCharacters, ChecksumMismatch, PayloadLengthMismatch, UnsupportedRecordType, InvalidLengthForType, PoolFull}
use Rattle.reader.specs.Aliases.{Reply}
use Rattle.digits.proofs.Tests.{split, both}
use Rattle.reader.specs.Told.{refusal_of}
use Rattle.listing.specs.Listing.{decimal, values_shown, record_entry, refusal_entry, count_line}
use Rattle.listing.specs.Listed.{text_room, line_room, record_room, reply_room}
use Rattle.listing.specs.Helpers.{FitsIn}
use Rattle.listing.proofs.Decimal.{decimal_length}
use Rattle.listing.proofs.Entry.{data_length, payload_most}
use Rattle.listing.proofs.Whole.{count_line_length}
use Rattle.std.specs.Prelude.{Err, None, Ok, Some}

-- ---- whether there is room

pub room_half : (given out : ℕ) → 32 ≤ out → leb given ((out - 32) / 2) ≡ line_room given out
room_half given out h =
    split given ((out - 32) / 2)
    (λ k. le-leb given ((out - 32) / 2) k ∙ sym (le-leb (2 * given + 32) out (omega arith)))
    (λ k. lt-leb given ((out - 32) / 2) k ∙ sym (lt-leb (2 * given + 32) out (omega arith)))

-- a text takes one byte more for each of its bytes
pub room_behind : (given out : ℕ) → given ≤ out → line_room given (out - given) ≡ text_room given out
room_behind given out h =
    split (3 * given + 32) out
    (λ k. le-leb (2 * given + 32) (out - given) (omega arith) ∙ sym (le-leb (3 * given + 32) out k))
    (λ k. lt-leb (2 * given + 32) (out - given) (omega arith) ∙ sym (lt-leb (3 * given + 32) out k))

module _ (offset at len pool out : ℕ) where
  pub data_inside : at + len ≤ pool → record_room (Data offset at len) pool out ≡ line_room len out
  data_inside h = rw (le-leb (at + len) pool h)

  pub data_outside : pool < at + len → record_room (Data offset at len) pool out ≡ false
  data_outside h = rw (lt-leb (at + len) pool h)

-- ---- that it is enough

refusal_most : (e : ReaderError) → length (refusal_entry (refusal_of e)) ≤ 12
unfolding refusal_entry decimal values_shown spelt
refusal_most MissingStartCode = omega arith
refusal_most RecordTooShort = omega arith
refusal_most RecordTooLong = omega arith
refusal_most RecordNotEvenLength = omega arith
refusal_most (ContainsInvalidCharacters place) = omega arith
refusal_most (ChecksumMismatch computed stated) = omega arith
refusal_most PayloadLengthMismatch = omega arith
refusal_most (UnsupportedRecordType kind) = omega arith
refusal_most InvalidLengthForType = omega arith
refusal_most PoolFull = omega arith

module _ (pool out : List ℕ) where
  record_fits : (r : Record) → record_room r (length pool) (length out) ≡ true → FitsIn (Some (Ok r)) pool out 0
  unfolding record_entry spelt
  record_fits (Data offset at len) e =
      let b = both (leb (at + len) (length pool)) (leb (2 * len + 32) (length out)) e in
      let inside = leb-true (at + len) (length pool) b.0 in
      let bytes : List ℕ = take len (drop at pool) in
      let n : length bytes ≤ len = simp length-take (omega arith) in
      record { lies = inside; room = omega (arith, length-append (record_entry (data_at offset bytes)) (10 ∷ []), data_length offset bytes, payload_most bytes, leb-true (2 * len + 32) (length out) b.1) }
  record_fits EndOfFile e = record { lies = tt; room = omega (arith, leb-true 32 (length out) e) }
  record_fits (ExtendedSegmentAddress a) e = record { lies = tt; room = omega (arith, leb-true 32 (length out) e) }
  record_fits (StartSegmentAddress cs ip) e = record { lies = tt; room = omega (arith, leb-true 32 (length out) e) }
  record_fits (ExtendedLinearAddress a) e = record { lies = tt; room = omega (arith, leb-true 32 (length out) e) }
  record_fits (StartLinearAddress a) e = record { lies = tt; room = omega (arith, leb-true 32 (length out) e) }

  pub reply_fits : (reply : Reply) → reply_room reply (length pool) (length out) ≡ true → FitsIn reply pool out 0
  reply_fits (Some (Ok r)) e = record_fits r e
  reply_fits (Some (Err x)) e = record { lies = tt; room = omega (arith, leb-true 32 (length out) e, length-append (refusal_entry (refusal_of x)) (10 ∷ []), refusal_most x) }
  reply_fits None e = record { lies = tt; room = omega arith }

-- a count of 64 bits has at most twenty digits
pub count_fits : (count : ℕ) → count < 2 ^ 64 → length (count_line count) ≤ 32
count_fits count h = omega (arith, count_line_length count, decimal_length 19 count (omega arith))
