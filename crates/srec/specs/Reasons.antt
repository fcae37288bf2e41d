-- Why the writer answers as it does: relations that compute nothing and use none of the definitions by which `Writer` answers.
-- Each claim is proved in `proofs/Reasons.antt`: the same name, in small letters.
-- Assumes nothing.
use Rattle.std.specs.Prelude.{◌≡◌, ℕ, ◌+◌, ◌*◌, ◌^◌, ◌<◌, ◌≤◌, List, length}
use Rattle.record.specs.Refusals.{Refusal, invalid_length_for_type, payload_outside_pool, data_exceeds_maximum_length, address_too_wide}
use Rattle.writer.specs.Told.{ToldWritten}
use Rattle.writer.specs.Reasons.{Why}
use Rattle.srec.specs.declared.SRecord.{SRecord}
use Rattle.srec.specs.Aliases.{SWritten}
use Rattle.srec.specs.Format.{Width, Size}
use Rattle.srec.specs.Record.{digit_of}
use Rattle.srec.specs.Writer.{told_swritten, ToSRecordString}

-- why a record has no line, over a pool of `size` bytes: 11, its data ends after the pool; 9, it does not, and the type holds no data; 12, neither,
-- and the count of address, data and checksum is more than a byte; 25, none of these, and the address has more bytes than the type's
pub data RecordFault (size : ℕ) (x : SRecord) : Refusal → Type 0 where
  outside : size < x.at + x.len → RecordFault size x payload_outside_pool
  holds_none : x.at + x.len ≤ size → ¬ Size (digit_of x.kind) x.len → RecordFault size x invalid_length_for_type
  too_long : (n : ℕ) → x.at + x.len ≤ size → Size (digit_of x.kind) x.len → Width (digit_of x.kind) n → 255 < n + x.len + 1
      → RecordFault size x (data_exceeds_maximum_length x.len)
  too_wide : (n : ℕ) → x.at + x.len ≤ size → Size (digit_of x.kind) x.len → Width (digit_of x.kind) n → n + x.len + 1 ≤ 255 → 256 ^ n ≤ x.address
      → RecordFault size x address_too_wide

-- how long a line is: six characters, and two for each byte of address and data
abbrev pub LineSize : SRecord → ℕ → Type 0
LineSize x size = (n : ℕ) × Width (digit_of x.kind) n × (size ≡ 6 + 2 * n + 2 * x.len)

-- a reason for an answer: a fault comes first; then 15, the line does not fit; otherwise it is written, and its length is returned
abbrev pub WhyLine : (x : SRecord) (size room : ℕ) → ToldWritten → Type 0
WhyLine x size room = Why (RecordFault size x) (LineSize x) 0 room

-- each answer has one
abbrev pub Reasons : Type 0
Reasons =
    (x : SRecord) (pool out : List ℕ) (r : SWritten) (out' : List ℕ) → ToSRecordString x pool out r out'
    → WhyLine x (length pool) (length out) (told_swritten r)

-- and no second answer has one: each refusal is given exactly when its reason holds
abbrev pub OneReason : Type 0
OneReason = (x : SRecord) (size room : ℕ) (t t' : ToldWritten) → WhyLine x size room t → WhyLine x size room t' → t ≡ t'
