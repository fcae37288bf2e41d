-- The line that the writer writes for a record: a colon, then capitals, two to a byte, the checksum last.
-- Assumes nothing.
use Rattle.std.specs.Prelude.{ℕ, ◌/◌, ◌%◌, ◌<◌, ◌≤◌, ◌≡◌, List, [], ◌∷◌, ◌++◌, length}
use Rattle.std.proofs.Math.Option.{Option, none, some}
use Rattle.checksum.specs.Checksum.{negated_sum}
use Rattle.digits.specs.Spelling.{spelt, Capital}
use Rattle.digits.specs.Common.{Every, Byte}
use Rattle.record.specs.Line.{Said, says, wrong}
use Rattle.record.specs.Format.{Size}
use Rattle.record.specs.Meaning.{Meaning, data_at, end_of_file, extended_segment, start_segment, extended_linear, start_linear, meaning}

-- all bytes of a record but the checksum
abbrev pub body : (kind address : ℕ) (payload : List ℕ) → List ℕ
body kind address payload = length payload ∷ (address / 256) ∷ (address % 256) ∷ kind ∷ payload

unfoldable pub written : (kind address : ℕ) (payload : List ℕ) → List ℕ
unfolding spelt negated_sum
written kind address payload =
    let b : List ℕ = body kind address payload in
    58 ∷ spelt (b ++ (negated_sum b ∷ []))

-- a number in two bytes, and in four, high byte first
abbrev pub two_bytes : ℕ → List ℕ
two_bytes n = (n / 256) ∷ (n % 256) ∷ []

abbrev pub four_bytes : ℕ → List ℕ
four_bytes n = two_bytes (n / 65536) ++ two_bytes (n % 65536)

-- type, address and payload of a record: the address is 0000 for all but data
abbrev pub kind_of : Meaning → ℕ
kind_of (data_at offset bytes) = 0
kind_of end_of_file = 1
kind_of (extended_segment n) = 2
kind_of (start_segment cs ip) = 3
kind_of (extended_linear n) = 4
kind_of (start_linear n) = 5

abbrev pub address_of : Meaning → ℕ
address_of (data_at offset bytes) = offset
address_of end_of_file = 0
address_of (extended_segment n) = 0
address_of (start_segment cs ip) = 0
address_of (extended_linear n) = 0
address_of (start_linear n) = 0

abbrev pub payload_of : Meaning → List ℕ
payload_of (data_at offset bytes) = bytes
payload_of end_of_file = []
payload_of (extended_segment n) = two_bytes n
payload_of (start_segment cs ip) = two_bytes cs ++ two_bytes ip
payload_of (extended_linear n) = two_bytes n
payload_of (start_linear n) = four_bytes n

abbrev pub line_of : Meaning → List ℕ
line_of m = written (kind_of m) (address_of m) (payload_of m)

-- the line that is written for what a line says
abbrev pub rewritten : Said → Option (List ℕ)
rewritten (says kind address payload) = some (line_of (meaning kind address payload))
rewritten (wrong r) = none

-- type, address and payload that a line can hold
pub record Writable (kind address : ℕ) (payload : List ℕ) : Type 0 where
  pub sized : Size kind (length payload)
  pub most : length payload ≤ 255
  pub address_small : address < 65536
  pub payload_bytes : Every Byte payload

-- a record that a line can hold
abbrev pub Sayable : Meaning → Type 0
Sayable (data_at offset bytes) = (offset < 65536) × (length bytes ≤ 255) × Every Byte bytes
Sayable end_of_file = Unit
Sayable (extended_segment n) = n < 65536
Sayable (start_segment cs ip) = (cs < 65536) × (ip < 65536)
Sayable (extended_linear n) = n < 65536
Sayable (start_linear n) = n < 4294967296

-- a line that has only capital digits after its start character
pub record InCapitalsAfter (start : ℕ) (line : List ℕ) : Type 0 where
  pub digits : List ℕ
  pub starts : line ≡ start ∷ digits
  pub capitals : Every Capital digits

-- the same after a colon
abbrev pub InCapitals : (line : List ℕ) → Type 0
InCapitals line = InCapitalsAfter 58 line
