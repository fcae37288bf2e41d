-- The line that the writer writes for a record: an S, its type's digit, then capitals, two to a byte, the checksum last.
-- Assumes nothing.
use Rattle.std.specs.Prelude.{◌≡◌, ℕ, ◌+◌, ◌-◌, ◌<◌, ◌≤◌, true, List, [], ◌∷◌, ◌++◌, length, drop, ◌==◌}
use Rattle.digits.specs.Common.{Every, Byte}
use Rattle.std.specs.Prelude.{if◌then◌else◌}
use Rattle.digits.specs.Spelling.{spelt}
use Rattle.record.specs.Written.{four_bytes, InCapitalsAfter}
use Rattle.srec.specs.Types.{is_named, width, fits}
use Rattle.srec.specs.Line.{complement_sum, count_of}
use Rattle.srec.specs.Format.{body}

-- a number in n bytes, up to four, high byte first
abbrev pub in_bytes : (n a : ℕ) → List ℕ
in_bytes n a = drop (4 - n) (four_bytes a)

-- the first address that n bytes, two to four, cannot hold
unfoldable pub beyond : (n : ℕ) → ℕ
beyond n = if n == 2 then 65536 else if n == 3 then 16777216 else 4294967296

-- all bytes of a record but the checksum
abbrev pub body_of : (kind address : ℕ) (payload : List ℕ) → List ℕ
body_of kind address payload = body (count_of kind payload) (in_bytes (width kind) address) payload

unfoldable pub written : (kind address : ℕ) (payload : List ℕ) → List ℕ
unfolding spelt complement_sum width
written kind address payload =
    let b : List ℕ = body_of kind address payload in
    83 ∷ (48 + kind) ∷ spelt (b ++ (complement_sum b ∷ []))

-- the most bytes of data: 252, 251 or 250
abbrev pub most_data : (kind : ℕ) → ℕ
most_data kind = 254 - width kind

-- a line that has only capital digits after its S
abbrev pub InCapitals : (line : List ℕ) → Type 0
InCapitals line = InCapitalsAfter 83 line

-- type, address and data that a line can hold
pub record Writable (kind address : ℕ) (payload : List ℕ) : Type 0 where
  pub named : is_named kind ≡ true
  pub sized : fits kind (length payload) ≡ true
  pub most : length payload ≤ most_data kind
  pub address_small : address < beyond (width kind)
  pub payload_bytes : Every Byte payload
