-- Lines and what is said of them: worked examples of the format and of each refusal, in the order of judging.
-- Assumes nothing.
use Rattle.std.specs.Prelude.{◌≡◌, List, [], ◌∷◌}
use Prim.Native.String.{String}
use Rattle.digits.specs.Common.{Every, text}
use Rattle.record.specs.Refusals.{missing_start_code, contains_invalid_characters, record_too_short, record_not_even_length, checksum_mismatch, payload_length_mismatch, unsupported_record_type, invalid_length_for_type}
use Rattle.record.specs.Line.{Said, says, wrong}
use Rattle.srec.specs.Line.{judge}
use Rattle.srec.specs.Written.{written}

pub record Example : Type 0 where
  pub line : String
  pub said : Said

abbrev example : String → Said → Example
example l s = record { line = l; said = s }

abbrev pub table : List Example
table =
    example "" (wrong missing_start_code)
    ∷ example ":00000001FF" (wrong missing_start_code)
    ∷ example "s9030000FC" (wrong missing_start_code)
    ∷ example "SG" (wrong (contains_invalid_characters 1))
    ∷ example "S4G" (wrong (contains_invalid_characters 2))
    ∷ example "S1 030000FC" (wrong (contains_invalid_characters 2))
    ∷ example "S" (wrong record_too_short)
    ∷ example "SA" (wrong (unsupported_record_type 10))
    ∷ example "S4" (wrong (unsupported_record_type 4))
    ∷ example "S6030000FC" (wrong (unsupported_record_type 6))
    ∷ example "S1" (wrong record_too_short)
    ∷ example "S1030000F" (wrong record_too_short)
    ∷ example "S2030000FC" (wrong record_too_short)
    ∷ example "S1030000FC0" (wrong record_not_even_length)
    ∷ example "S9030000FD" (wrong (checksum_mismatch 252 253))
    ∷ example "S1000000FF" (wrong payload_length_mismatch)
    ∷ example "S1040000FB" (wrong payload_length_mismatch)
    ∷ example "S904000000FB" (wrong invalid_length_for_type)
    ∷ example "S504000300F8" (wrong invalid_length_for_type)
    ∷ example "S0030001FB" (says 0 1 [])
    ∷ example "S10700001122334E" (wrong (checksum_mismatch 146 78))
    ∷ example "S1070000112233444E" (says 1 0 (17 ∷ 34 ∷ 51 ∷ 68 ∷ []))
    ∷ example "S105FFFFAABB97" (says 1 65535 (170 ∷ 187 ∷ []))
    ∷ example "S105ffffaabb97" (says 1 65535 (170 ∷ 187 ∷ []))
    ∷ example "S205FFFFFEAA54" (says 2 16777214 (170 ∷ []))
    ∷ example "S306FFFFFFFFAA53" (says 3 4294967295 (170 ∷ []))
    ∷ example "S5030003F9" (says 5 3 [])
    ∷ example "S70500000000FA" (says 7 0 [])
    ∷ example "S804000000FB" (says 8 0 [])
    ∷ example "S9030000FC" (says 9 0 [])
    ∷ []

abbrev pub Holds : Type 0
Holds = Every (λ (e : Example). judge (text e.line) ≡ e.said) table

-- a record, and its line
abbrev pub WrittenExamples : Type 0
WrittenExamples =
    (written 1 65535 (170 ∷ 187 ∷ []) ≡ text "S105FFFFAABB97")
    × (written 2 16777214 (170 ∷ []) ≡ text "S205FFFFFEAA54")
    × (written 3 4294967295 (170 ∷ []) ≡ text "S306FFFFFFFFAA53")
    × (written 5 3 [] ≡ text "S5030003F9")
    × (written 7 0 [] ≡ text "S70500000000FA")
    × (written 9 0 [] ≡ text "S9030000FC")
