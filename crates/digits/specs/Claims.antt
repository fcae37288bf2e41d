-- What is claimed of digits and of the functions that read and write them, and proved in `proofs/Claims.antt`.
-- Assumes nothing.
use Rattle.std.specs.Prelude.{◌≡◌, ℕ, ◌≤◌, Bool, true, List, length}
use Rattle.digits.specs.Digits.{DigitValue, all_digits, leading, bytes}
use Rattle.digits.specs.Hex.{Hex, IsHex}
use Rattle.digits.specs.Reading.{named, FirstOther, NamePlace, pairs, led, Decoded}
use Rattle.digits.specs.Spelling.{CapitalDigit, Spell}

-- where each character is a digit, the bytes that are led are all
abbrev pub LedByAll : Type 0
LedByAll = (ds : List ℕ) → all_digits ds ≡ true → (leading ds ≡ length ds) × (led ds ≡ bytes ds)

-- a refusal names a place as it is, and any beyond 65,535 as that
abbrev pub NamedAs : Type 0
NamedAs = (place : ℕ) → (place ≤ 65535 → named place ≡ place) × (65535 ≤ place → named place ≡ 65535)

-- the value of a digit of the format is the one that the format gives it, and that of any other byte is 16
abbrev pub ValuesOfDigits : Type 0
ValuesOfDigits = (c r : ℕ) → DigitValue c r → ((x : ℕ) → Hex c x → r ≡ x) × (¬ IsHex c → r ≡ 16)

abbrev pub DigitValueUnique : Type 0
DigitValueUnique = (c r r' : ℕ) → DigitValue c r → DigitValue c r' → r ≡ r'

abbrev pub FirstOtherUnique : Type 0
FirstOtherUnique = (ds : List ℕ) (r r' : ℕ) → FirstOther ds r → FirstOther ds r' → r ≡ r'

abbrev pub NamePlaceUnique : Type 0
NamePlaceUnique = (place r r' : ℕ) → NamePlace place r → NamePlace place r' → r ≡ r'

abbrev pub DecodeUnique : Type 0
DecodeUnique =
    (ds buf : List ℕ) (whole whole' : Bool) (total total' : ℕ) (b b' : List ℕ)
    → Decoded (pairs ds (length buf)) buf whole total b → Decoded (pairs ds (length buf)) buf whole' total' b'
    → (whole ≡ whole') × (total ≡ total') × (b ≡ b')

abbrev pub CapitalDigitUnique : Type 0
CapitalDigitUnique = (byte r r' : ℕ) → CapitalDigit byte r → CapitalDigit byte r' → r ≡ r'

abbrev pub SpellUnique : Type 0
SpellUnique =
    (bs : List ℕ) (before : ℕ) (out : List ℕ) (r r' : ℕ) (o o' : List ℕ)
    → Spell bs before out r o → Spell bs before out r' o' → (r ≡ r') × (o ≡ o')
