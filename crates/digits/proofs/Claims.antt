-- The claims of `specs/Claims.antt`, proved.
-- Assumes nothing.
use Rattle.std.proofs.Common.{◌≡◌, ◌*◌, length, sym, ◌∙◌, inl, inr, arith}
use Rattle.digits.proofs.Tests.{split}
use Rattle.digits.proofs.Leading.{leading_all}
use Rattle.digits.specs.Digits.{digit}
use Rattle.digits.specs.Hex.{IsHex}
use Rattle.digits.proofs.Hex.{hex_digit, hex_or_none}
use Rattle.digits.specs.Claims.{ValuesOfDigits, NamedAs, DigitValueUnique, LedByAll, FirstOtherUnique, NamePlaceUnique, DecodeUnique, CapitalDigitUnique, SpellUnique}
use Rattle.digits.proofs.Decoding.{led_all}

pub led_by_all : LedByAll
led_by_all ds d = (leading_all ds d, led_all ds d)

pub named_as : NamedAs
named_as place = (λ h. omega arith, λ h. omega arith)

pub values_of_digits : ValuesOfDigits
values_of_digits c r v = (λ x h. v.answer ∙ hex_digit h, λ no-hex. v.answer ∙ none no-hex)
  where
    none : ¬ IsHex c → digit c ≡ 16
    none no-hex = elim (hex_or_none c) [ inl h ↦ absurd (no-hex (digit c, h)) | inr e ↦ e ]

pub digit_value_unique : DigitValueUnique
digit_value_unique c r r' a b = a.answer ∙ sym b.answer

pub first_other_unique : FirstOtherUnique
first_other_unique ds r r' a b = a.answer ∙ sym b.answer

pub name_place_unique : NamePlaceUnique
name_place_unique place r r' a b = a.answer ∙ sym b.answer

pub decode_unique : DecodeUnique
decode_unique ds buf whole whole' total total' b b' x y = (x.digits ∙ sym y.digits, x.sums ∙ sym y.sums, x.left ∙ sym y.left)

pub capital_digit_unique : CapitalDigitUnique
capital_digit_unique byte r r' a b = a.answer ∙ sym b.answer

pub spell_unique : SpellUnique
spell_unique bs before out r r' o o' x y =
    split (2 * length bs) (length out)
    (λ h. ((x.written h).sums ∙ sym (y.written h).sums, (x.written h).left ∙ sym (y.written h).left))
    (λ h. ((x.no_room h).0 ∙ sym (y.no_room h).0, (x.no_room h).1 ∙ sym (y.no_room h).1))
