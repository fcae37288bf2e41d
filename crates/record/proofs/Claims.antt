-- The claims of `specs/Claims.antt`, proved: a line stands as it is judged (`stands`), and is judged as it stands (`admitted`, `refused`).
-- Assumes nothing.
use Prim.Native.Nat.{ℕ}
use mathlib.Core.Path.{◌≡◌, refl, sym, ◌∙◌, ap, subst}
use mathlib.Core.List.{List}
use native.Mathlib.Omega.{arith}
use Rattle.record.specs.Refusals.{Refusal, number_of, contains_invalid_characters}
use Rattle.record.specs.Line.{wrong}
use Rattle.digits.specs.Reading.{named}
use Rattle.record.specs.Faults.{FirstOffender, Fault, no_colon, no_digit, short, long, odd, sum_differs, length_differs, type_unknown, size_differs}
use Rattle.record.specs.Claims.{Admits, Refuses, OneOffender, NamesTheOffender, RecordTypeUnique}
use Rattle.record.proofs.Offender.{same_place}
use Rattle.record.proofs.Standing.{Stands, stands, admitted, refused}

pub admits : Admits
admits line kind address payload = (λ e. subst (Stands line) e (stands line), admitted)

pub refuses : Refuses
refuses line r = (λ e. subst (Stands line) e (stands line), refused)

pub record_type_unique : RecordTypeUnique
record_type_unique x r r' a b = a.answer ∙ sym b.answer

pub one_offender : OneOffender
one_offender line p q f g = same_place 58 line p q f g

-- of the faults only `no_digit` has the number 2
named_by : {line : List ℕ} {r : Refusal} → Fault line r → number_of r ≡ 2 → (place : ℕ) × FirstOffender line place × (r ≡ contains_invalid_characters (named place))
named_by (no_colon h) e = absurd (omega arith)
named_by (no_digit place f) e = (place, f, refl)
named_by (short ds s d h) e = absurd (omega arith)
named_by (long ds s d h) e = absurd (omega arith)
named_by (odd ds s d l m h) e = absurd (omega arith)
named_by (sum_differs ds body stated s p l m h) e = absurd (omega arith)
named_by (length_differs len high low kind check payload s h) e = absurd (omega arith)
named_by (type_unknown high low kind check payload s h) e = absurd (omega arith)
named_by (size_differs high low kind check payload s h z) e = absurd (omega arith)

pub names_the_offender : NamesTheOffender
names_the_offender line r = (
  λ (e, two). named_by ((refuses line r).0 e) two,
  λ (place, f, e). (refused (no_digit place f) ∙ ap wrong (sym e), ap number_of e),
)
