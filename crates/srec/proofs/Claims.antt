-- The claims of `specs/Claims.antt`, proved: a line stands as it is judged (`stands`), and is judged as it stands (`admitted`, `refused`).
-- Assumes nothing.
use Rattle.std.proofs.Common.{◌≡◌, ℕ, List, sym, refl, ap, ◌∙◌, subst, arith}
use Rattle.record.specs.Refusals.{Refusal, number_of, contains_invalid_characters}
use Rattle.record.specs.Line.{wrong}
use Rattle.digits.specs.Reading.{named}
use Rattle.srec.specs.Faults.{FirstOffender, Fault, no_start, no_digit, no_type, type_unknown, short, long, odd, sum_differs, length_differs, size_differs}
use Rattle.srec.specs.Claims.{Admits, Refuses, ComplementOf, OneOffender, NamesTheOffender}
use Rattle.srec.proofs.Judging.{check_complements, complements_check}
use Rattle.record.proofs.Offender.{same_place}
use Rattle.srec.proofs.Standing.{Stands, stands, admitted, refused}

pub admits : Admits
admits line kind address payload = (λ e. subst (Stands line) e (stands line), admitted)

pub refuses : Refuses
refuses line r = (λ e. subst (Stands line) e (stands line), refused)

pub complement_of : ComplementOf
complement_of bytes check = (check_complements bytes check, λ e. sym (complements_check bytes check e))

pub one_offender : OneOffender
one_offender line p q f g = same_place 83 line p q f g

-- of the faults only `no_digit` has the number 2
named_by : {line : List ℕ} {r : Refusal} → Fault line r → number_of r ≡ 2 → (place : ℕ) × FirstOffender line place × (r ≡ contains_invalid_characters (named place))
named_by (no_start h) e = absurd (omega arith)
named_by (no_digit place f) e = (place, f, refl)
named_by (no_type h) e = absurd (omega arith)
named_by (type_unknown kind ds t u) e = absurd (omega arith)
named_by (short kind n ds t w h) e = absurd (omega arith)
named_by (long kind n ds t w h) e = absurd (omega arith)
named_by (odd kind n ds t w least most h) e = absurd (omega arith)
named_by (sum_differs kind n ds bytes stated t w s least most h) e = absurd (omega arith)
named_by (length_differs kind count place payload check s h) e = absurd (omega arith)
named_by (size_differs kind count place payload check s l z) e = absurd (omega arith)

pub names_the_offender : NamesTheOffender
names_the_offender line r = (
  λ (e, two). named_by ((refuses line r).0 e) two,
  λ (place, f, e). (refused (no_digit place f) ∙ ap wrong (sym e), ap number_of e),
)
