-- What is claimed of the definitions, and proved in `proofs/Claims.antt` and `proofs/Writing.antt`.
-- Assumes nothing.
use Rattle.std.specs.Prelude.{ℕ, ◌≡◌, ◌↔◌, List}
use Rattle.record.specs.Refusals.{Refusal, number_of, contains_invalid_characters}
use Rattle.record.specs.Line.{says, wrong, judge}
use Rattle.digits.specs.Reading.{named}
use Rattle.record.specs.Format.{Format}
use Rattle.record.specs.Faults.{FirstOffender, Fault}
use Rattle.record.specs.Meaning.{Meaning, meaning}
use Rattle.record.specs.Written.{written, InCapitals, Writable, Sayable, kind_of, address_of, payload_of, line_of}
use Rattle.record.specs.declared.Record.{Record}
use Rattle.record.specs.Record.{RecordType}

-- the judge accepts exactly what the format admits, with the same type, address and payload
abbrev pub Admits : Type 0
Admits =
    (line : List ℕ) (kind address : ℕ) (payload : List ℕ)
    → (judge line ≡ says kind address payload) ↔ Format line kind address payload

-- and refuses every other line, with the refusal that is first in the order
abbrev pub Refuses : Type 0
Refuses = (line : List ℕ) (r : Refusal) → (judge line ≡ wrong r) ↔ Fault line r

-- there is one first offender at most, and refusal 2 comes exactly where there is one, and names its place
abbrev pub OneOffender : Type 0
OneOffender = (line : List ℕ) (p q : ℕ) → FirstOffender line p → FirstOffender line q → p ≡ q

abbrev pub NamesTheOffender : Type 0
NamesTheOffender =
    (line : List ℕ) (r : Refusal)
    → ((judge line ≡ wrong r) × (number_of r ≡ 2)) ↔ ((place : ℕ) × FirstOffender line place × (r ≡ contains_invalid_characters (named place)))

-- what is written is in the format, for exactly that type, address and payload
abbrev pub WrittenInFormat : Type 0
WrittenInFormat =
    (kind address : ℕ) (payload : List ℕ) → Writable kind address payload
    → Format (written kind address payload) kind address payload

-- it is in capitals
abbrev pub WrittenInCapitals : Type 0
WrittenInCapitals = (kind address : ℕ) (payload : List ℕ) → Writable kind address payload → InCapitals (written kind address payload)

-- and no other line of the format for that type, address and payload is
abbrev pub OnlyInCapitals : Type 0
OnlyInCapitals =
    (line : List ℕ) (kind address : ℕ) (payload : List ℕ)
    → Format line kind address payload → InCapitals line → line ≡ written kind address payload

-- the line that is written for a record means that record again
pub record ReadAgain (m : Meaning) : Type 0 where
  pub said : judge (line_of m) ≡ says (kind_of m) (address_of m) (payload_of m)
  pub means : meaning (kind_of m) (address_of m) (payload_of m) ≡ m

abbrev pub ReadsBack : Type 0
ReadsBack = (m : Meaning) → Sayable m → ReadAgain m

-- whatever a line says, a line can hold
abbrev pub SaidIsSayable : Type 0
SaidIsSayable =
    (line : List ℕ) (kind address : ℕ) (payload : List ℕ)
    → judge line ≡ says kind address payload → Sayable (meaning kind address payload)

-- no second answer meets a contract
abbrev pub RecordTypeUnique : Type 0
RecordTypeUnique = (x : Record) (r r' : ℕ) → RecordType x r → RecordType x r' → r ≡ r'
