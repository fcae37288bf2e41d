-- One byte asked, as a text is read once: what is known after each line, and the answer. Unlike `ask` of `steps`, which has all steps at hand, this
-- keeps a base, a start and a byte, however long the text is. That both are the same is claimed in `Claims`.
-- Assumes nothing.
use Rattle.std.specs.Prelude.{ℕ, List, [], ◌∷◌}
use Rattle.std.proofs.Math.Option.{Option, none, some}
use Rattle.digits.specs.Common.{or_else}
use Rattle.std.specs.Prelude.{if◌then◌else◌}
use Rattle.record.specs.Refusals.{missing_end_of_file_record, start_conflict}
use Rattle.record.specs.Line.{says, wrong}
use Rattle.record.specs.Meaning.{Meaning, data_at, end_of_file, extended_segment, start_segment, extended_linear, start_linear, meaning}
use Rattle.reader.specs.Row.{Numbered, on}
use Rattle.steps.specs.Steps.{Start, cs_with_ip, linear_address, differ}
use Rattle.steps.specs.Sites.{last_at}
use Rattle.steps.specs.Ask.{Asked, refuses, found}
use Rattle.intel.specs.Placing.{Base, from_start, segment, linear, byte_address, placed}

-- what is known: the base in force, the first start that was stated, and the byte that was stated last at the address
pub record Known : Type 0 where
  pub base : Base
  pub start : Option Start
  pub byte : Option ℕ

-- before the first line
abbrev pub nothing_known : Known
nothing_known = record { base = from_start; start = none; byte = none }

-- what a line comes to: what is known after it, or the answer
pub data Turn : Type 0 where
  goes_on : Known → Turn
  answers : Asked → Turn

-- a start on line n: the first is kept, and one that differs from it is refused with 21
abbrev pub at_start : (n : ℕ) → Known → Start → Turn
at_start n k s =
    if differ k.start (some s) then answers (refuses start_conflict n) else
    goes_on (record { base = k.base; start = or_else k.start (some s); byte = k.byte })

-- a record on line n: of a data record the byte at the address counts, if it has one there; an end record answers with what is known
unfoldable pub at_record : (address n : ℕ) → Known → Meaning → Turn
unfolding last_at byte_address
at_record address n k (data_at offset bytes) =
    goes_on (record { base = k.base; start = k.start; byte = or_else (last_at address (placed k.base offset 0 bytes)) k.byte })
at_record address n k end_of_file = answers (found k.byte)
at_record address n k (extended_segment number) = goes_on (record { base = segment number; start = k.start; byte = k.byte })
at_record address n k (start_segment cs ip) = at_start n k (cs_with_ip cs ip)
at_record address n k (extended_linear number) = goes_on (record { base = linear number; start = k.start; byte = k.byte })
at_record address n k (start_linear number) = at_start n k (linear_address number)

abbrev pub onward : Turn → (Known → Asked) → Asked
onward (goes_on k) later = later k
onward (answers a) later = a

-- what is said on the lines of a text, one after the other, from what is known on
unfoldable pub asked_along : (address : ℕ) → Known → List Numbered → Asked
unfolding at_record meaning
asked_along address k [] = refuses missing_end_of_file_record 0
asked_along address k (on n (wrong r) ∷ row) = refuses r n
asked_along address k (on n (says kind field payload) ∷ row) = onward (at_record address n k (meaning kind field payload)) (λ k'. asked_along address k' row)
