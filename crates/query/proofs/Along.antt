-- The answer of one walk over what is said on lines is the answer of all their steps.
-- Assumes nothing.
use Rattle.std.proofs.Common.{◌≡◌, ℕ, Bool, true, false, List, [], ◌∷◌, ◌++◌, refl, ◌∙◌}
use mathlib.Core.Option.{Option, none, some}
use Rattle.digits.specs.Common.{or_else}
use Rattle.std.specs.Prelude.{if◌then◌else◌}
use Rattle.record.specs.Refusals.{start_conflict}
use Rattle.record.specs.Line.{says, wrong}
use Rattle.record.specs.Meaning.{Meaning, data_at, end_of_file, extended_segment, start_segment, extended_linear, start_linear, meaning}
use Rattle.record.proofs.Choices.{or_else_none, or_else_assoc}
use Rattle.reader.specs.Lines.{lines}
use Rattle.reader.specs.Row.{Numbered, on, sayings, row}
use Rattle.reader.specs.Text.{default_options}
use Rattle.steps.specs.Steps.{Start, cs_with_ip, linear_address, starts, Step, step, Tally, nothing_yet, one_more, refused, differ, on as on-with, stop, turn, onward as decided, decision, verdict, stated}
use Rattle.steps.specs.Sites.{last_at}
use Rattle.steps.specs.Ask.{anywhere, Asked, refuses, answered, ask_steps}
use Rattle.steps.specs.Ask as steps
use Rattle.steps.proofs.Places.{last_append}
use Rattle.steps.proofs.Ask.{all_anywhere}
use Rattle.intel.specs.Placing.{from_start, placed, base_behind, does, act, base_after, along, steps_of}
use Rattle.intel.specs.Records.{left, does_on}
use Rattle.intel.proofs.Rows.{steps_along, cut_text}
use Rattle.query.specs.Along.{Known, nothing_known, goes_on, answers, at_start, at_record, onward, asked_along}
use Rattle.query.specs.Ask.{ask}
use Rattle.query.specs.Claims.{AskByRow}

-- the answer of steps, after a tally and a byte
unfoldable asked_from : (address : ℕ) → Option ℕ → Tally → List Step → Asked
unfolding last_at stated verdict decision
asked_from address seen t s = answered (or_else (last_at address (stated s)) seen) (verdict (decision anywhere t s))

module _ (address : ℕ) where
  -- the steps of these sayings are answered as their walk, whatever the count of data records so far
  abbrev AsWalked : List Numbered → Type 0
  AsWalked row = (k : Known) (t : Tally) → t.start ≡ k.start → asked_from address k.byte t (left k.base row) ≡ asked_along address k row

  at_data : (n : ℕ) (k : Known) (t : Tally) (offset : ℕ) (bytes : List ℕ) (row : List Numbered) → t.start ≡ k.start → AsWalked row
      → asked_from address k.byte t (does_on n k.base (data_at offset bytes) ++ left k.base row)
      ≡ onward (at_record address n k (data_at offset bytes)) (λ k'. asked_along address k' row)
  unfolding asked_from decision turn stated does at_record
  at_data n k t offset bytes row e ih =
      let what = placed k.base offset 0 bytes in
      rw (all_anywhere what, last_append address what (stated (left k.base row)), or_else_assoc (last_at address (stated (left k.base row))) (last_at address what) k.byte)
      (ih (record { base = k.base; start = k.start; byte = or_else (last_at address what) k.byte }) (one_more t) e)

  at_a_start : (n : ℕ) (k : Known) (t : Tally) (s : Start) (row : List Numbered) → t.start ≡ k.start → AsWalked row
      → asked_from address k.byte t (step n (starts s) ∷ left k.base row) ≡ onward (at_start n k s) (λ k'. asked_along address k' row)
  unfolding asked_from decision turn stated verdict
  at_a_start n k t s row e ih = rw e (go (differ k.start (some s)))
    where
      go : (b : Bool)
          → answered (or_else (last_at address (stated (left k.base row))) k.byte)
          (verdict (decided n (if b then stop (refused start_conflict n) else on-with (record { records = t.records; start = or_else k.start (some s) })) (λ t'. decision anywhere t' (left k.base row))))
          ≡ onward (if b then answers (refuses start_conflict n) else goes_on (record { base = k.base; start = or_else k.start (some s); byte = k.byte })) (λ k'. asked_along address k' row)
      go true = refl
      go false = ih (record { base = k.base; start = or_else k.start (some s); byte = k.byte }) (record { records = t.records; start = or_else k.start (some s) }) refl

  at_a_record : (n : ℕ) (k : Known) (t : Tally) (m : Meaning) (row : List Numbered) → t.start ≡ k.start → AsWalked row
      → asked_from address k.byte t (does_on n k.base m ++ left (base_behind k.base m) row) ≡ onward (at_record address n k m) (λ k'. asked_along address k' row)
  unfolding asked_from decision turn stated verdict last_at does base_behind at_record
  at_a_record n k t (data_at offset bytes) row e ih = at_data n k t offset bytes row e ih
  at_a_record n k t end_of_file row e ih = refl
  at_a_record n k t (extended_segment x) row e ih = ih _ t e
  at_a_record n k t (start_segment cs ip) row e ih = at_a_start n k t (cs_with_ip cs ip) row e ih
  at_a_record n k t (extended_linear x) row e ih = ih _ t e
  at_a_record n k t (start_linear x) row e ih = at_a_start n k t (linear_address x) row e ih

  as_walked : (row : List Numbered) → AsWalked row
  unfolding asked_from asked_along along act base_after decision turn stated verdict
  as_walked [] k t e = refl
  as_walked (on n (wrong r) ∷ row) k t e = refl
  as_walked (on n (says kind field payload) ∷ row) k t e = at_a_record n k t (meaning kind field payload) row e (as_walked row)

  from_nothing : (s : List Step) → ask_steps address s ≡ asked_from address none nothing_yet s
  unfolding ask_steps asked_from
  from_nothing s = rw (or_else_none (last_at address (stated s)))

-- so a text is answered by a walk over all that its lines say
pub ask_along : (text : List ℕ) (address : ℕ) → ask text address ≡ asked_along address nothing_known (sayings 1 (lines text))
unfolding steps.ask
ask_along text address = from_nothing address (steps_of text) ∙ rw (steps_along text) (as_walked address (sayings 1 (lines text)) nothing_known nothing_yet refl)

-- and by one over what the reader says of it
pub ask_by_row : AskByRow
unfolding steps.ask ask_steps
ask_by_row text address =
    let (d, s) = cut_text (λ base. base) text in
    rw (← s, ← (d anywhere nothing_yet)) (from_nothing address (along (λ base. base) from_start (row default_options text)) ∙ as_walked address (row default_options text) nothing_known nothing_yet refl)
