-- The first pass, step by step: what a record and a line come to, and that the decision on what is left stays the whole decision.
-- Assumes nothing.
use Rattle.std.proofs.Common.{◌⊎◌, ⊎_elim, ◌≡◌, ℕ, suc, ◌+◌, ◌-◌, ◌<◌, ◌≤◌, Bool, ◌≢◌, List, [], ◌∷◌, ◌++◌, map, length, take, drop, sym, refl, ap, ◌∙◌, add-one, arith, length-drop, drop_of_length-le, eq-eqb, ne_eqb, le-leb}
use mathlib.Core.Option.{some}
use borrow.Author.Tests.{lt-leb}
use Rattle.record.specs.Refusals.{missing_end_of_file_record, outside_window, count_mismatch}
use Rattle.record.specs.Line.{wrong}
use Rattle.reader.specs.declared.ReaderError.{ReaderError}
use Rattle.reader.specs.Told.{refusal_of}
use Rattle.reader.specs.Lines.{first_line, rest, lines}
use Rattle.reader.proofs.Cutting.{lines_cons}
use Rattle.reader.proofs.Searching.{CutOff, tail_is, behind_inside, behind_moves, rest_behind}
use Rattle.srec.specs.declared.SRecord.{SRecord}
use Rattle.srec.specs.declared.SType.{SType}
use Rattle.srec.specs.declared.SType.TheVariants.{S0, S1, S2, S3, S5, S7, S8, S9}
use Rattle.srec.specs.Line.{judge}
use Rattle.srec.specs.Record.{digit_of, data_of}
use Rattle.steps.specs.Steps.{linear_address, places, counts, Step, step, accepted, refused, turn, decision, verdict}
use Rattle.steps.specs.Source.{steps}
use Rattle.steps.specs.Source as source
use Rattle.steps.specs.Aliases.{Loading}
use Rattle.steps.specs.declared.Tally.{Tally as CodeTally}
use Rattle.steps.specs.Told.{tallied, told_loading}
use Rattle.window.specs.Promises.{Surveyed}
use Rattle.srecload.specs.declared.Walk.{Walk}
use Rattle.srecload.specs.Placing.{s_header, s_data, s_count, s_end, s_meaning, s_address, s_placed, s_does, s_act, s_records, line_steps}
use Rattle.srecload.specs.Helpers.{so_far, Passed, ahead_of, left_of, UnderWay, stands_in, HasMet, has_met}
use Rattle.window.specs.LineByLine.{Begun, JudgedOn}
use Rattle.srecload.proofs.Reading.{Came}
use Rattle.std.specs.Prelude.{None, Some}

-- ---- what a digit means, and a type

module _ (d address : ℕ) (bytes : List ℕ) where
  pub means_header : d ≡ 0 → s_meaning d address bytes ≡ s_header
  unfolding s_meaning
  means_header e = rw e

  pub means_data : d ≢ 0 → d ≤ 3 → s_meaning d address bytes ≡ s_data address bytes
  unfolding s_meaning
  means_data n l = rw (ne_eqb d 0 n, le-leb d 3 l)

  pub means_count : d ≡ 5 → s_meaning d address bytes ≡ s_count address
  unfolding s_meaning
  means_count e = rw (ne_eqb d 0 (omega arith), lt-leb d 3 (omega arith), eq-eqb d 5 e)

  pub means_end : 3 < d → d ≢ 5 → s_meaning d address bytes ≡ s_end address
  unfolding s_meaning
  means_end l n = rw (ne_eqb d 0 (omega arith), lt-leb d 3 l, ne_eqb d 5 n)

module _ (t : SType) (address : ℕ) (bytes : List ℕ) where
  pub kind_header : t ≡ S0 → s_meaning (digit_of t) address bytes ≡ s_header
  unfolding s_meaning
  kind_header e = rw e

  pub kind_data : (t ≡ S1) ⊎ ((t ≡ S2) ⊎ (t ≡ S3)) → s_meaning (digit_of t) address bytes ≡ s_data address bytes
  unfolding s_meaning
  kind_data e = ⊎_elim (λ p. rw p) (λ q. ⊎_elim (λ p. rw p) (λ p. rw p) q) e

  pub kind_count : t ≡ S5 → s_meaning (digit_of t) address bytes ≡ s_count address
  unfolding s_meaning
  kind_count e = rw e

  pub kind_end : (t ≡ S7) ⊎ ((t ≡ S8) ⊎ (t ≡ S9)) → s_meaning (digit_of t) address bytes ≡ s_end address
  unfolding s_meaning
  kind_end e = ⊎_elim (λ p. rw p) (λ q. ⊎_elim (λ p. rw p) (λ p. rw p) q) e

-- ---- one record

module _ (inside : ℕ → Bool) (n seen : ℕ) where
  -- what does nothing
  pub met_nothing : Passed inside seen [] seen
  met_nothing = record { counted = omega arith; same = λ rest. refl }

  pub met_count : (stated : ℕ) → stated ≡ seen → Passed inside seen (step n (counts stated) ∷ []) seen
  unfolding decision turn
  met_count stated e = record { counted = omega arith; same = λ rest. rw (eq-eqb stated (seen) e) }

  pub met_miscount : (stated : ℕ) → stated ≢ seen
      → (rest : List Step) → refused (count_mismatch stated (seen)) n ≡ verdict (decision inside (so_far seen) ((step n (counts stated) ∷ []) ++ rest))
  unfolding decision turn verdict
  met_miscount stated ne rest = rw (ne_eqb stated (seen) ne)

  pub met_end : (address : ℕ) (rest : List Step)
      → accepted (record { records = seen; start = some (linear_address address) }) ≡ verdict (decision inside (so_far seen) (map (step n) (s_does (s_end address)) ++ rest))
  unfolding decision turn verdict s_does
  met_end address rest = refl

module _ (inside : ℕ → Bool) (n seen : ℕ) (address len : ℕ) (bytes : List ℕ) (l : length bytes ≡ len) where
  pub met_inside : Surveyed (s_address address) len inside None → Passed inside seen (step n (places (s_placed address bytes)) ∷ []) (seen + 1)
  unfolding decision turn
  met_inside s = record { counted = omega arith; same = λ rest. rw (s.answer bytes l, add-one (seen)) }

  pub met_outside : (i : ℕ) → Surveyed (s_address address) len inside (Some i)
      → (rest : List Step) → refused (outside_window (s_address address i)) n
      ≡ verdict (decision inside (so_far seen) ((step n (places (s_placed address bytes)) ∷ []) ++ rest))
  unfolding decision turn verdict
  met_outside i s rest = rw (s.answer bytes l)

-- ---- one line

-- the steps of a line that has a byte
pub line_said : (n : ℕ) (line : List ℕ) → 0 < length line → line_steps n line ≡ map (step n) (s_act (judge line))
unfolding line_steps
line_said n [] h = absurd (omega arith)
line_said n (c ∷ line) h = refl

pub line_empty : (n : ℕ) (line : List ℕ) → length line ≡ 0 → line_steps n line ≡ []
unfolding line_steps
line_empty n [] e = refl
line_empty n (c ∷ line) e = absurd (omega arith)

-- the steps of a line that gave a record
pub line_came : (n : ℕ) (line pool' : List ℕ) (x : SRecord) → 0 < length line → Came line pool' x
    → line_steps n line ≡ map (step n) (s_does (s_meaning (digit_of x.kind) x.address (data_of x pool')))
unfolding s_act
line_came n line pool' x h c = line_said n line h ∙ rw c.said

pub met_refused : (inside : ℕ → Bool) (n : ℕ) (seen : ℕ) (line : List ℕ) (e : ReaderError) → 0 < length line → judge line ≡ wrong (refusal_of e)
    → (rest : List Step) → refused (refusal_of e) n ≡ verdict (decision inside (so_far seen) (line_steps n line ++ rest))
unfolding decision turn verdict s_act
met_refused inside n seen line e h w rest = rw (line_said n line h, w)

-- ---- the next line of a text

-- the steps of a line, and of the lines after it
steps_cons : (n : ℕ) (line : List ℕ) (ls : List (List ℕ)) → steps s_records tt n (line ∷ ls) ≡ line_steps n line ++ steps s_records tt (suc n) ls
unfolding steps s_records line_steps
steps_cons n [] ls = refl
steps_cons n (c ∷ line) ls = refl

text_lines : (text : List ℕ) → 0 < length text → lines text ≡ first_line text ∷ lines (rest text)
text_lines [] h = absurd (omega arith)
text_lines (c ∷ text) h = lines_cons c text

module _ (text : List ℕ) (w : Walk) (under : UnderWay text w) (left : w.position < length text) (line : List ℕ) (n : ℕ)
    (known : CutOff (take (length text - w.position) (drop w.position text)) line n) where
  here : CutOff (drop w.position text) line n
  here = rw (tail_is text w.position) at known

  abbrev pub there : Walk
  there = record { position = w.position + n; line = w.line + 1 }

  pub moves : 0 < n
  moves = behind_moves text w.position left n here.place

  pub stays_inside : w.position + n ≤ length text
  stays_inside = behind_inside text w.position left n here.place

  pub under_way_there : UnderWay text there
  under_way_there = record { inside = stays_inside; few = omega (arith, moves, under.few) }

  -- the steps before the walk are those of the line, and then those of the walk after it
  pub ahead_step : ahead_of w text ≡ line_steps (w.line + 1) line ++ ahead_of there text
  ahead_step =
      let l = length-drop w.position text in
      ap (steps s_records tt (suc w.line)) (text_lines (drop w.position text) (omega arith))
      ∙ steps_cons (suc w.line) (first_line (drop w.position text)) (lines (rest (drop w.position text)))
      ∙ rw (add-one w.line, ← here.first, rest_behind text w.position left n here.place)

  module _ (inside : ℕ → Bool) (seen : ℕ) where
    pub judged_on : (tally : CodeTally) → HasMet w tally → tally.records ≡ seen → (seen' : ℕ) → Passed inside seen (line_steps (w.line + 1) line) seen'
        → JudgedOn stands_in has_met ahead_of left_of inside text w tally there (record { records = seen'; start = tally.start })
    judged_on tally m e seen' p =
        record {
          stands = under_way_there;
          met = record { no_start = m.no_start; counted = omega (arith, p.counted, m.counted) };
          same = rw (m.no_start, e) (p.same (ahead_of there text) ∙ ap (decision inside (so_far seen)) (sym ahead_step));
          less = omega (arith, moves, stays_inside);
        }

    pub judged_stop : (tally : CodeTally) → HasMet w tally → tally.records ≡ seen → (l : Loading)
        → ((rest : List Step) → told_loading l ≡ verdict (decision inside (so_far seen) (line_steps (w.line + 1) line ++ rest)))
        → told_loading l ≡ verdict (decision inside (tallied tally) (ahead_of w text))
    judged_stop tally m e l h = rw (m.no_start, e) (h (ahead_of there text) ∙ ap (λ (s : List Step). verdict (decision inside (so_far seen) s)) (sym ahead_step))

-- at the end of the text there are no steps
pub no_steps : (text : List ℕ) (w : Walk) → w.position ≡ length text → ahead_of w text ≡ []
unfolding steps lines
no_steps text w e = let d : drop w.position text ≡ [] = drop_of_length-le text {i = w.position} (omega arith) in rw d

pub judged_out : (inside : ℕ → Bool) (text : List ℕ) (w : Walk) (tally : CodeTally) → w.position ≡ length text
    → refused missing_end_of_file_record 0 ≡ verdict (decision inside (tallied tally) (ahead_of w text))
unfolding decision verdict
judged_out inside text w tally e = rw (no_steps text w e)

-- ---- the beginning of a text

abbrev pub start : Walk
start = record { position = 0; line = 0 }

pub begun : (text : List ℕ) → Begun s_records stands_in has_met ahead_of start text
unfolding source.steps_of s_records
begun text = record { stands = record { inside = omega arith; few = omega arith }; met = record { no_start = refl; counted = omega arith }; all = refl }
