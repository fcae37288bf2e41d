-- What a record comes to: once its type is known its turn computes, and a data record goes by the byte that was noted.
-- Assumes nothing.
use Rattle.std.specs.declared.ops.ControlFlow.TheVariants.{Break, Continue}
use Rattle.std.proofs.Common.{◌≡◌, ℕ, true, false, List, take, drop, refl, ap, ◌∙◌}
use mathlib.Core.Option.{some}
use Rattle.digits.specs.Common.{or_else}
use Rattle.record.specs.Record.{meant}
use Rattle.record.specs.declared.Record.{Record}
use Rattle.record.specs.declared.Record.TheVariants.{Data, EndOfFile, ExtendedSegmentAddress, ExtendedLinearAddress}
use Rattle.steps.specs.declared.LoaderError.TheVariants.{StartConflict}
use Rattle.steps.specs.Aliases.{Stated as CodeStart}
use Rattle.steps.specs.Steps.{Start, differ}
use Rattle.steps.specs.Sites.{last_at}
use Rattle.steps.specs.Ask.{found}
use Rattle.steps.specs.Told.{told_start}
use Rattle.steps.proofs.Starts.{kept_so}
use Rattle.intel.specs.Placing.{segment, linear, placed}
use Rattle.query.specs.declared.Aim.{Aim}
use Rattle.std.specs.Prelude.{None, Ok, Some}
use Rattle.query.specs.Aliases.{Found}
use Rattle.query.specs.Aliases.{CodeTurn}
use Rattle.query.specs.declared.Walk.{Walk}
use Rattle.query.specs.Along.{Known, at_start, at_record}
use Rattle.query.specs.Ask.{told_asked}
use Rattle.query.specs.Helpers.{Aims, told_found, Noted, MeetsStart, Meets}
use Rattle.query.specs.Aliases.{refuse_asked}

module _ (address : ℕ) (pool : List ℕ) (w : Walk) (x : Record) where
  pub met_data : (offset at len : ℕ) → x ≡ Data offset at len → (f : Found) → Noted pool offset at len w.aim w.found f
      → Meets address pool w x (Continue (record { state = w.state; aim = w.aim; start = w.start; found = f }))
  unfolding at_record
  met_data offset at len e f n =
      record {
        comes_to = λ k h.
            rw e (
              refl,
              record {
                aims = h.aims;
                start_is = h.start_is;
                byte_is = n.byte_is k.base address h.aims ∙ ap (or_else (last_at address (placed k.base offset 0 (take len (drop at pool))))) h.byte_is;
              },
            );
      }

  told_end : (f : Found) → told_asked (Ok f) ≡ found (told_found f)
  told_end None = refl
  told_end (Some byte) = refl

  pub met_end : x ≡ EndOfFile → Meets address pool w x (Break (Ok w.found))
  unfolding at_record
  met_end e = record { comes_to = λ k h. rw e (told_end w.found ∙ ap found h.byte_is) }

  pub met_segment : (n : ℕ) → x ≡ ExtendedSegmentAddress n → (aim : Aim) → Aims (segment n) address aim
      → Meets address pool w x (Continue (record { state = w.state; aim = aim; start = w.start; found = w.found }))
  unfolding at_record
  met_segment n e aim a = record { comes_to = λ k h. rw e (refl, record { aims = a; start_is = h.start_is; byte_is = h.byte_is }) }

  pub met_linear : (n : ℕ) → x ≡ ExtendedLinearAddress n → (aim : Aim) → Aims (linear n) address aim
      → Meets address pool w x (Continue (record { state = w.state; aim = aim; start = w.start; found = w.found }))
  unfolding at_record
  met_linear n e aim a = record { comes_to = λ k h. rw e (refl, record { aims = a; start_is = h.start_is; byte_is = h.byte_is }) }

  -- a start that the record states, kept or refused
  pub met_start : (s : Start) (stated : CodeStart) → told_start stated ≡ some s → ((k : Known) (n : ℕ) → at_record address n k (meant x pool) ≡ at_start n k s)
      → (t : CodeTurn) → MeetsStart w stated t → Meets address pool w x t
  met_start s stated e d t m = record { comes_to = λ k h. rw (d k w.state.line) (m.comes_to address k h s e) }

-- ---- a start

module _ (w : Walk) (stated : CodeStart) where
  pub start_refused : differ (told_start w.start) (told_start stated) ≡ true → MeetsStart w stated (Break (refuse_asked StartConflict w.state.line))
  start_refused d =
      record {
        comes_to = λ address k h s e.
            let q : differ k.start (some s) ≡ true = rw (e, h.start_is) at d in rw q refl;
      }

  pub start_kept : differ (told_start w.start) (told_start stated) ≡ false
      → MeetsStart w stated (Continue (record { state = w.state; aim = w.aim; start = stated; found = w.found }))
  start_kept d =
      record {
        comes_to = λ address k h s e.
            let q : differ k.start (some s) ≡ false = rw (e, h.start_is) at d in
            rw q (refl, record { aims = h.aims; start_is = e ∙ kept_so k.start s q; byte_is = h.byte_is });
      }
