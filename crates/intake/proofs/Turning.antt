-- What a line comes to, as the code returns it: what a loader returns of it, with a refusal named in the line; or what is returned of a line that is
-- passed over.
-- Assumes nothing.
use Rattle.std.proofs.Common.{◌≡◌, ℕ, ◌-◌, ◌^◌, Bool, true, false, eqb, List, [], length, sym, refl, ap, ◌∙◌, arith, eqb-true}
use borrow.Author.Tests.{eqb-false}
use Rattle.record.specs.Refusals.{bad_window}
use Rattle.steps.specs.Aliases.{Loading}
use Rattle.steps.specs.declared.Tally.{Tally as CodeTally}
use Rattle.steps.specs.Steps.{Placement, Tally, Verdict, accepted, refused, turn}
use Rattle.steps.specs.Source.{Source}
use Rattle.steps.specs.Taken.{Went, stopped, acted, at_line}
use Rattle.steps.specs.Told.{told_loading}
use Rattle.window.specs.Window.{unfit}
use Rattle.window.specs.Taking.{TakeLineOf}
use Rattle.window.proofs.Loads.{painted_nothing}
use Rattle.window.proofs.Taking.{closed_full, not_closed}
use Rattle.intel.specs.Placing.{intel}
use Rattle.loader.specs.declared.Base.{Base as CodeBase}
use Rattle.srecload.specs.Placing.{s_records}
use Rattle.intake.specs.declared.Kind.{Kind}
use Rattle.intake.specs.declared.Kind.TheVariants.{Hex, SRecords}
use Rattle.intake.specs.declared.Turn.{Turn}
use Rattle.intake.specs.Machine.{takes}
use Rattle.intake.specs.Past.{ends_text}
use Rattle.intake.specs.Ways.{StandingBy, tail_way, way_of}
use Rattle.intake.specs.Helpers.{in_line, verdict_in_line, told_turn, TurnedBy, Turned, is_end, passes}

-- an answer that is named in the line is what the line stops with
module _ {S : Type 0} (skipped : ℕ) (ps : List Placement) where
  stop_as : (v : Verdict) → in_line {S = S} skipped (stopped v ps) ≡ stopped (verdict_in_line skipped v) ps
  stop_as (accepted t) = refl
  stop_as (refused r line) = refl

  pub stop_in_line : (l l' : Loading) → told_loading l' ≡ verdict_in_line skipped (told_loading l) → in_line {S = S} skipped (stopped (told_loading l) ps) ≡ stopped (told_loading l') ps
  stop_in_line l l' e = stop_as (told_loading l) ∙ ap (λ (v : Verdict). stopped v ps) (sym e)

module _ {S R : Type 0} (src : Source S) (standing : StandingBy S) (told : R → List Placement → Went S) (bad : R) (bad-is : told bad [] ≡ stopped (refused bad_window 0) []) where
  -- a loader took the line, through a window that is not refused, and the turn is what it returned, named in the line
  pub turned : (bytes : List ℕ) (skipped n : ℕ) (base : CodeBase) (tally : CodeTally) (state : S) (t : Tally) → standing base tally [] ≡ record { state = state; tally = t; stated = [] }
      → (first : ℕ) (page₀ marks₀ : List ℕ) → unfit first (length page₀) (length marks₀) ≡ false
      → (r : R) (page' marks' : List ℕ) → TakeLineOf src told bad n state t bytes first page₀ marks₀ r page' marks'
      → (r' : Turn) → ((ps : List Placement) → in_line skipped (told r ps) ≡ told_turn standing r' ps)
      → TurnedBy src standing bytes skipped n base tally first page₀ marks₀ r' page' marks'
  unfolding takes
  turned bytes skipped n base tally state t at_it first page₀ marks₀ fit r page' marks' x r' same = go (eqb t.records (2 ^ 64 - 1)) refl
    where
      go : (b : Bool) → eqb t.records (2 ^ 64 - 1) ≡ b → TurnedBy src standing bytes skipped n base tally first page₀ marks₀ r' page' marks'
      go true e =
          let (r-is, page_is, marks_are) = x.refused (closed_full t.records first (length page₀) (length marks₀) fit (omega (arith, eqb-true t.records (2 ^ 64 - 1) e))) in
          record {
            stated = [];
            comes_to = rw (at_it, e) (ap (in_line skipped) (sym bad-is ∙ ap (λ (y : R). told y []) (sym r-is)) ∙ same []);
            paints = rw (page_is, marks_are) (painted_nothing _ page₀ marks₀);
          }
      go false e =
          let n-is = eqb-false t.records (2 ^ 64 - 1) e in
          let y = x.taken (not_closed t.records first (length page₀) (length marks₀) fit (λ f. n-is (omega arith))) in
          record { stated = y.stated; comes_to = rw (at_it, e) (ap (in_line skipped) y.comes_to ∙ same y.stated); paints = y.paints }

-- ---- a line that is passed over

module _ (skipped n : ℕ) (base : CodeBase) (tally : CodeTally) (first : ℕ) (page marks : List ℕ) where
  pass_by : {S : Type 0} (src : Source S) (bytes : List ℕ) → Turned (tail_way src) bytes skipped n base tally first page marks (passes (ends_text src bytes) base tally) page marks
  unfolding takes at_line acted turn
  pass_by src bytes = go (ends_text src bytes) refl
    where
      go : (b : Bool) → ends_text src bytes ≡ b → Turned (tail_way src) bytes skipped n base tally first page marks (passes b base tally) page marks
      go true e = (record { stated = []; comes_to = rw e; paints = painted_nothing _ page marks }, tt)
      go false e = (record { stated = []; comes_to = rw e; paints = painted_nothing _ page marks }, (refl, refl))

  pub pass_so : (kind : Kind) (bytes : List ℕ) → Turned (way_of kind true) bytes skipped n base tally first page marks (passes (is_end kind bytes) base tally) page marks
  pass_so Hex bytes = pass_by intel bytes
  pass_so SRecords bytes = pass_by s_records bytes
