-- A load with packed marks agrees with the load of the same marks unpacked: the claim of `specs/Packed.antt`, proved.
-- Assumes nothing.
use Prim.Native.Nat.{ℕ, zero, suc}
use mathlib.Core.Path.{◌≡◌, refl, ap, sym, subst}
use mathlib.Core.Logic.{inl, inr}
use mathlib.Core.Option.{Option, none, some}
use mathlib.Core.List.{List, [], ◌∷◌}
use lib.ListN.{length}
use Rattle.marks.specs.Marks.{flags}
use Rattle.marks.specs.Claims.{Flag, AllFlags, RowOf}
use Rattle.marks.proofs.Claims.{row_made_so, flags_are_flags}
use Rattle.record.specs.Refusals.{Refusal}
use Rattle.steps.specs.Steps.{Placement, Tally, Verdict, accepted, refused, verdict, stated}
use Rattle.steps.specs.Source.{Source, steps_of}
use Rattle.steps.specs.Sites.{last_at, mark, mark_shown, marked, store, Room, stopping_in, load_steps, load}
use Rattle.steps.specs.Packed.{row_after, load_packed, PackedLoads}

-- ---- marks by places are zeros and ones, where they were

mark_flag : (stated : Option ℕ) → Flag (mark stated)
unfolding mark
mark_flag none = inl refl
mark_flag (some b) = inr refl

shown_flag : (shows : Option ℕ) (ps : List Placement) (old : ℕ) → Flag old → Flag (mark_shown shows ps old)
unfolding mark_shown
shown_flag none ps old f = f
shown_flag (some address) ps old f = mark_flag (last_at address ps)

marked_flags : (site : ℕ → Option ℕ) (i : ℕ) (ps : List Placement) (marks : List ℕ) → AllFlags marks → AllFlags (marked site i ps marks)
unfolding marked
marked_flags site i ps [] f j = f j
marked_flags site i ps (old ∷ marks) f zero = shown_flag (site i) ps old (f zero)
marked_flags site i ps (old ∷ marks) f (suc j) = marked_flags site (suc i) ps marks (λ k. f (suc k)) j

pub stored_flags : (site : ℕ → Option ℕ) (ps : List Placement) (page marks : List ℕ) (v : Verdict) → AllFlags marks → AllFlags (store site ps page marks v).marks
unfolding store
stored_flags site ps page marks (accepted tally) f = marked_flags site 0 ps marks f
stored_flags site ps page marks (refused r line) f = f

pub loaded_flags : {S : Type 0} (src : Source S) (room : Room) (text page marks : List ℕ) → AllFlags marks → AllFlags (load src room text page marks).marks
unfolding load load_steps
loaded_flags src room text page marks f =
    stored_flags room.site (stated (steps_of src text)) page marks (verdict (stopping_in room (steps_of src text))) f

-- ---- the row after a load

after_acceptance : (row places : List ℕ) (v : Verdict) (tally : Tally) → v ≡ accepted tally → AllFlags places → RowOf places (row_after v row places)
unfolding row_after
after_acceptance row places v tally e f = subst (λ (v : Verdict). RowOf places (row_after v row places)) (sym e) (row_made_so places f)

after_refusal : (row places : List ℕ) (v : Verdict) (r : Refusal) (line : ℕ) → v ≡ refused r line → row_after v row places ≡ row
unfolding row_after
after_refusal row places v r line e = ap (λ (v : Verdict). row_after v row places) e

pub packed_loads : PackedLoads
unfolding load_packed
packed_loads S src room text page row =
    let l = load src room text page (flags (length page) row) in
    record {
      answers = refl;
      pages = refl;
      marks = λ tally e. after_acceptance row l.marks l.answer tally e (loaded_flags src room text page (flags (length page) row) (flags_are_flags (length page) row));
      kept = λ r line e. after_refusal row l.marks l.answer r line e;
    }
