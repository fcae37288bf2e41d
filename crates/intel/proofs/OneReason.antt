-- A line that passes does not stop a reading, and a line that stops it gives one verdict.
-- Assumes nothing.
use mathlib.Core.Path.{◌≡◌, refl, sym, ap, ap₂, ◌∙◌}
use Prim.Native.Nat.{ℕ}
use native.Mathlib.Omega.{arith}
use mathlib.Core.Bool.{Bool}
use mathlib.Core.Option.{Option, none, some}
use mathlib.Core.List.{List, [], ◌∷◌, ◌++◌}
use Rattle.record.specs.Refusals.{Refusal, outside_window}
use Rattle.record.specs.Meaning.{Meaning, data_at, end_of_file, extended_segment, start_segment, extended_linear, start_linear}
use Rattle.record.specs.Line.{wrong, judge}
use Rattle.steps.specs.Steps.{Placement, Start, Verdict, accepted, refused}
use Rattle.steps.proofs.Starts.{one_start}
use Rattle.steps.proofs.Firsts.{not_empty, every_at, same_first, Inside, not_inside, Sound}
use Rattle.intel.specs.Placing.{stated_by}
use Rattle.intel.specs.Lines.{said_record, record_on, states, starts, start_on, Passes, is_empty, goes_on, Stops, the_end, no_record, first_outside, start_differs, account}

-- ---- one line

wrong_none : (line : List ℕ) (r : Refusal) → judge line ≡ wrong r → record_on line ≡ none
unfolding said_record
wrong_none line r e = rw e

pub empty_none : (line : List ℕ) → line ≡ [] → record_on line ≡ none
unfolding said_record judge
empty_none line e = rw e

-- a line that states a start states nothing else
starts_only : (ahead : List (List ℕ)) (o : Option Meaning) (s : Start) → starts o ≡ some s → states ahead o ≡ []
unfolding starts states stated_by
starts_only ahead none s e = refl
starts_only ahead (some (data_at offset bytes)) s e = let z : ◌≡◌ {A = ℕ} 0 1 = cc in absurd (omega arith)
starts_only ahead (some end_of_file) s e = refl
starts_only ahead (some (extended_segment x)) s e = refl
starts_only ahead (some (start_segment cs ip)) s e = refl
starts_only ahead (some (extended_linear x)) s e = refl
starts_only ahead (some (start_linear x)) s e = refl

-- nor does a line that is refused, or the end, state a start
not_started : (line : List ℕ) (o : Option Meaning) (s : Start) → record_on line ≡ o → starts o ≡ none → start_on line ≡ some s → ⊥
not_started line o s e n q = let h : none ≡ some s = sym n ∙ ap starts (sym e) ∙ q in let z : ◌≡◌ {A = ℕ} 0 1 = cc in omega arith

module _ (inside : ℕ → Bool) where
  pub passes_not_stops : {ahead : List (List ℕ)} {line : List ℕ} {n : ℕ} {v : Verdict} → Passes inside ahead line → Stops inside ahead line n v → ⊥
  unfolding states starts
  passes_not_stops {line} (is_empty e) (the_end tally q c) = let h = empty_none line e in let z : ◌≡◌ {A = ℕ} 0 1 = cc in omega arith
  passes_not_stops (is_empty e) (no_record r b q) = b e
  passes_not_stops {line} (is_empty e) (first_outside before after p s i o) = not_empty before p after (rw (empty_none line e) at s)
  passes_not_stops (goes_on m b e ne j g) (the_end tally q c) = ne (cc)
  passes_not_stops {line} (goes_on m b e ne j g) (no_record r b' q) = let h = wrong_none line r q in let z : ◌≡◌ {A = ℕ} 0 1 = cc in omega arith
  passes_not_stops {ahead} (goes_on m b e ne j g) (first_outside before after p s i o) =
      let w : states ahead (some m) ≡ before ++ (p ∷ after) = rw e at s in
      not_inside inside p o (every_at (Inside inside) before p after (rw w at j))
  passes_not_stops {line} (is_empty e) (start_differs s first q a d) = not_started line none s (empty_none line e) refl q
  passes_not_stops (goes_on m b e ne j g) (start_differs s first q a d) = d (g s first q a)

  pub stops_one : {ahead : List (List ℕ)} {line : List ℕ} {n : ℕ} {v v' : Verdict} → Stops inside ahead line n v → Stops inside ahead line n v' → v ≡ v'
  unfolding states starts
  stops_one {ahead} (the_end tally e c) (the_end tally' e' c') =
      ap₂ (λ (k : ℕ) (o : Option Start). accepted (record { records = k; start = o })) (c.records ∙ sym c'.records)
      (one_start start_on ahead tally.start tally'.start c.start c'.start)
  stops_one {line} (the_end tally e c) (no_record r b q) = let h = wrong_none line r q in cc
  stops_one (the_end tally e c) (first_outside before after p s i o) = absurd (not_empty before p after (rw e at s))
  stops_one {line} (no_record r b q) (the_end tally e c) = let h = wrong_none line r q in cc
  stops_one (no_record r b q) (no_record r' b' q') = cc
  stops_one {line} (no_record r b q) (first_outside before after p s i o) = absurd (not_empty before p after (rw (wrong_none line r q) at s))
  stops_one (first_outside before after p s i o) (the_end tally e c) = absurd (not_empty before p after (rw e at s))
  stops_one {line} (first_outside before after p s i o) (no_record r b q) = absurd (not_empty before p after (rw (wrong_none line r q) at s))
  stops_one {n} (first_outside before after p s i o) (first_outside before' after' p' s' i' o') =
      ap (λ (x : Placement). refused (outside_window x.address) n)
      (same_first (Inside inside) before before' p p' after after' (sym s ∙ s') i i' (not_inside inside p o) (not_inside inside p' o'))
  stops_one {line} (the_end tally e c) (start_differs s first q a d) = absurd (not_started line (some end_of_file) s e refl q)
  stops_one {line} (no_record r b e) (start_differs s first q a d) = absurd (not_started line none s (wrong_none line r e) refl q)
  stops_one {ahead} {line} (first_outside before after p e i o) (start_differs s first q a d) = absurd (not_empty before p after (rw (starts_only ahead (record_on line) s q) at e))
  stops_one {line} (start_differs s first q a d) (the_end tally e c) = absurd (not_started line (some end_of_file) s e refl q)
  stops_one {line} (start_differs s first q a d) (no_record r b e) = absurd (not_started line none s (wrong_none line r e) refl q)
  stops_one {ahead} {line} (start_differs s first q a d) (first_outside before after p e i o) = absurd (not_empty before p after (rw (starts_only ahead (record_on line) s q) at e))
  stops_one (start_differs s first q a d) (start_differs s' first' q' a' d') = refl

  pub sound : Sound (account inside)
  sound = record { not_both = λ ahead l n v p s. passes_not_stops p s; one_verdict = λ ahead l n v v' s s'. stops_one s s' }
