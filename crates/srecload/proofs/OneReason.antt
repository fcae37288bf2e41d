-- A load of S-records has one reason: a line that passes does not stop it, and a line that stops it gives one verdict.
-- Assumes nothing.
use Rattle.std.proofs.Common.{◌≡◌, ℕ, Bool, List, [], ◌∷◌, ◌++◌, sym, refl, ap, ◌∙◌, arith}
use mathlib.Core.Option.{Option, none, some}
use Rattle.record.specs.Refusals.{Refusal, outside_window, count_mismatch}
use Rattle.record.specs.Line.{wrong}
use Rattle.srec.specs.Line.{judge}
use Rattle.steps.specs.Steps.{Placement, linear_address, Verdict, accepted, refused}
use Rattle.steps.proofs.Firsts.{not_empty, every_at, same_first, Inside, not_inside, Sound}
use Rattle.window.proofs.Reasons.{load_one_reason, table_one_reason}
use Rattle.srecload.specs.Placing.{SMeaning, s_header, s_count, s_end, s_placed, s_states, s_records}
use Rattle.srecload.specs.Claims.{said_record, record_on, states, data_records, Passes, is_empty, is_header, lies_inside, counts_right, Stops, the_end, no_record, first_outside, count_differs, account, OneReason, OneReasonByTable}

-- ---- one line

pub wrong_none : (line : List ℕ) (r : Refusal) → judge line ≡ wrong r → record_on line ≡ none
unfolding said_record
wrong_none line r e = rw e

pub empty_none : (line : List ℕ) → line ≡ [] → record_on line ≡ none
unfolding said_record judge
empty_none line e = rw e

-- a record of this kind states nothing
no_first : (line : List ℕ) (o : Option SMeaning) → record_on line ≡ o → states o ≡ [] → (before : List Placement) (p : Placement) (after : List Placement)
    → states (record_on line) ≡ before ++ (p ∷ after) → ⊥
no_first line o e s before p after w = not_empty before p after (sym s ∙ ap states (sym e) ∙ w)

module _ (inside : ℕ → Bool) where
  pub not_both : {ahead : List (List ℕ)} {line : List ℕ} {n : ℕ} {v : Verdict} → Passes inside ahead line → Stops inside ahead line n v → ⊥
  unfolding states s_states
  not_both {line} (is_empty e) (the_end a q) = let h = empty_none line e in let z : ◌≡◌ {A = ℕ} 0 1 = cc in omega arith
  not_both (is_empty e) (no_record r b q) = b e
  not_both {line} (is_empty e) (first_outside before after p s i o) = no_first line none (empty_none line e) refl before p after s
  not_both {line} (is_empty e) (count_differs c q d) = let h = empty_none line e in let z : ◌≡◌ {A = ℕ} 0 1 = cc in omega arith
  not_both (is_header e) (the_end a q) = let z : ◌≡◌ {A = ℕ} 0 1 = cc in omega arith
  not_both {line} (is_header e) (no_record r b q) = let h = wrong_none line r q in let z : ◌≡◌ {A = ℕ} 0 1 = cc in omega arith
  not_both {line} (is_header e) (first_outside before after p s i o) = no_first line (some s_header) e refl before p after s
  not_both (is_header e) (count_differs c q d) = let z : ◌≡◌ {A = ℕ} 0 1 = cc in omega arith
  not_both (lies_inside x bs e j) (the_end a q) = let z : ◌≡◌ {A = ℕ} 0 1 = cc in omega arith
  not_both {line} (lies_inside x bs e j) (no_record r b q) = let h = wrong_none line r q in let z : ◌≡◌ {A = ℕ} 0 1 = cc in omega arith
  not_both (lies_inside x bs e j) (first_outside before after p s i o) =
      let w : s_placed x bs ≡ before ++ (p ∷ after) = sym (ap states e) ∙ s in
      not_inside inside p o (every_at (Inside inside) before p after (rw w at j))
  not_both (lies_inside x bs e j) (count_differs c q d) = let z : ◌≡◌ {A = ℕ} 0 1 = cc in omega arith
  not_both (counts_right k e h) (the_end a q) = let z : ◌≡◌ {A = ℕ} 0 1 = cc in omega arith
  not_both {line} (counts_right k e h) (no_record r b q) = let h = wrong_none line r q in let z : ◌≡◌ {A = ℕ} 0 1 = cc in omega arith
  not_both {line} (counts_right k e h) (first_outside before after p s i o) = no_first line (some (s_count k)) e refl before p after s
  not_both (counts_right k e h) (count_differs c q d) = d (cc)

  pub one_verdict : {ahead : List (List ℕ)} {line : List ℕ} {n : ℕ} {v v' : Verdict} → Stops inside ahead line n v → Stops inside ahead line n v' → v ≡ v'
  unfolding states s_states
  one_verdict {ahead} (the_end a e) (the_end a' e') =
      let same : a ≡ a' = cc in ap (λ (x : ℕ). accepted (record { records = data_records ahead; start = some (linear_address x) })) same
  one_verdict {line} (the_end a e) (no_record r b q) = let h = wrong_none line r q in cc
  one_verdict {line} (the_end a e) (first_outside before after p s i o) = absurd (no_first line (some (s_end a)) e refl before p after s)
  one_verdict (the_end a e) (count_differs k q d) = cc
  one_verdict {line} (no_record r b q) (the_end a e) = let h = wrong_none line r q in cc
  one_verdict (no_record r b q) (no_record r' b' q') = cc
  one_verdict {line} (no_record r b q) (first_outside before after p s i o) = absurd (no_first line none (wrong_none line r q) refl before p after s)
  one_verdict {line} (no_record r b q) (count_differs k e d) = let h = wrong_none line r q in cc
  one_verdict {line} (first_outside before after p s i o) (the_end a e) = absurd (no_first line (some (s_end a)) e refl before p after s)
  one_verdict {line} (first_outside before after p s i o) (no_record r b q) = absurd (no_first line none (wrong_none line r q) refl before p after s)
  one_verdict {n} (first_outside before after p s i o) (first_outside before' after' p' s' i' o') =
      ap (λ (x : Placement). refused (outside_window x.address) n)
      (same_first (Inside inside) before before' p p' after after' (sym s ∙ s') i i' (not_inside inside p o) (not_inside inside p' o'))
  one_verdict {line} (first_outside before after p s i o) (count_differs k e d) = absurd (no_first line (some (s_count k)) e refl before p after s)
  one_verdict (count_differs k q d) (the_end a e) = cc
  one_verdict {line} (count_differs k e d) (no_record r b q) = let h = wrong_none line r q in cc
  one_verdict {line} (count_differs k e d) (first_outside before after p s i o) = absurd (no_first line (some (s_count k)) e refl before p after s)
  one_verdict {ahead} {n} (count_differs k e d) (count_differs k' e' d') =
      let same : k ≡ k' = cc in ap (λ (x : ℕ). refused (count_mismatch x (data_records ahead)) n) same

  pub sound : Sound (account inside)
  sound = record { not_both = λ ahead l n v p s. not_both p s; one_verdict = λ ahead l n v v' s s'. one_verdict s s' }

pub one_reason : OneReason
one_reason = load_one_reason s_records account sound

pub one_reason_by_table : OneReasonByTable
one_reason_by_table = table_one_reason s_records account sound
