-- Where a load and the load without segments part, one of them is refused with 17: a record that passes its segment's end states the
-- segment's base by one placing and lies 65,536 further by the other, and no window holds both.
-- Assumes nothing.
use Rattle.std.proofs.Common.{◌≡◌, ℕ, ◌+◌, ◌-◌, ◌^◌, ◌<◌, ◌≤◌, Bool, true, false, ltb, ◌⊎◌, List, [], ◌∷◌, ◌++◌, length, sym, refl, ap, ◌∙◌, subst, ap₂, inl, inr, append-nil, arith, ltb-false, ltb-true}
use mathlib.Core.Option.{Option, none, some}
use Rattle.std.specs.Prelude.{if◌then◌else◌}
use Rattle.record.specs.Refusals.{bad_window, start_conflict}
use Rattle.record.specs.Line.{says}
use Rattle.record.specs.Meaning.{Meaning, data_at, end_of_file, extended_segment, start_segment, extended_linear, start_linear, meaning}
use Rattle.record.specs.Written.{Sayable}
use Rattle.reader.specs.Lines.{lines}
use Rattle.reader.specs.Row.{Numbered, on, is_end, row}
use Rattle.reader.specs.Text.{default_options}
use Rattle.steps.specs.Steps.{Placement, Start, cs_with_ip, linear_address, places, starts, Step, step, Tally, nothing_yet, one_more, started, Verdict, Decision, accepted, refused, outside, differ, Turn, on as on-with, stop, at_data as met, turn, onward, decision, verdict, stated}
use Rattle.steps.specs.Sites as sites
use Rattle.steps.specs.Sites.{Loaded, store, stopping_by, stopping_in, load_steps}
use Rattle.steps.proofs.Sites.{stored_answer}
use Rattle.window.specs.Window.{within, window, unfit, one_window}
use Rattle.window.proofs.Tests.{within_true, good_window}
use Rattle.intel.specs.Placing.{Base, from_segment, from_linear, from_start, byte_address, placed, base_behind, does, act, base_after, intel_by, along}
use Rattle.marks.specs.Marks.{flags}
use Rattle.steps.specs.Packed.{repacked, load_packed}
use Rattle.window.specs.Load.{room_of, load_window}
use Rattle.loader.specs.Segments.{flat, flat_load, InSegment, InSegments, Outside, NeverBoth, SameOrOutside}
use Rattle.intel.specs.Records.{left, does_on}
use Rattle.intel.proofs.Rows.{by_row}
use Rattle.window.proofs.Loads.{accepted_window, accepted_decision}
use Rattle.steps.proofs.Firsts.{Seen, seen}
use Rattle.steps.proofs.Puts.{length_spread, first_inside}
use Rattle.loader.proofs.Segments.{Low, low_start, unwrapped, by_rows}

module _ (first size : ℕ) (small : size ≤ 65536) where
  abbrev inside : ℕ → Bool
  inside = within first size

  -- two rows of steps come to the same decision and, if it accepts, to the same placements
  abbrev Alike : Tally → (s₁ s₂ : List Step) → Type 0
  Alike tally s₁ s₂ = (decision inside tally s₁ ≡ decision inside tally s₂) × ((t : Tally) → verdict (decision inside tally s₁) ≡ accepted t → stated s₁ ≡ stated s₂)

  -- or one of them is refused with 17
  abbrev Sides : Tally → (s₁ s₂ : List Step) → Type 0
  Sides tally s₁ s₂ = Alike tally s₁ s₂ ⊎ (Outside (verdict (decision inside tally s₁)) ⊎ Outside (verdict (decision inside tally s₂)))

  byte_inside : (base : Base) (offset : ℕ) (bytes : List ℕ) (j : ℕ) → j < length bytes → outside inside (placed base offset 0 bytes) ≡ none
      → (first ≤ byte_address base offset (0 + j)) × (byte_address base offset (0 + j) < first + size)
  byte_inside base offset bytes j h e =
      let ps = placed base offset 0 bytes in
      within_true first size (byte_address base offset (0 + j))
      (first_inside (byte_address base offset) inside 0 bytes ps [] (sym (append-nil ps)) (subst (Seen inside ps) e (seen inside ps)) j (rw (length_spread (byte_address base offset) 0 bytes) h))

  -- a record that passes its segment's end does not lie inside by both placings
  not_both : (base offset : ℕ) (bytes : List ℕ) → base + 65536 ≤ 2 ^ 32 → offset < 65536 → 65536 < offset + length bytes
      → outside inside (placed (from_linear base) offset 0 bytes) ≡ none → outside inside (placed (from_segment base) offset 0 bytes) ≡ none → ⊥
  unfolding byte_address
  not_both base offset bytes b o h x y =
      let k = 65536 - offset in
      let along = byte_inside (from_linear base) offset bytes k (omega arith) x in
      let wrapped = byte_inside (from_segment base) offset bytes k (omega arith) y in
      omega arith

  -- the same step ahead of both
  ahead : (n : ℕ) (what : List Placement) (s₁ s₂ : List Step) → ((t : Tally) → Sides t s₁ s₂) → (tally : Tally) → Sides tally (step n (places what) ∷ s₁) (step n (places what) ∷ s₂)
  unfolding decision turn verdict stated
  ahead n what s₁ s₂ h tally = go (outside inside what) (h (one_more tally))
    where
      go : (o : Option ℕ) → Sides (one_more tally) s₁ s₂
          → ((onward n (met n o tally) (λ t'. decision inside t' s₁) ≡ onward n (met n o tally) (λ t'. decision inside t' s₂))
          × ((t : Tally) → verdict (onward n (met n o tally) (λ t'. decision inside t' s₁)) ≡ accepted t → what ++ stated s₁ ≡ what ++ stated s₂))
          ⊎ (Outside (verdict (onward n (met n o tally) (λ t'. decision inside t' s₁))) ⊎ Outside (verdict (onward n (met n o tally) (λ t'. decision inside t' s₂))))
      go (some a) x = inr (inl (a, n, refl))
      go none (inl (d, e)) = inl (d, λ t a. ap (λ (ps : List Placement). what ++ ps) (e t a))
      go none (inr x) = inr x

  ahead_start : (n : ℕ) (s : Start) (s₁ s₂ : List Step) → ((t : Tally) → Sides t s₁ s₂) → (tally : Tally) → Sides tally (step n (starts s) ∷ s₁) (step n (starts s) ∷ s₂)
  unfolding decision turn verdict stated
  ahead_start n s s₁ s₂ h tally = go (differ tally.start (some s)) (h (started s tally))
    where
      go : (b : Bool) → Sides (started s tally) s₁ s₂ → let x : Turn = if b then stop (refused start_conflict n) else on-with (started s tally) in
          ((onward n x (λ t'. decision inside t' s₁) ≡ onward n x (λ t'. decision inside t' s₂))
          × ((t : Tally) → verdict (onward n x (λ t'. decision inside t' s₁)) ≡ accepted t → stated s₁ ≡ stated s₂))
          ⊎ (Outside (verdict (onward n x (λ t'. decision inside t' s₁))) ⊎ Outside (verdict (onward n x (λ t'. decision inside t' s₂))))
      go true y = inl (refl, λ t a. let z : ◌≡◌ {A = ℕ} 0 1 = cc in absurd (omega arith))
      go false y = y

  -- the steps of a record that passes its segment's end
  parted : (n base offset : ℕ) (bytes : List ℕ) (s₁ s₂ : List Step) → base + 65536 ≤ 2 ^ 32 → offset < 65536 → 65536 < offset + length bytes
      → (tally : Tally) → Sides tally (step n (places (placed (from_linear base) offset 0 bytes)) ∷ s₁) (step n (places (placed (from_segment base) offset 0 bytes)) ∷ s₂)
  unfolding decision turn verdict stated
  parted n base offset bytes s₁ s₂ b o h tally = inr (go (outside inside (placed (from_linear base) offset 0 bytes)) (outside inside (placed (from_segment base) offset 0 bytes)) refl refl)
    where
      go : (p q : Option ℕ) → outside inside (placed (from_linear base) offset 0 bytes) ≡ p → outside inside (placed (from_segment base) offset 0 bytes) ≡ q
          → Outside (verdict (onward n (met n p tally) (λ t'. decision inside t' s₁))) ⊎ Outside (verdict (onward n (met n q tally) (λ t'. decision inside t' s₂)))
      go (some a) q x y = inl (a, n, refl)
      go none (some a) x y = inr (a, n, refl)
      go none none x y = absurd (not_both base offset bytes b o h x y)

  abbrev Parts : Base → List Numbered → Type 0
  Parts base row = (tally : Tally) → Sides tally (along flat base row) (left base row)

  step_parts : (n : ℕ) (base : Base) (m : Meaning) (s₁ s₂ : List Step) → Sayable m → Low base → ((t : Tally) → Sides t s₁ s₂)
      → (tally : Tally) → Sides tally (does_on n (flat base) m ++ s₁) (does_on n base m ++ s₂)
  unfolding does flat decision turn stated Low
  step_parts n (from_linear base) (data_at offset bytes) s₁ s₂ s h f tally = ahead n (placed (from_linear base) offset 0 bytes) s₁ s₂ f tally
  step_parts n (from_segment base) (data_at offset bytes) s₁ s₂ s h f tally = go (ltb 65536 (offset + length bytes)) refl
    where
      go : (t : Bool) → ltb 65536 (offset + length bytes) ≡ t
          → Sides tally (step n (places (placed (from_linear base) offset 0 bytes)) ∷ s₁) (step n (places (placed (from_segment base) offset 0 bytes)) ∷ s₂)
      go true e = parted n base offset bytes s₁ s₂ h s.0 (ltb-true 65536 (offset + length bytes) e) tally
      go false e =
          rw (unwrapped base offset 0 bytes h (omega (arith, ltb-false 65536 (offset + length bytes) e))) (ahead n (placed (from_segment base) offset 0 bytes) s₁ s₂ f tally)
  step_parts n base end_of_file s₁ s₂ s h f tally = inl (refl, λ t a. refl)
  step_parts n base (extended_segment x) s₁ s₂ s h f tally = f tally
  step_parts n base (start_segment cs ip) s₁ s₂ s h f tally = ahead_start n (cs_with_ip cs ip) s₁ s₂ f tally
  step_parts n base (extended_linear x) s₁ s₂ s h f tally = f tally
  step_parts n base (start_linear x) s₁ s₂ s h f tally = ahead_start n (linear_address x) s₁ s₂ f tally

  record_parts : (n : ℕ) (base : Base) (kind address : ℕ) (payload : List ℕ) (row : List Numbered) → let m = meaning kind address payload in
      Sayable m → Low base → (is_end m ≡ true → row ≡ []) → Parts (base_behind base m) row → Parts base (on n (says kind address payload) ∷ row)
  unfolding along act base_after
  record_parts n base kind address payload row s h ends f = step_parts n base (meaning kind address payload) _ _ s h f

  parts : (text : List ℕ) → Parts from_start (row default_options text)
  unfolding row along act decision turn stated
  parts text = by_rows Parts (λ base tally. inl (refl, λ t a. refl)) (λ n base r tally. inl (refl, λ t a. refl)) record_parts 1 (lines text) from_start low_start

  -- a decision that accepts
  abbrev Accept : Option Decision → Type 0
  Accept d = (t : Tally) × (verdict d ≡ accepted t)

  -- where both rows of steps are accepted, no record passes its segment's end
  abbrev Whole : Base → List Numbered → Type 0
  Whole base row = (tally : Tally) → Accept (decision inside tally (along flat base row)) → Accept (decision inside tally (left base row)) → InSegments base row

  -- a record that is passed lies inside, and what is behind it is accepted
  passed : (n : ℕ) (o : Option ℕ) (s : List Step) (t : Tally) → Accept (onward n (met n o t) (λ t'. decision inside t' s)) → (o ≡ none) × Accept (decision inside (one_more t) s)
  unfolding verdict
  passed n none s t x = (refl, x)
  passed n (some a) s t' (t, e) = let z : ◌≡◌ {A = ℕ} 0 1 = cc in absurd (omega arith)

  -- so is what is after a start that is passed
  passed_start : (n : ℕ) (b : Bool) (t : Tally) (s : List Step) → Accept (onward n (if b then stop (refused start_conflict n) else on-with t) (λ t'. decision inside t' s))
      → Accept (decision inside t s)
  unfolding verdict
  passed_start n true t s (k, e) = let z : ◌≡◌ {A = ℕ} 0 1 = cc in absurd (omega arith)
  passed_start n false t s x = x

  whole_start : (n : ℕ) (s : Start) (s₁ s₂ : List Step) (K : Type 0) → ((t : Tally) → Accept (decision inside t s₁) → Accept (decision inside t s₂) → K)
      → (tally : Tally) → Accept (decision inside tally (step n (starts s) ∷ s₁)) → Accept (decision inside tally (step n (starts s) ∷ s₂)) → K
  unfolding decision turn
  whole_start n s s₁ s₂ K f tally = λ x y.
      let b = differ tally.start (some s) in
      f (started s tally) (passed_start n b (started s tally) s₁ x) (passed_start n b (started s tally) s₂ y)

  step_whole : (n : ℕ) (base : Base) (m : Meaning) (s₁ s₂ : List Step) (K : Type 0) → Sayable m → Low base → (is_end m ≡ true → K)
      → ((t : Tally) → Accept (decision inside t s₁) → Accept (decision inside t s₂) → K)
      → (tally : Tally) → Accept (decision inside tally (does_on n (flat base) m ++ s₁)) → Accept (decision inside tally (does_on n base m ++ s₂)) → InSegment base m × K
  unfolding does flat decision turn verdict Low is_end
  step_whole n (from_linear base) (data_at offset bytes) s₁ s₂ K s h k f tally = λ x y.
      let p = passed n (outside inside (placed (from_linear base) offset 0 bytes)) s₁ tally x in
      let q = passed n (outside inside (placed (from_linear base) offset 0 bytes)) s₂ tally y in
      (tt, f (one_more tally) p.1 q.1)
  step_whole n (from_segment base) (data_at offset bytes) s₁ s₂ K s h k f tally = λ x y.
      let p = passed n (outside inside (placed (from_linear base) offset 0 bytes)) s₁ tally x in
      let q = passed n (outside inside (placed (from_segment base) offset 0 bytes)) s₂ tally y in
      let in-it : ¬ (65536 < offset + length bytes) = λ c. not_both base offset bytes h s.0 c p.0 q.0 in
      (omega arith, f (one_more tally) p.1 q.1)
  step_whole n base end_of_file s₁ s₂ K s h k f tally = λ x y. (tt, k refl)
  step_whole n base (extended_segment x) s₁ s₂ K s h k f tally = λ p q. (tt, f tally p q)
  step_whole n base (start_segment cs ip) s₁ s₂ K s h k f tally = λ p q. (tt, whole_start n (cs_with_ip cs ip) s₁ s₂ K f tally p q)
  step_whole n base (extended_linear x) s₁ s₂ K s h k f tally = λ p q. (tt, f tally p q)
  step_whole n base (start_linear x) s₁ s₂ K s h k f tally = λ p q. (tt, whole_start n (linear_address x) s₁ s₂ K f tally p q)

  record_whole : (n : ℕ) (base : Base) (kind address : ℕ) (payload : List ℕ) (row : List Numbered) → let m = meaning kind address payload in
      Sayable m → Low base → (is_end m ≡ true → row ≡ []) → Whole (base_behind base m) row → Whole base (on n (says kind address payload) ∷ row)
  unfolding along act base_after
  record_whole n base kind address payload row s h ends f =
      let m = meaning kind address payload in
      step_whole n base m _ _ (InSegments (base_behind base m) row) s h (λ e. rw (ends e) tt) f

  whole : (text : List ℕ) → Whole from_start (row default_options text)
  unfolding row
  whole text = by_rows Whole (λ base tally x y. tt) (λ n base r tally x y. tt) record_whole 1 (lines text) from_start low_start

-- ---- the two loads

module _ (text : List ℕ) (first : ℕ) (page marks : List ℕ) where
  -- the steps of what is read, placed by a function of the base
  abbrev read : (Base → Base) → List Step
  read f = along f from_start (row default_options text)

  -- what decides the load of these steps
  abbrev judged : (Base → Base) → Verdict
  judged f = verdict (stopping_in (room_of first page marks) (read f))

  -- the marks, unpacked
  abbrev unpacked : List ℕ
  unpacked = flags (length page) marks

  answer_is : (f : Base → Base) → (load_packed (intel_by f) (room_of first page marks) text page marks).answer ≡ judged f
  unfolding load_packed load_steps
  answer_is f =
      ap (λ (l : Loaded). l.answer) (by_row f (room_of first page marks) text page unpacked)
      ∙ stored_answer (room_of first page marks).site (stated (read f)) page unpacked (judged f)

pub never_both : NeverBoth
unfolding load_window flat_load
never_both text first page marks t t' x y =
    let x' = sym (answer_is text first page marks flat) ∙ x in
    let y' = sym (answer_is text first page marks (λ base. base)) ∙ y in
    let w = accepted_window first page marks (read text first page marks flat) t x' in
    whole first (length page) w.small text nothing_yet
    (t, accepted_decision first page marks (read text first page marks flat) t x')
    (t', accepted_decision first page marks (read text first page marks (λ base. base)) t' y')

pub same_or_outside : SameOrOutside
unfolding load_window flat_load load_packed load_steps one_window stopping_by
same_or_outside text first page marks =
    packed_too (rw (by_row flat (room_of first page marks) text page m, by_row (λ base. base) (room_of first page marks) text page m) apart)
  where
    m : List ℕ
    m = flags (length page) marks

    -- loads that are the same with their marks unpacked are so with them packed
    packed_too : let l = sites.load (intel_by (λ base. base)) (room_of first page marks) text page m in
        let f = sites.load (intel_by flat) (room_of first page marks) text page m in
        (f ≡ l) ⊎ (Outside f.answer ⊎ Outside l.answer)
        → (repacked marks f ≡ repacked marks l) ⊎ (Outside f.answer ⊎ Outside l.answer)
    packed_too (inl e) = inl (ap (repacked marks) e)
    packed_too (inr o) = inr o

    inside_it : ℕ → Bool
    inside_it = within first (length page)

    s₁ : List Step
    s₁ = along flat from_start (row default_options text)

    s₂ : List Step
    s₂ = left from_start (row default_options text)

    -- the load of steps, once it is known whether the window is refused
    kept : Bool → List Step → Loaded
    kept b s = store (window first (length page)) (stated s) page m (verdict (stopping_by (if b then some bad_window else none) inside_it s))

    answers : (s : List Step) → Outside (verdict (stopping_by none inside_it s)) → Outside (kept false s).answer
    answers s (a, n, e) = (a, n, stored_answer (window first (length page)) (stated s) page m (verdict (stopping_by none inside_it s)) ∙ e)

    -- what is stated matters only to a load that accepts
    same_store : (v v' : Verdict) → v ≡ v' → ((t : Tally) → v ≡ accepted t → stated s₁ ≡ stated s₂)
        → store (window first (length page)) (stated s₁) page m v ≡ store (window first (length page)) (stated s₂) page m v'
    same_store (accepted t) v' e h = ap₂ (λ (ps : List Placement) (w : Verdict). store (window first (length page)) ps page m w) (h t refl) e
    same_store (refused r n) v' e h = rw (← e)

    sides : (small : length page ≤ 65536) → Sides first (length page) small nothing_yet s₁ s₂ → (kept false s₁ ≡ kept false s₂) ⊎ (Outside (kept false s₁).answer ⊎ Outside (kept false s₂).answer)
    sides small (inl (d, q)) = inl (same_store (verdict (decision inside_it nothing_yet s₁)) (verdict (decision inside_it nothing_yet s₂)) (ap verdict d) q)
    sides small (inr (inl o)) = inr (inl (answers s₁ o))
    sides small (inr (inr o)) = inr (inr (answers s₂ o))

    go : (b : Bool) → unfit first (length page) (length marks) ≡ b → (kept b s₁ ≡ kept b s₂) ⊎ (Outside (kept b s₁).answer ⊎ Outside (kept b s₂).answer)
    go true e = inl refl
    go false e = let small = (good_window first page marks e).small in sides small (parts first (length page) small text nothing_yet)

    apart : let l = load_steps (room_of first page marks) s₂ page m in
        let f = load_steps (room_of first page marks) s₁ page m in
        (f ≡ l) ⊎ (Outside f.answer ⊎ Outside l.answer)
    apart = go (unfit first (length page) (length marks)) refl
