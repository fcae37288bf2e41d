-- A text's steps by its lines are those of its sayings; and what a reader that stops leaves unread changes no decision and states nothing.
-- Assumes nothing.
use mathlib.Core.Path.{◌≡◌, refl, sym, ap}
use Prim.Native.Nat.{ℕ, suc}
use mathlib.Core.Bool.{Bool, true, false, ◌&&◌}
use mathlib.Core.Option.{Option, none, some}
use mathlib.Core.List.{List, [], ◌∷◌, ◌++◌, map}
use Rattle.std.specs.Prelude.{if◌then◌else◌}
use Rattle.record.specs.Line.{says, wrong, judge}
use Rattle.record.specs.Meaning.{Meaning, data_at, end_of_file, extended_segment, start_segment, extended_linear, start_linear, meaning}
use Rattle.reader.specs.Lines.{lines}
use Rattle.reader.specs.Row.{Numbered, on, sayings, is_end, through_stop, row}
use Rattle.reader.specs.Text.{default_options}
use Rattle.record.specs.Refusals.{Refusal, start_conflict}
use Rattle.steps.specs.Steps.{Placement, Start, cs_with_ip, linear_address, starts, Step, step, Tally, nothing_yet, one_more, started, Verdict, refused, outside, differ, Turn, on as on-with, stop, at_data, turn, onward, decision, verdict, stated}
use Rattle.steps.specs.Source as source
use Rattle.steps.specs.Sites.{Room, store, stopping_by, load_steps, load}
use Rattle.intel.specs.Placing.{Base, from_start, base_behind, placed, does, act, base_after, intel_by, along, steps_of}
use Rattle.intel.specs.Records.{does_on}

-- steps that are decided alike stop a load alike
stop_alike : (fault : Option Refusal) (inside : ℕ → Bool) (s₁ s₂ : List Step) → decision inside nothing_yet s₁ ≡ decision inside nothing_yet s₂
    → verdict (stopping_by fault inside s₁) ≡ verdict (stopping_by fault inside s₂)
unfolding stopping_by
stop_alike none inside s₁ s₂ e = ap verdict e
stop_alike (some r) inside s₁ s₂ e = refl

module _ (f : Base → Base) where
  -- the steps of lines numbered from n on
  pub by_sayings : (base : Base) (n : ℕ) (ls : List (List ℕ)) → source.steps (intel_by f) base n ls ≡ along f base (sayings n ls)
  unfolding source.steps intel_by sayings along
  by_sayings base n [] = refl
  by_sayings base n ([] ∷ ls) = by_sayings base (suc n) ls
  by_sayings base n ((c ∷ l) ∷ ls) = ap (λ (s : List Step). map (step n) (act (f base) (judge (c ∷ l))) ++ s) (by_sayings (base_after base (judge (c ∷ l))) (suc n) ls)

  -- the steps of a record on line n, and those of a row after it
  abbrev then_row : (n : ℕ) → Base → Meaning → List Numbered → List Step
  then_row n base m row = does_on n (f base) m ++ along f (base_behind base m) row

  -- two rows of steps come to the same
  abbrev Alike : (s₁ s₂ : List Step) → Type 0
  Alike s₁ s₂ = ((inside : ℕ → Bool) (t : Tally) → decision inside t s₁ ≡ decision inside t s₂) × (stated s₁ ≡ stated s₂)

  cut_start : (n : ℕ) (base : Base) (s : Start) (row row' : List Numbered) → Alike (along f base row) (along f base row')
      → Alike (step n (starts s) ∷ along f base row) (step n (starts s) ∷ along f base row')
  unfolding decision turn stated
  cut_start n base s row row' h = (λ inside t. go inside t (differ t.start (some s)), h.1)
    where
      go : (inside : ℕ → Bool) (t : Tally) (b : Bool) → let x : Turn = if b then stop (refused start_conflict n) else on-with (started s t) in
          onward n x (λ t'. decision inside t' (along f base row)) ≡ onward n x (λ t'. decision inside t' (along f base row'))
      go inside t true = refl
      go inside t false = h.0 inside (started s t)

  cut_record : (n : ℕ) (base : Base) (m : Meaning) (row row' : List Numbered) → (is_end m ≡ false → (b : Base) → Alike (along f b row) (along f b row'))
      → Alike (then_row n base m row) (then_row n base m row')
  unfolding does base_behind decision turn stated is_end
  cut_record n base (data_at offset bytes) row row' h = (λ inside t. go inside t (outside inside what), ap (λ (ps : List Placement). what ++ ps) (h refl base).1)
    where
      what : List Placement
      what = placed (f base) offset 0 bytes

      go : (inside : ℕ → Bool) (t : Tally) (o : Option ℕ)
          → onward n (at_data n o t) (λ t'. decision inside t' (along f base row)) ≡ onward n (at_data n o t) (λ t'. decision inside t' (along f base row'))
      go inside t none = (h refl base).0 inside (one_more t)
      go inside t (some a) = refl
  cut_record n base end_of_file row row' h = (λ inside t. refl, refl)
  cut_record n base (extended_segment x) row row' h = h refl _
  cut_record n base (start_segment cs ip) row row' h = cut_start n base (cs_with_ip cs ip) row row' (h refl base)
  cut_record n base (extended_linear x) row row' h = h refl _
  cut_record n base (start_linear x) row row' h = cut_start n base (linear_address x) row row' (h refl base)

  -- a reader that stops at the first end record and at the first refusal
  pub cut_row : (rest : List Numbered) (base : Base) → Alike (along f base (through_stop default_options rest)) (along f base rest)
  unfolding along through_stop act base_after decision turn stated
  cut_row [] base = (λ inside t. refl, refl)
  cut_row (on n (wrong r) ∷ rest) base = (λ inside t. refl, refl)
  cut_row (on n (says kind address payload) ∷ rest) base = go (meaning kind address payload) (cut_row rest)
    where
      go : (m : Meaning) → ((b : Base) → Alike (along f b (through_stop default_options rest)) (along f b rest))
          → Alike (then_row n base m (if is_end m && true then [] else through_stop default_options rest)) (then_row n base m rest)
      go m h = cut_record n base m (if is_end m && true then [] else through_stop default_options rest) rest (λ e b. rw e (h b))

  pub cut_text : (text : List ℕ) → Alike (along f from_start (row default_options text)) (source.steps_of (intel_by f) text)
  unfolding row source.steps_of intel_by
  cut_text text = rw (by_sayings from_start 1 (lines text)) (cut_row (sayings 1 (lines text)) from_start)

  -- so the load of a text is that of what the reader says of it
  pub by_row : (room : Room) (text page marks : List ℕ) → load (intel_by f) room text page marks ≡ load_steps room (along f from_start (row default_options text)) page marks
  unfolding load load_steps
  by_row room text page marks =
      let (d, s) = cut_text text in
      rw (← s) (ap (λ (v : Verdict). store room.site (stated (along f from_start (row default_options text))) page marks v) (same_stop room.fault))
    where
      same_stop : (fault : Option Refusal)
          → verdict (stopping_by fault room.inside (source.steps_of (intel_by f) text)) ≡ verdict (stopping_by fault room.inside (along f from_start (row default_options text)))
      same_stop fault = stop_alike fault room.inside _ _ (sym ((cut_text text).0 room.inside nothing_yet))

-- the steps of a text are those of what is said on its lines
pub steps_along : (text : List ℕ) → steps_of text ≡ along (λ base. base) from_start (sayings 1 (lines text))
unfolding source.steps_of intel_by
steps_along text = by_sayings (λ base. base) from_start 1 (lines text)
