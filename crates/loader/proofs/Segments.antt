-- Which texts are placed as without segments, proved: an offset that stays under 65,536 is added to a segment's base with nothing lost.
-- Assumes nothing.
use Rattle.std.proofs.Common.{◌≡◌, ℕ, suc, ◌+◌, ◌-◌, ◌*◌, ◌%◌, ◌^◌, ◌<◌, ◌≤◌, Bool, true, false, ◌&&◌, ◌↔◌, List, [], ◌∷◌, ◌++◌, length, get_or, sym, refl, ap, ◌∙◌, arith}
use Rattle.std.specs.Prelude.{if◌then◌else◌}
use Rattle.record.specs.Refusals.{Refusal}
use Rattle.digits.specs.Digits.{number_after}
use Rattle.record.specs.Line.{Said, says, wrong, judge}
use Rattle.record.specs.Meaning.{Meaning, data_at, end_of_file, extended_segment, start_segment, extended_linear, start_linear, meaning}
use Rattle.record.specs.Written.{Sayable}
use Rattle.record.proofs.Writing.{said_is_sayable}
use Rattle.reader.specs.Lines.{lines}
use Rattle.reader.specs.Row.{Numbered, on, sayings, is_end, through_stop, row}
use Rattle.reader.specs.Text.{default_options}
use Rattle.steps.specs.Runs.{spread}
use Rattle.steps.specs.Steps.{Placement, Step, stated}
use Rattle.steps.specs.Sites.{load_steps}
use Rattle.steps.proofs.Puts.{spread_at}
use Rattle.marks.specs.Marks.{flags}
use Rattle.steps.specs.Packed.{repacked, load_packed}
use Rattle.intel.specs.Placing.{Base, from_segment, from_linear, from_start, byte_address, placed, stated_by, base_behind, does, act, base_after, along}
use Rattle.window.specs.Load.{room_of, load_window}
use Rattle.intel.specs.Records.{left, does_on}
use Rattle.loader.specs.Segments.{flat, flat_load, InSegment, InSegments, RecordUnchanged, TextUnchanged, LoadByRow, LoadUnchanged, Examples}
use Rattle.intel.proofs.Rows.{by_row}

-- ---- without segments

-- an offset that stays under 65,536 is added with nothing lost
pub unwrapped : (base offset i : ℕ) (bytes : List ℕ) → base + 65536 ≤ 2 ^ 32 → offset + i + length bytes ≤ 65536
    → placed (from_linear base) offset i bytes ≡ placed (from_segment base) offset i bytes
unfolding spread byte_address
unwrapped base offset i [] b h = refl
unwrapped base offset i (x ∷ bytes) b h =
    let e : (base + offset + i) % 2 ^ 32 ≡ base + (offset + i) % 65536 = omega arith in
    rw (e, unwrapped base offset (suc i) bytes b (omega arith))

-- the byte behind the segment's end lies apart
wrapped : (base offset : ℕ) (bytes : List ℕ) → offset < 65536 → placed (from_linear base) offset 0 bytes ≡ placed (from_segment base) offset 0 bytes
    → offset + length bytes ≤ 65536
unfolding byte_address
wrapped base offset bytes o e =
    let k = 65536 - offset in
    let inside : ¬ (k < length bytes) =
    λ h. let linear = spread_at (byte_address (from_linear base) offset) 0 bytes k h in
    let segment = spread_at (byte_address (from_segment base) offset) 0 bytes k h in
    let same : (base + offset + (0 + k)) % 2 ^ 32 ≡ base + (offset + (0 + k)) % 65536 =
    ap (λ (p : Placement). p.address) (sym linear ∙ ap (λ (ps : List Placement). get_or ps k (record { address = 0; byte = 0 })) e ∙ segment) in
    omega arith in
    omega arith

pub record_unchanged : RecordUnchanged
unfolding stated_by flat
record_unchanged number offset bytes n o = (wrapped (16 * number) offset bytes o, λ h. unwrapped (16 * number) offset 0 bytes (omega arith) (omega arith))

-- a segment at this base ends by 2^32
unfoldable pub Low : Base → Type 0
Low (from_segment base) = base + 65536 ≤ 2 ^ 32
Low (from_linear base) = Unit

low_behind : (base : Base) (m : Meaning) → Sayable m → Low base → Low (base_behind base m)
unfolding Low base_behind
low_behind base (data_at offset bytes) s h = h
low_behind base end_of_file s h = h
low_behind base (extended_segment n) s h = omega arith
low_behind base (start_segment cs ip) s h = h
low_behind base (extended_linear n) s h = tt
low_behind base (start_linear n) s h = h

pub low_start : Low from_start
unfolding Low
low_start = omega arith

-- what holds of the rows of lines, if it holds of nothing and of a refused line, and goes on from behind a record to it; behind an end record
-- there is nothing
pub by_rows : (P : Base → List Numbered → Type 0) → ((base : Base) → P base []) → ((n : ℕ) (base : Base) (r : Refusal) → P base (on n (wrong r) ∷ []))
    → ((n : ℕ) (base : Base) (kind address : ℕ) (payload : List ℕ) (row : List Numbered) → let m = meaning kind address payload in
    Sayable m → Low base → (is_end m ≡ true → row ≡ []) → P (base_behind base m) row → P base (on n (says kind address payload) ∷ row))
    → (n : ℕ) (ls : List (List ℕ)) (base : Base) → Low base → P base (through_stop default_options (sayings n ls))
unfolding sayings through_stop
by_rows P nothing fails goes n [] base h = nothing base
by_rows P nothing fails goes n ([] ∷ ls) base h = by_rows P nothing fails goes (suc n) ls base h
by_rows P nothing fails goes n ((c ∷ l) ∷ ls) base h = go (judge (c ∷ l)) refl (by_rows P nothing fails goes (suc n) ls)
  where
    row : List Numbered
    row = through_stop default_options (sayings (suc n) ls)

    cut : (b : Bool) (base' : Base) → P base' row → P base' (if b then [] else row)
    cut true base' p = nothing base'
    cut false base' p = p

    go : (s : Said) → judge (c ∷ l) ≡ s → ((base' : Base) → Low base' → P base' row) → P base (through_stop default_options (on n s ∷ sayings (suc n) ls))
    go (wrong r) q ih = fails n base r
    go (says kind address payload) q ih =
        let m = meaning kind address payload in
        let s = said_is_sayable (c ∷ l) kind address payload q in
        goes n base kind address payload (if is_end m && true then [] else row) s h (λ e. rw e)
        (cut (is_end m && true) (base_behind base m) (ih (base_behind base m) (low_behind base m s h)))

-- a record's step is the same exactly if the record stays in its segment
step_same : (n : ℕ) (base : Base) (m : Meaning) → Sayable m → Low base → (does_on n (flat base) m ≡ does_on n base m) ↔ InSegment base m
unfolding Low flat does
step_same n (from_linear base) (data_at offset bytes) s h = ((λ e. tt), (λ k. refl))
step_same n (from_segment base) (data_at offset bytes) s h = ((λ e. wrapped base offset bytes s.0 cc), (λ k. rw (unwrapped base offset 0 bytes h (omega arith))))
step_same n base end_of_file s h = ((λ e. tt), (λ k. refl))
step_same n base (extended_segment x) s h = ((λ e. tt), (λ k. refl))
step_same n base (start_segment cs ip) s h = ((λ e. tt), (λ k. refl))
step_same n base (extended_linear x) s h = ((λ e. tt), (λ k. refl))
step_same n base (start_linear x) s h = ((λ e. tt), (λ k. refl))

step_length : (n : ℕ) (base b : Base) (m : Meaning) → length (does_on n b m) ≡ length (does_on n base m)
unfolding does
step_length n base b (data_at offset bytes) = refl
step_length n base b end_of_file = refl
step_length n base b (extended_segment x) = refl
step_length n base b (start_segment cs ip) = refl
step_length n base b (extended_linear x) = refl
step_length n base b (start_linear x) = refl

append_parts : (s₁ s₂ a b : List Step) → length s₁ ≡ length s₂ → s₁ ++ a ≡ s₂ ++ b → (s₁ ≡ s₂) × (a ≡ b)
append_parts [] [] a b l e = (refl, e)
append_parts [] (y ∷ s₂) a b l e = absurd (omega arith)
append_parts (x ∷ s₁) [] a b l e = absurd (omega arith)
append_parts (x ∷ s₁) (y ∷ s₂) a b l e = let (p, q) = append_parts s₁ s₂ a b (omega arith) cc in (cc, q)

abbrev Unchanged : Base → List Numbered → Type 0
Unchanged base row = (along flat base row ≡ left base row) ↔ InSegments base row

unchanged_record : (n : ℕ) (base : Base) (kind address : ℕ) (payload : List ℕ) (row : List Numbered) → let m = meaning kind address payload in
    Sayable m → Low base → (is_end m ≡ true → row ≡ []) → Unchanged (base_behind base m) row → Unchanged base (on n (says kind address payload) ∷ row)
unfolding along act base_after
unchanged_record n base kind address payload row s h ends (there, back) =
    let m = meaning kind address payload in
    let (out, in-it) = step_same n base m s h in (
      (λ e. let (p, q) = append_parts _ _ _ _ (step_length n base (flat base) m) e in (out p, there q)),
      (λ k. rw (in-it k.0, back k.1)),
    )

pub text_unchanged : TextUnchanged
unfolding row along act
text_unchanged text = by_rows Unchanged (λ base. ((λ e. tt), (λ k. refl))) (λ n base r. ((λ e. tt), (λ k. refl))) unchanged_record 1 (lines text) from_start low_start

pub load_by_row : LoadByRow
unfolding load_packed
load_by_row f room text page marks = ap (repacked marks) (by_row f room text page (flags (length page) marks))

pub load_unchanged : LoadUnchanged
unfolding flat_load load_window load_packed
load_unchanged text first page marks h =
    let places = flags (length page) marks in
    ap (repacked marks)
    (by_row flat (room_of first page marks) text page places
    ∙ ap (λ (s : List Step). load_steps (room_of first page marks) s page places) ((text_unchanged text).1 h) ∙ sym (by_row (λ base. base) (room_of first page marks) text page places))

pub examples : Examples
unfolding along flat act base_after row judge meaning number_after stated
examples = record { beyond_flat = refl }
