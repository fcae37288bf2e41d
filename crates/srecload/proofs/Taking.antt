-- One line by itself: what the first pass makes of a record is what its actions come to, and what the second pass writes of it is painted.
-- Assumes nothing.
use Rattle.std.proofs.Common.{◌≡◌, ℕ, ◌+◌, ◌-◌, ◌^◌, ◌<◌, ◌≤◌, min, Bool, true, false, eqb, ◌≢◌, List, [], ◌∷◌, ◌++◌, map, length, take, drop, sym, refl, ap, ◌∙◌, ap₂, true≢false, append-nil, add-one, arith, eq-eqb, ne_eqb}
use mathlib.Core.Option.{Option, none, some}
use Rattle.digits.proofs.Parts.{part_is, part_length}
use Rattle.record.specs.Line.{wrong}
use Rattle.reader.specs.declared.ReaderError.{ReaderError}
use Rattle.reader.specs.Told.{refusal_of}
use Rattle.srec.specs.declared.SRecord.{SRecord}
use Rattle.srec.specs.Line.{judge}
use Rattle.srec.specs.Record.{digit_of}
use Rattle.steps.specs.declared.LoaderError.TheVariants.{BadWindow, Line}
use Rattle.steps.specs.Aliases.{Loading}
use Rattle.steps.specs.Steps.{Placement, Action, places, counts, finishes, Step, step, Tally, by, outside, turn, decision, verdict, stated, at_data}
use Rattle.steps.specs.Taken.{Went, on, stopped, onward, acted, at_line}
use Rattle.steps.specs.Told.{told_loading}
use Rattle.window.specs.Promises.{Painted, PutInside, OneWindow}
use Rattle.window.specs.declared.Row.{Row}
use Rattle.window.specs.Window.{within, window, unfit}
use Rattle.window.specs.Table.{inside_of, site_of}
use Rattle.window.proofs.Alone.{inside_is, alone_painted}
use Rattle.window.proofs.Spread.{Runs}
use Rattle.window.proofs.Whole.{whole_inside, whole_stored}
use Rattle.srecload.specs.declared.Taken.{Taken}
use Rattle.srecload.specs.declared.Taken.TheVariants.{On, Stop}
use Rattle.srecload.specs.Placing.{SMeaning, s_meaning, s_header, s_data, s_count, s_end, s_address, s_placed, s_does, s_act, s_records}
use Rattle.srecload.specs.Helpers.{meant_in, LiesIn, so_far, Passed, TookRecord, TookInWindow, PutWhole}
use Rattle.srecload.specs.Taking.{told_taken, closed, TakeLine}
use Rattle.srecload.proofs.Reading.{Came}
use Rattle.srecload.proofs.Runs.{runs, from_address}
use Rattle.steps.specs.Aliases.{refuse}

-- ---- one record

module _ (inside : ℕ → Bool) (n seen : ℕ) where
  -- what the actions of a line come to, as steps before whatever follows
  abbrev Comes : List Action → Went Unit → Type 0
  Comes acts (on st) =
      (st.stated ≡ stated (map (step n) acts))
      × ((rest : List Step) → decision inside (so_far seen) (map (step n) acts ++ rest) ≡ decision inside st.tally rest)
  Comes acts (stopped v ps) = (ps ≡ []) × ((rest : List Step) → decision inside (so_far seen) (map (step n) acts ++ rest) ≡ some (by n v))

  comes : (m : SMeaning) → Comes (s_does m) (acted inside n tt (so_far seen) [] (s_does m))
  unfolding acted decision turn stated s_does
  comes s_header = (refl, λ rest. refl)
  comes (s_data address bytes) = go (outside inside (s_placed address bytes)) refl
    where
      go : (o : Option ℕ) → outside inside (s_placed address bytes) ≡ o
          → Comes (places (s_placed address bytes) ∷ [])
          (onward (at_data n o (so_far seen)) [] (λ t. on (record { state = tt; tally = t; stated = s_placed address bytes })))
      go none e = (sym (append-nil (s_placed address bytes)), λ rest. rw e)
      go (some out) e = (refl, λ rest. rw e)
  comes (s_count c) = go (eqb c seen) refl
    where
      go : (b : Bool) → eqb c seen ≡ b → Comes (counts c ∷ []) (acted inside n tt (so_far seen) [] (counts c ∷ []))
      go true e = rw e (refl, λ rest. rw e)
      go false e = rw e (refl, λ rest. rw e)
  comes (s_end address) = (refl, λ rest. refl)

  -- the end, as a step that follows: by it a tally shows
  abbrev last : List Step
  last = step 0 finishes ∷ []

  -- the load goes on with the tally that the first pass goes on with
  went_on : (acts : List Action) (seen' : ℕ) → Passed inside seen (map (step n) acts) seen'
      → (w : Went Unit) → Comes acts w → w ≡ told_taken (On seen') (stated (map (step n) acts))
  unfolding decision turn
  went_on acts seen' p (on st) (s, d) =
      let both : decision inside (so_far seen') last ≡ decision inside st.tally last = p.same last ∙ d last in
      let t : so_far seen' ≡ st.tally = cc in
      ap₂ (λ (t : Tally) (ps : List Placement). on (record { state = tt; tally = t; stated = ps })) (sym t) s
  went_on acts seen' p (stopped v ps) (s, d) = let none-some = p.same [] ∙ d [] in let z : ◌≡◌ {A = ℕ} 0 1 = cc in absurd (omega arith)

  -- and it stops with the answer at which the first pass stops
  went_out : (acts : List Action) (l : Loading) → ((rest : List Step) → told_loading l ≡ verdict (decision inside (so_far seen) (map (step n) acts ++ rest)))
      → (w : Went Unit) → Comes acts w → w ≡ told_taken (Stop l) []
  unfolding decision turn verdict
  went_out acts l h (on st) (s, d) =
      let here = h [] ∙ ap verdict (d []) in
      let later = h last ∙ ap verdict (d last) in
      let z : ◌≡◌ {A = ℕ} 0 1 = cc in absurd (omega arith)
  went_out acts l h (stopped v ps) (s, d) = ap₂ stopped (sym (h [] ∙ ap verdict (d []))) s

  -- so it is with a record
  pub record_goes : (m : SMeaning) (seen' : ℕ) → Passed inside seen (map (step n) (s_does m)) seen'
      → acted inside n tt (so_far seen) [] (s_does m) ≡ told_taken (On seen') (stated (map (step n) (s_does m)))
  record_goes m seen' p = went_on (s_does m) seen' p (acted inside n tt (so_far seen) [] (s_does m)) (comes m)

  pub record_stops : (m : SMeaning) (l : Loading) → ((rest : List Step) → told_loading l ≡ verdict (decision inside (so_far seen) (map (step n) (s_does m) ++ rest)))
      → acted inside n tt (so_far seen) [] (s_does m) ≡ told_taken (Stop l) []
  record_stops m l h = went_out (s_does m) l h (acted inside n tt (so_far seen) [] (s_does m)) (comes m)

-- taken through the window as a table of its own, upon a page and marks that were left as they were
pub took_by_table : (n seen : ℕ) (x : SRecord) (pool : List ℕ) (first : ℕ) (page marks page₁ marks₁ : List ℕ) → (page₁ ≡ page) × (marks₁ ≡ marks)
    → (rows : List Row) → OneWindow first (length page₁) rows → (r : Taken) (page' marks' : List ℕ)
    → TookRecord (inside_of 1 rows) (site_of 1 rows) n seen x pool page₁ marks₁ r page' marks' → TookInWindow n seen x pool first page marks r page' marks'
took_by_table n seen x pool first page marks page₁ marks₁ (e, f) rows one r page' marks' (ps, h, p) =
    let h₁ = rw (one.answer, inside_is first (length page₁)) at h in
    let p₁ = rw one.answer at p in
    rw (← e, ← f) (ps, h₁, alone_painted first (length page₁) ps page₁ marks₁ page' marks' p₁)

-- ---- a data record stored at once

module _ (x : SRecord) (pool : List ℕ) (first : ℕ) (page marks : List ℕ) where
  pub not_put : PutWhole x pool first page marks false page marks
  not_put = record { took = λ t. absurd (true≢false (sym t)); kept = λ f. (refl, refl) }

  module _ (lies : LiesIn x pool) (is_data : (bytes : List ℕ) → s_meaning (digit_of x.kind) x.address bytes ≡ s_data x.address bytes) (a : x.address < 2 ^ 32)
      (k : ℕ) (is-k : k ≡ min x.len (2 ^ 32 - x.address)) (all : x.len ≤ k) where
    abbrev bytes : List ℕ
    bytes = take (x.at + x.len - x.at) (drop x.at pool)

    many : length bytes ≡ x.len
    many = ap length (part_is pool x.at x.len) ∙ part_length pool x.at x.len lies.0

    in_one : Runs (s_address x.address) (length bytes) (length bytes)
    in_one =
        let h : k ≡ x.len = omega arith in
        rw (many, ← h) (rw (← h) at (runs x.address x.len a lies.1 k is-k))

    -- it counts one
    counts_one : (n seen : ℕ) → outside (within first (length page)) (s_placed x.address bytes) ≡ none
        → acted (within first (length page)) n tt (so_far seen) [] (s_does (meant_in x pool)) ≡ told_taken (On (seen + 1)) (s_placed x.address bytes)
    unfolding acted turn s_does
    counts_one n seen o = rw (← (part_is pool x.at x.len), is_data bytes, o, add-one seen)

    pub put_data : (r : Bool) (page' marks' : List ℕ) → PutInside first x.address bytes page marks r page' marks' → PutWhole x pool first page marks r page' marks'
    put_data r page' marks' p =
        let from = from_address x.address x.len a lies.1 k is-k in
        record {
          took = λ t n seen. (
            s_placed x.address bytes,
            counts_one n seen ((whole_inside (s_address x.address) first x.address from bytes page marks in_one r page' marks' p t).answer bytes refl),
            whole_stored (s_address x.address) first x.address from bytes page marks in_one r page' marks' p t,
          );
          kept = p.kept;
        }

-- ---- one line

-- a line that gave a record, and one that was refused
module _ (inside : ℕ → Bool) (n seen : ℕ) (line : List ℕ) where
  abbrev pub LineIs : Went Unit → Type 0
  LineIs w = at_line s_records inside n (record { state = tt; tally = so_far seen; stated = [] }) line ≡ w

  pub line_read : (pool : List ℕ) (x : SRecord) (w : Went Unit) → Came line pool x → acted inside n tt (so_far seen) [] (s_does (meant_in x pool)) ≡ w → LineIs w
  unfolding at_line s_records s_act
  line_read pool x w c h = rw c.said h

  pub line_refused : (e : ReaderError) → judge line ≡ wrong (refusal_of e) → LineIs (told_taken (Stop (refuse (Line e) n)) [])
  unfolding at_line acted turn s_records s_act
  line_refused e h = rw h

-- ---- the contract

module _ (seen first page marks : ℕ) where
  pub closed_unfit : unfit first page marks ≡ true → closed seen first page marks ≡ true
  closed_unfit u = rw u

  pub closed_full : unfit first page marks ≡ false → seen + 1 ≡ 2 ^ 64 → closed seen first page marks ≡ true
  closed_full u e = rw (u, eq-eqb (seen + 1) (2 ^ 64) e)

  pub not_closed : unfit first page marks ≡ false → seen + 1 ≢ 2 ^ 64 → closed seen first page marks ≡ false
  not_closed u n = rw (u, ne_eqb (seen + 1) (2 ^ 64) n)

module _ (line : List ℕ) (number seen first : ℕ) (page marks : List ℕ) where
  -- nothing is taken
  pub take_closed : closed seen first (length page) (length marks) ≡ true → TakeLine line number seen first page marks (Stop (refuse BadWindow 0)) page marks
  take_closed c = record { refused = λ t. (refl, refl, refl); taken = λ f. let z : ◌≡◌ {A = ℕ} 0 1 = cc in absurd (omega arith) }

  -- a line that came to something in the window
  pub take_open : closed seen first (length page) (length marks) ≡ false → (r : Taken) (ps : List Placement) (page' marks' : List ℕ)
      → LineIs (within first (length page)) number seen line (told_taken r ps)
      → Painted (window first (length page)) ps page marks page' marks' → TakeLine line number seen first page marks r page' marks'
  take_open c r ps page' marks' e p =
      record {
        refused = λ t. let z : ◌≡◌ {A = ℕ} 0 1 = cc in absurd (omega arith);
        taken = λ f. record { stated = ps; comes_to = e; paints = p };
      }
