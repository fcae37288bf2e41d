-- The second pass, line by line: what is left, painted on page and marks as they are, stays all of it painted on them as they were.
-- Assumes nothing.
use Rattle.std.proofs.Common.{◌≡◌, ℕ, ◌+◌, ◌-◌, ◌<◌, Bool, true, false, List, [], ◌++◌, map, length, take, drop, refl, ap, ◌∙◌, append-nil, arith}
use mathlib.Core.Option.{Option}
use Rattle.record.specs.Line.{wrong}
use Rattle.reader.specs.declared.ReaderError.{ReaderError}
use Rattle.reader.specs.Told.{refusal_of}
use Rattle.reader.proofs.Searching.{CutOff}
use Rattle.srec.specs.declared.SRecord.{SRecord}
use Rattle.srec.specs.Line.{judge}
use Rattle.steps.specs.Steps.{Step, step, stated}
use Rattle.window.specs.Promises.{Painted}
use Rattle.window.proofs.Loads.{painted_nothing, painting_step}
use Rattle.srecload.specs.declared.Walk.{Walk}
use Rattle.srecload.specs.Placing.{s_header, s_data, s_count, s_end, s_placed, s_does, s_act, line_steps}
use Rattle.srecload.specs.Helpers.{ahead_of, left_of, stands_in, UnderWay, WroteSteps, WroteRecord, WroteLine}
use Rattle.srecload.proofs.Reading.{Came}
use Rattle.srecload.proofs.Meeting.{line_said, line_empty, line_came, there, moves, stays_inside, under_way_there, ahead_step, no_steps}
use Rattle.window.specs.LineByLine.{WroteOn}

-- ---- one record

module _ (site : ℕ → Option ℕ) (page marks : List ℕ) where
  -- steps that state nothing, after which the text goes on
  pub wrote_nothing : (s : List Step) → ((rest : List Step) → stated (s ++ rest) ≡ stated rest) → stated s ≡ [] → WroteSteps site s page marks true page marks
  wrote_nothing s h e =
      record {
        painted = rw e (painted_nothing site page marks);
        goes_on = λ t rest. rw (h rest, e);
        ends = λ f. let z : ◌≡◌ {A = ℕ} 0 1 = cc in absurd (omega arith);
        kept = λ f. let z : ◌≡◌ {A = ℕ} 0 1 = cc in absurd (omega arith);
      }

  -- steps after which nothing is stated
  pub wrote_end : (s : List Step) → ((rest : List Step) → stated (s ++ rest) ≡ []) → stated s ≡ [] → WroteSteps site s page marks false page marks
  wrote_end s h e =
      record {
        painted = rw e (painted_nothing site page marks);
        goes_on = λ t. let z : ◌≡◌ {A = ℕ} 0 1 = cc in absurd (omega arith);
        ends = λ f rest. h rest;
        kept = λ f. (refl, refl);
      }

  pub wrote_header : (n : ℕ) → WroteSteps site (map (step n) (s_does s_header)) page marks true page marks
  unfolding stated s_does
  wrote_header n = wrote_nothing [] (λ rest. refl) refl

  pub wrote_count : (n c : ℕ) → WroteSteps site (map (step n) (s_does (s_count c))) page marks true page marks
  unfolding stated s_does
  wrote_count n c = wrote_nothing (map (step n) (s_does (s_count c))) (λ rest. refl) refl

  pub wrote_last : (n a : ℕ) → WroteSteps site (map (step n) (s_does (s_end a))) page marks false page marks
  unfolding stated s_does
  wrote_last n a = wrote_end (map (step n) (s_does (s_end a))) (λ rest. refl) refl

  pub wrote_data : (n address : ℕ) (bytes page' marks' : List ℕ) → Painted site (s_placed address bytes) page marks page' marks'
      → WroteSteps site (map (step n) (s_does (s_data address bytes))) page marks true page' marks'
  unfolding stated s_does
  wrote_data n address bytes page' marks' p =
      record {
        painted = rw (append-nil (s_placed address bytes)) p;
        goes_on = λ t rest. rw (append-nil (s_placed address bytes));
        ends = λ f. let z : ◌≡◌ {A = ℕ} 0 1 = cc in absurd (omega arith);
        kept = λ f. let z : ◌≡◌ {A = ℕ} 0 1 = cc in absurd (omega arith);
      }

  -- ---- one line

  pub wrote_empty : (line : List ℕ) → length line ≡ 0 → WroteLine site line page marks true page marks
  unfolding stated
  wrote_empty line e n = rw (line_empty n line e) (wrote_nothing [] (λ rest. refl) refl)

  pub wrote_came : (line pool' : List ℕ) (x : SRecord) (more : Bool) (page' marks' : List ℕ) → 0 < length line → Came line pool' x
      → WroteRecord site x pool' page marks more page' marks' → WroteLine site line page marks more page' marks'
  wrote_came line pool' x more page' marks' h c w n = rw (line_came n line pool' x h c) (w n)

  pub wrote_refused : (line : List ℕ) (e : ReaderError) → 0 < length line → judge line ≡ wrong (refusal_of e) → WroteLine site line page marks false page marks
  unfolding stated s_act
  wrote_refused line e h w n = rw (line_said n line h, w) (wrote_end _ (λ rest. refl) refl)

-- ---- the next line of a text

module _ (site : ℕ → Option ℕ) (text : List ℕ) (w : Walk) (under : UnderWay text w) (left : w.position < length text) (line : List ℕ) (n : ℕ)
    (known : CutOff (take (length text - w.position) (drop w.position text)) line n) (page marks page' marks' : List ℕ) where
  abbrev next : Walk
  next = there text w under left line n known

  pub wrote_on : (more : Bool) → more ≡ true → WroteLine site line page marks more page' marks' → WroteOn stands_in ahead_of left_of site text w page marks next page' marks'
  wrote_on more e h =
      let s = h (w.line + 1) in
      record {
        stands = under_way_there text w under left line n known;
        less = omega (arith, moves text w under left line n known, stays_inside text w under left line n known);
        same = painting_step site (ahead_of w text) (ahead_of next text) (stated (line_steps (w.line + 1) line)) page marks page' marks'
            (ap stated (ahead_step text w under left line n known) ∙ s.goes_on e (ahead_of next text)) s.painted;
      }

  pub wrote_out : (more : Bool) → more ≡ false → WroteLine site line page marks more page' marks' → (stated (ahead_of w text) ≡ []) × (page' ≡ page) × (marks' ≡ marks)
  wrote_out more e h =
      let s = h (w.line + 1) in
      (ap stated (ahead_step text w under left line n known) ∙ s.ends e (ahead_of next text), (s.kept e).0, (s.kept e).1)

pub nothing_left : (text : List ℕ) (w : Walk) → w.position ≡ length text → stated (ahead_of w text) ≡ []
unfolding stated
nothing_left text w e = rw (no_steps text w e)
