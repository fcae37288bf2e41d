-- Rows of calls of a tail: it is decided by the first line that ends the text, and stages nothing.
-- Assumes nothing.
use Rattle.std.proofs.Common.{◌≡◌, ℕ, suc, ◌+◌, ◌-◌, ◌^◌, Bool, true, false, eqb, List, [], ◌∷◌, ◌++◌, map, length, sym, refl, ap, ◌∙◌, subst, arith}
use mathlib.Core.Option.{Option, some}
use Rattle.digits.specs.Common.{Every}
use Rattle.std.specs.Prelude.{if◌then◌else◌}
use Rattle.marks.specs.Claims.{Bytes}
use Rattle.record.specs.Line as intel-line
use Rattle.record.specs.Meaning.{meaning}
use Rattle.record.specs.Refusals.{bad_window}
use Rattle.reader.specs.Lines.{LF, lines}
use Rattle.chunks.specs.Begun.{Begun, nothing, is_empty, stands_for, add, counted}
use Rattle.srec.specs.Line as srec-line
use Rattle.steps.specs.declared.Tally.{Tally as CodeTally}
use Rattle.steps.specs.Steps.{Placement, step, nothing_yet, Verdict, accepted, refused, Decision, by, turn, decision, stated}
use Rattle.steps.specs.Source.{Source, steps, steps_of}
use Rattle.steps.specs.Taken.{Standing, at_first, Went, on, stopped, acted, at_line}
use Rattle.steps.specs.Told.{told_loading}
use Rattle.steps.proofs.Told.{told_apart}
use Rattle.window.specs.Window.{within, window}
use Rattle.window.specs.Promises.{Painted}
use Rattle.window.proofs.Loads.{painted_nothing}
use Rattle.window.proofs.Taking.{painted_once}
use Rattle.intel.specs.Placing.{does, act, intel_by, intel}
use Rattle.loader.specs.declared.Base.{Base as CodeBase}
use Rattle.srecload.specs.Placing.{s_meaning, s_does, s_act, s_records}
use Rattle.intake.specs.declared.Kind.{Kind}
use Rattle.intake.specs.declared.Kind.TheVariants.{Hex, SRecords}
use Rattle.intake.specs.Machine.{Fed, wants_more, decided, after_line, takes, fed}
use Rattle.intake.specs.Past.{ends_text, passed, past}
use Rattle.intake.specs.Ways.{way_of}
use Rattle.intake.specs.Intake.{begun_in}
use Rattle.intake.specs.Rows.{text_of, FirstEnd, TailDecides, TailWaits, TailStagesNothing}
use Rattle.intake.proofs.Past.{past_states_nothing, past_never_refuses}
use Rattle.intake.proofs.Before.{from_first}
use Rattle.intake.proofs.Following.{stops_fit}
use Rattle.intake.proofs.Rows.{come_to, row_decides, row_waits}
use Rattle.std.specs.Prelude.{None, Ok}

-- ---- the first line that ends a text

-- a tail is decided by this line
abbrev ended_at : ℕ → Option Decision
ended_at n = some (by n (accepted nothing_yet))

-- of lines numbered from n on, line m is the first that ends the text
record EndsFirst {S : Type 0} (src : Source S) (n : ℕ) (ls : List (List ℕ)) (m : ℕ) : Type 0 where
  ahead : List (List ℕ)
  line : List ℕ
  later : List (List ℕ)
  lines_are : ls ≡ ahead ++ (line ∷ later)
  none_ahead : Every (λ (l : List ℕ). ends_text src l ≡ false) ahead
  at_end : ends_text src line ≡ true
  number : m ≡ n + length ahead

module _ {S : Type 0} (src : Source S) (not_empty : ends_text src [] ≡ false) (inside : ℕ → Bool) where
  one_more : (n : ℕ) (l : List ℕ) (ls : List (List ℕ)) (m : ℕ) → ends_text src l ≡ false → EndsFirst src (suc n) ls m → EndsFirst src n (l ∷ ls) m
  one_more n l ls m e x =
      record {
        ahead = l ∷ x.ahead;
        line = x.line;
        later = x.later;
        lines_are = ap (λ (r : List (List ℕ)). l ∷ r) x.lines_are;
        none_ahead = (e, x.none_ahead);
        at_end = x.at_end;
        number = omega (arith, x.number);
      }

  -- it is the one that decides
  ends_first : (n : ℕ) (ls : List (List ℕ)) (m : ℕ) (v : Verdict) → decision inside nothing_yet (steps (past src) tt n ls) ≡ some (by m v) → EndsFirst src n ls m
  unfolding steps decision turn
  ends_first n [] m v e = let z : ◌≡◌ {A = ℕ} 0 1 = cc in absurd (omega arith)
  ends_first n ([] ∷ ls) m v e = one_more n [] ls m not_empty (ends_first (suc n) ls m v e)
  ends_first n ((c ∷ line) ∷ ls) m v e = go (ends_text src (c ∷ line)) refl (ends_first (suc n) ls m v) e
    where
      go : (b : Bool) → ends_text src (c ∷ line) ≡ b → (decision inside nothing_yet (steps (past src) tt (suc n) ls) ≡ some (by m v) → EndsFirst src (suc n) ls m)
          → decision inside nothing_yet (map (step n) (passed b) ++ steps (past src) tt (suc n) ls) ≡ some (by m v) → EndsFirst src n ((c ∷ line) ∷ ls) m
      go true is ih q =
          let same : n ≡ m = cc in
          record { ahead = []; line = c ∷ line; later = ls; lines_are = refl; none_ahead = tt; at_end = is; number = omega (arith, same) }
      go false is ih q = one_more n (c ∷ line) ls m is (ih q)

  -- and no other line decides
  first_decides : (ahead : List (List ℕ)) (line : List ℕ) (later : List (List ℕ)) (n : ℕ) → Every (λ (l : List ℕ). ends_text src l ≡ false) ahead → ends_text src line ≡ true
      → decision inside nothing_yet (steps (past src) tt n (ahead ++ (line ∷ later))) ≡ ended_at (n + length ahead)
  unfolding steps decision turn
  first_decides [] [] later n none e = let q : true ≡ false = sym e ∙ not_empty in let z : ◌≡◌ {A = ℕ} 0 1 = cc in absurd (omega arith)
  first_decides [] (c ∷ line) later n none e = rw e (ap ended_at (omega arith))
  first_decides ([] ∷ ahead) line later n (is, none) e =
      first_decides ahead line later (suc n) none e ∙ ap ended_at (omega arith)
  first_decides ((c ∷ l) ∷ ahead) line later n (is, none) e =
      rw is (first_decides ahead line later (suc n) none e ∙ ap ended_at (omega arith))

-- an empty line ends no text
hex_empty : ends_text intel [] ≡ false
unfolding intel_by act does intel-line.judge meaning
hex_empty = refl

s_empty : ends_text s_records [] ≡ false
unfolding s_records s_act s_does s_meaning srec-line.judge
s_empty = refl

-- ---- of both kinds

module _ (inside : ℕ → Bool) (text : List ℕ) where
  abbrev DecidesTail : (kind : Kind) (n : ℕ) → Verdict → Type 0
  DecidesTail kind n v = decision inside nothing_yet (steps_of (way_of kind true).source text) ≡ some (by n v)

  first_end : (kind : Kind) (n : ℕ) (v : Verdict) → DecidesTail kind n v → FirstEnd kind text n
  unfolding steps_of
  first_end Hex n v e =
      let x = ends_first intel hex_empty inside 1 (lines text) n v e in
      record { ahead = x.ahead; line = x.line; later = x.later; lines_are = x.lines_are; none_ahead = x.none_ahead; at_end = x.at_end; number = omega (arith, x.number) }
  first_end SRecords n v e =
      let x = ends_first s_records s_empty inside 1 (lines text) n v e in
      record { ahead = x.ahead; line = x.line; later = x.later; lines_are = x.lines_are; none_ahead = x.none_ahead; at_end = x.at_end; number = omega (arith, x.number) }

  decided_there : (kind : Kind) (n : ℕ) → FirstEnd kind text n → DecidesTail kind n (accepted nothing_yet)
  unfolding steps_of
  decided_there Hex n x = rw x.lines_are (first_decides intel hex_empty inside x.ahead x.line x.later 1 x.none_ahead x.at_end ∙ ap ended_at (omega (arith, x.number)))
  decided_there SRecords n x = rw x.lines_are (first_decides s_records s_empty inside x.ahead x.line x.later 1 x.none_ahead x.at_end ∙ ap ended_at (omega (arith, x.number)))

  nothing_refused : (kind : Kind) (n : ℕ) (v : Verdict) → DecidesTail kind n v → v ≡ accepted nothing_yet
  nothing_refused Hex n v e = past_never_refuses _ intel inside text n v e
  nothing_refused SRecords n v e = past_never_refuses _ s_records inside text n v e

  nothing_stated : (kind : Kind) → stated (steps_of (way_of kind true).source text) ≡ []
  nothing_stated Hex = past_states_nothing _ intel text
  nothing_stated SRecords = past_states_nothing _ s_records text

-- ---- nothing is staged

-- bytes that want more have stated this
abbrev StatedIs : List Placement → Fed Unit → Type 0
StatedIs ps (wants_more n st b) = st.stated ≡ ps
StatedIs ps (decided n v qs left) = Unit

module _ {S : Type 0} (src : Source S) (inside : ℕ → Bool) (ps : List Placement) where
  line_states : (n : ℕ) (st st' : Standing Unit) (line : List ℕ) → st.stated ≡ ps → takes (past src) inside n st line ≡ on st' → st'.stated ≡ ps
  unfolding takes at_line acted turn
  line_states n st st' line is e = go (eqb st.tally.records (2 ^ 64 - 1)) (ends_text src line) e
    where
      go : (full at_end : Bool) → (if full then stopped (refused bad_window 0) st.stated else acted inside n tt st.tally st.stated (passed at_end)) ≡ on st' → st'.stated ≡ ps
      go true at_end q = let z : ◌≡◌ {A = ℕ} 0 1 = cc in absurd (omega arith)
      go false true q = let z : ◌≡◌ {A = ℕ} 0 1 = cc in absurd (omega arith)
      go false false q =
          let r : record { state = tt; tally = st.tally; stated = st.stated } ≡ st' = cc in
          sym (ap (λ (x : Standing Unit). x.stated) r) ∙ is

  fed_states : (bytes : List ℕ) (n : ℕ) (st : Standing Unit) (b : Begun) → st.stated ≡ ps → StatedIs ps (fed (takes (past src) inside) n st b bytes)
  unfolding fed
  fed_states [] n st b is = is
  fed_states (c ∷ bytes) n st b is = go (eqb c LF) (is_empty b.kept.bytes) (fed_states bytes)
    where
      line : List ℕ
      line = stands_for b.kept

      later : Standing Unit → Fed Unit
      later st' = fed (takes (past src) inside) (counted n) st' nothing bytes

      go : (lf e : Bool) → ((m : ℕ) (s : Standing Unit) (d : Begun) → s.stated ≡ ps → StatedIs ps (fed (takes (past src) inside) m s d bytes))
          → StatedIs ps (if lf then (if e then later st else after_line (counted n) bytes (takes (past src) inside (counted n) st line) later) else fed (takes (past src) inside) n st (add b c) bytes)
      go true true ih = ih (counted n) st nothing is
      go true false ih = at_end (takes (past src) inside (counted n) st line) refl
        where
          at_end : (w : Went Unit) → takes (past src) inside (counted n) st line ≡ w → StatedIs ps (after_line (counted n) bytes w later)
          at_end (on st') q = ih (counted n) st' nothing (line_states (counted n) st st' line is q)
          at_end (stopped v qs) q = tt
      go false e ih = ih n st (add b c) is

nothing_placed : (kind : Kind) (inside : ℕ → Bool) (text : List ℕ) (n : ℕ) (base : CodeBase) (tally : CodeTally) (qs : List Placement) (b : Begun)
    → from_first (way_of kind true).source inside text ≡ wants_more n ((way_of kind true).standing base tally qs) b → qs ≡ []
nothing_placed Hex inside text n base tally qs b e = subst (StatedIs []) e (fed_states intel inside [] text 0 (at_first (past intel)) nothing refl)
nothing_placed SRecords inside text n base tally qs b e = subst (StatedIs []) e (fed_states s_records inside [] text 0 (at_first (past s_records)) nothing refl)

-- what is painted with nothing is what it was
unpainted : (site : ℕ → Option ℕ) (page marks page' marks' : List ℕ) → Painted site [] page marks page' marks' → (page' ≡ page) × (Bytes marks → marks' ≡ marks)
unpainted site page marks page' marks' p =
    let same = painted_nothing site page marks in
    (p.page ∙ sym same.page, λ bytes. (painted_once site [] page marks page' page marks' marks bytes p same).1)

-- ---- the claims

pub tail_decides : TailDecides
tail_decides kind cr first carry₀ stage₀ stated₀ s₀ is chunks s carry stage stated₁ row chunk l used carry' stage' stated' f fit more short =
    let text = text_of cr chunks ++ (chunk ++ more) in
    let (loaded, through-it, fits) = row_decides kind true cr first carry₀ stage₀ stated₀ s₀ is chunks s carry stage stated₁ row chunk l used carry' stage' stated' f more stage₀ stated₀ short refl refl in
    let x = through-it (λ _. fit) in
    let d = sym (stops_fit kind true cr first carry₀ stage₀ stated₀ text stage₀ stated₀ refl refl fit) ∙ x.stops in
    let told = nothing_refused _ text kind x.line (told_loading l) d in
    let p : Painted (window first (length stage₀)) [] stage₀ stated₀ stage' stated'
    = rw (nothing_stated (λ _. true) text kind) at (loaded.paints nothing_yet (loaded.answer ∙ told)) in
    let (same_page, same_marks) = unpainted (window first (length stage₀)) stage₀ stated₀ stage' stated' p in (
      told_apart l (Ok (record { records = 0; start = None })) told,
      record { line = x.line; ends_there = first_end _ text kind x.line (told_loading l) d; head = x.head; is_through = x.is_through; whole = x.whole },
      fits,
      same_page,
      same_marks,
    )

pub tail_waits : TailWaits
tail_waits kind cr first carry₀ stage₀ stated₀ s₀ is chunks s carry stage stated₁ row more short n x =
    row_waits kind true cr first carry₀ stage₀ stated₀ s₀ is chunks s carry stage stated₁ row more short n (accepted nothing_yet)
    (decided_there _ (text_of cr chunks ++ more) kind n x)

pub tail_stages_nothing : TailStagesNothing
tail_stages_nothing kind cr first carry₀ stage₀ stated₀ s₀ is chunks s carry stage stated₁ row =
    let here = come_to kind true cr first carry₀ stage₀ stated₀ s₀ is chunks s carry stage stated₁ row in
    let none = nothing_placed kind (within first (length stage₀)) (text_of cr chunks) s.line s.base s.tally here.placements (begun_in s carry) here.comes_to in
    unpainted (window first (length stage₀)) stage₀ stated₀ stage stated₁ (rw none at here.paints)
