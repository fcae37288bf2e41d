-- The two passes, a call at a time: the decision on what is left stays the whole decision, and what is left, painted on page and
-- marks as they are, stays all of it painted on them as they were.
-- Assumes nothing.
use Rattle.std.proofs.Common.{◌≡◌, ℕ, ◌+◌, ◌^◌, ◌<◌, Bool, true, false, List, [], ◌∷◌, ◌++◌, length, sym, refl, ap, ◌∙◌, subst, ap₂, arith}
use mathlib.Core.Option.{Option}
use Rattle.record.specs.Refusals.{missing_end_of_file_record}
use Rattle.record.specs.Line.{wrong}
use Rattle.record.specs.Meaning.{Meaning, data_at, end_of_file, extended_segment, start_segment, extended_linear, start_linear}
use Rattle.record.specs.Record.{meant}
use Rattle.record.specs.declared.Record.{Record}
use Rattle.reader.specs.declared.ReaderError.{ReaderError}
use Rattle.reader.specs.declared.Replied.{Replied}
use Rattle.reader.specs.Told.{refusal_of}
use Rattle.reader.specs.Lines.{lines}
use Rattle.reader.specs.Row.{Numbered, on, is_end, row}
use Rattle.reader.specs.Text.{default_options, new_state, Next}
use Rattle.reader.proofs.Texts.{lines_few, sayings_few}
use Rattle.reader.specs.Along.{unread}
use Rattle.steps.specs.Steps.{Placement, Step, refused, turn, decision, verdict, stated}
use Rattle.window.specs.Promises.{Painted}
use Rattle.window.proofs.Loads.{painting_step}
use Rattle.loader.specs.declared.Base.{Base as CodeBase}
use Rattle.loader.specs.declared.Base.TheVariants.{Segment}
use Rattle.steps.specs.declared.Tally.{Tally as CodeTally}
use Rattle.steps.specs.Aliases.{Loading}
use Rattle.steps.proofs.Taken.{Acts, acts_are}
use Rattle.loader.specs.declared.Taken.{Taken}
use Rattle.loader.specs.declared.Taken.TheVariants.{On, Stop}
use Rattle.loader.specs.declared.Walk.{Walk}
use Rattle.intel.specs.Placing.{Base, base_behind, does, act, base_after, along, intel}
use Rattle.steps.specs.Told.{tallied, told_loading}
use Rattle.window.specs.Load.{SamePainting}
use Rattle.loader.specs.Helpers.{based, stated_by, Behind, told_taken, states, ahead_of, left_of, stands_in, has_met, Met}
use Rattle.intel.specs.Records.{left, does_on, UnderWay}
use Rattle.intel.proofs.Rows.{steps_along}
use Rattle.intel.proofs.Calls.{One, more_unread, fewer_unread, start_under_way}
use Rattle.window.specs.LineByLine.{Begun, JudgedOn, WroteOn}
use Rattle.loader.proofs.Meeting.{passes}

-- ---- the beginning

abbrev pub start : Walk
start = record { state = new_state default_options; base = Segment 0 }

pub begun : (text : List ℕ) → length text < 2 ^ 64 → Begun intel stands_in has_met ahead_of start text
unfolding unread
begun text h = record { stands = start_under_way text h; met = omega (arith, (lines_few text).0, sayings_few 1 (lines text)); all = sym (steps_along text) }

-- ---- an accepted record's step

-- what a record states comes before what is stated after it, which is nothing after the end
stated_step : (n : ℕ) (base : Base) (m : Meaning) (row row' : List Numbered) → (is_end m ≡ false → row ≡ row') → (is_end m ≡ true → row' ≡ [])
    → stated (does_on n base m ++ left (base_behind base m) row) ≡ stated_by base m ++ stated (left (base_behind base m) row')
unfolding stated does stated_by is_end along
stated_step n base (data_at offset bytes) row row' h g = rw (h refl)
stated_step n base end_of_file row row' h g = rw (g refl)
stated_step n base (extended_segment x) row row' h g = rw (h refl)
stated_step n base (start_segment cs ip) row row' h g = rw (h refl)
stated_step n base (extended_linear x) row row' h g = rw (h refl)
stated_step n base (start_linear x) row row' h g = rw (h refl)

module _ (text : List ℕ) (w : Walk) (pool : List ℕ) (r : Replied) (pool' : List ℕ) (under : UnderWay text w.state) (room : length pool ≡ 255) (next : Next w.state text pool 0 r pool') where
  abbrev Here : Record → Type 0
  Here x = One w.state text pool r pool' under.options under.countable room next x

  -- the record's steps, and those of the sayings after it
  ahead_step : (x : Record) (one : Here x)
      → ahead_of w text ≡ does_on r.state.line (based w.base) (meant x pool') ++ left (base_behind (based w.base) (meant x pool')) one.more
  unfolding along act base_after
  ahead_step x one = rw (one.means, one.first)

  -- unless it is the end, these are still unread
  unread_more : (x : Record) (one : Here x) → is_end (meant x pool') ≡ false → one.more ≡ unread r.state text
  unread_more x one e = more_unread w.state text pool r pool' under.options under.countable room next x one e

  unread_none : (x : Record) (one : Here x) → is_end (meant x pool') ≡ true → unread r.state text ≡ []
  unread_none x one e = one.left ∙ rw (ap is_end (sym one.means) ∙ e)

  shorter : (x : Record) → Here x → length (unread r.state text) < length (unread w.state text)
  shorter x one = fewer_unread w.state text pool r pool' under.options under.countable room next x one

  -- ---- the first pass

  pub countable_records : (tally : CodeTally) (x : Record) → Here x → has_met w text tally → length text < 2 ^ 64 → tally.records + 1 < 2 ^ 64
  countable_records tally x one few h = omega (arith, few, ap length one.first)

  -- what a record came to is what its step comes to, whatever steps follow
  acts : (inside : ℕ → Bool) (tally : CodeTally) (x : Record) (t : Taken) (later : List Step) → let base = based w.base in let m = meant x pool' in
      Met inside r.state.line w.base tally m t → Acts inside r.state.line (base_behind base m) (tallied tally) [] (does base m) later (told_taken t (states base m t))
  acts inside tally x t later e =
      let base = based w.base in
      let m = meant x pool' in
      subst (Acts inside r.state.line (base_behind base m) (tallied tally) [] (does base m) later) e.comes_to (acts_are inside r.state.line (base_behind base m) (does base m) (tallied tally) [] later)

  pub judged_on : (inside : ℕ → Bool) (tally : CodeTally) (x : Record) → Here x → has_met w text tally → (b : CodeBase) (tally' : CodeTally)
      → Met inside r.state.line w.base tally (meant x pool') (On b tally') → JudgedOn stands_in has_met ahead_of left_of inside text w tally (record { state = r.state; base = b }) tally'
  judged_on inside tally x one few b tally' e =
      let n = r.state.line in
      let base = based w.base in
      let m = meant x pool' in
      let (goes, count) = passes inside n base (tallied tally) (record { state = based b; tally = tallied tally'; stated = stated_by base m }) m e.comes_to in
      let (b_is, same, put) = acts inside tally x (On b tally') (left (based b) (unread r.state text)) e in
      record {
        stands = record { options = one.options; countable = one.countable };
        met = omega (arith, count, shorter x one);
        same = sym same ∙ ap (decision inside (tallied tally)) (ap₂ (λ (y : Base) (l : List Numbered). does_on n base m ++ left y l) b_is (sym (unread_more x one goes)) ∙ sym (ahead_step x one));
        less = shorter x one;
      }

  pub judged_stop : (inside : ℕ → Bool) (tally : CodeTally) (x : Record) → Here x → (l : Loading)
      → Met inside r.state.line w.base tally (meant x pool') (Stop l) → told_loading l ≡ verdict (decision inside (tallied tally) (ahead_of w text))
  unfolding verdict
  judged_stop inside tally x one l e =
      let later = left (base_behind (based w.base) (meant x pool')) one.more in
      sym (ap verdict (ap (decision inside (tallied tally)) (ahead_step x one) ∙ (acts inside tally x (Stop l) later e).0))

  pub judged_refused : (inside : ℕ → Bool) (tally : CodeTally) (e : ReaderError) (more : List Numbered) → unread w.state text ≡ on r.state.line (wrong (refusal_of e)) ∷ more
      → refused (refusal_of e) r.state.line ≡ verdict (decision inside (tallied tally) (ahead_of w text))
  unfolding decision turn verdict along act
  judged_refused inside tally e more u = rw u

  pub judged_done : (inside : ℕ → Bool) (tally : CodeTally) → unread w.state text ≡ []
      → refused missing_end_of_file_record 0 ≡ verdict (decision inside (tallied tally) (ahead_of w text))
  unfolding decision verdict along
  judged_done inside tally u = rw u

  -- ---- the second pass

  stated_ahead : (x : Record) (one : Here x)
      → stated (ahead_of w text) ≡ stated_by (based w.base) (meant x pool') ++ stated (left (base_behind (based w.base) (meant x pool')) (unread r.state text))
  stated_ahead x one =
      ap stated (ahead_step x one)
      ∙ stated_step r.state.line (based w.base) (meant x pool') one.more (unread r.state text) (unread_more x one) (unread_none x one)

  pub wrote : (site : ℕ → Option ℕ) (page₀ marks₀ page' marks' : List ℕ) (x : Record) (one : Here x) (b : CodeBase)
      → Painted site (stated_by (based w.base) (meant x pool')) page₀ marks₀ page' marks' → Behind w.base x b
      → WroteOn stands_in ahead_of left_of site text w page₀ marks₀ (record { state = r.state; base = b }) page' marks'
  wrote site page₀ marks₀ page' marks' x one b p h =
      record { stands = record { options = one.options; countable = one.countable }; less = shorter x one; same = same }
    where
      ps : List Placement
      ps = stated_by (based w.base) (meant x pool')

      qs : List Placement
      qs = stated (left (based b) (unread r.state text))

      all : stated (ahead_of w text) ≡ ps ++ qs
      all = stated_ahead x one ∙ ap (λ (y : Base). ps ++ stated (left y (unread r.state text))) (sym (h.base_is pool'))

      same : SamePainting site (ahead_of w text) page₀ marks₀ (left (based b) (unread r.state text)) page' marks'
      same = painting_step site (ahead_of w text) (left (based b) (unread r.state text)) ps page₀ marks₀ page' marks' all p

  -- after a line that is refused, and after the last line, nothing is stated
  pub refused_states : (n : ℕ) (e : ReaderError) (more : List Numbered) → unread w.state text ≡ on n (wrong (refusal_of e)) ∷ more → stated (ahead_of w text) ≡ []
  unfolding stated along act
  refused_states n e more u = rw u

  pub done_states : unread w.state text ≡ [] → stated (ahead_of w text) ≡ []
  unfolding stated along
  done_states u = rw u
