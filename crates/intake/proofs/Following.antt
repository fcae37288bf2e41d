-- Rows of calls: what the text of a row comes to is what its calls say, one after the other. So the call after a row decides as a load of the text.
-- Assumes nothing.
use Rattle.std.proofs.Common.{◌≡◌, ℕ, suc, ◌%◌, ◌<◌, ◌≤◌, Bool, true, false, List, [], ◌∷◌, ◌++◌, length, drop, sym, refl, ap, ◌∙◌, subst, ap₂, append_assoc, append-nil, arith}
use mathlib.Core.Option.{Option, none, some}
use Rattle.record.specs.Refusals.{bad_window}
use Rattle.reader.specs.Lines.{through}
use Rattle.chunks.specs.Begun.{nothing, with_CR, add}
use Rattle.chunks.specs.Rows.{joined}
use Rattle.steps.specs.declared.LoaderError.TheVariants.{BadWindow}
use Rattle.steps.specs.Aliases.{Loading}
use Rattle.steps.specs.Steps.{Placement, Tally, nothing_yet, Verdict, accepted, refused, by, decision, verdict, stated}
use Rattle.steps.specs.Source.{Source, steps_of}
use Rattle.steps.specs.Sites.{stopping_by}
use Rattle.steps.specs.Taken.{Standing, at_first, Went, on, stopped}
use Rattle.steps.specs.Told.{told_loading}
use Rattle.steps.proofs.Places.{length_painted}
use Rattle.steps.proofs.Source.{nothing_after_the_LF}
use Rattle.window.specs.Window.{unfit, within, window, one_window}
use Rattle.window.specs.Promises.{Painted}
use Rattle.window.specs.Load.{stopping_by_window}
use Rattle.window.proofs.Loads.{fit_stopping, load_answer, painted_nothing}
use Rattle.window.proofs.Spread.{painted_both}
use Rattle.intel.specs.Placing.{intel_by, intel}
use Rattle.srecload.specs.Placing.{s_records}
use Rattle.intake.specs.declared.Kind.{Kind}
use Rattle.intake.specs.declared.Kind.TheVariants.{Hex, SRecords}
use Rattle.intake.specs.declared.Intake.{Intake}
use Rattle.intake.specs.declared.Reply.{Reply}
use Rattle.intake.specs.declared.Reply.TheVariants.{WantsMore, Decided, CarryTooSmall}
use Rattle.intake.specs.Machine.{Fed, wants_more, decided, takes, fed, ended, ended_by, stated_by}
use Rattle.intake.specs.Counting.{CountsOne}
use Rattle.intake.specs.Ways.{StandingBy, Way, way_of}
use Rattle.intake.specs.Intake.{fresh, begun_in, spoilt, fed_on, Wants, Decides, FeedsBy, FeedsSo, Feeds}
use Rattle.intake.specs.Ending.{ended_on, Ends, EndsSo, Finishes}
use Rattle.intake.specs.Claims.{Briefly, then_fed}
use Rattle.intake.specs.Rows.{Row, no_chunk, and_then, AsLoad, UsedThrough, opened, cr_before, text_of}
use Rattle.intake.proofs.Claims.{any_cut}
use Rattle.intake.proofs.Counting.{intel_counts_one, s_records_counts_one}
use Rattle.intake.proofs.Brief.{intel_briefly, s_records_briefly}
use Rattle.intake.proofs.Past.{past_briefly, past_counts_one}
use Rattle.intake.proofs.Ways.{lawful}
use Rattle.intake.proofs.Hearing.{before, went_before}
use Rattle.intake.proofs.Before.{M, came_before, fed_before, ended_before, Small, fed_small, joined_one, through_more, from_first, text_as_load}
use Rattle.std.specs.Prelude.{Some}
use Rattle.steps.specs.Aliases.{refuse}

-- ---- ways

pub way_briefly : (kind : Kind) (tail : Bool) → Briefly (way_of kind tail).source
way_briefly Hex false = intel_briefly
way_briefly SRecords false = s_records_briefly
way_briefly Hex true = past_briefly _ intel intel_briefly
way_briefly SRecords true = past_briefly _ s_records s_records_briefly

pub way_counts_one : (kind : Kind) (tail : Bool) → CountsOne (way_of kind tail).source
way_counts_one Hex false = intel_counts_one
way_counts_one SRecords false = s_records_counts_one
way_counts_one Hex true = past_counts_one _ intel
way_counts_one SRecords true = past_counts_one _ s_records

-- a new state stands where its source begins
stands_first : (kind : Kind) (tail : Bool) → let s = fresh kind tail in (way_of kind tail).standing s.base s.tally [] ≡ at_first (way_of kind tail).source
unfolding intel_by s_records
stands_first Hex false = refl
stands_first SRecords false = refl
stands_first Hex true = refl
stands_first SRecords true = refl

-- where a row has come: its text wants more, from the state that the row has left, and what it states is painted
pub record SoFar (kind : Kind) (tail cr : Bool) (first : ℕ) (stage₀ stated₀ text : List ℕ) (s : Intake) (carry stage stated : List ℕ) : Type 0 where
  pub placements : List Placement
  pub comes_to : from_first (way_of kind tail).source (within first (length stage₀)) text ≡ wants_more s.line ((way_of kind tail).standing s.base s.tally placements) (begun_in s carry)
  pub paints : Painted (window first (length stage₀)) placements stage₀ stated₀ stage stated
  pub kind_is : s.kind ≡ kind
  pub tail_is : s.tail ≡ tail
  pub small : s.line < M
  -- in a window that is refused no call wants more
  pub refused_first : unfit first (length stage₀) (length stated₀) ≡ true → text ≡ cr_before cr

-- a reply other than 18 says that the carry is large enough
not_small : (s : Intake) (chunk carry : List ℕ) (first : ℕ) (stage stated : List ℕ) (r : Reply) (carry' stage' stated' : List ℕ)
    → Feeds s chunk carry first stage stated r carry' stage' stated' → (r ≡ CarryTooSmall → ⊥) → spoilt s carry ≡ false
not_small s chunk carry first stage stated r carry' stage' stated' f other = go (spoilt s carry) refl
  where
    go : (b : Bool) → spoilt s carry ≡ b → b ≡ false
    go true e = absurd (other (f.small e).0)
    go false e = refl

-- one that wants more says too that the window is not refused
pub open_call : (s : Intake) (chunk carry : List ℕ) (first : ℕ) (stage stated : List ℕ) (s' : Intake) (carry' stage' stated' : List ℕ)
    → Feeds s chunk carry first stage stated (WantsMore s') carry' stage' stated' → (spoilt s carry ≡ false) × (unfit first (length stage) (length stated) ≡ false)
open_call s chunk carry first stage stated s' carry' stage' stated' f = (big, go (unfit first (length stage) (length stated)) refl)
  where
    big : spoilt s carry ≡ false
    big = not_small s chunk carry first stage stated (WantsMore s') carry' stage' stated' f (λ e. let z : ◌≡◌ {A = ℕ} 0 1 = cc in absurd (omega arith))

    go : (b : Bool) → unfit first (length stage) (length stated) ≡ b → b ≡ false
    go true e = let q = (f.bad_window big e).0 in let z : ◌≡◌ {A = ℕ} 0 1 = cc in absurd (omega arith)
    go false e = refl

module _ (kind : Kind) (tail cr : Bool) (first : ℕ) (carry₀ stage₀ stated₀ : List ℕ) where
  abbrev S : Type 0
  S = (way_of kind tail).State

  abbrev src : Source S
  src = (way_of kind tail).source

  abbrev standing : StandingBy S
  standing = (way_of kind tail).standing

  abbrev pub inside₀ : ℕ → Bool
  inside₀ = within first (length stage₀)

  abbrev pub Here : (text : List ℕ) (s : Intake) (carry stage stated : List ℕ) → Type 0
  Here text s carry stage stated = SoFar kind tail cr first stage₀ stated₀ text s carry stage stated

  -- a CR that waits is a line that is begun
  waits_first : (cr : Bool) → from_first src inside₀ (cr_before cr) ≡ wants_more 0 (at_first src) (begun_in (opened kind tail cr) carry₀)
  unfolding fed add with_CR
  waits_first true = refl
  waits_first false = refl

  here_first : Here (cr_before cr) (opened kind tail cr) carry₀ stage₀ stated₀
  here_first =
      record {
        placements = [];
        comes_to = waits_first cr ∙ ap (λ (st : Standing S). wants_more 0 st (begun_in (opened kind tail cr) carry₀)) (sym (stands_first kind tail));
        paints = painted_nothing (window first (length stage₀)) stage₀ stated₀;
        kind_is = refl;
        tail_is = refl;
        small = omega arith;
        refused_first = λ _. refl;
      }

  module _ (was : List ℕ) (s : Intake) (carry stage stated : List ℕ) (here : Here was s carry stage stated) where
    -- staging page and marks keep their lengths
    same_stage : length stage ≡ length stage₀
    same_stage = ap length here.paints.page ∙ length_painted (window first (length stage₀)) here.placements 0 stage₀

    same_stated : length stated ≡ length stated₀
    same_stated = here.paints.row.same_length

    same_fit : (b : Bool) → unfit first (length stage) (length stated) ≡ b → unfit first (length stage₀) (length stated₀) ≡ b
    same_fit b e = rw (← same_stage, ← same_stated) e

    stands : standing s.base s.tally here.placements ≡ before here.placements (standing s.base s.tally [])
    stands = ap (standing s.base s.tally) (sym (append-nil here.placements)) ∙ (lawful kind tail).plain s.base s.tally here.placements []

    -- the row's text and a chunk after it, as the call says of the chunk
    and_chunk : (chunk : List ℕ) → from_first src inside₀ (was ++ chunk) ≡ came_before here.placements (fed_on src standing (within first (length stage)) s chunk carry)
    and_chunk chunk =
        any_cut S (takes src inside₀) 0 (at_first src) nothing was chunk
        ∙ ap (λ (f : Fed S). then_fed (takes src inside₀) f chunk) here.comes_to
        ∙ ap (λ (n : ℕ). fed (takes src inside₀) n (standing s.base s.tally here.placements) (begun_in s carry) chunk) line_is
        ∙ ap (λ (st : Standing S). fed (takes src inside₀) (s.line % M) st (begun_in s carry) chunk) stands
        ∙ fed_before src inside₀ here.placements chunk (s.line % M) (standing s.base s.tally []) (begun_in s carry)
        ∙ ap (λ (n : ℕ). came_before here.placements (fed_on src standing (within first n) s chunk carry)) (sym same_stage)
      where
        line_is : s.line ≡ s.line % M
        line_is = omega (arith, here.small)

    -- and what both state is painted
    and_painted : (qs : List Placement) (stage' stated' : List ℕ) → Painted (window first (length stage)) qs stage stated stage' stated'
        → Painted (window first (length stage₀)) (here.placements ++ qs) stage₀ stated₀ stage' stated'
    and_painted qs stage' stated' p =
        painted_both (window first (length stage₀)) here.placements qs stage₀ stated₀ stage stated stage' stated' here.paints
        (subst (λ (n : ℕ). Painted (window first n) qs stage stated stage' stated') same_stage p)

    -- a call goes the way of the row
    same_way : way_of s.kind s.tail ≡ way_of kind tail
    same_way = ap₂ way_of here.kind_is here.tail_is

    feeds_so : (chunk : List ℕ) (r : Reply) (carry' stage' stated' : List ℕ) → FeedsSo (way_of s.kind s.tail) first s chunk carry stage stated r carry' stage' stated'
        → FeedsBy src standing first s chunk carry stage stated r carry' stage' stated'
    feeds_so chunk r carry' stage' stated' f = (subst (λ (w : Way). FeedsSo w first s chunk carry stage stated r carry' stage' stated') same_way f).0

    ends_so : (l : Loading) (stage' stated' : List ℕ) → EndsSo (way_of s.kind s.tail) first s carry stage stated l stage' stated' → Ends src standing first s carry stage stated l stage' stated'
    ends_so l stage' stated' f = subst (λ (w : Way). EndsSo w first s carry stage stated l stage' stated') same_way f

    here_next : (chunk : List ℕ) (s' : Intake) (carry' stage' stated' : List ℕ) → Feeds s chunk carry first stage stated (WantsMore s') carry' stage' stated'
        → Here (was ++ chunk) s' carry' stage' stated'
    here_next chunk s' carry' stage' stated' f =
        record {
          placements = here.placements ++ w.placements;
          comes_to =
              and_chunk chunk ∙ ap (came_before here.placements) w.comes_to
              ∙ ap (λ (st : Standing S). wants_more s'.line st (begun_in s' carry')) (sym ((lawful kind tail).plain s'.base s'.tally here.placements w.placements));
          paints = and_painted w.placements stage' stated' w.paints;
          kind_is = w.kind_is ∙ here.kind_is;
          tail_is = w.tail_is ∙ here.tail_is;
          small = subst (λ (f : Fed S). Small f) w.comes_to (fed_small (takes src (within first (length stage))) chunk (s.line % M) (standing s.base s.tally []) (begun_in s carry) (omega arith));
          refused_first = λ e. let q : true ≡ false = sym e ∙ fit₀ in let z : ◌≡◌ {A = ℕ} 0 1 = cc in absurd (omega arith);
        }
      where
        fit₀ : unfit first (length stage₀) (length stated₀) ≡ false
        fit₀ = same_fit false (open_call s chunk carry first stage stated s' carry' stage' stated' f).1

        w : Wants src standing first s chunk carry stage stated s' carry' stage' stated'
        w =
            let (big, fit) = open_call s chunk carry first stage stated s' carry' stage' stated' f in
            feeds_so chunk (WantsMore s') carry' stage' stated' (f.feeds big fit)

  -- after all chunks of a row
  next_text : (chunks : List (List ℕ)) (chunk : List ℕ) → text_of cr chunks ++ chunk ≡ text_of cr (chunks ++ (chunk ∷ []))
  next_text chunks chunk = append_assoc (cr_before cr) (joined chunks) chunk ∙ ap (λ (t : List ℕ). cr_before cr ++ t) (sym (joined_one chunks chunk))

  pub so_far : {chunks : List (List ℕ)} {s : Intake} {carry stage stated : List ℕ} → Row first (opened kind tail cr) carry₀ stage₀ stated₀ chunks s carry stage stated → Here (text_of cr chunks) s carry stage stated
  unfolding joined
  so_far no_chunk = subst (λ (t : List ℕ). Here t (opened kind tail cr) carry₀ stage₀ stated₀) (sym (append-nil (cr_before cr))) here_first
  so_far (and_then {chunks} {s} {carry} {stage} {stated} chunk s' carry' stage' stated' row f) =
      subst (λ (t : List ℕ). Here t s' carry' stage' stated') (next_text chunks chunk) (here_next (text_of cr chunks) s carry stage stated (so_far row) chunk s' carry' stage' stated' f)

  -- ---- beside a load

  module _ (text page marks : List ℕ) (even : length page ≡ length stage₀) (rows : length marks ≡ length stated₀) where
    pub stops_fit : unfit first (length stage₀) (length stated₀) ≡ false → stopping_by_window src text first page marks ≡ decision inside₀ nothing_yet (steps_of src text)
    unfolding stopping_by_window stopping_by
    stops_fit e =
        fit_stopping first page marks (steps_of src text) (rw (even, rows) e) ∙ ap (λ (n : ℕ). decision (within first n) nothing_yet (steps_of src text)) even

    stops_unfit : unfit first (length stage₀) (length stated₀) ≡ true → stopping_by_window src text first page marks ≡ some (by 0 (refused bad_window 0))
    unfolding stopping_by_window one_window stopping_by
    stops_unfit e = let u : unfit first (length page) (length marks) ≡ true = rw (even, rows) e in rw u

    as_load : (l : Loading) (ps : List Placement) (stage' stated' : List ℕ) → verdict (stopping_by_window src text first page marks) ≡ told_loading l
        → ((t : Tally) → told_loading l ≡ accepted t → stated (steps_of src text) ≡ ps) → Painted (window first (length stage₀)) ps stage₀ stated₀ stage' stated'
        → AsLoad src text first page marks stage₀ stated₀ l stage' stated'
    as_load l ps stage' stated' stops states p =
        record {
          answer = load_answer src text first page marks ∙ stops;
          paints = λ t e.
              let same = states t (sym stops ∙ sym (load_answer src text first page marks) ∙ e) in
              rw (even, same) p;
        }

    as_load_unfit : (l : Loading) → l ≡ refuse BadWindow 0 → unfit first (length stage₀) (length stated₀) ≡ true → (stage' stated' : List ℕ)
        → AsLoad src text first page marks stage₀ stated₀ l stage' stated'
    unfolding verdict
    as_load_unfit l is e stage' stated' =
        let stops = ap verdict (stops_unfit e) in
        record {
          answer = load_answer src text first page marks ∙ stops ∙ sym (ap told_loading is);
          paints = λ t a. let q = sym (load_answer src text first page marks ∙ stops) ∙ a in let z : ◌≡◌ {A = ℕ} 0 1 = cc in absurd (omega arith);
        }

  module _ (was : List ℕ) (s : Intake) (carry stage stated : List ℕ) (here : Here was s carry stage stated) (page marks : List ℕ) (even : length page ≡ length stage₀) (rows : length marks ≡ length stated₀) where
    abbrev pub DecidedSo : (chunk more : List ℕ) (l : Loading) (used : ℕ) (stage' stated' : List ℕ) → Type 0
    DecidedSo chunk more l used stage' stated' =
        let text = was ++ (chunk ++ more) in
        AsLoad src text first page marks stage₀ stated₀ l stage' stated'
        × ((cr ≡ true → unfit first (length stage₀) (length stated₀) ≡ false) → UsedThrough src text first page marks l (drop used chunk ++ more))
        × (used ≤ length chunk)

    no_CR : (c : Bool) → unfit first (length stage₀) (length stated₀) ≡ true → (c ≡ true → unfit first (length stage₀) (length stated₀) ≡ false) → cr_before c ≡ []
    no_CR true e fit = let q : true ≡ false = sym e ∙ fit refl in let z : ◌≡◌ {A = ℕ} 0 1 = cc in absurd (omega arith)
    no_CR false e fit = refl

    decides_unfit : (chunk more : List ℕ) (l : Loading) (used : ℕ) (stage' stated' : List ℕ) → l ≡ refuse BadWindow 0 → used ≡ 0 → unfit first (length stage₀) (length stated₀) ≡ true
        → DecidedSo chunk more l used stage' stated'
    unfolding through
    decides_unfit chunk more l used stage' stated' is none-used e =
        let text = was ++ (chunk ++ more) in (
          as_load_unfit text page marks even rows l is e stage' stated',
          λ fit. record {
            line = 0;
            stops = stops_unfit text page marks even rows e ∙ ap (λ (x : Loading). some (by 0 (told_loading x))) (sym is);
            head = [];
            is_through = refl;
            whole = rw (none-used, here.refused_first e, no_CR cr e fit);
          },
          omega (arith, none-used),
        )

    decides_fit : (chunk more : List ℕ) (l : Loading) (used : ℕ) (stage' stated' : List ℕ) → unfit first (length stage₀) (length stated₀) ≡ false
        → suc (length (was ++ (chunk ++ more))) < M → Decides src standing first s chunk carry stage stated l used stage' stated' → DecidedSo chunk more l used stage' stated'
    unfolding verdict
    decides_fit chunk more l used stage' stated' e short d =
        let text = was ++ (chunk ++ more) in
        let came : from_first src inside₀ text ≡ decided d.line (told_loading l) (here.placements ++ d.placements) (drop used chunk ++ more)
        = ap (from_first src inside₀) (sym (append_assoc was chunk more)) ∙ any_cut S (takes src inside₀) 0 (at_first src) nothing (was ++ chunk) more
        ∙ ap (λ (f : Fed S). then_fed (takes src inside₀) f more) (and_chunk was s carry stage stated here chunk ∙ ap (came_before here.placements) d.comes_to) in
        let (decides, (head, t, w), states) = (text_as_load src inside₀ (way_counts_one kind tail) text).0 d.line (told_loading l) (here.placements ++ d.placements) (drop used chunk ++ more) (way_briefly kind tail) short came in
        let stops = stops_fit text page marks even rows e ∙ decides in (
          as_load text page marks even rows l (here.placements ++ d.placements) stage' stated' (ap verdict stops) states (and_painted was s carry stage stated here d.placements stage' stated' d.paints),
          λ _. record { line = d.line; stops = stops; head = head; is_through = t; whole = w },
          d.used_fits,
        )

    pub row_decided : (chunk more : List ℕ) (l : Loading) (used : ℕ) (carry' stage' stated' : List ℕ) → suc (length (was ++ (chunk ++ more))) < M
        → Feeds s chunk carry first stage stated (Decided l used) carry' stage' stated' → DecidedSo chunk more l used stage' stated'
    row_decided chunk more l used carry' stage' stated' short f = go (unfit first (length stage) (length stated)) refl
      where
        big : spoilt s carry ≡ false
        big = not_small s chunk carry first stage stated (Decided l used) carry' stage' stated' f (λ e. let z : ◌≡◌ {A = ℕ} 0 1 = cc in absurd (omega arith))

        go : (b : Bool) → unfit first (length stage) (length stated) ≡ b → DecidedSo chunk more l used stage' stated'
        go true e =
            let q = (f.bad_window big e).0 in
            decides_unfit chunk more l used stage' stated' (cc) (cc) (same_fit was s carry stage stated here true e)
        go false e =
            decides_fit chunk more l used stage' stated' (same_fit was s carry stage stated here false e) short
            (feeds_so was s carry stage stated here chunk (Decided l used) carry' stage' stated' (f.feeds big e))

    -- ---- the end

    abbrev at_end : Went S
    at_end = ended_on src standing (within first (length stage)) s carry

    ended_after : ended (takes src inside₀) s.line (standing s.base s.tally here.placements) (begun_in s carry) ≡ went_before here.placements at_end
    ended_after =
        let line_is : s.line ≡ s.line % M = omega (arith, here.small) in
        ap (λ (n : ℕ). ended (takes src inside₀) n (standing s.base s.tally here.placements) (begun_in s carry)) line_is
        ∙ ap (λ (st : Standing S). ended (takes src inside₀) (s.line % M) st (begun_in s carry)) (stands was s carry stage stated here)
        ∙ ended_before src inside₀ here.placements (s.line % M) (standing s.base s.tally []) (begun_in s carry)
        ∙ ap (λ (n : ℕ). went_before here.placements (ended_on src standing (within first n) s carry)) (sym (same_stage was s carry stage stated here))

    ended_by_before : (qs : List Placement) (w : Went S) → (ended_by (went_before qs w) ≡ ended_by w) × (stated_by (went_before qs w) ≡ qs ++ stated_by w)
    ended_by_before qs (on st) = (refl, refl)
    ended_by_before qs (stopped v ps) = (refl, refl)

    ends_fit : (l : Loading) (stage' stated' : List ℕ) → unfit first (length stage₀) (length stated₀) ≡ false → suc (length was) < M
        → Ends src standing first s carry stage stated l stage' stated' → AsLoad src was first page marks stage₀ stated₀ l stage' stated'
    ends_fit l stage' stated' e short x =
        let text = was in
        let came = here.comes_to in
        let (ends, states) = (text_as_load src inside₀ (way_counts_one kind tail) text).1 s.line (standing s.base s.tally here.placements) (begun_in s carry) (way_briefly kind tail) short came in
        let (same_end, same_stated) = ended_by_before here.placements at_end in
        let answer : ended_by (ended (takes src inside₀) s.line (standing s.base s.tally here.placements) (begun_in s carry)) ≡ told_loading l
        = ap ended_by ended_after ∙ same_end ∙ sym x.answer in
        as_load text page marks even rows l (here.placements ++ stated_by at_end) stage' stated' (ap verdict (stops_fit text page marks even rows e) ∙ sym ends ∙ answer)
        (λ t a. states t (answer ∙ a) ∙ ap stated_by ended_after ∙ same_stated) (and_painted was s carry stage stated here (stated_by at_end) stage' stated' x.paints)

    pub row_ended : (l : Loading) (carry' stage' stated' : List ℕ) → suc (length was) < M → Finishes s carry first stage stated (Some l) carry' stage' stated'
        → AsLoad src was first page marks stage₀ stated₀ l stage' stated'
    row_ended l carry' stage' stated' short f = go (spoilt s carry) refl (unfit first (length stage) (length stated)) refl
      where
        go : (t : Bool) → spoilt s carry ≡ t → (b : Bool) → unfit first (length stage) (length stated) ≡ b → AsLoad src was first page marks stage₀ stated₀ l stage' stated'
        go true t b e = let q = (f.small t).0 in let z : ◌≡◌ {A = ℕ} 0 1 = cc in absurd (omega arith)
        go false t true e =
            let q = (f.bad_window t e).0 in
            as_load_unfit was page marks even rows l (cc) (same_fit was s carry stage stated here true e) stage' stated'
        go false t false e = ends_fit l stage' stated' (same_fit was s carry stage stated here false e) short (ends_so was s carry stage stated here l stage' stated' (f.ends t e))

  -- ---- no call is late

  pub row_waited : (was : List ℕ) (s : Intake) (carry stage stated : List ℕ) → Here was s carry stage stated → (more : List ℕ) → suc (length was) < M
      → (m : ℕ) (v : Verdict) → decision inside₀ nothing_yet (steps_of src (was ++ more)) ≡ some (by m v) → through m was ≡ none
  row_waited was s carry stage stated here more short m v d = go (through m was) refl
    where
      came : from_first src inside₀ was ≡ wants_more s.line (standing s.base s.tally here.placements) (begun_in s carry)
      came = here.comes_to

      go : (o : Option (List ℕ)) → through m was ≡ o → through m was ≡ none
      go none e = e
      go (some head) e =
          let (sooner, same) = nothing_after_the_LF S src inside₀ (was ++ more) was m head (through_more m was more head e) e v d in
          (text_as_load src inside₀ (way_counts_one kind tail) was).2 s.line (standing s.base s.tally here.placements) (begun_in s carry) (way_briefly kind tail) short came m v sooner
