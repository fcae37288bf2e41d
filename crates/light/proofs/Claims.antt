-- The claims of `specs/Claims.antt` of one dump, and the contracts.
-- Assumes nothing.
use Rattle.std.proofs.Common.{◌≡◌, ℕ, ◌+◌, ◌*◌, ◌<◌, ◌≤◌, Bool, true, false, ◌&&◌, ◌||◌, eqb, ltb, leb, ◌≢◌, ◌⊎◌, ◌↔◌, List, length, get_or, sym, refl, ap, ◌∙◌, subst, inl, inr, arith, ltb-true, le-ltb, lt-ltb, eq-eqb, eqb-true, leb-false, leb-true}
use mathlib.Core.Option.{Option, none, some}
use Rattle.std.specs.Prelude.{if◌then◌else◌}
use Rattle.digits.specs.Digits.{number_after}
use Rattle.record.specs.Line.{judge}
use Rattle.record.specs.Meaning.{meaning}
use Rattle.record.specs.Refusals.{Refusal, bad_window}
use Rattle.marks.specs.Marks.{mark_at, Marked}
use Rattle.steps.specs.Steps.{Placement, Tally, Verdict, accepted, refused, Decision, by, verdict, stated}
use Rattle.steps.specs.Source.{Source, steps_of}
use Rattle.steps.specs.Sites.{Loaded, last_at, LastStated, stopping_in}
use Rattle.reader.specs.Lines.{through}
use Rattle.steps.specs.Told.{told_loading}
use Rattle.steps.proofs.Firsts.{every_at}
use Rattle.steps.proofs.Places.{Found, found, last_stated_is}
use Rattle.steps.proofs.Sites.{all_inside, load_answer as room-answer}
use Rattle.steps.proofs.Told.{told_apart}
use Rattle.window.specs.Window.{unfit, within, window, one_window}
use Rattle.window.specs.Load.{stopping_by_window, load_window}
use Rattle.window.specs.Loads.{Alike}
use Rattle.window.proofs.Loads.{load_answer, load_unfit, non_interference, refusal_changes_nothing as window-keeps}
use Rattle.intel.specs.Placing.{intel, intel_by}
use Rattle.srecload.specs.Placing.{s_records}
use Rattle.light.specs.Aliases.{Made}
use Rattle.light.specs.declared.Color.{Color as CodeColor}
use Rattle.light.specs.declared.Color.TheVariants.{Broken, NoCount, First, Green, Stale, Restarted}
use Rattle.light.specs.declared.Light.{Light}
use Rattle.light.specs.declared.Dumped.{Dumped}
use Rattle.light.specs.Colors.{broken, green, stale, restarted, refused_one, uncounted, counted, forward, compared, color}
use Rattle.light.specs.Light.{told_color, told_count, load_for, count_in, said_in, outcome, light_after, Examples}
use Rattle.light.specs.Claims.{count_of, stated_for, said_by, said, StatesCount, MeansGreen, GreenMeans, NothingAfter, RefusalChangesNothing, BadWindowWhatever, OutsideNoCount, BadPlaceExactly, SetUpUnique, OneDump, DumpUnique, DumpSrecordsUnique}
use Rattle.light.proofs.Turns.{green_by}
use Rattle.light.proofs.Places.{outcome_is_said}
use Rattle.std.specs.Prelude.{None, Some}

-- ---- examples

pub examples : Examples
unfolding outcome load_for said_in count_in load_window stopping_by_window steps_of stated intel_by judge meaning number_after
examples =
    record {
      states_five = refl;
      old_tail = refl;
      half_a_count = refl;
      without_end = refl;
      turned_round = refl;
      one_place = refl;
      not_an_address = refl;
      by_hand = refl;
      set_up_beyond = refl;
      refused_beyond = refl;
      longer_page = refl;
      longer_marks = refl;
    }

-- ---- the contracts

pub same_color : (a b : CodeColor) → told_color a ≡ told_color b → a ≡ b
same_color Broken Broken e = refl
same_color Broken NoCount e = cc
same_color Broken First e = cc
same_color Broken Green e = cc
same_color Broken Stale e = cc
same_color Broken Restarted e = cc
same_color NoCount Broken e = cc
same_color NoCount NoCount e = refl
same_color NoCount First e = cc
same_color NoCount Green e = cc
same_color NoCount Stale e = cc
same_color NoCount Restarted e = cc
same_color First Broken e = cc
same_color First NoCount e = cc
same_color First First e = refl
same_color First Green e = cc
same_color First Stale e = cc
same_color First Restarted e = cc
same_color Green Broken e = cc
same_color Green NoCount e = cc
same_color Green First e = cc
same_color Green Green e = refl
same_color Green Stale e = cc
same_color Green Restarted e = cc
same_color Stale Broken e = cc
same_color Stale NoCount e = cc
same_color Stale First e = cc
same_color Stale Green e = cc
same_color Stale Stale e = refl
same_color Stale Restarted e = cc
same_color Restarted Broken e = cc
same_color Restarted NoCount e = cc
same_color Restarted First e = cc
same_color Restarted Green e = cc
same_color Restarted Stale e = cc
same_color Restarted Restarted e = refl

-- two answers with the same color, load and light
pub same_dumped : (r r' : Dumped) → told_color r.color ≡ told_color r'.color → told_loading r.answer ≡ told_loading r'.answer → r.light ≡ r'.light → r ≡ r'
same_dumped r r' c a l =
    let x = same_color r.color r'.color c in
    let y = told_apart r.answer r'.answer a in
    λ i. record { color = x i; answer = y i; light = l i }

one_dump : {S : Type 0} (src : Source S) → OneDump src
one_dump src l text page marks r r' p p' m m' x y = (
  same_dumped r r' (x.color_is ∙ sym y.color_is) (x.answer ∙ sym y.answer) (x.light ∙ sym y.light),
  x.page ∙ sym y.page,
  x.marks ∙ sym y.marks,
)

pub dump_unique : DumpUnique
dump_unique = one_dump intel

pub dump_srecords_unique : DumpSrecordsUnique
dump_srecords_unique = one_dump s_records

pub set_up_unique : SetUpUnique
set_up_unique first length high low r r' x y = x.answer ∙ sym y.answer

pub bad_place_exactly : BadPlaceExactly
bad_place_exactly first length high low r x = rw x.answer (go (leb length high) refl (leb length low) refl)
  where
    go : (a : Bool) → leb length high ≡ a → (b : Bool) → leb length low ≡ b
        → ((if◌then◌else◌ {A = Made} (a || b) None (Some (record { first = first; length = length; high = high; low = low; known = None }))) ≡ None) ↔ ((length ≤ high) ⊎ (length ≤ low))
    go true p b q = (λ e. inl (leb-true length high p), λ h. refl)
    go false p true q = (λ e. inr (leb-true length low q), λ h. refl)
    go false p false q = (λ e. let z : ◌≡◌ {A = ℕ} 0 1 = cc in absurd (omega arith), λ h. absurd (neither h))
      where
        neither : (length ≤ high) ⊎ (length ≤ low) → ⊥
        neither (inl h) = let l = leb-false length high p in omega arith
        neither (inr h) = let l = leb-false length low q in omega arith

-- ---- the load of a dump

module _ {S : Type 0} (src : Source S) (l : Light) (text page marks : List ℕ) where
  -- one that is refused leaves all as it was
  pub for_refused : (w : Refusal) (n : ℕ) → (load_for src l text page marks).answer ≡ refused w n
      → ((load_for src l text page marks).page ≡ page) × ((load_for src l text page marks).marks ≡ marks)
  unfolding load_for
  for_refused w n = go (eqb (length page) l.length)
    where
      go : (b : Bool) → let d : Loaded = if b then load_window src text l.first page marks else record { answer = refused bad_window 0; page = page; marks = marks } in
          d.answer ≡ refused w n → (d.page ≡ page) × (d.marks ≡ marks)
      go true e = window-keeps S src text l.first page marks w n e
      go false e = (refl, refl)

  pub outcome_refused : (w : Refusal) (n : ℕ) → (load_for src l text page marks).answer ≡ refused w n → outcome src l text page marks ≡ refused_one
  unfolding outcome said_in
  outcome_refused w n e = rw e

  -- one that is accepted says what its steps state
  abbrev says_there : ℕ → Option ℕ
  says_there p = stated_for (window l.first (length page) p) (stated (steps_of src text))

  accepted_by_steps : (t : Tally) → (load_for src l text page marks).answer ≡ accepted t
      → (length page ≡ l.length) × (verdict (stopping_in (one_window l.first (length page) (length marks)) (steps_of src text)) ≡ accepted t)
  unfolding load_for stopping_by_window
  accepted_by_steps t a = go (eqb (length page) l.length) refl a
    where
      go : (b : Bool) → eqb (length page) l.length ≡ b
          → (if b then load_window src text l.first page marks else record { answer = refused bad_window 0; page = page; marks = marks }).answer ≡ accepted t
          → (length page ≡ l.length) × (verdict (stopping_in (one_window l.first (length page) (length marks)) (steps_of src text)) ≡ accepted t)
      go true e q = (eqb-true (length page) l.length e, sym (load_answer src text l.first page marks) ∙ q)
      go false e q = let z : ◌≡◌ {A = ℕ} 0 1 = cc in absurd (omega arith)

  accepted_said : (t : Tally) → (load_for src l text page marks).answer ≡ accepted t
      → (length page ≡ l.length) × (outcome src l text page marks ≡ count_of (says_there l.high) (says_there l.low))
  unfolding said said_by
  accepted_said t a =
      let (n, v) = accepted_by_steps t a in
      (n, outcome_is_said src l text page marks ∙ rw (eq-eqb (length page) l.length n, v))

-- a count, or none, is not broken
compared_unbroken : (known : Option ℕ) (n : ℕ) → compared known n ≢ broken
unfolding compared
compared_unbroken none n e = let z : ◌≡◌ {A = ℕ} 0 1 = cc in absurd (omega arith)
compared_unbroken (some before) n e = go (eqb (forward before n) 0) (leb (forward before n) 32767) e
  where
    go : (a b : Bool) → (if a then stale else if b then green else restarted) ≢ broken
    go true b e = let z : ◌≡◌ {A = ℕ} 0 1 = cc in absurd (omega arith)
    go false true e = let z : ◌≡◌ {A = ℕ} 0 1 = cc in absurd (omega arith)
    go false false e = let z : ◌≡◌ {A = ℕ} 0 1 = cc in absurd (omega arith)

unbroken : (known : Option ℕ) (h l : Option ℕ) → color known (count_of h l) ≢ broken
unfolding color
unbroken known none l e = let z : ◌≡◌ {A = ℕ} 0 1 = cc in absurd (omega arith)
unbroken known (some x) none e = let z : ◌≡◌ {A = ℕ} 0 1 = cc in absurd (omega arith)
unbroken known (some x) (some y) e = compared_unbroken known (256 * x + y) e

-- an accepted dump is not broken
pub accepted_unbroken : {S : Type 0} (src : Source S) (l : Light) (text page marks : List ℕ) (t : Tally) → (load_for src l text page marks).answer ≡ accepted t
    → (known : Option ℕ) → color known (outcome src l text page marks) ≢ broken
accepted_unbroken src l text page marks t a known e =
    let (n, o) = accepted_said src l text page marks t a in
    unbroken known (says_there src l text page marks l.high) (says_there src l text page marks l.low) (ap (color known) (sym o) ∙ e)

pub refusal_changes_nothing : RefusalChangesNothing
unfolding color
refusal_changes_nothing S src l text page marks r p m x w n e =
    let a : (load_for src l text page marks).answer ≡ refused w n = sym x.answer ∙ e in
    let o = outcome_refused src l text page marks w n a in
    let (kp, km) = for_refused src l text page marks w n a in (
      x.color_is ∙ ap (color (told_count l.known)) o,
      x.light ∙ ap (light_after l) o,
      x.page ∙ kp,
      x.marks ∙ km,
    )

-- ---- bad windows

pub for_bad_window : {S : Type 0} (src : Source S) (l : Light) (text page marks : List ℕ)
    → (length page ≢ l.length) ⊎ (unfit l.first (length page) (length marks) ≡ true) → (load_for src l text page marks).answer ≡ refused bad_window 0
unfolding load_for
for_bad_window src l text page marks w = go (eqb (length page) l.length) refl w
  where
    go : (b : Bool) → eqb (length page) l.length ≡ b → (length page ≢ l.length) ⊎ (unfit l.first (length page) (length marks) ≡ true)
        → (if b then load_window src text l.first page marks else record { answer = refused bad_window 0; page = page; marks = marks }).answer ≡ refused bad_window 0
    go false q u = refl
    go true q (inl n) = absurd (n (eqb-true (length page) l.length q))
    go true q (inr u) = sym (load_unfit src text l.first page marks u).answer

pub bad_window_whatever : BadWindowWhatever
bad_window_whatever S src l text page marks r p m x w = x.answer ∙ for_bad_window src l text page marks w

-- ---- places outside

-- a place beyond the window shows nothing
beyond : (first n p : ℕ) (ps : List Placement) → n ≤ p → stated_for (window first n p) ps ≡ none
unfolding window
beyond first n p ps h = rw (le-ltb p n h)

no_low_count : (h : Option ℕ) → count_of h none ≡ uncounted
no_low_count none = refl
no_low_count (some x) = refl

pub outside_uncounted : {S : Type 0} (src : Source S) (l : Light) (text page marks : List ℕ) → (l.length ≤ l.high) ⊎ (l.length ≤ l.low) → (t : Tally)
    → (load_for src l text page marks).answer ≡ accepted t → outcome src l text page marks ≡ uncounted
outside_uncounted src l text page marks out t a = let (n, o) = accepted_said src l text page marks t a in o ∙ go n out
  where
    go : length page ≡ l.length → (l.length ≤ l.high) ⊎ (l.length ≤ l.low)
        → count_of (says_there src l text page marks l.high) (says_there src l text page marks l.low) ≡ uncounted
    go n (inl h) = rw (beyond l.first (length page) l.high (stated (steps_of src text)) (omega arith))
    go n (inr h) = rw (beyond l.first (length page) l.low (stated (steps_of src text)) (omega arith)) (no_low_count (says_there src l text page marks l.high))

pub outside_no_count : OutsideNoCount
unfolding color
outside_no_count S src l text page marks r p m x out t e =
    x.color_is ∙ ap (color (told_count l.known)) (outside_uncounted src l text page marks out t (sym x.answer ∙ e))

-- ---- green

-- a place of the window shows what was stated last at its address
shows_last : (first n p : ℕ) (ps : List Placement) → p < n → stated_for (window first n p) ps ≡ last_at (first + p) ps
unfolding window
shows_last first n p ps h = rw (lt-ltb p n h)

-- what a place of a window shows was stated last at its address
shown_last : (first n p : ℕ) (ps : List Placement) (b : ℕ) → stated_for (window first n p) ps ≡ some b → last_at (first + p) ps ≡ some b
unfolding window
shown_last first n p ps b = go (ltb p n)
  where
    go : (x : Bool) → stated_for (if x then some (first + p) else none) ps ≡ some b → last_at (first + p) ps ≡ some b
    go true e = e
    go false e = let z : ◌≡◌ {A = ℕ} 0 1 = cc in absurd (omega arith)

last_is : (a : ℕ) (ps : List Placement) (b : ℕ) → last_at a ps ≡ some b → LastStated a b ps
last_is a ps b e = subst (Found a ps) e (found a ps)

count_both : (h l : Option ℕ) (n : ℕ) → count_of h l ≡ counted n → (x : ℕ) × (y : ℕ) × (h ≡ some x) × (l ≡ some y) × (n ≡ 256 * x + y)
count_both none l n e = let z : ◌≡◌ {A = ℕ} 0 1 = cc in absurd (omega arith)
count_both (some x) none n e = let z : ◌≡◌ {A = ℕ} 0 1 = cc in absurd (omega arith)
count_both (some x) (some y) n e = (x, y, refl, refl, let q : 256 * x + y ≡ n = cc in sym q)

-- an address of a window, less its first, is a place of it
place_within : (first n p : ℕ) → within first n (first + p) ≡ true → p < n
unfolding within
place_within first n p e = go (leb first (first + p)) (ltb (first + p) (first + n)) refl e
  where
    go : (a b : Bool) → ltb (first + p) (first + n) ≡ b → (a && b) ≡ true → p < n
    go true true q h = let l = ltb-true (first + p) (first + n) q in omega arith
    go true false q h = let z : ◌≡◌ {A = ℕ} 0 1 = cc in absurd (omega arith)
    go false b q h = let z : ◌≡◌ {A = ℕ} 0 1 = cc in absurd (omega arith)

module _ {S : Type 0} (src : Source S) (l : Light) (text page marks : List ℕ) where
  abbrev ps : List Placement
  ps = stated (steps_of src text)

  -- what an accepted dump states for a place lies in the page
  place_inside : (t : Tally) → (load_for src l text page marks).answer ≡ accepted t → (p b : ℕ) → LastStated (l.first + p) b ps → p < length page
  unfolding one_window
  place_inside t a p b s =
      let (n, v) = accepted_by_steps src l text page marks t a in
      let room = one_window l.first (length page) (length marks) in
      let all = all_inside S src room text page marks t (room-answer src room text page marks ∙ v) in
      place_within l.first (length page) p
      (every_at (λ (q : Placement). within l.first (length page) q.address ≡ true) s.before (record { address = l.first + p; byte = b }) s.after (rw s.whole at all))

  counts_there : (n : ℕ) → outcome src l text page marks ≡ counted n → StatesCount src l text page marks n
  counts_there n o = go (load_for src l text page marks).answer refl
    where
      go : (v : Verdict) → (load_for src l text page marks).answer ≡ v → StatesCount src l text page marks n
      go (refused w line) a = let q = outcome_refused src l text page marks w line a in let z : ◌≡◌ {A = ℕ} 0 1 = cc in absurd (omega arith)
      go (accepted t) a =
          let (size, said_so) = accepted_said src l text page marks t a in
          let (h, w, eh, ew, is) = count_both (says_there src l text page marks l.high) (says_there src l text page marks l.low) n (sym said_so ∙ o) in
          record {
            tally = t;
            accepted_so = a;
            high = h;
            low = w;
            high_stated = last_is (l.first + l.high) ps h (shown_last l.first (length page) l.high ps h eh);
            low_stated = last_is (l.first + l.low) ps w (shown_last l.first (length page) l.low ps w ew);
            count_is = is;
          }

  counts_back : (n : ℕ) → StatesCount src l text page marks n → outcome src l text page marks ≡ counted n
  counts_back n g =
      let (size, said_so) = accepted_said src l text page marks g.tally g.accepted_so in
      let hh = place_inside g.tally g.accepted_so l.high g.high g.high_stated in
      let hl = place_inside g.tally g.accepted_so l.low g.low g.low_stated in
      let eh : says_there src l text page marks l.high ≡ some g.high = shows_last l.first (length page) l.high ps hh ∙ last_stated_is (l.first + l.high) g.high ps g.high_stated in
      let el : says_there src l text page marks l.low ≡ some g.low = shows_last l.first (length page) l.low ps hl ∙ last_stated_is (l.first + l.low) g.low ps g.low_stated in
      said_so ∙ rw (eh, el, g.count_is)

  -- a dump says a count exactly if it states it
  pub counts_so : (n : ℕ) → (outcome src l text page marks ≡ counted n) ↔ StatesCount src l text page marks n
  counts_so n = (counts_there n, counts_back n)

  pub green_so : (color (told_count l.known) (outcome src l text page marks) ≡ green) ↔ MeansGreen (StatesCount src l text page marks) (λ (b : ℕ). told_count l.known ≡ some b)
  green_so = green_by (told_count l.known) (outcome src l text page marks) (StatesCount src l text page marks) (λ (b : ℕ). told_count l.known ≡ some b) counts_so (λ b. (λ e. e, λ e. e))

pub green_means : GreenMeans
green_means S src l text page marks r p m x = (λ e. (green_so src l text page marks).0 (sym x.color_is ∙ e), λ g. x.color_is ∙ (green_so src l text page marks).1 g)

-- ---- what follows the line that decides

-- a count goes by the marks, and by the bytes where they are set
same_count : (high low : ℕ) (marks p₁ p₂ : List ℕ) → ((i : ℕ) → Marked marks i → get_or p₁ i 0 ≡ get_or p₂ i 0) → count_in high low p₁ marks ≡ count_in high low p₂ marks
unfolding count_in
same_count high low marks p₁ p₂ same = go (eqb (mark_at marks high) 1) refl (eqb (mark_at marks low) 1) refl
  where
    go : (a : Bool) → eqb (mark_at marks high) 1 ≡ a → (b : Bool) → eqb (mark_at marks low) 1 ≡ b
        → (if a && b then counted (256 * get_or p₁ high 0 + get_or p₁ low 0) else uncounted) ≡ (if a && b then counted (256 * get_or p₂ high 0 + get_or p₂ low 0) else uncounted)
    go false p b q = refl
    go true p false q = refl
    go true p true q = rw (same high (eqb-true (mark_at marks high) 1 p), same low (eqb-true (mark_at marks low) 1 q))

-- two loads that are alike say the same
same_said : (high low : ℕ) (d₁ d₂ : Loaded) → Alike d₁ d₂ → said_in high low d₁.answer d₁.page d₁.marks ≡ said_in high low d₂.answer d₂.page d₂.marks
unfolding said_in
same_said high low d₁ d₂ a = go d₁.answer refl
  where
    go : (v : Verdict) → d₁.answer ≡ v → said_in high low d₁.answer d₁.page d₁.marks ≡ said_in high low d₂.answer d₂.page d₂.marks
    go (accepted t) e = rw (← a.answers, e, ← (a.marks t e)) (same_count high low d₁.marks d₁.page d₂.page (a.bytes t e))
    go (refused w n) e = rw (← a.answers, e)

stops_so : {S : Type 0} (src : Source S) (text : List ℕ) (first : ℕ) (page marks : List ℕ) (d : Option Decision)
    → stopping_in (one_window first (length page) (length marks)) (steps_of src text) ≡ d → stopping_by_window src text first page marks ≡ d
unfolding stopping_by_window
stops_so src text first page marks d e = e

same_loads : {S : Type 0} (src : Source S) (l : Light) (text₁ text₂ page₁ marks₁ page₂ marks₂ : List ℕ) → length page₁ ≡ length page₂
    → Alike (load_window src text₁ l.first page₁ marks₁) (load_window src text₂ l.first page₂ marks₂)
    → ((load_for src l text₁ page₁ marks₁).answer ≡ (load_for src l text₂ page₂ marks₂).answer) × (outcome src l text₁ page₁ marks₁ ≡ outcome src l text₂ page₂ marks₂)
unfolding outcome load_for said_in
same_loads src l text₁ text₂ page₁ marks₁ page₂ marks₂ lp a =
    let q : eqb (length page₂) l.length ≡ eqb (length page₁) l.length = ap (λ (n : ℕ). eqb n l.length) (sym lp) in
    rw q (go (eqb (length page₁) l.length))
  where
    go : (b : Bool) → let d₁ : Loaded = if b then load_window src text₁ l.first page₁ marks₁ else record { answer = refused bad_window 0; page = page₁; marks = marks₁ } in
        let d₂ : Loaded = if b then load_window src text₂ l.first page₂ marks₂ else record { answer = refused bad_window 0; page = page₂; marks = marks₂ } in
        (d₁.answer ≡ d₂.answer) × (said_in l.high l.low d₁.answer d₁.page d₁.marks ≡ said_in l.high l.low d₂.answer d₂.page d₂.marks)
    go true = (a.answers, same_said l.high l.low (load_window src text₁ l.first page₁ marks₁) (load_window src text₂ l.first page₂ marks₂) a)
    go false = (refl, refl)

pub decided_alike : {S : Type 0} (src : Source S) (l : Light) (text₁ text₂ page₁ marks₁ page₂ marks₂ : List ℕ) → length page₁ ≡ length page₂ → length marks₁ ≡ length marks₂
    → (line : ℕ) (v : Verdict) → stopping_in (one_window l.first (length page₁) (length marks₁)) (steps_of src text₁) ≡ some (by line v)
    → (head : List ℕ) → through line text₁ ≡ some head → through line text₂ ≡ some head
    → ((load_for src l text₁ page₁ marks₁).answer ≡ (load_for src l text₂ page₂ marks₂).answer) × (outcome src l text₁ page₁ marks₁ ≡ outcome src l text₂ page₂ marks₂)
decided_alike src l text₁ text₂ page₁ marks₁ page₂ marks₂ lp lm line v e head h₁ h₂ =
    same_loads src l text₁ text₂ page₁ marks₁ page₂ marks₂ lp
    (non_interference _ src text₁ text₂ l.first page₁ marks₁ page₂ marks₂ lp lm line v (stops_so src text₁ l.first page₁ marks₁ (some (by line v)) e) head h₁ h₂)

pub nothing_after : NothingAfter
nothing_after S src l text₁ text₂ page₁ marks₁ page₂ marks₂ r₁ r₂ p₁ m₁ p₂ m₂ x y lp lm line v e head h₁ h₂ =
    let (a, o) = decided_alike src l text₁ text₂ page₁ marks₁ page₂ marks₂ lp lm line v e head h₁ h₂ in
    same_dumped r₁ r₂ (x.color_is ∙ ap (color (told_count l.known)) o ∙ sym y.color_is) (x.answer ∙ a ∙ sym y.answer) (x.light ∙ ap (light_after l) o ∙ sym y.light)
