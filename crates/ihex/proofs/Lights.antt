-- The claims of `specs/Lights.antt`: what `light` proves, in numbers.
-- Assumes nothing.
use Prim.Native.Nat.{ℕ, ◌≤◌, ◌<◌}
use mathlib.Core.Path.{◌≡◌, refl, sym, ap, ap₂, subst, ◌∙◌}
use mathlib.Core.Logic.{◌≢◌, ◌↔◌, ◌⊎◌, inl, inr}
use mathlib.Core.Bool.{Bool, true, false, ◌||◌}
use mathlib.Core.Option.{Option, none, some}
use mathlib.Core.List.{List, [], ◌∷◌}
use native.Mathlib.Omega.{arith}
use lib.Dec.{leb}
use lib.ListN.{length}
use borrow.Author.Tests.{eq-eqb, leb-false, lt-leb}
use Rattle.std.specs.Prelude.{if◌then◌else◌}
use Rattle.record.specs.Refusals.{Refusal, bad_window}
use Rattle.steps.specs.Steps.{Step, Tally, Verdict, accepted, refused}
use Rattle.steps.specs.Source.{Source, steps_of}
use Rattle.intel.specs.Placing.{intel}
use Rattle.srecload.specs.Placing.{s_records}
use Rattle.light.specs.declared.Light.{Light}
use Rattle.light.specs.Aliases.{Made}
use Rattle.light.specs.Colors.{Color, broken, green, Outcome, refused_one, uncounted, counted, color, known_after, never, Sixteen, forward}
use Rattle.light.specs.Light.{told_count, made_of, load_for, outcome}
use Rattle.light.specs.Claims.{said, Kind, hex, srecords, steps_by, StatesBy}
use Rattle.light.proofs.Colors.{never_green_again, green_exactly}
use Rattle.light.proofs.Turns.{Turns, each_shows, in_order, each_green}
use Rattle.light.proofs.History.{states_so}
use Rattle.light.proofs.Places.{outcome_is_said}
use Rattle.light.proofs.Sixteen.{said_sixteen}
use Rattle.light.proofs.Claims.{bad_place_exactly, for_refused, outcome_refused, accepted_unbroken, for_bad_window, outside_uncounted, green_so, decided_alike}
use Rattle.codes.specs.Codes.{OK, LoadNumbers, load_numbers}
use Rattle.codes.specs.Lights.{color_number, BROKEN, count_number, COUNT_UNKNOWN, count_from, light_of, making}
use Rattle.codes.proofs.Lights.{color_returns}
use Rattle.codes.proofs.Says.{was_accepted, was_refused}
use Rattle.ihex.specs.Entries.{LightNumbers, IhexLightBy}
use Rattle.ihex.specs.Lights.{IhexSetUpLightExactly, IhexSetUpLightMakes, IhexSetUpLightUnique, LightCall, MeetsBy, Meets, InTurn, said_of, shown, IhexLightByHistory, IhexLightShowsHistory, IhexLightGreenInHistory, IhexLightNeverGreenTwice, IhexLightUnmovedNeverGreen, IhexLightGreenMeans, IhexLightBroken, IhexLightKeeps, IhexLightLoads, IhexLightMisfit, IhexLightOutsideNoCount, IhexLightNothingAfter, OneLight, IhexLightUnique, IhexLightSrecordsUnique}
use Rattle.std.specs.Prelude.{None, Some}

-- ---- set-up

-- what is returned says whether there is a light
refused_so : (m : Made) → (making m ≡ making None) ↔ (m ≡ None)
refused_so (Some l) = (λ e. absurd (omega arith), λ e. let z : ◌≡◌ {A = ℕ} 0 1 = cc in absurd (omega arith))
refused_so None = (λ e. refl, λ e. refl)

pub ihex_set_up_light_exactly : IhexSetUpLightExactly
ihex_set_up_light_exactly first n high low r known x =
    let m = made_of first n high low in
    let b = bad_place_exactly first n high low m (record { answer = refl }) in
    (λ e. b.0 ((refused_so m).0 (sym x.answer ∙ e)), λ h. x.answer ∙ (refused_so m).1 (b.1 h))

pub ihex_set_up_light_makes : IhexSetUpLightMakes
ihex_set_up_light_makes first n high low r known x good = rw x.known_is (go (leb n high || leb n low) x.answer)
  where
    lamp : Made
    lamp = Some (light_of first n high low COUNT_UNKNOWN)

    go : (b : Bool) → r ≡ making (if b then None else lamp) → (r ≡ OK) × ((if b then None else lamp) ≡ lamp)
    go true e = absurd (good e)
    go false e = (e, refl)

pub ihex_set_up_light_unique : IhexSetUpLightUnique
ihex_set_up_light_unique first n high low r known r' known' x y = (x.answer ∙ sym y.answer, x.known_is ∙ sym y.known_is)

-- ---- counts of 16 bits

-- a count, if there is one, has 16 bits
abbrev Small : Option ℕ → Type 0
Small none = Unit
Small (some n) = n < 65536

small_from : (n : ℕ) → Small (told_count (count_from n))
small_from n = go (leb 65536 n) refl
  where
    go : (b : Bool) → leb 65536 n ≡ b → Small (told_count (if b then None else Some n))
    go true e = tt
    go false e = leb-false 65536 n e

-- such a count comes back from its number
comes_back : (k : Option ℕ) → Small k → told_count (count_from (count_number k)) ≡ k
comes_back none h = refl
comes_back (some n) h = rw (lt-leb 65536 n h)

small_after : (k : Option ℕ) (o : Outcome) → Small k → Sixteen o → Small (known_after k o)
small_after k refused_one h s = h
small_after k uncounted h s = h
small_after k (counted n) h s = s

-- ---- one call

-- the color and the count after a call, from what its dump says
record Follows (l : Light) (c : LightCall) : Type 0 where
  color_is : shown c ≡ color_number (color (told_count l.known) (said_of l c))
  known_is : c.returned.known ≡ count_number (known_after (told_count l.known) (said_of l c))

by_source : {S : Type 0} (src : Source S) (l : Light) (c : LightCall) → IhexLightBy src c.text l c.page c.marks c.returned c.page_after c.marks_after
    → steps_by c.kind c.text ≡ steps_of src c.text → Follows l c
by_source src l c d e =
    let q : outcome src l c.text c.page c.marks ≡ said_of l c =
    outcome_is_said src l c.text c.page c.marks ∙ ap (λ (s : List Step). said l s (length c.page) (length c.marks)) (sym e) in
    record {
      color_is = d.color_is ∙ ap (λ (o : Outcome). color_number (color (told_count l.known) o)) q;
      known_is = d.known_is ∙ ap (λ (o : Outcome). count_number (known_after (told_count l.known) o)) q;
    }

by_kind : (l : Light) (c : LightCall) (k : Kind) → c.kind ≡ k → MeetsBy k l c → Follows l c
by_kind l c hex e d = by_source intel l c d (ap (λ (k : Kind). steps_by k c.text) e)
by_kind l c srecords e d = by_source s_records l c d (ap (λ (k : Kind). steps_by k c.text) e)

follows : (l : Light) (c : LightCall) → Meets l c → Follows l c
follows l c d = by_kind l c c.kind refl d

-- what a dump says does not depend on the count that is known
same_said : (first n high low known known' : ℕ) (s : List Step) (page marks : ℕ) → said (light_of first n high low known) s page marks ≡ said (light_of first n high low known') s page marks
unfolding said
same_said first n high low known known' s page marks = refl

-- ---- calls in turn

module _ (first n high low : ℕ) where
  -- a light of this window and these places
  abbrev lamp : ℕ → Light
  lamp known = light_of first n high low known

  same_of : (known known' : ℕ) (c : LightCall) → said_of (lamp known) c ≡ said_of (lamp known') c
  same_of known known' c = same_said first n high low known known' (steps_by c.kind c.text) (length c.page) (length c.marks)

  small_said : (known : ℕ) (c : LightCall) → Sixteen (said_of (lamp known) c)
  small_said known c = said_sixteen (lamp known) c.kind c.text (length c.page) (length c.marks)

  -- the count that a call leaves is known to the next one
  carried : (known : ℕ) (c : LightCall) → Meets (lamp known) c
      → told_count (count_from c.returned.known) ≡ known_after (told_count (count_from known)) (said_of (lamp known) c)
  carried known c d =
      let k = told_count (count_from known) in
      let o = said_of (lamp known) c in
      ap (λ (x : ℕ). told_count (count_from x)) (follows (lamp known) c d).known_is ∙ comes_back (known_after k o) (small_after k o (small_from known) (small_said known c))

  -- known₀ is what was known at first
  in_turns : (known₀ known : ℕ) (cs : List LightCall) → InTurn first n high low known cs
      → Turns (said_of (lamp known₀)) (λ (c : LightCall) (k : Color). shown c ≡ color_number k) (told_count (count_from known)) cs
  in_turns known₀ known [] r = tt
  in_turns known₀ known (c ∷ cs) (d, r) =
      let k = told_count (count_from known) in
      let same = same_of known known₀ c in (
        (follows (lamp known) c d).color_is ∙ ap (λ (o : Outcome). color_number (color k o)) same,
        subst (λ (x : Option ℕ). Turns (said_of (lamp known₀)) (λ (c : LightCall) (k : Color). shown c ≡ color_number k) x cs) (carried known c d ∙ ap (known_after k) same)
            (in_turns known₀ c.returned.known cs r),
      )

pub ihex_light_by_history : IhexLightByHistory
ihex_light_by_history first n high low known cs r =
    in_order (said_of (light_of first n high low known)) shown color_number (told_count (count_from known)) cs (in_turns first n high low known known cs r)

pub ihex_light_shows_history : IhexLightShowsHistory
ihex_light_shows_history first n high low r known cs x t =
    each_shows (said_of (light_of first n high low known)) (λ (c : LightCall) (k : Color). shown c ≡ color_number k) (small_said first n high low known) (told_count (count_from known)) [] cs tt
    (rw x.known_is (never tt)) (in_turns first n high low known known cs t)

pub ihex_light_green_in_history : IhexLightGreenInHistory
ihex_light_green_in_history first n high low r known cs x t =
    let l = light_of first n high low known in
    each_green (said_of l) shown color_number color_returns (λ (c : LightCall). StatesBy c.kind l c.text c.page c.marks)
    (λ c. states_so l c.kind c.text c.page c.marks) (told_count (count_from known)) [] cs (rw x.known_is (never tt)) (in_turns first n high low known known cs t)

pub ihex_light_never_green_twice : IhexLightNeverGreenTwice
ihex_light_never_green_twice first n high low known c c' d d' ek et ep em e =
    let k = told_count (count_from known) in
    let o = said_of (light_of first n high low known) c in
    let known' = c.returned.known in
    let same : said_of (light_of first n high low known') c' ≡ o = same_of first n high low known' known c' ∙ again in
    let is : color (known_after k o) o ≡ green =
    sym (ap₂ (λ (y : Option ℕ) (x : Outcome). color y x) (carried first n high low known c d) same)
    ∙ color_returns (color (told_count (count_from known')) (said_of (light_of first n high low known') c')) green (sym (follows (light_of first n high low known') c' d').color_is ∙ e) in
    never_green_again k o is
  where
    again : said_of (light_of first n high low known) c' ≡ said_of (light_of first n high low known) c
    again = rw (← ek, ← et, ← ep, ← em)

pub ihex_light_unmoved_never_green : IhexLightUnmovedNeverGreen
ihex_light_unmoved_never_green l c d before count k s w e =
    let is = color_returns (color (told_count l.known) (said_of l c)) green (sym (follows l c d).color_is ∙ e) in
    let (b, n, kb, on, lo, hi) = (green_exactly (told_count l.known) (said_of l c)).0 is in
    let eb : some before ≡ some b = sym k ∙ kb in
    let en : counted count ≡ counted n = sym s ∙ on in
    let same : forward before count ≡ forward b n = cc in
    go w same lo hi
  where
    go : {x y : ℕ} → (x ≡ 0) ⊎ (32767 < x) → x ≡ y → 1 ≤ y → y ≤ 32767 → ⊥
    go (inl z) q lo hi = omega arith
    go (inr far) q lo hi = omega arith

-- ---- one dump

-- numbers that are the same, one by one
same_lit : {r r' : LightNumbers} → r.load ≡ r'.load → r.color ≡ r'.color → r.known ≡ r'.known → r ≡ r'
same_lit e c k = λ i. record { load = e i; color = c i; known = k i }

pub ihex_light_green_means : IhexLightGreenMeans
ihex_light_green_means S src text l page marks r p m x =
    let k = color (told_count l.known) (outcome src l text page marks) in
    (λ e. (green_so src l text page marks).0 (color_returns k green (sym x.color_is ∙ e)), λ g. x.color_is ∙ ap color_number ((green_so src l text page marks).1 g))

module _ {S : Type 0} (src : Source S) (text : List ℕ) (l : Light) (page marks : List ℕ) (r : LightNumbers) (p m : List ℕ) (x : IhexLightBy src text l page marks r p m) where
  -- what the code says of the answer
  abbrev verdict : Verdict
  verdict = (load_for src l text page marks).answer

  accepts : r.load.code ≡ OK → (t : Tally) × (verdict ≡ accepted t)
  accepts ok = was_accepted verdict (ap (λ (n : LoadNumbers). n.code) (sym x.numbers) ∙ ok)

  refuses : r.load.code ≢ OK → (w : Refusal) × (line : ℕ) × (verdict ≡ refused w line)
  refuses h = was_refused verdict (λ e. h (ap (λ (n : LoadNumbers). n.code) x.numbers ∙ e))

  -- a refused one says nothing of the count
  refused_says : (w : Refusal) (line : ℕ) → verdict ≡ refused w line → (r.color ≡ BROKEN) × (r.known ≡ count_number (told_count l.known))
  unfolding color
  refused_says w line e =
      let o = outcome_refused src l text page marks w line e in
      (x.color_is ∙ ap (λ (y : Outcome). color_number (color (told_count l.known) y)) o, x.known_is ∙ ap (λ (y : Outcome). count_number (known_after (told_count l.known) y)) o)

pub ihex_light_broken : IhexLightBroken
ihex_light_broken S src text l page marks r p m x = (there, back)
  where
    there : r.color ≡ BROKEN → r.load.code ≢ OK
    there e ok =
        let (t, a) = accepts src text l page marks r p m x ok in
        accepted_unbroken src l text page marks t a (told_count l.known) (color_returns (color (told_count l.known) (outcome src l text page marks)) broken (sym x.color_is ∙ e))

    back : r.load.code ≢ OK → r.color ≡ BROKEN
    back h = let (w, line, a) = refuses src text l page marks r p m x h in (refused_says src text l page marks r p m x w line a).0

pub ihex_light_keeps : IhexLightKeeps
ihex_light_keeps S src text l page marks r p m x h =
    let (w, line, a) = refuses src text l page marks r p m x h in
    let (kp, km) = for_refused src l text page marks w line a in
    ((refused_says src text l page marks r p m x w line a).1, x.page_is ∙ kp, x.marks_is ∙ km)

pub ihex_light_loads : IhexLightLoads
unfolding load_for
ihex_light_loads S src text l page marks r p m x e =
    let q = eq-eqb (length page) l.length e in
    record { numbers = rw q at x.numbers; page_is = rw q at x.page_is; marks_is = rw q at x.marks_is }

pub ihex_light_misfit : IhexLightMisfit
ihex_light_misfit S src text l page marks r p m x n =
    let a = for_bad_window src l text page marks (inl n) in
    let (c, k) = refused_says src text l page marks r p m x bad_window 0 a in
    same_lit (x.numbers ∙ ap load_numbers a) c k

pub ihex_light_outside_no_count : IhexLightOutsideNoCount
unfolding color
ihex_light_outside_no_count S src text l page marks r p m x out ok =
    let (t, a) = accepts src text l page marks r p m x ok in
    x.color_is ∙ ap (λ (o : Outcome). color_number (color (told_count l.known) o)) (outside_uncounted src l text page marks out t a)

pub ihex_light_nothing_after : IhexLightNothingAfter
ihex_light_nothing_after S src l text₁ text₂ page₁ marks₁ page₂ marks₂ r₁ r₂ p₁ m₁ p₂ m₂ x y lp lm line v e head h₁ h₂ =
    let (a, o) = decided_alike src l text₁ text₂ page₁ marks₁ page₂ marks₂ lp lm line v e head h₁ h₂ in
    let k = told_count l.known in
    same_lit (x.numbers ∙ ap load_numbers a ∙ sym y.numbers) (x.color_is ∙ ap (λ (z : Outcome). color_number (color k z)) o ∙ sym y.color_is)
    (x.known_is ∙ ap (λ (z : Outcome). count_number (known_after k z)) o ∙ sym y.known_is)

one_light : {S : Type 0} (src : Source S) → OneLight src
one_light src text l page marks r p m r' p' m' x y = (
  same_lit (x.numbers ∙ sym y.numbers) (x.color_is ∙ sym y.color_is) (x.known_is ∙ sym y.known_is),
  x.page_is ∙ sym y.page_is,
  x.marks_is ∙ sym y.marks_is,
)

pub ihex_light_unique : IhexLightUnique
ihex_light_unique = one_light intel

pub ihex_light_srecords_unique : IhexLightSrecordsUnique
ihex_light_srecords_unique = one_light s_records
