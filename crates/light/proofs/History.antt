-- The history alone: what each dump says is what its steps state, and the light remembers the last count.
-- Assumes nothing.
use Rattle.std.proofs.Common.{◌≡◌, ℕ, ◌<◌, ◌≤◌, ◌⊎◌, ◌↔◌, List, [], ◌∷◌, map, length, sym, refl, ap, ◌∙◌, subst, ap₂, inl, inr, map-id, arith}
use mathlib.Core.Option.{Option, none, some}
use Rattle.steps.specs.Source.{Source, steps_of}
use Rattle.steps.specs.Steps.{Step}
use Rattle.intel.specs.Placing.{intel}
use Rattle.srecload.specs.Placing.{s_records}
use Rattle.light.specs.declared.Light.{Light}
use Rattle.light.specs.Colors.{Color, green, Outcome, refused_one, uncounted, counted, forward, color, known_after, colors, never}
use Rattle.light.specs.Light.{told_count, outcome, light_after, Dumps}
use Rattle.light.specs.Claims.{said, Kind, hex, srecords, steps_by, Call, MeetsBy, InTurn, said_of, shown, ByHistory, ShowsHistory, StatesBy, GreenInHistory, NeverGreenTwice, UnmovedNeverGreen}
use Rattle.light.proofs.Colors.{never_green_again, green_exactly}
use Rattle.light.proofs.Turns.{Turns, each_shows, in_order, each_green}
use Rattle.light.proofs.Claims.{counts_so}
use Rattle.light.proofs.Places.{outcome_is_said}
use Rattle.light.proofs.Sixteen.{said_sixteen}

-- ---- one call

-- the color and the light after a call, from what its dump says
pub record Follows (l : Light) (c : Call) : Type 0 where
  pub color_is : shown c ≡ color (told_count l.known) (said_of l c)
  pub light_is : c.returned.light ≡ light_after l (said_of l c)

by_kind : {S : Type 0} (src : Source S) (l : Light) (c : Call) → Dumps src l c.text c.page c.marks c.returned c.page_after c.marks_after
    → steps_by c.kind c.text ≡ steps_of src c.text → Follows l c
by_kind src l c d e =
    let q : outcome src l c.text c.page c.marks ≡ said_of l c =
    outcome_is_said src l c.text c.page c.marks ∙ ap (λ (s : List Step). said l s (length c.page) (length c.marks)) (sym e) in
    record {
      color_is = d.color_is ∙ ap (color (told_count l.known)) q;
      light_is = d.light ∙ ap (light_after l) q;
    }

follows : (l : Light) (c : Call) (k : Kind) → c.kind ≡ k → MeetsBy k l c → Follows l c
follows l c hex e d = by_kind intel l c d (ap (λ (k : Kind). steps_by k c.text) e)
follows l c srecords e d = by_kind s_records l c d (ap (λ (k : Kind). steps_by k c.text) e)

pub call_follows : (l : Light) (c : Call) → MeetsBy c.kind l c → Follows l c
call_follows l c d = follows l c c.kind refl d

-- ---- the light after a dump

-- it knows the last count
pub known_is : (l : Light) (o : Outcome) → told_count (light_after l o).known ≡ known_after (told_count l.known) o
known_is l refused_one = refl
known_is l uncounted = refl
known_is l (counted n) = refl

-- and has the same window and places
pub same_said : (l : Light) (o : Outcome) (s : List Step) (page marks : ℕ) → said (light_after l o) s page marks ≡ said l s page marks
unfolding said
same_said l refused_one s page marks = refl
same_said l uncounted s page marks = refl
same_said l (counted n) s page marks = refl

-- ---- calls in turn

-- l₀ has the window and the places; l knows the last count
in_turns : (l₀ l : Light) (cs : List Call) → ((c : Call) → said_of l c ≡ said_of l₀ c) → InTurn l cs
    → Turns (said_of l₀) (λ (c : Call) (k : Color). shown c ≡ k) (told_count l.known) cs
in_turns l₀ l [] same r = tt
in_turns l₀ l (c ∷ cs) same (d, r) =
    let f = call_follows l c d in
    let o = said_of l₀ c in
    let k = told_count l.known in
    let here : c.returned.light ≡ light_after l o = f.light_is ∙ ap (light_after l) (same c) in (
      f.color_is ∙ ap (color k) (same c),
      subst (λ (x : Option ℕ). Turns (said_of l₀) (λ (c : Call) (k : Color). shown c ≡ k) x cs) (ap (λ (y : Light). told_count y.known) here ∙ known_is l o)
          (in_turns l₀ c.returned.light cs (λ x. ap (λ (y : Light). said_of y x) here ∙ same_said l o (steps_by x.kind x.text) (length x.page) (length x.marks) ∙ same x) r),
    )

pub by_history : ByHistory
by_history l cs r =
    let known = told_count l.known in
    in_order (said_of l) shown (λ (k : Color). k) known cs (in_turns l l cs (λ c. refl) r) ∙ map-id (colors known (map (said_of l) cs))

pub shows_history : ShowsHistory
shows_history l cs e r =
    each_shows (said_of l) (λ (c : Call) (k : Color). shown c ≡ k) (λ c. said_sixteen l c.kind c.text (length c.page) (length c.marks)) (told_count l.known) [] cs tt (rw e (never tt))
    (in_turns l l cs (λ c. refl) r)

-- a call's dump says a count exactly if it states it
pub states_so : (l : Light) (k : Kind) (text page marks : List ℕ) (n : ℕ) → (said l (steps_by k text) (length page) (length marks) ≡ counted n) ↔ StatesBy k l text page marks n
states_so l hex text page marks n = rw (← (outcome_is_said intel l text page marks)) (counts_so intel l text page marks n)
states_so l srecords text page marks n = rw (← (outcome_is_said s_records l text page marks)) (counts_so s_records l text page marks n)

pub green_in_history : GreenInHistory
green_in_history l cs e r =
    each_green (said_of l) shown (λ (k : Color). k) (λ k k' q. q) (λ (c : Call). StatesBy c.kind l c.text c.page c.marks)
    (λ c. states_so l c.kind c.text c.page c.marks) (told_count l.known) [] cs (rw e (never tt)) (in_turns l l cs (λ c. refl) r)

pub never_green_twice : NeverGreenTwice
never_green_twice l c c' d d' ek et ep em e =
    let f = call_follows l c d in
    let f' = call_follows c.returned.light c' d' in
    let o = said_of l c in
    let same : said_of c.returned.light c' ≡ o =
    ap (λ (x : Light). said_of x c') f.light_is ∙ same_said l o (steps_by c'.kind c'.text) (length c'.page) (length c'.marks) ∙ again in
    let is : color (known_after (told_count l.known) o) o ≡ green =
    sym (ap₂ (λ (k : Option ℕ) (x : Outcome). color k x) (ap (λ (x : Light). told_count x.known) f.light_is ∙ known_is l o) same) ∙ sym f'.color_is ∙ e in
    never_green_again (told_count l.known) o is
  where
    again : said l (steps_by c'.kind c'.text) (length c'.page) (length c'.marks) ≡ said_of l c
    again = rw (← ek, ← et, ← ep, ← em)

pub unmoved_never_green : UnmovedNeverGreen
unmoved_never_green l c d before count k s w e =
    let f = call_follows l c d in
    let (b, n, kb, on, lo, hi) = (green_exactly (told_count l.known) (said_of l c)).0 (sym f.color_is ∙ e) in
    let eb : before ≡ b = ap known_number (sym k ∙ kb) in
    let en : count ≡ n = ap stated_number (sym s ∙ on) in
    let same : forward before count ≡ forward b n = ap₂ forward eb en in
    go w same lo hi
  where
    known_number : Option ℕ → ℕ
    known_number none = 0
    known_number (some b) = b

    stated_number : Outcome → ℕ
    stated_number refused_one = 0
    stated_number uncounted = 0
    stated_number (counted n) = n

    go : {x y : ℕ} → (x ≡ 0) ⊎ (32767 < x) → x ≡ y → 1 ≤ y → y ≤ 32767 → ⊥
    go (inl z) q lo hi = omega arith
    go (inr far) q lo hi = omega arith
