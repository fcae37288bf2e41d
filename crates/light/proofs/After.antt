-- A light after a load that was made elsewhere: the laws of `goes_with` and `after`, and the claims of `specs/After.antt`.
-- Assumes nothing.
use Rattle.std.proofs.Common.{◌≡◌, ℕ, Bool, true, false, ◌&&◌, eqb, List, length, sym, refl, ap, ◌∙◌, arith, eq-eqb, ne_eqb, eqb-true}
use mathlib.Core.Option.{Option, none, some}
use Rattle.std.specs.Prelude.{if◌then◌else◌}
use Rattle.record.specs.Refusals.{Refusal, bad_window}
use Rattle.marks.specs.Marks.{row_length, first_unused, told_unused, UnusedClear}
use Rattle.marks.proofs.Below.{split}
use Rattle.marks.proofs.UnusedBits.{none_is, none_unused}
use Rattle.steps.specs.declared.LoaderError.TheVariants.{BadWindow}
use Rattle.steps.specs.Aliases.{Loading}
use Rattle.steps.specs.Steps.{Tally, Verdict, accepted, refused}
use Rattle.steps.specs.Source.{Source}
use Rattle.steps.specs.Sites.{Loaded}
use Rattle.steps.specs.Told.{tallied, told_loading, is_accepted}
use Rattle.window.specs.Load.{load_window}
use Rattle.window.proofs.Loads.{passed, row, plain_sizes, fit_window, sizes_kept}
use Rattle.light.specs.declared.Color.TheVariants.{Broken}
use Rattle.light.specs.declared.Light.{Light}
use Rattle.light.specs.declared.Dumped.{Dumped}
use Rattle.light.specs.Colors.{refused_one, color}
use Rattle.light.specs.Light.{told_count, load_for, count_in, said_in, outcome, light_after}
use Rattle.light.specs.After.{is_none, is_row, goes_with, taken, said_after, After, AfterUnique, AfterAlike, AfterLoad, AfterLoadWindow, Examples}
use Rattle.light.specs.Helpers.{Held, Tells, GoesWith}
use Rattle.light.proofs.Claims.{same_color, same_dumped}
use Rattle.std.specs.Prelude.{Ok, None, Some, not}
use Rattle.std.specs.Option.{is_some}
use Rattle.marks.specs.Aliases.{Unused}
use Rattle.steps.specs.Aliases.{refuse}
use Rattle.std.specs.Prelude.{Err}

-- ---- an answer and marks

module _ (answer : Loading) (places : ℕ) (marks : List ℕ) where
  module _ (e : is_accepted answer ≡ true) where
    goes_by_row : (r : Bool) → r ≡ is_row places marks → GoesWith answer places marks r
    goes_by_row r s = let (t, q) = passed answer e in record { answer_is = rw q s }

    pub goes_other_size : ¬ (length marks ≡ row_length places) → GoesWith answer places marks false
    unfolding is_row
    goes_other_size n = goes_by_row false (rw (ne_eqb (length marks) (row_length places) n))

    pub goes_by_unused : length marks ≡ row_length places → (o : Option ℕ) → first_unused places marks ≡ o → GoesWith answer places marks (is_none o)
    unfolding is_row
    goes_by_unused s o u = goes_by_row (is_none o) (rw (eq-eqb (length marks) (row_length places) s, u))

    pub goes_by_found : length marks ≡ row_length places → (o : Unused) (r : Bool) → first_unused places marks ≡ told_unused o → is_some o ≡ not r → GoesWith answer places marks r
    goes_by_found s None true u e = goes_by_unused s none u
    goes_by_found s None false u e = let z : ◌≡◌ {A = ℕ} 0 1 = cc in absurd (omega arith)
    goes_by_found s (Some p) true u e = let z : ◌≡◌ {A = ℕ} 0 1 = cc in absurd (omega arith)
    goes_by_found s (Some p) false u e = goes_by_unused s (some p) u

-- a row marks no place outside
row_clear : (places : ℕ) (marks : List ℕ) → is_row places marks ≡ true → UnusedClear places marks
unfolding is_row
row_clear places marks e = go (eqb (length marks) (row_length places)) refl (first_unused places marks) refl e
  where
    go : (b : Bool) → eqb (length marks) (row_length places) ≡ b → (o : Option ℕ) → first_unused places marks ≡ o → (b && is_none o) ≡ true → UnusedClear places marks
    go true s none u e = none_unused places marks (eqb-true (length marks) (row_length places) s) u
    go true s (some p) u e = let z : ◌≡◌ {A = ℕ} 0 1 = cc in absurd (omega arith)
    go false s o u e = let z : ◌≡◌ {A = ℕ} 0 1 = cc in absurd (omega arith)

-- ---- the contract

-- marks that go with an acceptance mark no place outside the page
pub goes_held : (answer : Loading) (page marks : List ℕ) → goes_with (told_loading answer) (length page) marks ≡ true → Held answer page marks
goes_held answer page marks g t e i m =
    let clear = row_clear (length page) marks (rw e at g) in
    split (length page) i (λ o. let z = clear i o in absurd (omega arith)) (λ h. h)

module _ (l : Light) (answer : Loading) (page marks : List ℕ) where
  -- 16
  not_taken : (eqb (length page) l.length && goes_with (told_loading answer) (length page) marks) ≡ false
      → After l answer page marks (record { color = Broken; answer = refuse BadWindow 0; light = l })
  unfolding said_after taken said_in color
  not_taken e = record { color_is = rw e; answer_is = rw e; light_is = rw e }

  pub after_other_length : ¬ (length page ≡ l.length) → After l answer page marks (record { color = Broken; answer = refuse BadWindow 0; light = l })
  after_other_length n = not_taken (rw (ne_eqb (length page) l.length n))

  module _ (size : length page ≡ l.length) where
    pub after_other_marks : goes_with (told_loading answer) (length page) marks ≡ false → After l answer page marks (record { color = Broken; answer = refuse BadWindow 0; light = l })
    after_other_marks g = not_taken (rw (eq-eqb (length page) l.length size, g))

    pub after_told : goes_with (told_loading answer) (length page) marks ≡ true → (r : Dumped) → Tells l answer page marks r → After l answer page marks r
    unfolding said_after taken
    after_told g r t =
        let e : (eqb (length page) l.length && goes_with (told_loading answer) (length page) marks) ≡ true = rw (eq-eqb (length page) l.length size, g) in
        record { color_is = rw e t.color_is; answer_is = rw e (ap told_loading t.answer_is); light_is = rw e t.light_is }

pub after_unique : AfterUnique
after_unique l answer page marks r r' x y =
    same_dumped r r' (x.color_is ∙ sym y.color_is) (x.answer_is ∙ sym y.answer_is) (x.light_is ∙ sym y.light_is)

-- ---- what matters of the answer

module _ (l : Light) (page marks : List ℕ) where
  -- the tally does not
  pub said_accepted : (t t' : Tally) → said_after l (accepted t) page marks ≡ said_after l (accepted t') page marks
  unfolding said_after taken said_in
  said_accepted t t' = go (eqb (length page) l.length && is_row (length page) marks)
    where
      go : (b : Bool) → said_in l.high l.low (if b then accepted t else refused bad_window 0) page marks ≡ said_in l.high l.low (if b then accepted t' else refused bad_window 0) page marks
      go true = refl
      go false = refl

  -- nor which refusal it is
  pub said_refused : (w : Refusal) (line : ℕ) → said_after l (refused w line) page marks ≡ refused_one
  unfolding said_after taken said_in
  said_refused w line = go (eqb (length page) l.length && true)
    where
      go : (b : Bool) → said_in l.high l.low (if b then refused w line else refused bad_window 0) page marks ≡ refused_one
      go true = refl
      go false = refl

  said_alike : (a a' : Loading) → is_accepted a ≡ is_accepted a' → said_after l (told_loading a) page marks ≡ said_after l (told_loading a') page marks
  said_alike (Ok t) (Ok t') e = said_accepted (tallied t) (tallied t')
  said_alike (Ok t) (Err z) e = let z : ◌≡◌ {A = ℕ} 0 1 = cc in absurd (omega arith)
  said_alike (Err z) (Ok t') e = let z : ◌≡◌ {A = ℕ} 0 1 = cc in absurd (omega arith)
  said_alike (Err z) (Err z') e = said_refused _ z.line ∙ sym (said_refused _ z'.line)

pub after_alike : AfterAlike
after_alike l a a' page marks r r' e x y =
    let said = said_alike l page marks a a' e in
    (same_color r.color r'.color (x.color_is ∙ ap (color (told_count l.known)) said ∙ sym y.color_is), x.light_is ∙ ap (light_after l) said ∙ sym y.light_is)

-- ---- after a load

-- what an accepted load leaves is a row
left_row : {S : Type 0} (src : Source S) (text : List ℕ) (first : ℕ) (page marks : List ℕ) (t : Tally) → (load_window src text first page marks).answer ≡ accepted t
    → is_row (length page) (load_window src text first page marks).marks ≡ true
unfolding is_row
left_row src text first page marks t a =
    let left = (load_window src text first page marks).marks in
    let clear = (row src text first page marks t a).unused in
    let size = (sizes_kept _ src text first page marks).1 ∙ (fit_window src text first page marks t a).row in
    rw (eq-eqb (length left) (row_length (length page)) size, none_is left (length page) (λ j o h. clear j (omega (arith, (plain_sizes src text first page marks).1))))

-- what a load leaves goes with its answer
load_goes : {S : Type 0} (src : Source S) (text : List ℕ) (first : ℕ) (page marks : List ℕ)
    → let d = load_window src text first page marks in goes_with d.answer (length d.page) d.marks ≡ true
load_goes src text first page marks = rw (sizes_kept _ src text first page marks).0 (go (load_window src text first page marks).answer refl)
  where
    go : (v : Verdict) → (load_window src text first page marks).answer ≡ v → goes_with v (length page) (load_window src text first page marks).marks ≡ true
    go (accepted t) a = left_row src text first page marks t a
    go (refused w n) a = refl

module _ {S : Type 0} (src : Source S) (l : Light) (text page marks : List ℕ) where
  abbrev load : Loaded
  load = load_for src l text page marks

  -- into a page of the light's length it is a load in its window
  pub for_window : length page ≡ l.length → load ≡ load_window src text l.first page marks
  unfolding load_for
  for_window e = rw (eq-eqb (length page) l.length e)

  -- the answer of a dump's load is taken as it is
  load_taken : taken l load.answer load.page load.marks ≡ load.answer
  unfolding load_for taken
  load_taken = go (eqb (length page) l.length) refl
    where
      go : (b : Bool) → eqb (length page) l.length ≡ b
          → let d : Loaded = if b then load_window src text l.first page marks else record { answer = refused bad_window 0; page = page; marks = marks } in
          (if eqb (length d.page) l.length && goes_with d.answer (length d.page) d.marks then d.answer else refused bad_window 0) ≡ d.answer
      go true e = rw (load_goes src text l.first page marks, (sizes_kept S src text l.first page marks).0, e)
      go false e = rw e

  -- and says of the count what the dump says
  pub load_said : said_after l load.answer load.page load.marks ≡ outcome src l text page marks
  unfolding said_after outcome
  load_said = ap (λ (v : Verdict). said_in l.high l.low v load.page load.marks) load_taken

pub after_load : AfterLoad
after_load S src l text page₀ marks₀ answer page marks r a p m x =
    let said : said_after l (told_loading answer) page marks ≡ outcome src l text page₀ marks₀ = rw (a, p, m) (load_said src l text page₀ marks₀) in
    let took : taken l (told_loading answer) page marks ≡ (load_for src l text page₀ marks₀).answer = rw (a, p, m) (load_taken src l text page₀ marks₀) in
    record {
      color_is = x.color_is ∙ ap (color (told_count l.known)) said;
      answer = x.answer_is ∙ took;
      light = x.light_is ∙ ap (light_after l) said;
      page = p;
      marks = m;
    }

pub after_load_window : AfterLoadWindow
after_load_window S src l text page₀ marks₀ answer page marks r size loads x =
    let same = for_window src l text page₀ marks₀ size in
    after_load S src l text page₀ marks₀ answer page marks r (rw same loads.answer) (rw same loads.page) (rw same loads.marks) x

-- ---- examples

pub examples : Examples
unfolding said_after taken is_row said_in count_in
examples = record { holds_five = refl; half_marked = refl; longer_page = refl; longer_marks = refl; unused_bit = refl; stays_refused = refl }
