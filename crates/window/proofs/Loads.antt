-- A load through one window: what `steps` proves for any source and any room, of a window whose every place shows an address, and of packed marks.
-- Assumes nothing.
use mathlib.Core.Path.{◌≡◌, refl, sym, ap, ◌∙◌}
use Prim.Native.Nat.{ℕ, ◌+◌, ◌<◌}
use native.Mathlib.Omega.{arith}
use mathlib.Core.Bool.{Bool, true, false}
use mathlib.Core.Option
use mathlib.Core.Option.{Option, none, some}
use mathlib.Core.List.{List, [], ◌++◌, map, map-append}
use lib.ListN.{length, get_or, replicate}
use lib.Seq.{ext_get_or}
use Rattle.std.specs.Prelude.{if◌then◌else◌}
use Rattle.record.specs.Refusals.{Refusal, bad_window}
use Rattle.steps.specs.declared.LoaderError.{LoaderError}
use Rattle.steps.specs.declared.LoaderError.TheVariants.{BadWindow}
use Rattle.steps.specs.Aliases.{Loading}
use Rattle.steps.specs.declared.Tally.{Tally as CodeTally}
use Rattle.steps.specs.Told.{loader_refusal, tallied, told_loading, is_accepted}
use Rattle.steps.specs.Steps.{Placement, Step, Tally, nothing_yet, Verdict, accepted, refused, decision, verdict, stated}
use Rattle.steps.specs.Source.{Source, steps_of}
use Rattle.steps.specs.Sites.{Loaded, last_at, mark, mark_shown, byte_shown, stopping_by, stopping_in, painted, marked}
use Rattle.steps.specs.Sites as sites
use Rattle.steps.specs.Packed.{row_after, repacked, load_packed, AsUnpacked}
use Rattle.steps.proofs.Told.{told_apart}
use Rattle.steps.proofs.Sites as general
use Rattle.steps.proofs.Packed.{packed_loads}
use Rattle.steps.specs.Runs.{as_mark}
use Rattle.steps.proofs.Places.{length_painted, painted_at, marked_at, painted_append, painted_none}
use Rattle.marks.specs.Marks.{row_length, mark_at, Marked, flags, bits, packed}
use Rattle.marks.specs.Claims.{RowOf}
use Rattle.marks.proofs.Below.{split}
use Rattle.marks.proofs.Rows.{flags_length}
use Rattle.marks.proofs.Claims.{row_only_so}
use Rattle.window.specs.Window.{within, window, unfit, one_window}
use Rattle.window.specs.Claims.{Window}
use Rattle.window.specs.Promises.{Painted}
use Rattle.window.specs.Load.{room_of, stopping_by_window, load_window, LoadWindow, SamePainting}
use Rattle.window.specs.Loads.{Alike, NonInterference, SamePlacements, WhatIsStored, RefusalChangesNothing, SizesKept, LoadWindowUnique}
use Rattle.window.proofs.Tests.{good_window}
use Rattle.window.proofs.Storing.{shows}
use Rattle.window.proofs.Packed.{row_same, row_both, marks_anew, packed_anew}
use Rattle.std.specs.Prelude.{Ok}
use Rattle.steps.specs.Aliases.{refuse}
use Rattle.std.specs.Prelude.{Err}

-- ---- a window that is not refused

pub fit_stopping : (first : ℕ) (page marks : List ℕ) (s : List Step) → unfit first (length page) (length marks) ≡ false
    → stopping_in (room_of first page marks) s ≡ stopping_by none (within first (length page)) s
unfolding one_window
fit_stopping first page marks s e = rw e

pub accepted_window : (first : ℕ) (page marks : List ℕ) (s : List Step) (k : Tally) → verdict (stopping_in (room_of first page marks) s) ≡ accepted k → Window first page marks
unfolding one_window stopping_by verdict
accepted_window first page marks s k = go (unfit first (length page) (length marks)) refl
  where
    go : (b : Bool) → unfit first (length page) (length marks) ≡ b → verdict (stopping_by (if b then some bad_window else none) (within first (length page)) s) ≡ accepted k → Window first page marks
    go true e v = let z : ◌≡◌ {A = ℕ} 0 1 = cc in absurd (omega arith)
    go false e v = good_window first page marks e

pub accepted_decision : (first : ℕ) (page marks : List ℕ) (s : List Step) (k : Tally) → verdict (stopping_in (room_of first page marks) s) ≡ accepted k
    → verdict (decision (within first (length page)) nothing_yet s) ≡ accepted k
unfolding one_window stopping_by verdict
accepted_decision first page marks s k = go (unfit first (length page) (length marks))
  where
    go : (b : Bool) → verdict (stopping_by (if b then some bad_window else none) (within first (length page)) s) ≡ accepted k
        → verdict (decision (within first (length page)) nothing_yet s) ≡ accepted k
    go true v = let z : ◌≡◌ {A = ℕ} 0 1 = cc in absurd (omega arith)
    go false v = v

module _ {S : Type 0} (src : Source S) (text : List ℕ) (first : ℕ) (page marks : List ℕ) where
  -- ---- the answer

  pub load_answer : (load_window src text first page marks).answer ≡ verdict (stopping_by_window src text first page marks)
  unfolding load_window load_packed stopping_by_window
  load_answer = general.load_answer src (room_of first page marks) text page (flags (length page) marks)

  -- what an accepted load leaves
  pub accepted_load : (k : Tally) → verdict (stopping_by_window src text first page marks) ≡ accepted k
      → load_window src text first page marks
      ≡ record {
        answer = accepted k;
        page = painted (window first (length page)) 0 (stated (steps_of src text)) page;
        marks = packed (marked (window first (length page)) 0 (stated (steps_of src text)) (flags (length page) marks));
      }
  unfolding load_window load_packed row_after stopping_by_window one_window
  accepted_load k e = ap (repacked marks) (general.accepted_load src (room_of first page marks) text page (flags (length page) marks) k e)

  pub refused_load : (r : Refusal) (n : ℕ) → verdict (stopping_by_window src text first page marks) ≡ refused r n
      → load_window src text first page marks ≡ record { answer = refused r n; page = page; marks = marks }
  unfolding load_window load_packed row_after stopping_by_window
  refused_load r n e = ap (repacked marks) (general.refused_load src (room_of first page marks) text page (flags (length page) marks) r n e)

  -- ---- the same load with the marks unpacked

  abbrev pub plain : Loaded
  plain = sites.load src (room_of first page marks) text page (flags (length page) marks)

  pub as_plain : AsUnpacked marks (load_window src text first page marks) plain
  unfolding load_window
  as_plain = packed_loads S src (room_of first page marks) text page marks

  pub plain_sizes : (length plain.page ≡ length page) × (length plain.marks ≡ length page)
  plain_sizes =
      let z = general.sizes_kept S src (room_of first page marks) text page (flags (length page) marks) in
      (z.0, z.1 ∙ flags_length (length page) marks)

  -- the marks of an accepted load, place by place
  module _ (k : Tally) (e : (load_window src text first page marks).answer ≡ accepted k) where
    pub row : RowOf plain.marks (load_window src text first page marks).marks
    row = as_plain.marks k e

    pub mark_of : (i : ℕ) → i < length page → mark_at (load_window src text first page marks).marks i ≡ get_or plain.marks i 0
    mark_of i h = row.say i (omega (arith, plain_sizes.1))

    pub marked_below : (i : ℕ) → Marked (load_window src text first page marks).marks i → i < length page
    marked_below i m = split (length page) i
        (λ l. absurd (omega (arith, row.unused i (omega (arith, plain_sizes.1)))))
        (λ l. l)

    -- the mark and the byte of a place, by what is stated there last
    pub at_place : (i : ℕ) → i < length page
        → (mark_at (load_window src text first page marks).marks i ≡ mark (last_at (first + i) (stated (steps_of src text))))
        × (get_or (load_window src text first page marks).page i 0 ≡ Option.get_or (last_at (first + i) (stated (steps_of src text))) (get_or page i 0))
    unfolding one_window mark_shown byte_shown
    at_place i h =
        let site = window first (length page) in
        let ps = stated (steps_of src text) in
        let places = flags (length page) marks in
        let p = as_plain in
        let l = general.accepted_load src (room_of first page marks) text page places k (sym (general.load_answer src (room_of first page marks) text page places) ∙ sym p.answers ∙ e) in (
          mark_of i h ∙ ap (λ (x : Loaded). get_or x.marks i 0) l ∙ marked_at site ps places i (omega (arith, flags_length (length page) marks))
              ∙ ap (λ (s : Option ℕ). mark_shown s ps (get_or places i 0)) (shows first (length page) i h),
          ap (λ (x : List ℕ). get_or x i 0) p.pages ∙ ap (λ (x : Loaded). get_or x.page i 0) l ∙ painted_at site ps page i h
              ∙ ap (λ (s : Option ℕ). byte_shown s ps (get_or page i 0)) (shows first (length page) i h),
        )

    pub fit_window : Window first page marks
    unfolding stopping_by_window
    fit_window = accepted_window first page marks (steps_of src text) k (sym load_answer ∙ e)

-- ---- two loads

-- rows of equal marks are equal
same_rows : (list list' m m' : List ℕ) → list ≡ list' → RowOf list m → RowOf list' m' → m ≡ m'
same_rows list list' m m' e x y = row_only_so list m x ∙ ap packed e ∙ sym (row_only_so list' m' y)

pub non_interference : NonInterference
unfolding stopping_by_window
non_interference S src text₁ text₂ first page₁ marks₁ page₂ marks₂ lp lm n v e head t₁ t₂ =
    whole (rw (← lp, ← lm)
    (general.non_interference S src (room_of first page₁ marks₁) text₁ text₂ page₁ (flags (length page₁) marks₁) page₂ (flags (length page₁) marks₂) lp
    (flags_length (length page₁) marks₁ ∙ sym (flags_length (length page₁) marks₂)) n v e head t₁ t₂))
  where
    p₁ : Loaded
    p₁ = plain src text₁ first page₁ marks₁

    p₂ : Loaded
    p₂ = plain src text₂ first page₂ marks₂

    l₁ : Loaded
    l₁ = load_window src text₁ first page₁ marks₁

    l₂ : Loaded
    l₂ = load_window src text₂ first page₂ marks₂

    -- in a window every place shows an address, so the marks are the same as a whole
    whole : sites.Alike (room_of first page₁ marks₁).site (plain src text₁ first page₁ marks₁) (plain src text₂ first page₂ marks₂)
        → Alike (load_window src text₁ first page₁ marks₁) (load_window src text₂ first page₂ marks₂)
    whole a = record { answers = answers; marks = all_marks; bytes = all_bytes }
      where
        a₁ : l₁.answer ≡ p₁.answer
        a₁ = (as_plain src text₁ first page₁ marks₁).answers

        answers : l₁.answer ≡ l₂.answer
        answers = a₁ ∙ a.answers ∙ sym (as_plain src text₂ first page₂ marks₂).answers

        shown : (i : ℕ) → i < length page₁ → sites.Shown (room_of first page₁ marks₁).site i
        shown i h = (first + i, shows first (length page₁) i h)

        listed : (t : Tally) → l₁.answer ≡ accepted t → p₁.marks ≡ p₂.marks
        listed t h =
            ext_get_or 0 p₁.marks p₂.marks ((plain_sizes src text₁ first page₁ marks₁).1 ∙ lp ∙ sym (plain_sizes src text₂ first page₂ marks₂).1)
            (λ i l. a.marks t (sym a₁ ∙ h) i l (shown i (omega (arith, (plain_sizes src text₁ first page₁ marks₁).1))))

        all_marks : (t : Tally) → l₁.answer ≡ accepted t → l₁.marks ≡ l₂.marks
        all_marks t h =
            same_rows p₁.marks p₂.marks l₁.marks l₂.marks (listed t h) (row src text₁ first page₁ marks₁ t h) (row src text₂ first page₂ marks₂ t (sym answers ∙ h))

        all_bytes : (t : Tally) → l₁.answer ≡ accepted t → (i : ℕ) → Marked l₁.marks i → get_or l₁.page i 0 ≡ get_or l₂.page i 0
        all_bytes t h i m =
            let below = marked_below src text₁ first page₁ marks₁ t h i m in
            let z = plain_sizes src text₁ first page₁ marks₁ in
            ap (λ (l : List ℕ). get_or l i 0) (as_plain src text₁ first page₁ marks₁).pages
            ∙ a.bytes t (sym a₁ ∙ h) i (omega (arith, z.0)) (omega (arith, z.1)) (shown i below) (sym (mark_of src text₁ first page₁ marks₁ t h i below) ∙ m)
            ∙ sym (ap (λ (l : List ℕ). get_or l i 0) (as_plain src text₂ first page₂ marks₂).pages)

-- of an acceptance, the same placements are the same store
pub same_placements : SamePlacements
same_placements S₁ S₂ src₁ src₂ text₁ text₂ first page m₁ m₂ t₁ t₂ e₁ e₂ same =
    let site = window first (length page) in
    let ps = stated (steps_of src₂ text₂) in
    let flagged : (m : List ℕ) → length (flags (length page) m) ≡ length page = flags_length (length page) in
    let a₁ = accepted_load src₁ text₁ first page m₁ t₁ (sym (load_answer src₁ text₁ first page m₁) ∙ e₁) in
    let a₂ = accepted_load src₂ text₂ first page m₂ t₂ (sym (load_answer src₂ text₂ first page m₂) ∙ e₂) in
    let anew : marked site 0 ps (flags (length page) m₁) ≡ marked site 0 ps (flags (length page) m₂)
    = marks_anew first (length page) ps (flags (length page) m₁) (flagged m₁) ∙ sym (marks_anew first (length page) ps (flags (length page) m₂) (flagged m₂)) in (
      ap (λ (l : Loaded). l.page) a₁ ∙ ap (λ (x : List Placement). painted site 0 x page) same ∙ sym (ap (λ (l : Loaded). l.page) a₂),
      ap (λ (l : Loaded). l.marks) a₁ ∙ ap (λ (x : List Placement). packed (marked site 0 x (flags (length page) m₁))) same ∙ ap packed anew
          ∙ sym (ap (λ (l : Loaded). l.marks) a₂),
    )

-- ---- one load

pub what_is_stored : WhatIsStored
unfolding one_window
what_is_stored S src text first page marks k e i h =
    let p = as_plain src text first page marks in
    let stored = general.what_is_stored S src (room_of first page marks) text page (flags (length page) marks) k (sym p.answers ∙ e) i h (omega (arith, flags_length (length page) marks)) in
    rw (mark_of src text first page marks k e i h, p.pages) (rw (shows first (length page) i h) at stored)

pub refusal_changes_nothing : RefusalChangesNothing
refusal_changes_nothing S src text first page marks r n e =
    let p = as_plain src text first page marks in
    (p.pages ∙ (general.refusal_changes_nothing S src (room_of first page marks) text page (flags (length page) marks) r n (sym p.answers ∙ e)).0, p.kept r n e)

pub sizes_kept : SizesKept
sizes_kept S src text first page marks =
    (ap length (as_plain src text first page marks).pages ∙ (plain_sizes src text first page marks).0, go (load_window src text first page marks).answer refl)
  where
    go : (v : Verdict) → (load_window src text first page marks).answer ≡ v → length (load_window src text first page marks).marks ≡ length marks
    go (accepted k) e =
        (row src text first page marks k e).as_many ∙ ap row_length (plain_sizes src text first page marks).1 ∙ sym (fit_window src text first page marks k e).row
    go (refused r n) e = ap length ((as_plain src text first page marks).kept r n e)

pub load_window_unique : LoadWindowUnique
load_window_unique S src text first page marks r r' p p' m m' x y =
    (told_apart r r' (x.answer ∙ sym y.answer), x.page ∙ sym y.page, x.marks ∙ sym y.marks)

-- ---- the second pass

-- nothing painted leaves page and marks as they are
pub painted_nothing : (site : ℕ → Option ℕ) (page marks : List ℕ) → Painted site [] page marks page marks
painted_nothing site page marks = record { page = sym (painted_none _ 0 page); marks = sym (painted_none _ 0 (bits marks)); row = row_same marks }

pub painting_start : (site : ℕ → Option ℕ) (s : List Step) (page marks : List ℕ) → SamePainting site s page marks s page marks
painting_start site s page marks = record { size = refl; page = refl; marks = refl; row = row_same marks }

-- what a line states is painted first, and then what is stated after it
pub painting_step : (site : ℕ → Option ℕ) (s₀ s : List Step) (ps : List Placement) (page₀ marks₀ page' marks' : List ℕ)
    → stated s₀ ≡ ps ++ stated s → Painted site ps page₀ marks₀ page' marks' → SamePainting site s₀ page₀ marks₀ s page' marks'
painting_step site s₀ s ps page₀ marks₀ page' marks' all p =
    let qs = stated s in
    record {
      size = ap length p.page ∙ length_painted site ps 0 page₀;
      page = ap (painted site 0 qs) p.page ∙ sym (painted_append site 0 ps qs page₀) ∙ ap (λ (l : List Placement). painted site 0 l page₀) (sym all);
      marks = ap (painted site 0 (map as_mark qs)) p.marks ∙ sym (painted_append site 0 (map as_mark ps) (map as_mark qs) (bits marks₀))
          ∙ ap (λ (l : List Placement). painted site 0 l (bits marks₀)) (sym (map-append as_mark ps qs) ∙ ap (map as_mark) (sym all));
      row = p.row;
    }

-- one painting after another
pub painting_on : (site : ℕ → Option ℕ) (s₀ s s' : List Step) (page₀ marks₀ page marks page' marks' : List ℕ)
    → SamePainting site s₀ page₀ marks₀ s page marks → SamePainting site s page marks s' page' marks' → SamePainting site s₀ page₀ marks₀ s' page' marks'
painting_on site s₀ s s' page₀ marks₀ page marks page' marks' p n =
    record { size = n.size ∙ p.size; page = n.page ∙ p.page; marks = n.marks ∙ p.marks; row = row_both marks₀ marks marks' p.row n.row }

-- where nothing more is stated all is painted
pub painting_end : (site : ℕ → Option ℕ) (s₀ s : List Step) (page₀ marks₀ page marks : List ℕ) → SamePainting site s₀ page₀ marks₀ s page marks → stated s ≡ []
    → Painted site (stated s₀) page₀ marks₀ page marks
painting_end site s₀ s page₀ marks₀ page marks p n =
    record {
      page = sym (painted_none site 0 page) ∙ rw n at p.page;
      marks = sym (painted_none site 0 (bits marks)) ∙ rw n at p.marks;
      row = p.row;
    }

-- ---- the load in code

pub passed : (a : Loading) → is_accepted a ≡ true → (t : CodeTally) × (a ≡ Ok t)
passed (Ok t) e = (t, refl)
passed (Err z) e = let z : ◌≡◌ {A = ℕ} 0 1 = cc in absurd (omega arith)

pub turned_away : (a : Loading) → is_accepted a ≡ false → (e : LoaderError) × (n : ℕ) × (a ≡ refuse e n)
turned_away (Ok t) e = (BadWindow, 0, cc)
turned_away (Err z) e = (z.why, z.line, refl)

module _ {S : Type 0} (src : Source S) (text : List ℕ) (first : ℕ) (page marks : List ℕ) where
  -- what a load returns and leaves is its contract
  as_loaded : (a : Loading) (p m : List ℕ) → load_window src text first page marks ≡ record { answer = told_loading a; page = p; marks = m } → LoadWindow src text first page marks a p m
  as_loaded a p m l =
      record { answer = ap (λ (x : Loaded). x.answer) (sym l); page = ap (λ (x : Loaded). x.page) (sym l); marks = ap (λ (x : Loaded). x.marks) (sym l) }

  pub load_unfit : unfit first (length page) (length marks) ≡ true → LoadWindow src text first page marks (refuse BadWindow 0) page marks
  unfolding stopping_by_window one_window stopping_by verdict
  load_unfit e = as_loaded (refuse BadWindow 0) page marks (refused_load src text first page marks bad_window 0 (rw e))

  module _ (fit : unfit first (length page) (length marks) ≡ false) (a : Loading) (h : told_loading a ≡ verdict (decision (within first (length page)) nothing_yet (steps_of src text))) where
    judged_so : verdict (stopping_by_window src text first page marks) ≡ told_loading a
    unfolding stopping_by_window stopping_by
    judged_so = ap verdict (fit_stopping first page marks (steps_of src text) fit) ∙ sym h

    pub load_refused : is_accepted a ≡ false → LoadWindow src text first page marks a page marks
    load_refused f =
        let (e, n, q) = turned_away a f in
        as_loaded a page marks (rw q (refused_load src text first page marks (loader_refusal e) n (judged_so ∙ ap told_loading q)))

    pub load_accepted : is_accepted a ≡ true → (marks₀ page' marks' : List ℕ) → marks₀ ≡ replicate (length marks) 0
        → Painted (window first (length page)) (stated (steps_of src text)) page marks₀ page' marks' → LoadWindow src text first page marks a page' marks'
    load_accepted t marks₀ page' marks' c p =
        let (k, q) = passed a t in
        let m : marks' ≡ packed (marked (window first (length page)) 0 (stated (steps_of src text)) (flags (length page) marks))
        = packed_anew first (length page) (stated (steps_of src text)) marks marks₀ marks' (good_window first page marks fit).row c p.marks p.row in
        as_loaded a page' marks' (rw (p.page, m, q) (accepted_load src text first page marks (tallied k) (judged_so ∙ ap told_loading q)))
