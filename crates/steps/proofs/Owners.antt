-- Two owners: at a place that a room does not show a load changes nothing, and at one that it shows only what stood there matters.
-- Assumes nothing.
use mathlib.Core.Path.{◌≡◌, refl, sym, ap, ap₂, ◌∙◌, subst}
use mathlib.Core.Logic.{◌≢◌, ◌⊎◌, inl, inr}
use mathlib.Core.Bool.{Bool, true, false}
use lib.Dec.{eqb}
use borrow.Author.Tests.{eqb-true, eq-eqb}
use Rattle.std.specs.Prelude.{if◌then◌else◌}
use Prim.Native.Nat.{ℕ, ◌≤◌, ◌<◌}
use native.Mathlib.Omega.{arith}
use mathlib.Core.Option.{Option, none, some}
use mathlib.Core.List.{List, [], ◌∷◌}
use lib.ListN.{length, get_or, get_or-eq_default}
use Rattle.marks.proofs.Below.{split}
use Rattle.steps.specs.Steps.{Placement, Step, Verdict, accepted, refused, stated}
use Rattle.steps.specs.Sites.{byte_shown, mark_shown, Shown, store, Room, load_steps}
use Rattle.steps.specs.Owners.{Apart, Buffers, after, answer_of, SameAt, LeavesTheOthers, AnswersAlone, Event, load_by, row_after, answers_to, loads_of, Isolation}
use Rattle.steps.proofs.Places.{length_painted, length_marked, painted_at, marked_at}
use Rattle.steps.proofs.Sites.{judged, stored_answer}

-- ---- a load, place by place

-- what a verdict makes of placements: a refusal states none, and shows no place
abbrev shows_by : Verdict → Option ℕ → Option ℕ
shows_by (accepted t) shows = shows
shows_by (refused r n) shows = none

module _ (site : ℕ → Option ℕ) (ps : List Placement) (page marks : List ℕ) where
  store_length : (v : Verdict) → (length (store site ps page marks v).page ≡ length page) × (length (store site ps page marks v).marks ≡ length marks)
  unfolding store
  store_length (accepted t) = (length_painted site ps 0 page, length_marked site ps 0 marks)
  store_length (refused r n) = (refl, refl)

  store_byte : (v : Verdict) (i : ℕ) → i < length page → get_or (store site ps page marks v).page i 0 ≡ byte_shown (shows_by v (site i)) ps (get_or page i 0)
  unfolding store byte_shown
  store_byte (accepted t) i h = painted_at site ps page i h
  store_byte (refused r n) i h = refl

  store_mark : (v : Verdict) (i : ℕ) → i < length marks → get_or (store site ps page marks v).marks i 0 ≡ mark_shown (shows_by v (site i)) ps (get_or marks i 0)
  unfolding store mark_shown
  store_mark (accepted t) i h = marked_at site ps marks i h
  store_mark (refused r n) i h = refl

module _ (room : Room) (steps : List Step) (b : Buffers) where
  abbrev the_verdict : Verdict
  the_verdict = judged room steps

  pub after_lengths : (length (after room steps b).page ≡ length b.page) × (length (after room steps b).marks ≡ length b.marks)
  unfolding after load_steps
  after_lengths = store_length room.site (stated steps) b.page b.marks (judged room steps)

  after_byte : (i : ℕ) → i < length b.page → get_or (after room steps b).page i 0 ≡ byte_shown (shows_by (judged room steps) (room.site i)) (stated steps) (get_or b.page i 0)
  unfolding after load_steps
  after_byte = store_byte room.site (stated steps) b.page b.marks (judged room steps)

  after_mark : (i : ℕ) → i < length b.marks → get_or (after room steps b).marks i 0 ≡ mark_shown (shows_by (judged room steps) (room.site i)) (stated steps) (get_or b.marks i 0)
  unfolding after load_steps
  after_mark = store_mark room.site (stated steps) b.page b.marks (judged room steps)

-- a place that is not shown
unshown : (v : Verdict) (shows : Option ℕ) → shows ≡ none → shows_by v shows ≡ none
unshown (accepted t) shows e = e
unshown (refused r n) shows e = refl

kept_byte : (shows : Option ℕ) (ps : List Placement) (old : ℕ) → shows ≡ none → byte_shown shows ps old ≡ old
unfolding byte_shown
kept_byte none ps old e = refl
kept_byte (some a) ps old e = let z : ◌≡◌ {A = ℕ} 0 1 = cc in absurd (omega arith)

pub kept_mark : (shows : Option ℕ) (ps : List Placement) (old : ℕ) → shows ≡ none → mark_shown shows ps old ≡ old
unfolding mark_shown
kept_mark none ps old e = refl
kept_mark (some a) ps old e = let z : ◌≡◌ {A = ℕ} 0 1 = cc in absurd (omega arith)

pub not_mine : (mine others : ℕ → Option ℕ) → Apart mine others → (i : ℕ) → Shown others i → mine i ≡ none
not_mine mine others ap i own = go (ap i)
  where
    go : (mine i ≡ none) ⊎ (others i ≡ none) → mine i ≡ none
    go (inl e) = e
    go (inr e) = let z : ◌≡◌ {A = ℕ} 0 1 = cc own.1 in absurd (omega arith)

-- numbers after the end of a list are 0
pub beyond : (l₁ l₂ : List ℕ) → length l₁ ≡ length l₂ → (i : ℕ) → length l₁ ≤ i → get_or l₁ i 0 ≡ get_or l₂ i 0
beyond l₁ l₂ e i h = get_or-eq_default l₁ 0 {n = i} h ∙ sym (get_or-eq_default l₂ 0 {n = i} (omega arith))

pub leaves_the_others : LeavesTheOthers
leaves_the_others room others apart steps b =
    let l = after_lengths room steps b in
    record {
      bytes = λ i own. split (length b.page) i
          (λ h. beyond (after room steps b).page b.page l.0 i (omega (arith, l.0)))
          (λ h. after_byte room steps b i h ∙ kept_byte _ (stated steps) _ (unshown (judged room steps) (room.site i) (not_mine room.site others apart i own)));
      marks = λ i own. split (length b.marks) i
          (λ h. beyond (after room steps b).marks b.marks l.1 i (omega (arith, l.1)))
          (λ h. after_mark room steps b i h ∙ kept_mark _ (stated steps) _ (unshown (judged room steps) (room.site i) (not_mine room.site others apart i own)));
    }

pub answer_is : (room : Room) (steps : List Step) (b : Buffers) → answer_of room steps b ≡ judged room steps
unfolding answer_of load_steps
answer_is room steps b = stored_answer room.site (stated steps) b.page b.marks (judged room steps)

pub answers_alone : AnswersAlone
answers_alone room steps b₁ b₂ = answer_is room steps b₁ ∙ sym (answer_is room steps b₂)

-- ---- a row of loads

-- pages with marks of the same lengths that hold the same at a site's places
record Alike (site : ℕ → Option ℕ) (b₁ b₂ : Buffers) : Type 0 where
  pages : length b₁.page ≡ length b₂.page
  marks : length b₁.marks ≡ length b₂.marks
  same : SameAt site b₁ b₂

alike_refl : (site : ℕ → Option ℕ) (b : Buffers) → Alike site b b
alike_refl site b = record { pages = refl; marks = refl; same = record { bytes = λ i own. refl; marks = λ i own. refl } }

-- a load of its own keeps them so
mine_step : (room : Room) (steps : List Step) (b c : Buffers) → Alike room.site b c → Alike room.site (after room steps b) (after room steps c)
mine_step room steps b c k =
    let lb = after_lengths room steps b in
    let lc = after_lengths room steps c in
    let kp = k.pages in
    let km = k.marks in
    let s = k.same in
    record {
      pages = lb.0 ∙ k.pages ∙ sym lc.0;
      marks = lb.1 ∙ k.marks ∙ sym lc.1;
      same = record {
        bytes = λ i own. split (length b.page) i
            (λ h. beyond (after room steps b).page (after room steps c).page (lb.0 ∙ k.pages ∙ sym lc.0) i (omega (arith, lb.0)))
            (λ h. after_byte room steps b i h ∙ ap (byte_shown (shows_by (judged room steps) (room.site i)) (stated steps)) (s.bytes i own) ∙ sym (after_byte room steps c i (omega (arith, kp))));
        marks = λ i own. split (length b.marks) i
            (λ h. beyond (after room steps b).marks (after room steps c).marks (lb.1 ∙ k.marks ∙ sym lc.1) i (omega (arith, lb.1)))
            (λ h. after_mark room steps b i h ∙ ap (mark_shown (shows_by (judged room steps) (room.site i)) (stated steps)) (s.marks i own) ∙ sym (after_mark room steps c i (omega (arith, km))));
      };
    }

-- and so does a load of the other's
other_step : (room : Room) (site : ℕ → Option ℕ) → Apart room.site site → (steps : List Step) (b c : Buffers) → Alike site b c → Alike site (after room steps b) c
other_step room site apart steps b c k =
    let l = after_lengths room steps b in
    let s = leaves_the_others room site apart steps b in
    let s' = k.same in
    record {
      pages = l.0 ∙ k.pages;
      marks = l.1 ∙ k.marks;
      same = record { bytes = λ i own. s.bytes i own ∙ s'.bytes i own; marks = λ i own. s.marks i own ∙ s'.marks i own };
    }

module _ (me : ℕ) (rooms : ℕ → Room) (apart : (owner : ℕ) → owner ≢ me → Apart (rooms owner).site (rooms me).site) where
  -- a row and its own loads alone
  alone : (row : List Event) (b c : Buffers) → Alike (rooms me).site b c
      → (answers_to me rooms row b ≡ answers_to me rooms (loads_of me row) c) × Alike (rooms me).site (row_after rooms row b) (row_after rooms (loads_of me row) c)
  unfolding answers_to row_after loads_of
  alone [] b c k = (refl, k)
  alone (load_by owner steps ∷ row) b c k =
      go (eqb owner me) refl (λ x y z. alone row x y z)
    where
      go : (t : Bool) → eqb owner me ≡ t
          → ((x y : Buffers) → Alike (rooms me).site x y → (answers_to me rooms row x ≡ answers_to me rooms (loads_of me row) y) × Alike (rooms me).site (row_after rooms row x) (row_after rooms (loads_of me row) y))
          → ((if t then answer_of (rooms owner) steps b ∷ answers_to me rooms row (after (rooms owner) steps b) else answers_to me rooms row (after (rooms owner) steps b))
          ≡ answers_to me rooms (if t then load_by owner steps ∷ loads_of me row else loads_of me row) c)
          × Alike (rooms me).site (row_after rooms row (after (rooms owner) steps b)) (row_after rooms (if t then load_by owner steps ∷ loads_of me row else loads_of me row) c)
      go true e later =
          let o = eqb-true owner me e in
          let m = subst (λ (w : ℕ). Alike (rooms me).site (after (rooms w) steps b) (after (rooms w) steps c)) (sym o) (mine_step (rooms me) steps b c k) in
          let (a, l) = later (after (rooms owner) steps b) (after (rooms owner) steps c) m in
          (rw e (ap₂ (λ (x : Verdict) (l : List Verdict). x ∷ l) (answers_alone (rooms owner) steps b c) a), l)
      go false e later = later (after (rooms owner) steps b) c (other_step (rooms owner) (rooms me).site (apart owner (λ q. not_me e q)) steps b c k)
        where
          not_me : eqb owner me ≡ false → owner ≡ me → ⊥
          not_me e q = let h = eq-eqb owner me q in let z : ◌≡◌ {A = ℕ} 0 1 = cc in omega arith

pub isolation : Isolation
isolation me rooms apart row₁ row₂ e b₁ b₂ lp lm s =
    let (p, k) = alone me rooms apart row₁ b₁ b₂ (record { pages = lp; marks = lm; same = s }) in
    let (q, l) = alone me rooms apart row₂ b₂ b₂ (alike_refl (rooms me).site b₂) in
    let ks = (rw e at k).same in
    let ls = l.same in (
      p ∙ ap (λ (r : List Event). answers_to me rooms r b₂) e ∙ sym q,
      record { bytes = λ i own. ks.bytes i own ∙ sym (ls.bytes i own); marks = λ i own. ks.marks i own ∙ sym (ls.marks i own) },
    )
