-- What a painted page and its marks hold at each place, by induction over the places; and that `last_at` finds the last placement at an
-- address, by induction over the placements: a later one counts, and else the first if it is there.
-- Assumes nothing.
use mathlib.Core.Path.{◌≡◌, refl, sym, ap, ap₂, ◌∙◌}
use mathlib.Core.Logic.{◌≢◌, ◌⊎◌, inl, inr}
use Prim.Native.Nat.{ℕ, zero, suc, ◌+◌, ◌<◌}
use native.Mathlib.Nat.{not-suc-le-zero, le_of_suc-le-suc, add-zero, zero-add}
use native.Mathlib.Omega.{arith}
use mathlib.Core.Bool.{Bool, true, false}
use mathlib.Core.Option
use mathlib.Core.Option.{Option, none, some}
use mathlib.Core.List.Memᴰ
use mathlib.Core.List.{List, [], ◌∷◌, ◌++◌, Memᴰ}
use lib.ListN.{length, get_or}
use lib.Dec.{eqb}
use borrow.Author.Tests.{eqb-true, eqb-false, eq-eqb}
use Rattle.digits.specs.Common.{or_else}
use Rattle.std.specs.Prelude.{if◌then◌else◌}
use Rattle.record.proofs.Choices.{or_else_none, or_else_assoc, getD_or_else}
use Rattle.steps.specs.Steps.{Placement}
use Rattle.steps.specs.Sites.{last_at, mark, byte_shown, mark_shown, painted, marked, LastStated, OwedAt, Owed}

-- ---- place by place

module _ (site : ℕ → Option ℕ) (ps : List Placement) where
  pub length_painted : (i : ℕ) (page : List ℕ) → length (painted site i ps page) ≡ length page
  unfolding painted
  length_painted i [] = refl
  length_painted i (old ∷ page) = ap suc (length_painted (suc i) page)

  pub length_marked : (i : ℕ) (marks : List ℕ) → length (marked site i ps marks) ≡ length marks
  unfolding marked
  length_marked i [] = refl
  length_marked i (old ∷ marks) = ap suc (length_marked (suc i) marks)

  step_on : (a i : ℕ) → suc a + i ≡ a + suc i
  step_on a i = omega arith

  painted_from : (k : ℕ) (page : List ℕ) (i : ℕ) → i < length page → get_or (painted site k ps page) i 0 ≡ byte_shown (site (k + i)) ps (get_or page i 0)
  unfolding painted
  painted_from k [] i h = absurd (not-suc-le-zero h)
  painted_from k (old ∷ page) zero h = rw add-zero
  painted_from k (old ∷ page) (suc i) h = rw (← step_on k i) (painted_from (suc k) page i (le_of_suc-le-suc h))

  marked_from : (k : ℕ) (marks : List ℕ) (i : ℕ) → i < length marks → get_or (marked site k ps marks) i 0 ≡ mark_shown (site (k + i)) ps (get_or marks i 0)
  unfolding marked
  marked_from k [] i h = absurd (not-suc-le-zero h)
  marked_from k (old ∷ marks) zero h = rw add-zero
  marked_from k (old ∷ marks) (suc i) h = rw (← step_on k i) (marked_from (suc k) marks i (le_of_suc-le-suc h))

  -- the byte and the mark of place i
  pub painted_at : (page : List ℕ) (i : ℕ) → i < length page → get_or (painted site 0 ps page) i 0 ≡ byte_shown (site i) ps (get_or page i 0)
  painted_at page i h = rw (zero-add i) at (painted_from 0 page i h)

  pub marked_at : (marks : List ℕ) (i : ℕ) → i < length marks → get_or (marked site 0 ps marks) i 0 ≡ mark_shown (site i) ps (get_or marks i 0)
  marked_at marks i h = rw (zero-add i) at (marked_from 0 marks i h)

-- ---- the last placement

-- what was found for an address: a placement that is the last there, or none there
abbrev pub Found : (address : ℕ) → List Placement → Option ℕ → Type 0
Found address ps none = (p : Placement) → Memᴰ p ps → p.address ≢ address
Found address ps (some b) = LastStated address b ps

found_cons : (a : ℕ) (p : Placement) (ps : List Placement) (o : Option ℕ) (t : Bool) → eqb p.address a ≡ t → Found a ps o
    → Found a (p ∷ ps) (or_else o (if t then some p.byte else none))
found_cons a p ps (some b) t e f =
    record { before = p ∷ f.before; after = f.after; whole = ap (λ (l : List Placement). p ∷ l) f.whole; none_later = f.none_later }
found_cons a p ps none true e f =
    record {
      before = [];
      after = ps;
      whole = λ i. record { address = eqb-true p.address a e i; byte = p.byte } ∷ ps;
      none_later = f;
    }
found_cons a p ps none false e f = λ q m h. go q h (Memᴰ.cases_cons m)
  where
    go : (q : Placement) → q.address ≡ a → (q ≡ p) ⊎ Memᴰ q ps → ⊥
    go q h (inl g) = eqb-false p.address a e (ap (λ (x : Placement). x.address) (sym g) ∙ h)
    go q h (inr m) = f q m h

pub found : (a : ℕ) (ps : List Placement) → Found a ps (last_at a ps)
unfolding last_at
found a [] = λ p m h. Memᴰ.not-nil m
found a (p ∷ ps) = found_cons a p ps (last_at a ps) (eqb p.address a) refl (found a ps)

pub last_append : (a : ℕ) (ps qs : List Placement) → last_at a (ps ++ qs) ≡ or_else (last_at a qs) (last_at a ps)
unfolding last_at
last_append a [] qs = sym (or_else_none (last_at a qs))
last_append a (p ∷ ps) qs =
    let here = if eqb p.address a then some p.byte else none in
    ap (λ (o : Option ℕ). or_else o here) (last_append a ps qs) ∙ or_else_assoc (last_at a qs) (last_at a ps) here

-- ---- what is owed to a place

place : (ps : List Placement) (a old : ℕ) (o : Option ℕ) → Found a ps o → OwedAt ps a old (mark o) (Option.get_or o old)
unfolding mark
place ps a old none f =
    record {
      one_or_zero = inr refl;
      marked_iff_stated = (λ e. absurd (omega arith), λ s. absurd (f s.0 s.1 s.2));
      marked_holds = λ e. absurd (omega arith);
      unmarked_keeps = λ e. refl;
    }
place ps a old (some b) f =
    record {
      one_or_zero = inl refl;
      marked_iff_stated = (λ e. (record { address = a; byte = b }, rw f.whole (Memᴰ.append_right f.before (Memᴰ.head refl)), refl), λ s. refl);
      marked_holds = λ e. f;
      unmarked_keeps = λ e. absurd (omega arith);
    }

pub owed : (shows : Option ℕ) (ps : List Placement) (old old-mark : ℕ) → Owed shows ps old old-mark (mark_shown shows ps old-mark) (byte_shown shows ps old)
unfolding mark_shown byte_shown
owed none ps old old-mark = (refl, refl)
owed (some a) ps old old-mark = place ps a old (last_at a ps) (found a ps)

-- ---- nothing else meets it

none_there : (a : ℕ) (ps : List Placement) (o : Option ℕ) → Found a ps o → ((p : Placement) → Memᴰ p ps → p.address ≢ a) → o ≡ none
none_there a ps none f h = refl
none_there a ps (some b) f h =
    absurd (h (record { address = a; byte = b }) (rw f.whole (Memᴰ.append_right f.before (Memᴰ.head refl))) refl)

pub last_stated_is : (a b : ℕ) (ps : List Placement) → LastStated a b ps → last_at a ps ≡ some b
unfolding last_at
last_stated_is a b ps l =
    rw (l.whole, last_append a l.before (record { address = a; byte = b } ∷ l.after), none_there a l.after (last_at a l.after) (found a l.after) l.none_later, eq-eqb a a refl)

place_is : (ps : List Placement) (a old m b : ℕ) → OwedAt ps a old m b → (m ≡ mark (last_at a ps)) × (b ≡ Option.get_or (last_at a ps) old)
unfolding mark
place_is ps a old m b k = go (last_at a ps) refl (found a ps) k.one_or_zero
  where
    go : (o : Option ℕ) → last_at a ps ≡ o → Found a ps o → (m ≡ 1) ⊎ (m ≡ 0) → (m ≡ mark o) × (b ≡ Option.get_or o old)
    go none e f (inl is-1) = let s = k.marked_iff_stated.0 is-1 in absurd (f s.0 s.1 s.2)
    go none e f (inr is-0) = (is-0, k.unmarked_keeps is-0)
    go (some c) e f (inl is-1) = let s = sym (last_stated_is a b ps (k.marked_holds is-1)) ∙ e in (is-1, cc)
    go (some c) e f (inr is-0) =
        let is-1 = k.marked_iff_stated.1 (record { address = a; byte = c }, rw f.whole (Memᴰ.append_right f.before (Memᴰ.head refl)), refl) in
        absurd (omega arith)

pub owed_is : (shows : Option ℕ) (ps : List Placement) (old old-mark m b : ℕ) → Owed shows ps old old-mark m b
    → (m ≡ mark_shown shows ps old-mark) × (b ≡ byte_shown shows ps old)
unfolding mark_shown byte_shown
owed_is none ps old old-mark m b k = k
owed_is (some a) ps old old-mark m b k = place_is ps a old m b k

-- ---- placements after placements

pub byte_append : (shows : Option ℕ) (ps qs : List Placement) (old : ℕ) → byte_shown shows (ps ++ qs) old ≡ byte_shown shows qs (byte_shown shows ps old)
unfolding byte_shown
byte_append none ps qs old = refl
byte_append (some a) ps qs old = ap (λ (o : Option ℕ). Option.get_or o old) (last_append a ps qs) ∙ getD_or_else (last_at a qs) (last_at a ps) old

pub painted_append : (site : ℕ → Option ℕ) (i : ℕ) (ps qs : List Placement) (page : List ℕ) → painted site i (ps ++ qs) page ≡ painted site i qs (painted site i ps page)
unfolding painted
painted_append site i ps qs [] = refl
painted_append site i ps qs (old ∷ page) =
    ap₂ (λ (x : ℕ) (l : List ℕ). x ∷ l) (byte_append (site i) ps qs old) (painted_append site (suc i) ps qs page)

pub byte_none : (shows : Option ℕ) (old : ℕ) → byte_shown shows [] old ≡ old
unfolding byte_shown last_at
byte_none none old = refl
byte_none (some a) old = refl

pub painted_none : (site : ℕ → Option ℕ) (i : ℕ) (page : List ℕ) → painted site i [] page ≡ page
unfolding painted
painted_none site i [] = refl
painted_none site i (old ∷ page) = ap₂ (λ (x : ℕ) (l : List ℕ). x ∷ l) (byte_none (site i) old) (painted_none site (suc i) page)
