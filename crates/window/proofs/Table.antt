-- The window table: a place lies in at most one window, and an address in at most one of an owner's, by induction over the windows.
-- Assumes nothing.
use mathlib.Core.Path.{◌≡◌, refl, sym, ap, ◌∙◌, subst}
use mathlib.Core.Logic.{◌⊎◌, inl, inr}
use Prim.Native.Nat.{ℕ, ◌+◌, ◌-◌, ◌^◌, ◌≤◌, ◌<◌}
use native.Mathlib.Omega.{arith}
use mathlib.Core.Bool.{Bool, true, false, not, ◌&&◌, ◌||◌, true≢false}
use mathlib.Core.Option.{none, some}
use mathlib.Core.List.{List, [], ◌∷◌, ◌++◌, Memᴰ}
use lib.Dec.{eqb, leb, ltb}
use lib.ListN.{length}
use borrow.Author.Tests.{eqb-true, eq-eqb, leb-true, leb-false, ltb-true, ltb-false, lt-ltb, le-leb, not-false}
use Rattle.std.specs.Prelude.{if◌then◌else◌}
use Rattle.digits.proofs.Tests.{both, or_false, or_true, split}
use Rattle.marks.specs.Marks.{row_length}
use Rattle.window.specs.Window.{within, window, unfit, one_window}
use Rattle.window.specs.declared.Row.{Row}
use Rattle.window.specs.Table.{has, takes, site_of, inside_of, overlap, clash, clashes, any_clash, is_owner, good_row, good_rows, fits, owned, IsOwner, TwoOf, BadTable, too_many, call_of_nobody, window_of_nobody, pool_too_long, marks_differ, beyond_addresses, beyond_pool, address_shared, place_shared, RefusedExactly, OverlapIsShared, ShowsIn, ShownByWindows, InsideByWindows, LiesIn, OwnersApart, ShownIsInside, InsideIsShown, ShownOnce, OneWindowTable, Examples}
use Rattle.window.proofs.Tests.{within_true, true_within}

-- ---- stretches

pub overlap_is_shared : OverlapIsShared
overlap_is_shared s n s' n' = (shared, overlaps)
  where
    shared : overlap s n s' n' ≡ true → (x : ℕ) × (within s n x ≡ true) × (within s' n' x ≡ true)
    shared e =
        let (a, e₁) = both (ltb 0 n) (ltb 0 n' && (ltb s (s' + n') && ltb s' (s + n))) e in
        let (b, e₂) = both (ltb 0 n') (ltb s (s' + n') && ltb s' (s + n)) e₁ in
        let (c, d) = both (ltb s (s' + n')) (ltb s' (s + n)) e₂ in
        let a' = ltb-true 0 n a in
        let b' = ltb-true 0 n' b in
        let c' = ltb-true s (s' + n') c in
        let d' = ltb-true s' (s + n) d in
        split s s' (λ h. (s', true_within s n s' h d', true_within s' n' s' (omega arith) (omega arith)))
        (λ h. (s, true_within s n s (omega arith) (omega arith), true_within s' n' s (omega arith) c'))

    overlaps : ((x : ℕ) × (within s n x ≡ true) × (within s' n' x ≡ true)) → overlap s n s' n' ≡ true
    overlaps w =
        let (a, b) = within_true s n w.0 w.1 in
        let (c, d) = within_true s' n' w.0 w.2 in
        rw (lt-ltb 0 n (omega arith), lt-ltb 0 n' (omega arith), lt-ltb s (s' + n') (omega arith), lt-ltb s' (s + n) (omega arith))

-- ---- two windows that do not clash

false_is_not_true : (b : Bool) → b ≡ false → b ≡ true → ⊥
false_is_not_true b e q = true≢false (sym q ∙ e)

no_place : (r r' : Row) (i : ℕ) → clash r r' ≡ false → within r.place r.size i ≡ true → within r'.place r'.size i ≡ true → ⊥
no_place r r' i e h g =
    let p = overlap r.place r.size r'.place r'.size in
    let f = (or_false p (eqb r.owner r'.owner && overlap r.first r.size r'.first r'.size) e).0 in
    false_is_not_true p f ((overlap_is_shared r.place r.size r'.place r'.size).1 (i, h, g))

no_address : (r r' : Row) (a : ℕ) → clash r r' ≡ false → r.owner ≡ r'.owner → within r.first r.size a ≡ true → within r'.first r'.size a ≡ true → ⊥
no_address r r' a e o h g =
    let p = overlap r.place r.size r'.place r'.size in
    let q = overlap r.first r.size r'.first r'.size in
    let f = (or_false p (eqb r.owner r'.owner && q) e).1 in
    let t : q ≡ true = (overlap_is_shared r.first r.size r'.first r'.size).1 (a, h, g) in
    false_is_not_true (eqb r.owner r'.owner && q) f (rw (eq-eqb r.owner r'.owner o, t))

-- ---- what a place shows

-- a window that has the place shows it at its distance, which lies in it
shown_address : (owner i : ℕ) (r : Row) → has owner i r ≡ true → (eqb r.owner owner ≡ true) × (within r.first r.size (r.first + (i - r.place)) ≡ true)
shown_address owner i r e =
    let (o, w) = both (eqb r.owner owner) (within r.place r.size i) e in
    let (a, b) = within_true r.place r.size i w in
    (o, true_within r.first r.size (r.first + (i - r.place)) (omega arith) (omega arith))

-- no later window has a place of this one
pub not_later : (owner i : ℕ) (r : Row) (rows : List Row) → clashes r rows ≡ false → within r.place r.size i ≡ true → site_of owner rows i ≡ none
unfolding site_of
not_later owner i r [] e h = refl
not_later owner i r (r' ∷ rows) e h =
    let (c, cs) = or_false (clash r r') (clashes r rows) e in
    go (has owner i r') refl c (not_later owner i r rows cs h)
  where
    go : (b : Bool) → has owner i r' ≡ b → clash r r' ≡ false → site_of owner rows i ≡ none
        → (if b then some (r'.first + (i - r'.place)) else site_of owner rows i) ≡ none
    go true q c n = absurd (no_place r r' i c h (both (eqb r'.owner owner) (within r'.place r'.size i) q).1)
    go false q c n = n

pub owners_apart : OwnersApart
unfolding site_of
owners_apart owner owner' [] ne e i = inl refl
owners_apart owner owner' (r ∷ rows) ne e i =
    let (c, cs) = or_false (clashes r rows) (any_clash rows) e in
    go (has owner i r) refl (has owner' i r) refl c (owners_apart owner owner' rows ne cs i)
  where
    go : (b : Bool) → has owner i r ≡ b → (b' : Bool) → has owner' i r ≡ b' → clashes r rows ≡ false
        → (site_of owner rows i ≡ none) ⊎ (site_of owner' rows i ≡ none)
        → ((if b then some (r.first + (i - r.place)) else site_of owner rows i) ≡ none) ⊎ ((if b' then some (r.first + (i - r.place)) else site_of owner' rows i) ≡ none)
    go true p true q c h =
        let o = eqb-true r.owner owner (shown_address owner i r p).0 in
        let o' = eqb-true r.owner owner' (shown_address owner' i r q).0 in
        absurd (ne (sym o ∙ o'))
    go true p false q c h = inr (not_later owner' i r rows c (both (eqb r.owner owner) (within r.place r.size i) p).1)
    go false p true q c h = inl (not_later owner i r rows c (both (eqb r.owner owner') (within r.place r.size i) q).1)
    go false p false q c h = h

pub shown_is_inside : ShownIsInside
unfolding site_of inside_of
shown_is_inside owner [] i a = λ e. let z : ◌≡◌ {A = ℕ} 0 1 = cc in absurd (omega arith)
shown_is_inside owner (r ∷ rows) i a = go (has owner i r) refl (shown_is_inside owner rows i a)
  where
    go : (b : Bool) → has owner i r ≡ b → (site_of owner rows i ≡ some a → inside_of owner rows a ≡ true)
        → (if b then some (r.first + (i - r.place)) else site_of owner rows i) ≡ some a → takes owner a r || inside_of owner rows a ≡ true
    go true q h e =
        let x : r.first + (i - r.place) ≡ a = cc in
        let (o, w) = shown_address owner i r q in
        let w' : within r.first r.size a ≡ true = rw x at w in
        rw (o, w')
    go false q h e = rw (h e) (or_true (takes owner a r))

-- a place that is shown is in a window of the owner's: none that clashes with it has the place
shown_not_there : (owner i a : ℕ) (r : Row) (rows : List Row) → clashes r rows ≡ false → site_of owner rows i ≡ some a → within r.place r.size i ≡ true → ⊥
shown_not_there owner i a r rows c e h =
    let n = not_later owner i r rows c h in
    let z : ◌≡◌ {A = ℕ} 0 1 = cc in omega arith

pub inside_is_shown : InsideIsShown
unfolding site_of inside_of
inside_is_shown owner pool [] c g a = λ e. let z : ◌≡◌ {A = ℕ} 0 1 = cc in absurd (omega arith)
inside_is_shown owner pool (r ∷ rows) c g a =
    let (c₁, c₂) = or_false (clashes r rows) (any_clash rows) c in
    let (g₁, g₂) = both (good_row pool r) (good_rows pool rows) g in
    go (takes owner a r) refl c₁ g₁ (inside_is_shown owner pool rows c₂ g₂ a)
  where
    at_it : (i : ℕ) → has owner i r ≡ true → within r.place r.size i ≡ true
    at_it i q = (both (eqb r.owner owner) (within r.place r.size i) q).1

    later : (b : Bool) (i : ℕ) → has owner i r ≡ b → clashes r rows ≡ false → site_of owner rows i ≡ some a
        → (if b then some (r.first + (i - r.place)) else site_of owner rows i) ≡ some a
    later true i q c₁ s = absurd (shown_not_there owner i a r rows c₁ s (at_it i q))
    later false i q c₁ s = s

    here : eqb r.owner owner ≡ true → (i : ℕ) → i ≡ r.place + (a - r.first) → r.first ≤ a → a < r.first + r.size
        → (if has owner i r then some (r.first + (i - r.place)) else site_of owner rows i) ≡ some a
    here o i x h l =
        let w : within r.place r.size i ≡ true = true_within r.place r.size i (omega arith) (omega arith) in
        rw (o, w) (ap (λ (y : ℕ). some y) (omega arith))

    go : (b : Bool) → takes owner a r ≡ b → clashes r rows ≡ false → good_row pool r ≡ true
        → (inside_of owner rows a ≡ true → (i : ℕ) × (i < pool) × (site_of owner rows i ≡ some a))
        → b || inside_of owner rows a ≡ true
        → (i : ℕ) × (i < pool) × ((if has owner i r then some (r.first + (i - r.place)) else site_of owner rows i) ≡ some a)
    go true q c₁ g₁ h e =
        let (o, w) = both (eqb r.owner owner) (within r.first r.size a) q in
        let (l, m) = within_true r.first r.size a w in
        let ends = (both (is_owner r.owner) (leb (r.first + r.size) (2 ^ 32) && leb (r.place + r.size) pool) g₁).1 in
        let room = leb-true (r.place + r.size) pool (both (leb (r.first + r.size) (2 ^ 32)) (leb (r.place + r.size) pool) ends).1 in
        (r.place + (a - r.first), omega arith, here o (r.place + (a - r.first)) refl l m)
    go false q c₁ g₁ h e = let (i, l, s) = h e in (i, l, later (has owner i r) i refl c₁ s)

-- no later window of the owner takes an address of this one
not_taken : (owner i a : ℕ) (r : Row) (rows : List Row) → clashes r rows ≡ false → r.owner ≡ owner → within r.first r.size a ≡ true
    → site_of owner rows i ≡ some a → ⊥
unfolding site_of
not_taken owner i a r [] c o h = λ e. let z : ◌≡◌ {A = ℕ} 0 1 = cc in omega arith
not_taken owner i a r (r' ∷ rows) c o h =
    let (c₁, c₂) = or_false (clash r r') (clashes r rows) c in
    go (has owner i r') refl c₁ (not_taken owner i a r rows c₂ o h)
  where
    go : (b : Bool) → has owner i r' ≡ b → clash r r' ≡ false → (site_of owner rows i ≡ some a → ⊥)
        → (if b then some (r'.first + (i - r'.place)) else site_of owner rows i) ≡ some a → ⊥
    go true q c₁ f e =
        let x : r'.first + (i - r'.place) ≡ a = cc in
        let (o', w) = shown_address owner i r' q in
        no_address r r' a c₁ (o ∙ sym (eqb-true r'.owner owner o')) h (rw x at w)
    go false q c₁ f e = f e

pub shown_once : ShownOnce
unfolding site_of
shown_once owner [] c a i j = λ e. let z : ◌≡◌ {A = ℕ} 0 1 = cc in absurd (omega arith)
shown_once owner (r ∷ rows) c a i j =
    let (c₁, c₂) = or_false (clashes r rows) (any_clash rows) c in
    go (has owner i r) refl (has owner j r) refl c₁ (shown_once owner rows c₂ a i j)
  where
    mine : (k : ℕ) → has owner k r ≡ true → r.first + (k - r.place) ≡ a → (r.owner ≡ owner) × (within r.first r.size a ≡ true)
    mine k q x = let (o, w) = shown_address owner k r q in (eqb-true r.owner owner o, rw x at w)

    go : (b : Bool) → has owner i r ≡ b → (b' : Bool) → has owner j r ≡ b' → clashes r rows ≡ false
        → (site_of owner rows i ≡ some a → site_of owner rows j ≡ some a → i ≡ j)
        → (if b then some (r.first + (i - r.place)) else site_of owner rows i) ≡ some a
        → (if b' then some (r.first + (j - r.place)) else site_of owner rows j) ≡ some a → i ≡ j
    go true p true q c₁ h e f =
        let x : r.first + (i - r.place) ≡ a = cc in
        let y : r.first + (j - r.place) ≡ a = cc in
        let (l, m) = within_true r.place r.size i (both (eqb r.owner owner) (within r.place r.size i) p).1 in
        let (l', m') = within_true r.place r.size j (both (eqb r.owner owner) (within r.place r.size j) q).1 in
        omega arith
    go true p false q c₁ h e f =
        let x : r.first + (i - r.place) ≡ a = cc in
        let (o, w) = mine i p x in
        absurd (not_taken owner j a r rows c₁ o w f)
    go false p true q c₁ h e f =
        let y : r.first + (j - r.place) ≡ a = cc in
        let (o, w) = mine j q y in
        absurd (not_taken owner i a r rows c₁ o w e)
    go false p false q c₁ h e f = h e f

-- one is true
either : {X : Type 0} (x y : Bool) → x || y ≡ true → (x ≡ true → X) → (y ≡ true → X) → X
either true y e f g = f refl
either false y e f g = g e

-- ---- the same without computing

-- a window that clashes with none of these clashes not with this one
not_with : (r r' : Row) (rows : List Row) → clashes r rows ≡ false → Memᴰ r' rows → clash r r' ≡ false
not_with r r' [] e m = absurd (mathlib.Core.List.Memᴰ.not-nil m)
not_with r r' (x ∷ rows) e m = let (c, cs) = or_false (clash r x) (clashes r rows) e in go c (λ k. not_with r r' rows cs k) (mathlib.Core.List.Memᴰ.cases_cons m)
  where
    go : clash r x ≡ false → (Memᴰ r' rows → clash r r' ≡ false) → (r' ≡ x) ⊎ Memᴰ r' rows → clash r r' ≡ false
    go c later (inl q) = rw q c
    go c later (inr k) = later k

-- in one window more
in_more : (owner i a : ℕ) (r : Row) (rows : List Row) → ShowsIn owner rows i a → ShowsIn owner (r ∷ rows) i a
in_more owner i a r rows s =
    record { window = s.window; in_table = mathlib.Core.List.Memᴰ.tail s.in_table; owned_by = s.owned_by; distance = s.distance; inside = s.inside; at_place = s.at_place; at_address = s.at_address }

shows_so : (owner : ℕ) (rows : List Row) (i a : ℕ) → site_of owner rows i ≡ some a → ShowsIn owner rows i a
unfolding site_of
shows_so owner [] i a = λ e. let z : ◌≡◌ {A = ℕ} 0 1 = cc in absurd (omega arith)
shows_so owner (r ∷ rows) i a = go (has owner i r) refl (shows_so owner rows i a)
  where
    go : (b : Bool) → has owner i r ≡ b → (site_of owner rows i ≡ some a → ShowsIn owner rows i a) → (if b then some (r.first + (i - r.place)) else site_of owner rows i) ≡ some a → ShowsIn owner (r ∷ rows) i a
    go true q later e =
        let x : r.first + (i - r.place) ≡ a = cc in
        let (o, w) = both (eqb r.owner owner) (within r.place r.size i) q in
        let (l, u) = within_true r.place r.size i w in
        record { window = r; in_table = mathlib.Core.List.Memᴰ.head refl; owned_by = eqb-true r.owner owner o; distance = i - r.place; inside = omega arith; at_place = omega arith; at_address = sym x }
    go false q later e = in_more owner i a r rows (later e)

so_shows : (owner : ℕ) (rows : List Row) → any_clash rows ≡ false → (i a : ℕ) → ShowsIn owner rows i a → site_of owner rows i ≡ some a
unfolding site_of
so_shows owner [] c i a s = absurd (mathlib.Core.List.Memᴰ.not-nil s.in_table)
so_shows owner (r ∷ rows) c i a s =
    let (c₁, c₂) = or_false (clashes r rows) (any_clash rows) c in
    go (has owner i r) refl c₁ (λ k. so_shows owner rows c₂ i a k) (mathlib.Core.List.Memᴰ.cases_cons s.in_table)
  where
    there : within s.window.place s.window.size i ≡ true
    there = true_within s.window.place s.window.size i (omega (arith, s.at_place)) (omega (arith, s.at_place, s.inside))

    first_one : s.window ≡ r → (has owner i r ≡ true) × (r.first + (i - r.place) ≡ a)
    first_one q =
        let w : within r.place r.size i ≡ true = rw q at there in
        let o : r.owner ≡ owner = rw q at s.owned_by in
        let p : i ≡ r.place + s.distance = rw q at s.at_place in
        let x : a ≡ r.first + s.distance = rw q at s.at_address in
        (rw (eq-eqb r.owner owner o, w), omega arith)

    go : (b : Bool) → has owner i r ≡ b → clashes r rows ≡ false → (ShowsIn owner rows i a → site_of owner rows i ≡ some a) → (s.window ≡ r) ⊎ Memᴰ s.window rows
        → (if b then some (r.first + (i - r.place)) else site_of owner rows i) ≡ some a
    go true e c₁ later (inl q) = ap (λ (x : ℕ). some x) (first_one q).1
    go false e c₁ later (inl q) = absurd (true≢false (sym (first_one q).0 ∙ e))
    go true e c₁ later (inr m) =
        absurd (no_place r s.window i (not_with r s.window rows c₁ m) (both (eqb r.owner owner) (within r.place r.size i) e).1 there)
    go false e c₁ later (inr m) =
        later (record { window = s.window; in_table = m; owned_by = s.owned_by; distance = s.distance; inside = s.inside; at_place = s.at_place; at_address = s.at_address })

pub shown_by_windows : ShownByWindows
shown_by_windows owner rows c i a = (shows_so owner rows i a, so_shows owner rows c i a)

pub inside_by_windows : InsideByWindows
unfolding inside_of
inside_by_windows owner [] a = (λ e. let z : ◌≡◌ {A = ℕ} 0 1 = cc in absurd (omega arith), λ (r, m, o, l). absurd (mathlib.Core.List.Memᴰ.not-nil m))
inside_by_windows owner (r ∷ rows) a = let (more, less) = inside_by_windows owner rows a in (forth more, back less)
  where
    forth : (inside_of owner rows a ≡ true → (x : Row) × Memᴰ x rows × (x.owner ≡ owner) × LiesIn x.first x.size a)
        → takes owner a r || inside_of owner rows a ≡ true → (x : Row) × Memᴰ x (r ∷ rows) × (x.owner ≡ owner) × LiesIn x.first x.size a
    forth more e =
        either (takes owner a r) (inside_of owner rows a) e
        (λ h. let (o, w) = both (eqb r.owner owner) (within r.first r.size a) h in (r, mathlib.Core.List.Memᴰ.head refl, eqb-true r.owner owner o, within_true r.first r.size a w))
        (λ h. let (x, m, o, l) = more h in (x, mathlib.Core.List.Memᴰ.tail m, o, l))

    held : (x : Row) → x.owner ≡ owner → LiesIn x.first x.size a → x ≡ r → takes owner a r ≡ true
    held x o l q =
        let o' : r.owner ≡ owner = rw q at o in
        let l' : LiesIn r.first r.size a = rw q at l in
        rw (eq-eqb r.owner owner o', true_within r.first r.size a l'.0 l'.1)

    back : (((x : Row) × Memᴰ x rows × (x.owner ≡ owner) × LiesIn x.first x.size a) → inside_of owner rows a ≡ true)
        → ((x : Row) × Memᴰ x (r ∷ rows) × (x.owner ≡ owner) × LiesIn x.first x.size a) → takes owner a r || inside_of owner rows a ≡ true
    back less (x, m, o, l) = go (mathlib.Core.List.Memᴰ.cases_cons m)
      where
        go : (x ≡ r) ⊎ Memᴰ x rows → takes owner a r || inside_of owner rows a ≡ true
        go (inl q) = rw (held x o l q)
        go (inr k) = rw (less (x, k, o, l)) (or_true (takes owner a r))

-- ---- when a table is refused

-- of two tests one is false
which : {X : Type 0} (x y : Bool) → x && y ≡ false → (x ≡ false → X) → (y ≡ false → X) → X
which true y e f g = g e
which false y e f g = f refl

owner_is : (owner : ℕ) → is_owner owner ≡ true → IsOwner owner
owner_is owner e = either (eqb owner 1) (eqb owner 2) e (λ h. inl (eqb-true owner 1 h)) (λ h. inr (eqb-true owner 2 h))

pub is_owner_so : (owner : ℕ) → IsOwner owner → is_owner owner ≡ true
is_owner_so owner (inl e) = rw e
is_owner_so owner (inr e) = rw e

nobody : (owner : ℕ) → is_owner owner ≡ false → ¬ IsOwner owner
nobody owner e h = false_is_not_true (is_owner owner) e (is_owner_so owner h)

-- a test that is not true is false
falsely : (b : Bool) → (b ≡ true → ⊥) → b ≡ false
falsely true h = absurd (h refl)
falsely false h = refl

truly : (b : Bool) → (b ≡ false → ⊥) → b ≡ true
truly true h = refl
truly false h = absurd (h refl)

-- a window that breaks a limit by itself
bad_row : {owner marks : ℕ} (pool : ℕ) (all rows : List Row) → ((r : Row) → Memᴰ r rows → Memᴰ r all) → good_rows pool rows ≡ false → BadTable owner pool marks all
bad_row pool all [] i e = let z : ◌≡◌ {A = ℕ} 0 1 = cc in absurd (omega arith)
bad_row pool all (r ∷ rows) i e =
    let m : Memᴰ r all = i r (mathlib.Core.List.Memᴰ.head refl) in
    which (good_row pool r) (good_rows pool rows) e
    (λ h. which (is_owner r.owner) (leb (r.first + r.size) (2 ^ 32) && leb (r.place + r.size) pool) h (λ o. window_of_nobody r m (nobody r.owner o))
    (λ k. which (leb (r.first + r.size) (2 ^ 32)) (leb (r.place + r.size) pool) k (λ a. beyond_addresses r m (leb-false (r.first + r.size) (2 ^ 32) a)) (λ p. beyond_pool r m (leb-false (r.place + r.size) pool p))))
    (λ h. bad_row pool all rows (λ x k. i x (mathlib.Core.List.Memᴰ.tail k)) h)

-- two windows that clash
shared : {owner pool marks : ℕ} (rows : List Row) (r r' : Row) → TwoOf rows r r' → clash r r' ≡ true → BadTable owner pool marks rows
shared rows r r' t e =
    let p = overlap r.place r.size r'.place r'.size in
    let q = overlap r.first r.size r'.first r'.size in
    either p (eqb r.owner r'.owner && q) e
    (λ h. let (x, a, b) = (overlap_is_shared r.place r.size r'.place r'.size).0 h in place_shared r r' t x (within_true r.place r.size x a) (within_true r'.place r'.size x b))
    (λ h.
    let (o, g) = both (eqb r.owner r'.owner) q h in
    let (x, a, b) = (overlap_is_shared r.first r.size r'.first r'.size).0 g in
    address_shared r r' t (eqb-true r.owner r'.owner o) x (within_true r.first r.size x a) (within_true r'.first r'.size x b))

-- a window and one after it
clashing : (r : Row) (rows : List Row) → clashes r rows ≡ true → (r' : Row) × (between : List Row) × (after : List Row) × (rows ≡ between ++ (r' ∷ after)) × (clash r r' ≡ true)
clashing r [] e = let z : ◌≡◌ {A = ℕ} 0 1 = cc in absurd (omega arith)
clashing r (x ∷ rows) e =
    either (clash r x) (clashes r rows) e (λ h. (x, [], rows, refl, h))
    (λ h. let (r', between, after, w, c) = clashing r rows h in (r', x ∷ between, after, ap (λ (l : List Row). x ∷ l) w, c))

any_two : (rows : List Row) → any_clash rows ≡ true → (r : Row) × (r' : Row) × TwoOf rows r r' × (clash r r' ≡ true)
any_two [] e = let z : ◌≡◌ {A = ℕ} 0 1 = cc in absurd (omega arith)
any_two (x ∷ rows) e =
    either (clashes x rows) (any_clash rows) e
    (λ h. let (r', between, after, w, c) = clashing x rows h in (x, r', record { before = []; between = between; after = after; whole = ap (λ (l : List Row). x ∷ l) w }, c))
    (λ h.
    let (r, r', t, c) = any_two rows h in
    (r, r', record { before = x ∷ t.before; between = t.between; after = t.after; whole = ap (λ (l : List Row). x ∷ l) t.whole }, c))

-- and back: such windows clash
good_at : (pool : ℕ) (rows : List Row) (r : Row) → good_rows pool rows ≡ true → Memᴰ r rows → good_row pool r ≡ true
good_at pool [] r e m = absurd (mathlib.Core.List.Memᴰ.not-nil m)
good_at pool (x ∷ rows) r e m =
    let (g, gs) = both (good_row pool x) (good_rows pool rows) e in
    go (mathlib.Core.List.Memᴰ.cases_cons m) g (λ k. good_at pool rows r gs k)
  where
    go : (r ≡ x) ⊎ Memᴰ r rows → good_row pool x ≡ true → (Memᴰ r rows → good_row pool r ≡ true) → good_row pool r ≡ true
    go (inl q) g later = subst (λ (y : Row). good_row pool y ≡ true) (sym q) g
    go (inr k) g later = later k

no_clash_with : (r r' : Row) (between after : List Row) → clashes r (between ++ (r' ∷ after)) ≡ false → clash r r' ≡ false
no_clash_with r r' [] after e = (or_false (clash r r') (clashes r after) e).0
no_clash_with r r' (x ∷ between) after e = no_clash_with r r' between after (or_false (clash r x) (clashes r (between ++ (r' ∷ after))) e).1

no_two : (before between after : List Row) (r r' : Row) → any_clash (before ++ (r ∷ (between ++ (r' ∷ after)))) ≡ false → clash r r' ≡ false
no_two [] between after r r' e = no_clash_with r r' between after (or_false (clashes r (between ++ (r' ∷ after))) (any_clash (between ++ (r' ∷ after))) e).0
no_two (x ∷ before) between after r r' e =
    no_two before between after r r' (or_false (clashes x (before ++ (r ∷ (between ++ (r' ∷ after))))) (any_clash (before ++ (r ∷ (between ++ (r' ∷ after))))) e).1

not_false_so : (b : Bool) → not b ≡ true → b ≡ false
not_false_so true e = sym e
not_false_so false e = refl

module _ (owner pool marks : ℕ) (rows : List Row) where
  -- what fits breaks no limit
  pub within_limits : fits owner pool marks rows ≡ true → BadTable owner pool marks rows → ⊥
  unfolding fits
  within_limits e b =
      let (o, e₁) = both (is_owner owner) (leb (length rows) 16 && (leb pool 65536 && (eqb marks (row_length pool) && (good_rows pool rows && not (any_clash rows))))) e in
      let (n, e₂) = both (leb (length rows) 16) (leb pool 65536 && (eqb marks (row_length pool) && (good_rows pool rows && not (any_clash rows)))) e₁ in
      let (p, e₃) = both (leb pool 65536) (eqb marks (row_length pool) && (good_rows pool rows && not (any_clash rows))) e₂ in
      let (m, e₄) = both (eqb marks (row_length pool)) (good_rows pool rows && not (any_clash rows)) e₃ in
      let (g, c) = both (good_rows pool rows) (not (any_clash rows)) e₄ in
      go (owner_is owner o) (leb-true (length rows) 16 n) (leb-true pool 65536 p) (eqb-true marks (row_length pool) m) g (not_false_so (any_clash rows) c) b
    where
      ends : (r : Row) → good_row pool r ≡ true → IsOwner r.owner × (r.first + r.size ≤ 2 ^ 32) × (r.place + r.size ≤ pool)
      ends r g =
          let (o, e) = both (is_owner r.owner) (leb (r.first + r.size) (2 ^ 32) && leb (r.place + r.size) pool) g in
          let (a, b) = both (leb (r.first + r.size) (2 ^ 32)) (leb (r.place + r.size) pool) e in
          (owner_is r.owner o, leb-true (r.first + r.size) (2 ^ 32) a, leb-true (r.place + r.size) pool b)

      go : IsOwner owner → length rows ≤ 16 → pool ≤ 65536 → marks ≡ row_length pool → good_rows pool rows ≡ true → any_clash rows ≡ false → BadTable owner pool marks rows → ⊥
      go o n p m g c (too_many h) = omega arith
      go o n p m g c (call_of_nobody h) = h o
      go o n p m g c (window_of_nobody r k h) = h (ends r (good_at pool rows r g k)).0
      go o n p m g c (pool_too_long h) = omega arith
      go o n p m g c (marks_differ h) = h m
      go o n p m g c (beyond_addresses r k h) = let (x, y, z) = ends r (good_at pool rows r g k) in omega arith
      go o n p m g c (beyond_pool r k h) = let (x, y, z) = ends r (good_at pool rows r g k) in omega arith
      go o n p m g c (address_shared r r' t q x (a, b) (a', b')) =
          no_address r r' x (no_two t.before t.between t.after r r' (subst (λ (l : List Row). any_clash l ≡ false) t.whole c)) q (true_within r.first r.size x a b) (true_within r'.first r'.size x a' b')
      go o n p m g c (place_shared r r' t x (a, b) (a', b')) =
          no_place r r' x (no_two t.before t.between t.after r r' (subst (λ (l : List Row). any_clash l ≡ false) t.whole c)) (true_within r.place r.size x a b) (true_within r'.place r'.size x a' b')

  -- what does not fit breaks one
  pub breaks : fits owner pool marks rows ≡ false → BadTable owner pool marks rows
  unfolding fits
  breaks e =
      which (is_owner owner) (leb (length rows) 16 && (leb pool 65536 && (eqb marks (row_length pool) && (good_rows pool rows && not (any_clash rows))))) e (λ o. call_of_nobody (nobody owner o))
      (λ e₁. which (leb (length rows) 16) (leb pool 65536 && (eqb marks (row_length pool) && (good_rows pool rows && not (any_clash rows)))) e₁ (λ h. too_many (leb-false (length rows) 16 h))
      (λ e₂. which (leb pool 65536) (eqb marks (row_length pool) && (good_rows pool rows && not (any_clash rows))) e₂ (λ h. pool_too_long (leb-false pool 65536 h))
      (λ e₃. which (eqb marks (row_length pool)) (good_rows pool rows && not (any_clash rows)) e₃ (λ h. marks_differ (λ q. false_is_not_true (eqb marks (row_length pool)) h (eq-eqb marks (row_length pool) q)))
      (λ e₄. which (good_rows pool rows) (not (any_clash rows)) e₄ (λ h. bad_row pool rows rows (λ r k. k) h)
      (λ h. let (r, r', t, c) = any_two rows (not-false (any_clash rows) h) in shared rows r r' t c)))))

pub refused_exactly : RefusedExactly
refused_exactly owner pool marks rows = (breaks owner pool marks rows, λ b. falsely (fits owner pool marks rows) (λ e. within_limits owner pool marks rows e b))

-- ---- one window that fills the pool

module _ (owner first pool marks : ℕ) where
  abbrev whole_pool : Row
  whole_pool = record { owner = owner; first = first; size = pool; place = 0 }

  itself : eqb owner owner ≡ true
  itself = eq-eqb owner owner refl

  pub inside_same : (a : ℕ) → inside_of owner (whole_pool ∷ []) a ≡ within first pool a
  unfolding inside_of
  inside_same a = rw itself (go (within first pool a))
    where
      go : (b : Bool) → b || false ≡ b
      go true = refl
      go false = refl

  pub site_same : (i : ℕ) → site_of owner (whole_pool ∷ []) i ≡ window first pool i
  unfolding site_of window within
  site_same i =
      let a : first + (i - 0) ≡ first + i = omega arith in
      let b : 0 + pool ≡ pool = omega arith in
      rw (itself, le-leb 0 i (omega arith), b, a)

  no_fault : is_owner owner ≡ true → unfit first pool marks ≡ false → fits owner pool marks (whole_pool ∷ []) ≡ true
  unfolding fits unfit
  no_fault o u =
      let (u₁, a) = or_false (not (eqb (row_length pool) marks) || ltb 65536 pool) (ltb (2 ^ 32) (first + pool)) u in
      let (m, p) = or_false (not (eqb (row_length pool) marks)) (ltb 65536 pool) u₁ in
      let q : marks ≡ row_length pool = sym (eqb-true (row_length pool) marks (not-false (eqb (row_length pool) marks) m)) in
      let b : leb (0 + pool) pool ≡ true = le-leb (0 + pool) pool (omega arith) in
      rw (o, le-leb pool 65536 (ltb-false 65536 pool p), eq-eqb marks (row_length pool) q, le-leb (first + pool) (2 ^ 32) (ltb-false (2 ^ 32) (first + pool) a), b)

  fault_same : is_owner owner ≡ true → unfit first pool marks ≡ false → (owned owner pool marks (whole_pool ∷ [])).fault ≡ (one_window first pool marks).fault
  unfolding owned one_window
  fault_same o u = rw (no_fault o u, u)

pub one_window_table : OneWindowTable
unfolding owned one_window
one_window_table owner first pool marks o u =
    λ k. record { fault = fault_same owner first pool marks o u k; inside = λ a. inside_same owner first pool marks a k; site = λ i. site_same owner first pool marks i k }

-- a table with one window, which fills the pool, that is not refused: the owner is one of the two, and the window is not refused
pub good_window_of : (owner first pool marks : ℕ) → ¬ BadTable owner pool marks (record { owner = owner; first = first; size = pool; place = 0 } ∷ [])
    → (is_owner owner ≡ true) × (unfit first pool marks ≡ false)
unfolding unfit
good_window_of owner first pool marks good = (o, u)
  where
    o : is_owner owner ≡ true
    o = truly (is_owner owner) (λ e. good (call_of_nobody (nobody owner e)))

    u : unfit first pool marks ≡ false
    u = falsely (unfit first pool marks) (λ e. either (not (eqb (row_length pool) marks) || ltb 65536 pool) (ltb (2 ^ 32) (first + pool)) e
        (λ a. either (not (eqb (row_length pool) marks)) (ltb 65536 pool) a
        (λ b. good (marks_differ (λ q. true≢false (sym b ∙ ap not (eq-eqb (row_length pool) marks (sym q))))))
        (λ b. good (pool_too_long (ltb-true 65536 pool b))))
        (λ a. good (beyond_addresses _ (mathlib.Core.List.Memᴰ.head refl) (ltb-true (2 ^ 32) (first + pool) a))))

pub examples : Examples
unfolding fits site_of
examples =
    record {
      empty = refl;
      empty_inside = refl;
      empty_at_end = refl;
      empty_beyond = refl;
      last_address = refl;
      beyond_last = refl;
      two_owners = refl;
      touching = refl;
      shared_address = refl;
      shared_place = refl;
      not_neighbours = refl;
      owner_of_call = refl;
      owner_of_window = refl;
      no_wrap = refl;
      shown_one = refl;
      shown_next = refl;
      shown_none = refl;
    }
