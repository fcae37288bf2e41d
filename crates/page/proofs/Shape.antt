-- The pieces of a page are what `specs/Shape.antt` asks for, and nothing else is.
-- Assumes nothing.
use Prim.Native.Nat.{ℕ, zero, suc, ◌+◌, ◌%◌, ◌≤◌, ◌<◌}
use mathlib.Core.Path.{◌≡◌, refl, sym, ◌∙◌, ap}
use mathlib.Core.Logic.{◌≢◌, ◌⊎◌, inl, inr}
use mathlib.Core.Option.{Option, none, some}
use mathlib.Core.List.{List, [], ◌∷◌, ◌++◌}
use native.Mathlib.Nat.{add-zero}
use native.Mathlib.Omega.{arith}
use borrow.Author.Tests.{eq-eqb, ne_eqb}
use Rattle.digits.specs.Common.{Every}
use Rattle.digits.proofs.Tests.{split}
use Rattle.page.specs.Pieces.{Piece, one_longer}
use Rattle.page.specs.Shape.{places, held, marked_places, Sized, Before, CutNowhereElse, MadeSo, OnlySo}
use Rattle.page.proofs.Pieces.{fresh, Made, nothing_left, last, skipped, started, ended, cut, grown, made}

-- ---- made so

-- the piece that is begun is of good size and ends at the place
abbrev pub Stands : (first place : ℕ) → Option Piece → Type 0
Stands first place none = Unit
Stands first place (some p) = Sized first p × (p.place + p.size ≡ place)

pub fresh_stands : (first place : ℕ) → Stands first (suc place) (some (fresh place))
fresh_stands first place = (record { least = omega arith; most = omega arith; unbroken = omega arith }, omega arith)

pub grown_stands : (first place : ℕ) (p : Piece) → p.size ≢ 16 → (first + place) % 65536 ≢ 0 → Stands first place (some p)
    → Stands first (suc place) (some (one_longer p))
grown_stands first place p n k (s, e) =
    (record { least = omega arith; most = omega (arith, s.most); unbroken = room (first + p.place) p.size (first + place) (omega arith) s.unbroken k }, omega arith)
  where
    room : (a n b : ℕ) → a + n ≡ b → a % 65536 + n ≤ 65536 → (b % 65536 ≡ 0 → ⊥) → a % 65536 + suc n ≤ 65536
    room a n b e h z = omega arith

all_sized : {first place : ℕ} {o : Option Piece} {marks : List ℕ} {ps : List Piece} → Made first place o marks ps → Stands first place o → Every (Sized first) ps
all_sized nothing_left s = tt
all_sized last s = (s.0, tt)
all_sized (skipped n d) s = all_sized d tt
all_sized {first} (started {place} e d) s = all_sized d (fresh_stands first place)
all_sized (ended n d) s = (s.0, all_sized d tt)
all_sized {first} (cut {place} e c d) s = (s.0, all_sized d (fresh_stands first place))
all_sized {first} (grown {place} {m} {p} e n k d) s = all_sized d (grown_stands first place p n k s)

-- one place more, at the end
places_snoc : (a n b : ℕ) (l : List ℕ) → a + n ≡ b → places a (suc n) ++ l ≡ places a n ++ (b ∷ l)
unfolding places
places_snoc a zero b l e = ap (λ (x : ℕ). x ∷ l) (omega arith)
places_snoc a (suc n) b l e = ap (λ (x : List ℕ). a ∷ x) (places_snoc (suc a) n b l (omega arith))

-- the places of the piece that is begun
abbrev so_far : Option Piece → List ℕ
so_far none = []
so_far (some p) = places p.place p.size

all_held : {first place : ℕ} {o : Option Piece} {marks : List ℕ} {ps : List Piece} → Made first place o marks ps → Stands first place o
    → held ps ≡ so_far o ++ marked_places place marks
unfolding held marked_places
all_held nothing_left s = refl
all_held last s = refl
all_held (skipped {place} {m} n d) s = rw (ne_eqb m 1 n) (all_held d tt)
all_held {first} (started {place} {m} e d) s = rw (eq-eqb m 1 e) (all_held d (fresh_stands first place))
all_held (ended {place} {m} {p} n d) s = rw (ne_eqb m 1 n) (ap (λ (l : List ℕ). places p.place p.size ++ l) (all_held d tt))
all_held {first} (cut {place} {m} {p} e c d) s =
    rw (eq-eqb m 1 e) (ap (λ (l : List ℕ). places p.place p.size ++ l) (all_held d (fresh_stands first place)))
all_held {first} (grown {place} {m} {p} {marks} e n k d) s =
    rw (eq-eqb m 1 e) (all_held d (grown_stands first place p n k s) ∙ places_snoc p.place p.size place (marked_places (suc place) marks) s.1)

-- a piece may stand ahead of these: one that ends before the place, or one that may stand ahead of the one that is begun
abbrev Joins : (first place : ℕ) → Option Piece → List Piece → Type 0
Joins first place none ps = (p : Piece) → p.place + p.size < place → Before first p ps
Joins first place (some q) ps = (p : Piece) → Before first p (q ∷ []) → Before first p ps

joins : {first place : ℕ} {o : Option Piece} {marks : List ℕ} {ps : List Piece} → Made first place o marks ps → Joins first place o ps
joins nothing_left = λ p h. tt
joins last = λ p h. h
joins (skipped n d) = λ p h. joins d p (omega arith)
joins (started e d) = λ p h. joins d p (λ t. absurd (omega arith))
joins (ended n d) = λ p h. h
joins (cut e c d) = λ p h. h
joins (grown e n k d) = λ p h. joins d p h

all_cut : {first place : ℕ} {o : Option Piece} {marks : List ℕ} {ps : List Piece} → Made first place o marks ps → Stands first place o → CutNowhereElse first ps
all_cut nothing_left s = tt
all_cut last s = (tt, tt)
all_cut (skipped n d) s = all_cut d tt
all_cut {first} (started {place} e d) s = all_cut d (fresh_stands first place)
all_cut (ended {place} {m} {p} n d) s = (joins d p (omega arith), all_cut d tt)
all_cut {first} (cut {place} {m} {p} e c d) s = (joins d p (λ t. c), all_cut d (fresh_stands first place))
all_cut {first} (grown {place} {m} {p} e n k d) s = all_cut d (grown_stands first place p n k s)

pub made_so : MadeSo
made_so first marks = let d = made first 0 none marks in record { holds = all_held d tt; sized = all_sized d tt; cuts = all_cut d tt }

-- ---- nothing else

-- of two runs from one place the shorter one has behind it the place where it ends
run_on : (a n k : ℕ) (X Y : List ℕ) → n < k → places a n ++ X ≡ places a k ++ Y → (Z : List ℕ) × (X ≡ (a + n) ∷ Z)
unfolding places
run_on a zero zero X Y h e = absurd (omega arith)
run_on a (suc n) zero X Y h e = absurd (omega arith)
run_on a zero (suc k) X Y h e = (places (suc a) k ++ Y, rw (add-zero a) e)
run_on a (suc n) (suc k) X Y h e = let b : suc a + n ≡ a + suc n = omega arith in rw b at (run_on (suc a) n k X Y (omega arith) (cc))

same_behind : (a n : ℕ) (X Y : List ℕ) → places a n ++ X ≡ places a n ++ Y → X ≡ Y
unfolding places
same_behind a zero X Y e = e
same_behind a (suc n) X Y e = same_behind (suc a) n X Y (cc)

-- a piece begins with its place
first_place : (p : Piece) (X : List ℕ) → 1 ≤ p.size → (Z : List ℕ) × (places p.place p.size ++ X ≡ p.place ∷ Z)
unfolding places
first_place p X h = go p.size h
  where
    go : (n : ℕ) → 1 ≤ n → (Z : List ℕ) × (places p.place n ++ X ≡ p.place ∷ Z)
    go zero h = absurd (omega arith)
    go (suc n) h = (places (suc p.place) n ++ X, refl)

-- it does not end too early: its follower would begin where it ends, which is no place for a cut
no_shorter : (first place : ℕ) (p q : Piece) (ps : List Piece) (Y : List ℕ) → p.place ≡ place → q.place ≡ place → Sized first p → Sized first q
    → Every (Sized first) ps → Before first p ps → places place p.size ++ held ps ≡ places place q.size ++ Y → q.size ≤ p.size
unfolding held
no_shorter first place p q ps Y d e s t ss b f =
    split q.size p.size (λ l. l) (λ l. let (Z, g) = run_on place p.size q.size (held ps) Y l f in absurd (go ps Z ss b l g))
  where
    wrong : (r : Piece) → r.place ≡ place + p.size → p.size < q.size → (p.size ≡ 16) ⊎ ((first + r.place) % 65536 ≡ 0) → ⊥
    wrong r k l (inl c) = omega (arith, t.most)
    wrong r k l (inr c) = inside (first + q.place) p.size q.size (first + r.place) (omega arith) s.least l t.unbroken c
      where
        inside : (a n k b : ℕ) → b ≡ a + n → 1 ≤ n → n < k → a % 65536 + k ≤ 65536 → b % 65536 ≡ 0 → ⊥
        inside a n k b e l h u z = omega arith

    go : (ps : List Piece) (Z : List ℕ) → Every (Sized first) ps → Before first p ps → p.size < q.size → held ps ≡ (place + p.size) ∷ Z → ⊥
    go [] Z ss b l g = let z : ◌≡◌ {A = ℕ} 0 1 = cc in omega arith
    go (r ∷ ps) Z (u, ss) b l g =
        let (W, h) = first_place r (held ps) u.least in
        let k : r.place ≡ place + p.size = cc in
        wrong r k l (b (omega arith))

only : (first : ℕ) (ps qs : List Piece) → Every (Sized first) ps → Every (Sized first) qs → CutNowhereElse first ps → CutNowhereElse first qs
    → held ps ≡ held qs → ps ≡ qs
unfolding held
only first [] [] ss ts cs ds e = refl
only first [] (q ∷ qs) ss (t, ts) cs ds e = let (Z, g) = first_place q (held qs) t.least in let z : ◌≡◌ {A = ℕ} 0 1 = cc in absurd (omega arith)
only first (p ∷ ps) [] (s, ss) ts cs ds e = let (Z, g) = first_place p (held ps) s.least in let z : ◌≡◌ {A = ℕ} 0 1 = cc in absurd (omega arith)
only first (p ∷ ps) (q ∷ qs) (s, ss) (t, ts) (c, cs) (d, ds) e =
    let (Z, g) = first_place p (held ps) s.least in
    let (W, h) = first_place q (held qs) t.least in
    let a : p.place ≡ q.place = cc in
    let f : places q.place p.size ++ held ps ≡ places q.place q.size ++ held qs = rw a at e in
    let l = no_shorter first q.place p q ps (held qs) a refl s t ss c f in
    let k = no_shorter first q.place q p qs (held ps) refl a t s ts d (sym f) in
    let n : p.size ≡ q.size = omega arith in
    let r = only first ps qs ss ts cs ds (same_behind q.place q.size (held ps) (held qs) (rw n at f)) in
    λ i. record { place = a i; size = n i } ∷ r i

pub only_so : OnlySo
only_so first marks ps qs P Q = only first ps qs P.sized Q.sized P.cuts Q.cuts (P.holds ∙ sym Q.holds)
