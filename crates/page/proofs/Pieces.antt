-- `pieces`, place by place: what its tests mean, and its seven cases as a derivation. What the records are, and how long, is proved by these.
-- Assumes nothing.
use Prim.Native.Nat.{ℕ, suc, ◌+◌, ◌%◌}
use mathlib.Core.Path.{◌≡◌}
use mathlib.Core.Logic.{◌≢◌, ◌⊎◌, inl, inr}
use mathlib.Core.Bool.{Bool, true, false, not, ◌||◌}
use mathlib.Core.Option.{Option, none, some}
use mathlib.Core.List.{List, [], ◌∷◌}
use lib.Dec.{eqb}
use borrow.Author.Tests.{eqb-true, eqb-false, eq-eqb, not-false}
use Rattle.digits.proofs.Tests.{branch, or_false}
use Rattle.page.specs.Pieces.{Piece, is_marked, ends_before, one_longer, pieces}

-- ---- the tests, as facts

-- a piece that does not end before a place: the place is marked, the piece is not full, and no multiple of 65,536 is there
pub goes_on : (p : Piece) (m a : ℕ) → ends_before p m a ≡ false → (m ≡ 1) × (p.size ≢ 16) × (a % 65536 ≢ 0)
unfolding ends_before
goes_on p m a e =
    let (f, g) = or_false (not (is_marked m)) _ e in
    let (h, k) = or_false (eqb p.size _) _ g in
    (eqb-true m 1 (not-false (is_marked m) f), eqb-false p.size 16 h, eqb-false (a % 65536) 0 k)

-- one that ends before a marked place is full, or a multiple of 65,536 is there
pub stops : (p : Piece) (m a : ℕ) → ends_before p m a ≡ true → m ≡ 1 → (p.size ≡ 16) ⊎ (a % 65536 ≡ 0)
unfolding ends_before
stops p m a e h = go (eqb p.size _) (eqb-true p.size 16) (rw (eq-eqb m 1 h) at e)
  where
    go : (b : Bool) → (b ≡ true → p.size ≡ 16) → b || eqb (a % 65536) 0 ≡ true → (p.size ≡ 16) ⊎ (a % 65536 ≡ 0)
    go true f e = inl (f e)
    go false f e = inr (eqb-true (a % 65536) 0 e)

-- ---- the cases

-- the piece of one place
abbrev pub fresh : ℕ → Piece
fresh place = record { place = place; size = 1 }

-- how the pieces from a place on come about, with the one that is begun there, if one is
pub data Made (first : ℕ) : (place : ℕ) → Option Piece → (marks : List ℕ) → List Piece → Type 0 where
  nothing_left : {place : ℕ} → Made first place none [] []
  last : {place : ℕ} {p : Piece} → Made first place (some p) [] (p ∷ [])
  skipped : {place m : ℕ} {marks : List ℕ} {ps : List Piece} → m ≢ 1
      → Made first (suc place) none marks ps → Made first place none (m ∷ marks) ps
  started : {place m : ℕ} {marks : List ℕ} {ps : List Piece} → m ≡ 1
      → Made first (suc place) (some (fresh place)) marks ps → Made first place none (m ∷ marks) ps
  ended : {place m : ℕ} {p : Piece} {marks : List ℕ} {ps : List Piece} → m ≢ 1
      → Made first (suc place) none marks ps → Made first place (some p) (m ∷ marks) (p ∷ ps)
  cut : {place m : ℕ} {p : Piece} {marks : List ℕ} {ps : List Piece} → m ≡ 1 → (p.size ≡ 16) ⊎ ((first + place) % 65536 ≡ 0)
      → Made first (suc place) (some (fresh place)) marks ps → Made first place (some p) (m ∷ marks) (p ∷ ps)
  grown : {place m : ℕ} {p : Piece} {marks : List ℕ} {ps : List Piece} → m ≡ 1 → p.size ≢ 16 → (first + place) % 65536 ≢ 0
      → Made first (suc place) (some (one_longer p)) marks ps → Made first place (some p) (m ∷ marks) ps

-- `pieces` come about so
pub made : (first place : ℕ) (begun : Option Piece) (marks : List ℕ) → Made first place begun marks (pieces first place begun marks)
unfolding pieces
made first place none [] = nothing_left
made first place (some p) [] = last
made first place none (m ∷ marks) =
    branch (λ (o : Option Piece). Made first place none (m ∷ marks) (pieces first (suc place) o marks)) (is_marked m) (some (fresh place)) none
    (λ e. started (eqb-true m 1 e) (made first (suc place) (some (fresh place)) marks))
    (λ e. skipped (eqb-false m 1 e) (made first (suc place) none marks))
made first place (some p) (m ∷ marks) =
    branch (λ (l : List Piece). Made first place (some p) (m ∷ marks) l) (ends_before p m (first + place)) _ (pieces first (suc place) (some (one_longer p)) marks)
    (λ e. branch (λ (o : Option Piece). Made first place (some p) (m ∷ marks) (p ∷ pieces first (suc place) o marks)) (is_marked m) (some (fresh place)) none
    (λ f. let g = eqb-true m 1 f in cut g (stops p m (first + place) e g) (made first (suc place) (some (fresh place)) marks))
    (λ f. ended (eqb-false m 1 f) (made first (suc place) none marks)))
    (λ e. let (f, g, h) = goes_on p m (first + place) e in grown f g h (made first (suc place) (some (one_longer p)) marks))
