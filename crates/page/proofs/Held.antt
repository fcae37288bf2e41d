-- Each piece of marks lies in the page: all its places are there, and marked.
-- Assumes nothing.
use Prim.Native.Nat.{ℕ, zero, suc, ◌+◌, ◌<◌, ◌≤◌}
use mathlib.Core.Path.{◌≡◌, ◌∙◌}
use mathlib.Core.Option.{none}
use mathlib.Core.List.{List, [], ◌∷◌, ◌++◌}
use native.Mathlib.Omega.{arith}
use native.Mathlib.Nat.{add-zero, zero-add}
use lib.ListN.{length, get_or}
use borrow.Author.Tests.{eqb-true}
use Rattle.digits.specs.Common.{Every}
use Rattle.digits.proofs.Tests.{branch}
use Rattle.marks.proofs.Claims.{one_inside}
use Rattle.page.specs.Pieces.{Piece, is_marked, pieces}
use Rattle.page.specs.Shape.{places, held, marked_places, Sized}
use Rattle.page.proofs.Shape.{made_so}

-- a property of a piece's places and of the rest
every_part : (P : ℕ → Type 0) (a n : ℕ) (l : List ℕ) → Every P (places a n ++ l) → ((i : ℕ) → i < n → P (a + i)) × Every P l
unfolding places
every_part P a zero l h = (λ i k. absurd (omega arith), h)
every_part P a (suc n) l (h, hs) = let (f, rest) = every_part P (suc a) n l hs in (λ i k. go i k f, rest)
  where
    go : (i : ℕ) → i < suc n → ((i : ℕ) → i < n → P (suc a + i)) → P (a + i)
    go zero k f = rw (add-zero a) h
    go (suc i) k f = let s : suc a + i ≡ a + suc i = omega arith in rw s at (f i (omega arith))

-- a marked place of a list is one of the whole list
marked_in : (whole : List ℕ) (place : ℕ) (marks : List ℕ) → ((i : ℕ) → get_or whole (place + i) 0 ≡ get_or marks i 0)
    → Every (λ i. get_or whole i 0 ≡ 1) (marked_places place marks)
unfolding marked_places
marked_in whole place [] h = tt
marked_in whole place (m ∷ marks) h =
    let later = marked_in whole (suc place) marks (λ i. let s : suc place + i ≡ place + suc i = omega arith in rw s (h (suc i))) in
    branch (Every (λ i. get_or whole i 0 ≡ 1)) (is_marked m) _ _ (λ e. (rw (add-zero place) at (h 0) ∙ eqb-true m 1 e, later)) (λ e. later)

-- a piece of these marks: of good size, and each of its places there and marked
pub record Good (first : ℕ) (marks : List ℕ) (p : Piece) : Type 0 where
  pub sized : Sized first p
  pub inside : p.place + p.size ≤ length marks
  pub all_marked : (i : ℕ) → i < p.size → get_or marks (p.place + i) 0 ≡ 1

good : (first : ℕ) (marks : List ℕ) (ps : List Piece) → Every (Sized first) ps → Every (λ i. get_or marks i 0 ≡ 1) (held ps) → Every (Good first marks) ps
unfolding held
good first marks [] s h = tt
good first marks (p ∷ ps) (s, ss) h =
    let (m, hs) = every_part (λ i. get_or marks i 0 ≡ 1) p.place p.size (held ps) h in
    (record { sized = s; inside = reaches p.size s.least m; all_marked = m }, good first marks ps ss hs)
  where
    reaches : (n : ℕ) → 1 ≤ n → ((i : ℕ) → i < n → get_or marks (p.place + i) 0 ≡ 1) → p.place + n ≤ length marks
    reaches zero l m = absurd (omega arith)
    reaches (suc n) l m = omega (arith, one_inside marks (p.place + n) (m n (omega arith)))

pub all_good : (first : ℕ) (marks : List ℕ) → Every (Good first marks) (pieces first 0 none marks)
all_good first marks =
    let s = made_so first marks in
    good first marks (pieces first 0 none marks) s.sized (rw s.holds (marked_in marks 0 marks (λ i. rw (zero-add i))))
