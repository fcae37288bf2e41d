-- A list that is taken one element further, and whole: from the laws of `take`.
-- Assumes nothing.
use Rattle.std.proofs.Common.{◌≡◌, ℕ, ◌+◌, ◌<◌, ◌≤◌, List, [], ◌∷◌, ◌++◌, length, get_or, take, ap, ◌∙◌, subst, add-one, take_all, take-suc}

module _ {X : Type 0} (xs : List X) where
  -- one more
  pub taken_more : (i : ℕ) (d : X) → i < length xs → take (i + 1) xs ≡ take i xs ++ (get_or xs i d ∷ [])
  taken_more i d h = ap (λ (n : ℕ). take n xs) (add-one i) ∙ take-suc xs i d h

  -- what holds of as many as there are, holds of all
  pub taken_all : (P : List X → Type 0) (i : ℕ) → length xs ≤ i → P (take i xs) → P xs
  taken_all P i h = subst P (take_all i xs h)
