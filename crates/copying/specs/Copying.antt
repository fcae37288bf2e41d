-- A copy to the start of a place: whole where there is room for it, and else not at all.
-- Assumes nothing.
use Rattle.std.specs.Prelude.{◌≡◌, ℕ, ◌<◌, ◌≤◌, List, ◌++◌, length, drop}

-- the contract of `copy`: what the target holds after it, and how many bytes were copied
pub record Copies (source target : List ℕ) (r : ℕ) (target' : List ℕ) : Type 0 where
  pub all : length source ≤ length target → (r ≡ length source) × (target' ≡ source ++ drop (length source) target)
  pub none : length target < length source → (r ≡ 0) × (target' ≡ target)
