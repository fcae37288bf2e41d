-- What is claimed of `copy`; proved in `proofs/Claims.antt`.
-- Assumes nothing.
use Rattle.std.specs.Prelude.{◌≡◌, ℕ, List}
use Rattle.copying.specs.Copying.{Copies}

-- no second answer, and no second content of the target, meets the contract
abbrev pub CopyUnique : Type 0
CopyUnique = (source target : List ℕ) (r r' : ℕ) (t t' : List ℕ) → Copies source target r t → Copies source target r' t' → (r ≡ r') × (t ≡ t')
