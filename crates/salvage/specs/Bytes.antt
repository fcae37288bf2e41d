-- One wrong, lost or added byte anywhere in an undamaged text.
-- Assumes nothing.
use Rattle.std.specs.Prelude.{ℕ, ◌≤◌, ◌≡◌, List, [], ◌∷◌, ◌++◌, length}
use Rattle.digits.specs.Common.{Every}
use Rattle.record.specs.Meaning.{end_of_file}
use Rattle.reader.specs.Lines.{lines}
use Rattle.intel.specs.Placing.{placements}
use Rattle.salvage.specs.Salvage.{clean}
use Rattle.salvage.specs.Fates.{Says}
use Rattle.salvage.specs.Standing.{Undamaged, Among}

-- only empty lines stand after an end record
abbrev pub NothingBehind : List (List ℕ) → Type 0
NothingBehind us = (ahead : List (List ℕ)) (e : List ℕ) (behind : List (List ℕ)) → us ≡ ahead ++ (e ∷ behind) → Says e end_of_file → Every (λ (l : List ℕ). l ≡ []) behind

-- a byte or none became a byte or none, anywhere, LF and CR too
abbrev pub OneByteOff : Type 0
OneByteOff =
    (before old new after : List ℕ) → length old ≤ 1 → length new ≤ 1
    → let undamaged = before ++ (old ++ after) in
    Undamaged undamaged → NothingBehind (lines undamaged) → Among (placements (clean (before ++ (new ++ after)))) (placements undamaged)
