-- A capture that stands for an undamaged text, line by line.
-- Assumes nothing.
use Rattle.std.specs.Prelude.{ℕ}
use mathlib.Core.List.{List, [], ◌∷◌, ◌++◌, Memᴰ}
use Rattle.digits.specs.Common.{Every}
use Rattle.record.specs.Refusals.{Refusal}
use Rattle.record.specs.Line.{wrong}
use Rattle.record.specs.Meaning.{Meaning, end_of_file}
use Rattle.reader.specs.Row.{on, row}
use Rattle.reader.specs.Text.{default_options}
use Rattle.salvage.specs.Fates.{Says, Refused, GoesOn}

-- Captured lines stand, in order, for the first lines of a text. Equal lines stand for each other, and so do two lines that say the same
-- record. A refused line stands for any stretch of lines without an end record, also for no line at all. So does a stretch of refused lines.
-- Empty lines may have come or gone. After any line the capture may have broken off. After the end record anything may stand.
pub data Stands : (captured undamaged : List (List ℕ)) → Type 0 where
  broken_off : {us : List (List ℕ)} → Stands [] us
  same : {l : List ℕ} {ls us : List (List ℕ)} → Stands ls us → Stands (l ∷ ls) (l ∷ us)
  respelt : {l u : List ℕ} {ls us : List (List ℕ)} (m : Meaning) → Says l m → Says u m → Stands ls us → Stands (l ∷ ls) (u ∷ us)
  damaged : {l : List ℕ} {ls us : List (List ℕ)} (r : Refusal) (gap : List (List ℕ)) → Refused l r → Every GoesOn gap → Stands ls us → Stands (l ∷ ls) (gap ++ us)
  ended : {l u : List ℕ} {ls us : List (List ℕ)} → Says l end_of_file → Says u end_of_file → Stands (l ∷ ls) (u ∷ us)
  gained : {ls us : List (List ℕ)} → Stands ls us → Stands ([] ∷ ls) us
  lost : {ls us : List (List ℕ)} → Stands ls us → Stands ls ([] ∷ us)

-- one or more refused lines stand for any stretch of lines without an end record
abbrev pub StretchStands : Type 0
StretchStands =
    (l : List ℕ) (rs gap ls us : List (List ℕ)) → Every (λ (x : List ℕ). (r : Refusal) × Refused x r) (l ∷ rs) → Every GoesOn gap → Stands ls us
    → Stands ((l ∷ rs) ++ ls) (gap ++ us)

-- document 02's own form: line for line the same, except that a refused line stands for one that is not the end record
pub data DiffersInRefused : (captured undamaged : List (List ℕ)) → Type 0 where
  no_lines : DiffersInRefused [] []
  equal : {l : List ℕ} {ls us : List (List ℕ)} → DiffersInRefused ls us → DiffersInRefused (l ∷ ls) (l ∷ us)
  instead : {l u : List ℕ} {ls us : List (List ℕ)} (r : Refusal) → Refused l r → GoesOn u → DiffersInRefused ls us → DiffersInRefused (l ∷ ls) (u ∷ us)

-- read with both stops on, the text meets no refused line
abbrev pub Undamaged : (text : List ℕ) → Type 0
Undamaged text = (n : ℕ) (r : Refusal) → ¬ Memᴰ (on n (wrong r)) (row default_options text)

-- the first list, in order, among the second
pub data Among {A : Type 0} : (some_of all : List A) → Type 0 where
  none : {ys : List A} → Among [] ys
  this : {x : A} {xs ys : List A} → Among xs ys → Among (x ∷ xs) (x ∷ ys)
  over : {xs : List A} (y : A) {ys : List A} → Among xs ys → Among xs (y ∷ ys)
