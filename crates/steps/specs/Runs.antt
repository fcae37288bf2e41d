-- Bytes at addresses: a run has them one after the other. What lies outside of one, and the marks of placements. Each claim is proved in
-- `proofs/Runs.antt`.
-- Assumes nothing.
use Rattle.std.specs.Prelude.{◌≡◌, ℕ, suc, List, [], ◌∷◌, map}
use Rattle.std.proofs.Math.Option.{Option, none, some}
use Rattle.steps.specs.Steps.{Placement}
use Rattle.steps.specs.Sites.{painted, marked}

-- the bytes of a record from byte i on, each where a function of its number says
unfoldable pub spread : (at : ℕ → ℕ) → (i : ℕ) → List ℕ → List Placement
spread at i [] = []
spread at i (b ∷ bytes) = record { address = at i; byte = b } ∷ spread at (suc i) bytes

-- the first byte at the address, each further one at the next
unfoldable pub run : (address : ℕ) → List ℕ → List Placement
run address [] = []
run address (b ∷ bytes) = record { address = address; byte = b } ∷ run (suc address) bytes

-- the mark of a placement, as a placement
abbrev pub as_mark : Placement → Placement
as_mark p = record { address = p.address; byte = 1 }

-- a place that shows an address is cleared, any other keeps its mark
abbrev pub clear_at : (shows : Option ℕ) → (old : ℕ) → ℕ
clear_at none old = old
clear_at (some address) old = 0

unfoldable pub cleared : (site : ℕ → Option ℕ) → (i : ℕ) → (marks : List ℕ) → List ℕ
cleared site i [] = []
cleared site i (old ∷ marks) = clear_at (site i) old ∷ cleared site (suc i) marks

-- marks are ones, painted upon cleared marks
abbrev pub MarksByOnes : Type 0
MarksByOnes = (site : ℕ → Option ℕ) (ps : List Placement) (marks : List ℕ) → marked site 0 ps marks ≡ painted site 0 (map as_mark ps) (cleared site 0 marks)
