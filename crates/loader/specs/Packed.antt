-- Packed marks say what marks of a byte each would say: document 02, wish 7, as one claim. It is proved in `proofs/Demand3.antt`.
-- Assumes nothing.
use Rattle.std.specs.Prelude.{◌≡◌, ℕ, ◌↔◌, List, length}
use Rattle.marks.specs.Marks.{row_length}
use Rattle.steps.specs.Sites.{Loaded}
use Rattle.window.specs.Loads as loads
use Rattle.window.specs.Loads.{UnpacksTo}
use Rattle.intel.specs.Placing.{intel}
use Rattle.loader.specs.Load.{load}

-- a load whose marks are 0 or 1, a byte for each place
abbrev pub byte_load : List ℕ → (first : ℕ) (page marks : List ℕ) → Loaded
byte_load text first page marks = loads.byte_load intel text first page marks

-- for every text, window and page, and any old marks of both kinds, where both have the length that they should or neither has it
abbrev pub PackedAsBytes : Type 0
PackedAsBytes =
    (text : List ℕ) (first : ℕ) (page marks byte-marks : List ℕ)
    → (length marks ≡ row_length (length page)) ↔ (length byte-marks ≡ length page)
    → UnpacksTo page marks (load text first page marks) (byte_load text first page byte-marks)
