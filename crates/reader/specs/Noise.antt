-- What noise can do to a line, of the record reader: by its contract alone. Each claim is proved in `proofs/Noise.antt`.
-- Assumes nothing.
use Rattle.std.specs.Prelude.{ℕ, ◌≢◌, List, ◌∷◌, ◌++◌, length}
use Rattle.record.specs.Refusals.{Refusal}
use Rattle.record.specs.Noise.{SaysARecord, AnswerToWrong}
use Rattle.record.specs.declared.Record.{Record}
use Rattle.reader.specs.Aliases.{Answer}
use Rattle.reader.specs.Told.{Told, refuses, told}
use Rattle.reader.specs.Answer.{ReadRecord}
use Rattle.std.specs.Prelude.{Ok}

-- a record is given only for a line that says one
abbrev pub GivenIsSaid : Type 0
GivenIsSaid = (line pool : List ℕ) (at : ℕ) (x : Record) (p : List ℕ) → ReadRecord line pool at (Ok x) p → SaysARecord line

-- what the reader returns, and what the pool holds then
pub record ReadWith : Type 0 where
  pub answer : Told
  pub pool : List ℕ

abbrev pub read_with : Told → List ℕ → ReadWith
read_with answer pool = record { answer = answer; pool = pool }

-- One character of a line that says a record, changed to any other, read with the same pool and position: a refusal that changes no
-- byte of the pool, or the same answer and the same pool. This holds where the pool is too full for the record, too.
abbrev pub OneWrongCharacterRead : Type 0
OneWrongCharacterRead =
    (before : List ℕ) (c d : ℕ) (after pool : List ℕ) (at : ℕ) (r r' : Answer) (p p' : List ℕ) → c ≢ d → SaysARecord (before ++ (c ∷ after))
    → ReadRecord (before ++ (c ∷ after)) pool at r p → ReadRecord (before ++ (d ∷ after)) pool at r' p'
    → AnswerToWrong (λ (f : Refusal). read_with (refuses f) pool) (read_with (told r) p) (length before) c d (before ++ (d ∷ after)) (read_with (told r') p')
