-- What noise can do to a line and to a dump, of `ihex_read_record` and `ihex_load`. Each claim is proved in `proofs/Noise.antt`.
-- Assumes nothing.
use Rattle.std.specs.Prelude.{ℕ, ◌<◌, ◌≡◌, ◌≢◌, ◌⊎◌, List, ◌∷◌, ◌++◌, length}
use Rattle.record.specs.Refusals.{Refusal}
use Rattle.record.specs.Noise.{AnswerToWrong}
use Rattle.loader.specs.Noise.{Damaged}
use Rattle.codes.specs.Codes.{OK, POOL_FULL, LoadNumbers, value, refused_with}
use Rattle.ihex.specs.Entries.{IhexReadRecord, IhexLoad}

-- what `ihex_read_record` returns, and what the pool holds then
pub record ReturnedRecord : Type 0 where
  pub code : ℕ
  pub a : ℕ
  pub b : ℕ
  pub c : ℕ
  pub pool : List ℕ

abbrev pub returned : (code a b c : ℕ) (pool : List ℕ) → ReturnedRecord
returned code a b c pool = record { code = code; a = a; b = b; c = c; pool = pool }

-- a refusal in numbers, with no byte of the pool changed
abbrev pub refuse : (pool : List ℕ) → Refusal → ReturnedRecord
refuse pool r = let m = refused_with r in returned m.code (value m 0) (value m 1) (value m 2) pool

-- One character of a line that gives a record, changed to any other, read with the same pool and position: 1, 2 or 6 with no byte of the
-- pool changed, or the same numbers and the same pool. This holds where the pool is too full for the record, too.
abbrev pub IhexOneWrongCharacter : Type 0
IhexOneWrongCharacter =
    (before : List ℕ) (x y : ℕ) (after pool : List ℕ) (at r a b c : ℕ) (p : List ℕ) (r' a' b' c' : ℕ) (p' : List ℕ) → x ≢ y
    → IhexReadRecord (before ++ (x ∷ after)) pool at r a b c p → (r < 6) ⊎ (r ≡ POOL_FULL)
    → IhexReadRecord (before ++ (y ∷ after)) pool at r' a' b' c' p'
    → AnswerToWrong (refuse pool) (returned r a b c p) (length before) x y (before ++ (y ∷ after)) (returned r' a' b' c' p')

-- If `ihex_load` accepts a text, it refuses the damaged text and leaves page and marks as they were, or it is the very same load: what is
-- returned, page and marks.
abbrev pub IhexDamageIsNoticed : Type 0
IhexDamageIsNoticed =
    (text text' : List ℕ) → Damaged text text'
    → (first : ℕ) (page marks : List ℕ) (r : LoadNumbers) (p m : List ℕ) → IhexLoad text first page marks r p m → r.code ≡ OK
    → (r' : LoadNumbers) (p' m' : List ℕ) → IhexLoad text' first page marks r' p' m'
    → ((r'.code ≢ OK) × (p' ≡ page) × (m' ≡ marks)) ⊎ ((r' ≡ r) × (p' ≡ p) × (m' ≡ m))
