-- The record reader's answer, and the pool after it, from what the line says.
-- Assumes nothing.
use Rattle.std.specs.Prelude.{◌≡◌, ℕ, List, [], ◌∷◌, length}
use Rattle.digits.specs.Common.{pasted}
use Rattle.std.specs.Prelude.{if◌then◌else◌}
use Rattle.record.specs.Refusals.{pool_full}
use Rattle.record.specs.Line.{Said, says, wrong}
use Rattle.reader.specs.Told.{Told, gives, refuses, refusal_of}
use Rattle.reader.specs.Answer.{fits_pool}
use Rattle.srec.specs.Aliases.{SAnswer}
use Rattle.srec.specs.Types.{holds_data}
use Rattle.srec.specs.Line.{judge}
use Rattle.srec.specs.Record.{digit_of, numbers_of}
use Rattle.std.specs.Prelude.{Err, Ok}

-- what an answer tells: the type's digit, then address, position and length; or a refusal
abbrev pub told_sanswer : SAnswer → Told
told_sanswer (Ok r) = gives (digit_of r.kind) (numbers_of r)
told_sanswer (Err e) = refuses (refusal_of e)

-- what is returned for a record that goes into a pool of n bytes at a position: S5 and the ends have no data, and name no place of the pool
unfoldable pub answered : Said → (n at : ℕ) → Told
answered (says kind address payload) n at =
    if holds_data kind
    then (if fits_pool n at payload then gives kind (address ∷ at ∷ length payload ∷ []) else refuses pool_full)
    else gives kind (address ∷ 0 ∷ 0 ∷ [])
answered (wrong r) n at = refuses r

-- the pool after a record: only data that fits changes it
unfoldable pub poured : Said → (pool : List ℕ) (at : ℕ) → List ℕ
poured (says kind address payload) pool at =
    if holds_data kind
    then (if fits_pool (length pool) at payload then pasted pool at payload else pool)
    else pool
poured (wrong r) pool at = pool

-- what a reader of one thing said answers, and leaves in the pool
pub record Reads (said : Said) (pool : List ℕ) (at : ℕ) (r : SAnswer) (pool' : List ℕ) : Type 0 where
  pub answer : told_sanswer r ≡ answered said (length pool) at
  pub left : pool' ≡ poured said pool at

-- the contract of `read_srecord`
abbrev pub ReadSRecord : (line pool : List ℕ) (at : ℕ) → SAnswer → (pool' : List ℕ) → Type 0
ReadSRecord line pool at r pool' = Reads (judge line) pool at r pool'
