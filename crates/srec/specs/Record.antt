-- The code's `SType` and `SRecord`: a type's digit, the type that a digit names, and a record's numbers.
-- Assumes nothing.
use Rattle.std.specs.Prelude.{◌≡◌, ℕ, List, [], ◌∷◌, take, drop}
use Rattle.std.proofs.Math.Option.{Option, none, some}
use Rattle.std.specs.Prelude.{if◌then◌else◌}
use Rattle.srec.specs.declared.SType.{SType}
use Rattle.srec.specs.declared.SType.TheVariants.{S0, S1, S2, S3, S5, S7, S8, S9}
use Rattle.srec.specs.declared.SRecord.{SRecord}
use Rattle.srec.specs.Aliases.{Named}
use Rattle.srec.specs.Types.{is_named}
use Rattle.std.specs.Prelude.{None, Some}

abbrev pub digit_of : SType → ℕ
digit_of S0 = 0
digit_of S1 = 1
digit_of S2 = 2
digit_of S3 = 3
digit_of S5 = 5
digit_of S7 = 7
digit_of S8 = 8
digit_of S9 = 9

-- the contract of `SType::digit`
pub record DigitOf (t : SType) (r : ℕ) : Type 0 where
  pub answer : r ≡ digit_of t

-- the digit of the type that was named, if one was
abbrev pub told_type : Named → Option ℕ
told_type (Some t) = some (digit_of t)
told_type None = none

-- the contract of `type_of`
pub record TypeOf (digit : ℕ) (r : Named) : Type 0 where
  pub answer : told_type r ≡ (if is_named digit then some digit else none)

-- address, and the place and length of the data in the pool
abbrev pub numbers_of : SRecord → List ℕ
numbers_of r = r.address ∷ r.at ∷ r.len ∷ []

-- the data
abbrev pub data_of : SRecord → (pool : List ℕ) → List ℕ
data_of r pool = take r.len (drop r.at pool)
