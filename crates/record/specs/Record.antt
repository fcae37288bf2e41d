-- The code's `Record`: its type, its numbers, and what it means over the pool that holds its payload.
-- Assumes nothing.
use Rattle.std.specs.Prelude.{ℕ, ◌+◌, ◌≤◌, ◌≡◌, List, [], ◌∷◌, take, drop}
use Rattle.record.specs.declared.Record.{Record}
use Rattle.record.specs.declared.Record.TheVariants.{Data, EndOfFile, ExtendedSegmentAddress, StartSegmentAddress, ExtendedLinearAddress, StartLinearAddress}
use Rattle.record.specs.Meaning.{Meaning, data_at, end_of_file, extended_segment, start_segment, extended_linear, start_linear}

abbrev pub type_of : Record → ℕ
type_of (Data offset at len) = 0
type_of EndOfFile = 1
type_of (ExtendedSegmentAddress a) = 2
type_of (StartSegmentAddress cs ip) = 3
type_of (ExtendedLinearAddress a) = 4
type_of (StartLinearAddress a) = 5

-- of a data record: its offset, and the place and length of its payload in the pool
abbrev pub numbers_of : Record → List ℕ
numbers_of (Data offset at len) = offset ∷ at ∷ len ∷ []
numbers_of EndOfFile = []
numbers_of (ExtendedSegmentAddress a) = a ∷ []
numbers_of (StartSegmentAddress cs ip) = cs ∷ ip ∷ []
numbers_of (ExtendedLinearAddress a) = a ∷ []
numbers_of (StartLinearAddress a) = a ∷ []

abbrev pub meant : Record → (pool : List ℕ) → Meaning
meant (Data offset at len) pool = data_at offset (take len (drop at pool))
meant EndOfFile pool = end_of_file
meant (ExtendedSegmentAddress a) pool = extended_segment a
meant (StartSegmentAddress cs ip) pool = start_segment cs ip
meant (ExtendedLinearAddress a) pool = extended_linear a
meant (StartLinearAddress a) pool = start_linear a

-- the payload lies in a pool of n bytes
abbrev pub Inside : Record → (n : ℕ) → Type 0
Inside (Data offset at len) n = at + len ≤ n
Inside EndOfFile n = Unit
Inside (ExtendedSegmentAddress a) n = Unit
Inside (StartSegmentAddress cs ip) n = Unit
Inside (ExtendedLinearAddress a) n = Unit
Inside (StartLinearAddress a) n = Unit

-- the contract of `Record::record_type`
pub record RecordType (record' : Record) (r : ℕ) : Type 0 where
  pub answer : r ≡ type_of record'
