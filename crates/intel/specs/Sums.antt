-- Intel's sums under Intel's names, for each of document 02's three cases, and what lines put by them. Each claim is proved in
-- `proofs/Sums.antt`.
-- Assumes nothing.
use Rattle.std.specs.Prelude.{◌≡◌, ◌≢◌, ◌⊎◌, ℕ, ◌+◌, ◌*◌, ◌%◌, ◌^◌, ◌≤◌, ◌<◌, List, [], ◌∷◌, ◌++◌, length, get_or, take}
use Rattle.std.proofs.Math.Option.{some}
use Rattle.digits.specs.Common.{Every}
use Rattle.record.specs.Meaning.{Meaning, data_at, extended_segment, extended_linear}
use Rattle.intel.specs.Lines.{record_on, states}

-- ---- Intel's sums

-- neither a type 02 nor a type 04 record
abbrev pub NoExtension : (line : List ℕ) → Type 0
NoExtension line = (number : ℕ) → (record_on line ≢ some (extended_segment number)) × (record_on line ≢ some (extended_linear number))

-- one of the lines is the record, and no type 02 or 04 follows it
pub record Latest (ahead : List (List ℕ)) (m : Meaning) : Type 0 where
  pub before : List (List ℕ)
  pub line : List ℕ
  pub after : List (List ℕ)
  pub whole : ahead ≡ before ++ (line ∷ after)
  pub there : record_on line ≡ some m
  pub none_later : Every NoExtension after

-- USBA is bits 4 to 19 of the segment base SBA, and ULBA bits 16 to 31 of the linear base LBA; their other bits are zero
abbrev pub SBA : (usba : ℕ) → ℕ
SBA usba = usba * 2 ^ 4

abbrev pub LBA : (ulba : ℕ) → ℕ
LBA ulba = ulba * 2 ^ 16

-- where byte DRI of a data record lies that stands behind these lines and has the load offset DRLO: the sums go modulo 64K and modulo 4G.
-- Each sum is Intel's. That the latest extension record says which holds, and that before any it is the first with a base of zero, is
-- document 02's.
pub data At (ahead : List (List ℕ)) (drlo dri : ℕ) : (address : ℕ) → Type 0 where
  in_segment : (usba : ℕ) → Latest ahead (extended_segment usba) → At ahead drlo dri (SBA usba + (drlo + dri) % 2 ^ 16)
  linearly : (ulba : ℕ) → Latest ahead (extended_linear ulba) → At ahead drlo dri ((LBA ulba + drlo + dri) % 2 ^ 32)
  from_zero : Every NoExtension ahead → At ahead drlo dri ((drlo + dri) % 2 ^ 16)

-- every byte that a data record states lies there
abbrev pub IntelRule : Type 0
IntelRule =
    (ahead : List (List ℕ)) (drlo : ℕ) (bytes : List ℕ)
    → let ps = states ahead (some (data_at drlo bytes)) in
    (length ps ≡ length bytes)
    × ((dri : ℕ) → dri < length bytes → let p = get_or ps dri (record { address = 0; byte = 0 }) in At ahead drlo dri p.address × (p.byte ≡ get_or bytes dri 0))

-- and nowhere else
abbrev pub OneAddress : Type 0
OneAddress = (ahead : List (List ℕ)) (drlo dri a a' : ℕ) → At ahead drlo dri a → At ahead drlo dri a' → a ≡ a'

-- ---- what lines put

-- on line n (the first is 0) stands a data record, and its byte DRI lies at the address
pub record Puts (ls : List (List ℕ)) (n dri address byte : ℕ) : Type 0 where
  pub drlo : ℕ
  pub bytes : List ℕ
  pub there : record_on (get_or ls n []) ≡ some (data_at drlo bytes)
  pub inside : dri < length bytes
  pub holds : get_or bytes dri 0 ≡ byte
  pub at : At (take n ls) drlo dri address

-- the last byte that is put at the address
pub record LastPut (ls : List (List ℕ)) (address byte : ℕ) : Type 0 where
  pub line : ℕ
  pub dri : ℕ
  pub puts : Puts ls line dri address byte
  pub none_later : (n d b : ℕ) → Puts ls n d address b → (n < line) ⊎ ((n ≡ line) × (d ≤ dri))
