-- A row of marks packed into bytes: place p is bit p modulo 8 of byte p / 8, lowest bit first. Document 02, wish 7.
-- Assumes nothing.
use Rattle.std.specs.Prelude.{ℕ, zero, suc, ◌+◌, ◌-◌, ◌*◌, ◌/◌, ◌%◌, ◌^◌, ◌≤◌, ◌<◌, max, ◌≡◌, ◌≢◌, ◌⊎◌, ◌↔◌, Bool, true, false, cond, List, [], ◌∷◌, eqb, get_or, set, length, replicate}
use Rattle.std.proofs.Math.Option.{Option, none, some}
use Rattle.std.specs.Int.Bits.{bit_and, bit_or}
use Rattle.marks.specs.Aliases.{Unused}
use Rattle.std.specs.Prelude.{None, Some}

-- ---- what a row says

-- how many bytes hold the marks of so many places: an eighth, rounded up
unfoldable pub row_length : (places : ℕ) → ℕ
row_length places = (places + 7) / 8

-- bit i of a byte, the lowest being bit 0: 0 or 1
unfoldable pub bit : (byte i : ℕ) → ℕ
bit byte i = byte / 2 ^ i % 2

-- the byte that holds the mark of a place; outside the row it is 0
unfoldable pub byte_of : (marks : List ℕ) (place : ℕ) → ℕ
byte_of marks place = get_or marks (place / 8) 0

-- the mark at a place: 1 where the place is marked, else 0; outside the row it is 0
unfoldable pub mark_at : (marks : List ℕ) (place : ℕ) → ℕ
unfolding bit byte_of
mark_at marks place = bit (byte_of marks place) (place % 8)

abbrev pub Marked : (marks : List ℕ) (place : ℕ) → Type 0
Marked marks place = mark_at marks place ≡ 1

abbrev pub Unmarked : (marks : List ℕ) (place : ℕ) → Type 0
Unmarked marks place = mark_at marks place ≢ 1

-- ---- one number for each place

-- f 0, f 1, .., so many
unfoldable pub listed : (f : ℕ → ℕ) (count : ℕ) → List ℕ
listed f zero = []
listed f (suc count) = f 0 ∷ listed (λ i. f (suc i)) count

-- a row unpacked: the marks of so many places, a number for each
unfoldable pub flags : (places : ℕ) (marks : List ℕ) → List ℕ
unfolding listed mark_at
flags places marks = listed (mark_at marks) places

-- every bit of a row, a number for each
unfoldable pub bits : (marks : List ℕ) → List ℕ
unfolding flags
bits marks = flags (8 * length marks) marks

-- the number of so many bits, the lowest first
unfoldable pub number : (count : ℕ) (f : ℕ → ℕ) → ℕ
number zero f = 0
number (suc count) f = f 0 + 2 * number count (λ i. f (suc i))

-- flags packed into a row; its unused bits are 0
unfoldable pub packed : (flags : List ℕ) → List ℕ
unfolding listed number row_length
packed flags = listed (λ q. number 8 (λ i. get_or flags (8 * q + i) 0)) (row_length (length flags))

-- ---- the unused bits: those of the last byte after the last place

-- the first marked one of so many places, from a place on
unfoldable pub first_marked : (marks : List ℕ) (from count : ℕ) → Option ℕ
unfolding mark_at
first_marked marks from zero = none
first_marked marks from (suc count) = cond (eqb (mark_at marks from) 1) (some from) (first_marked marks (suc from) count)

-- the lowest unused bit that is set, by the place that it would have
unfoldable pub first_unused : (places : ℕ) (marks : List ℕ) → Option ℕ
unfolding first_marked row_length
first_unused places marks = first_marked marks places (8 * row_length places - places)

-- none is set
abbrev pub UnusedClear : (places : ℕ) (marks : List ℕ) → Type 0
UnusedClear places marks = (p : ℕ) → places ≤ p → mark_at marks p ≡ 0

-- ---- the row with a run of places marked, or with their marks taken away

-- a byte with the bits of a mask set, or else cleared: less those that it has of the mask's
unfoldable pub with_bits : (on : Bool) (byte mask : ℕ) → ℕ
with_bits true byte mask = bit_or byte mask
with_bits false byte mask = byte - bit_and byte mask

-- with one place marked, or else its mark taken away; a place outside the row changes nothing
unfoldable pub with_mark : (on : Bool) (marks : List ℕ) (place : ℕ) → List ℕ
unfolding byte_of with_bits
with_mark on marks place = set marks (place / 8) (with_bits on (byte_of marks place) (2 ^ (place % 8)))

-- one place after the other
unfoldable pub changed_run : (on : Bool) (marks : List ℕ) (from len : ℕ) → List ℕ
unfolding with_mark
changed_run on marks from zero = marks
changed_run on marks from (suc len) = changed_run on (with_mark on marks from) (suc from) len

abbrev pub marked_run : (marks : List ℕ) (from len : ℕ) → List ℕ
marked_run = changed_run true

abbrev pub cleared_run : (marks : List ℕ) (from len : ℕ) → List ℕ
cleared_run = changed_run false

-- ---- contracts

-- of `row_length`
pub record RowLength (places r : ℕ) : Type 0 where
  pub answer : r ≡ row_length places

-- of `is_marked`
pub record IsMarked (marks : List ℕ) (place : ℕ) (r : Bool) : Type 0 where
  pub answer : (r ≡ true) ↔ Marked marks place

-- of `first_unused`
abbrev pub told_unused : Unused → Option ℕ
told_unused None = none
told_unused (Some p) = some p

pub record FirstUnused (marks : List ℕ) (places : ℕ) (r : Unused) : Type 0 where
  pub answer : told_unused r ≡ first_unused places marks

-- of `clear`: as many zeros
pub record Clears (marks marks' : List ℕ) : Type 0 where
  pub left : marks' ≡ replicate (length marks) 0

-- of `mark_run`
pub record MarkRun (marks : List ℕ) (from len : ℕ) (marks' : List ℕ) : Type 0 where
  pub left : marks' ≡ marked_run marks from len

-- of `clear_run`
pub record ClearRun (marks : List ℕ) (from len : ℕ) (marks' : List ℕ) : Type 0 where
  pub left : marks' ≡ cleared_run marks from len

-- ---- contracts of the searches

-- from a place on others are passed, up to the first that is found or to the number of places; from beyond that none is passed
pub record Next (Passed Found : ℕ → Type 0) (places from r : ℕ) : Type 0 where
  pub low : from ≤ r
  pub high : r ≤ max from places
  pub passed : (p : ℕ) → from ≤ p → p < r → Passed p
  pub there : (places ≤ r) ⊎ Found r

abbrev pub NextMarked : (marks : List ℕ) (places from r : ℕ) → Type 0
NextMarked marks = Next (Unmarked marks) (Marked marks)

abbrev pub NextUnmarked : (marks : List ℕ) (places from r : ℕ) → Type 0
NextUnmarked marks = Next (Marked marks) (Unmarked marks)

-- ---- contracts of the private functions

-- the byte whose bits from one on are set, so many
abbrev pub ones_at : (first count : ℕ) → ℕ
ones_at first count = (2 ^ count - 1) * 2 ^ first

-- of `change_run`: marked, or else the marks taken away
pub record ChangeRun (on : Bool) (marks : List ℕ) (from len : ℕ) (marks' : List ℕ) : Type 0 where
  pub left : marks' ≡ changed_run on marks from len

-- the lowest set bit of a number; where the number has n bits it is one of those
pub record Lowest (number r : ℕ) : Type 0 where
  pub near : (n : ℕ) → number < 2 ^ n → r < n
  pub clear : (i : ℕ) → i < r → bit number i ≡ 0
  pub set : bit number r ≡ 1

-- where bit 0 has a place: the place of the lowest set bit, or the number of places
pub record LowestPlace (places place number r : ℕ) : Type 0 where
  pub low : place ≤ r
  pub high : r ≤ places
  pub near : (n : ℕ) → number < 2 ^ n → r < place + n
  pub clear : (i : ℕ) → place + i < r → bit number i ≡ 0
  pub there : (r ≡ places) ⊎ (bit number (r - place) ≡ 1)

-- a byte with a 1 for each place that is sought: that is marked, or else that is not
unfoldable pub sought : (marked : Bool) (byte : ℕ) → ℕ
sought true byte = byte
sought false byte = 255 - byte

-- of `next`: the next marked place, or else the next without a mark
abbrev pub NextOf : (marked : Bool) (marks : List ℕ) (places from r : ℕ) → Type 0
NextOf true = NextMarked
NextOf false = NextUnmarked
