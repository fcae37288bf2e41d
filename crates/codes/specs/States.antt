-- States of readers and places of lines in numbers, as C has them.
-- Assumes nothing.
use Rattle.std.specs.Prelude.{ℕ, ◌+◌, ◌/◌, ◌%◌, ◌≤◌, ◌≡◌, Bool, eqb}
use Rattle.std.specs.Prelude.{if◌then◌else◌}
use Rattle.reader.specs.declared.ReaderOptions.{ReaderOptions}
use Rattle.reader.specs.declared.State.{State}
use Rattle.chunks.specs.declared.Chunks.{Chunks}
use Rattle.chunks.specs.declared.Place.{Place}
use Rattle.chunks.specs.declared.Place.TheVariants.{Nowhere, InChunk, InCarry}
use Rattle.codes.specs.declared.Spot.{Spot}

-- is bit k set, where `unit` is 2 to the k?
abbrev pub bit : (flags unit : ℕ) → Bool
bit flags unit = eqb (flags / unit % 2) 1

abbrev pub options_of : (flags : ℕ) → ReaderOptions
options_of flags = record { stop_after_first_error = eqb (flags % 2) 1; stop_after_eof = bit flags 2 }

abbrev pub state_of : (position line flags : ℕ) → State
state_of position line flags = record { position = position; line = line; finished = bit flags 4; options = options_of flags }

abbrev pub flags_of : State → ℕ
flags_of s =
    (if s.options.stop_after_first_error then 1 else 0)
    + ((if s.options.stop_after_eof then 2 else 0) + (if s.finished then 4 else 0))

-- the state of a reader of chunks
abbrev pub chunks_of : (position line empties used skipped flags : ℕ) → Chunks
chunks_of position line empties used skipped flags =
    record {
      position = position;
      line = line;
      empties = empties;
      used = used;
      skipped = skipped;
      cr = bit flags 8;
      finished = bit flags 4;
      options = options_of flags;
    }

abbrev pub chunk_flags_of : Chunks → ℕ
chunk_flags_of s =
    (if s.options.stop_after_first_error then 1 else 0)
    + ((if s.options.stop_after_eof then 2 else 0) + ((if s.finished then 4 else 0) + (if s.cr then 8 else 0)))

-- the contracts of `state_from`, `flags_from`, `chunks_from` and `chunk_flags_from`
pub record StateFrom (position line flags : ℕ) (r : State) : Type 0 where
  pub answer : r ≡ state_of position line flags

pub record FlagsFrom (s : State) (r : ℕ) : Type 0 where
  pub answer : r ≡ flags_of s

pub record ChunksFrom (position line empties used skipped flags : ℕ) (r : Chunks) : Type 0 where
  pub answer : r ≡ chunks_of position line empties used skipped flags

pub record ChunkFlagsFrom (s : Chunks) (r : ℕ) : Type 0 where
  pub answer : r ≡ chunk_flags_of s

-- a flag's share of the flags
pub record Flag (set : Bool) (value r : ℕ) : Type 0 where
  pub is : r ≡ (if set then value else 0)
  pub small : r ≤ value

-- ---- a place in numbers: 0 is nowhere, 1 in the chunk, 2 in the carry

abbrev pub lies_of : Place → ℕ
lies_of Nowhere = 0
lies_of (InChunk from len) = 1
lies_of (InCarry len) = 2

abbrev pub from_of : Place → ℕ
from_of Nowhere = 0
from_of (InChunk from len) = from
from_of (InCarry len) = 0

abbrev pub len_of : Place → ℕ
len_of Nowhere = 0
len_of (InChunk from len) = len
len_of (InCarry len) = len

pub record Spotted (p : Place) (lies from len : ℕ) : Type 0 where
  pub lies_is : lies ≡ lies_of p
  pub from_is : from ≡ from_of p
  pub len_is : len ≡ len_of p

abbrev pub SpotAs : Place → Spot → Type 0
SpotAs p r = Spotted p r.lies r.from r.len

-- any other number is nowhere, and what lies in the carry begins at its front
abbrev pub place_of : (lies from len : ℕ) → Place
place_of lies from len = if eqb lies 1 then InChunk from len else if eqb lies 2 then InCarry len else Nowhere

pub record PlaceFrom (lies from len : ℕ) (r : Place) : Type 0 where
  pub answer : r ≡ place_of lies from len
