-- What the records of a file are, said without the definitions that make them (`pieces`, `records`). Each claim is proved in `proofs/Shape.antt` or `proofs/Records.antt`.
-- Assumes nothing.
use Rattle.std.specs.Prelude.{ℕ, zero, suc, ◌+◌, ◌*◌, ◌%◌, ◌≤◌, ◌≡◌, ◌≢◌, ◌⊎◌, List, [], ◌∷◌, ◌++◌}
use Rattle.std.proofs.Math.Option.{none}
use Rattle.digits.specs.Common.{Every}
use Rattle.std.specs.Prelude.{if◌then◌else◌}
use Rattle.record.specs.declared.Record.{Record}
use Rattle.record.specs.declared.Record.TheVariants.{Data, EndOfFile, ExtendedSegmentAddress, StartSegmentAddress, ExtendedLinearAddress, StartLinearAddress}
use Rattle.page.specs.Pieces.{Piece, is_marked, pieces}
use Rattle.page.specs.File.{lies_at, page_records}

-- ---- the data records

-- n places, from one on
unfoldable pub places : (place n : ℕ) → List ℕ
places place zero = []
places place (suc n) = place ∷ places (suc place) n

-- the places of pieces, one after the other
unfoldable pub held : List Piece → List ℕ
unfolding places
held [] = []
held (p ∷ ps) = places p.place p.size ++ held ps

-- the marked places, in order
unfoldable pub marked_places : (place : ℕ) (flags : List ℕ) → List ℕ
marked_places place [] = []
marked_places place (m ∷ flags) = if is_marked m then place ∷ marked_places (suc place) flags else marked_places (suc place) flags

-- 1 to 16 places, and no multiple of 65,536 inside
pub record Sized (first : ℕ) (p : Piece) : Type 0 where
  pub least : 1 ≤ p.size
  pub most : p.size ≤ 16
  pub unbroken : lies_at first p % 65536 + p.size ≤ 65536

-- two that follow each other touch only where the first is full, or at a multiple of 65,536
abbrev pub Before : (first : ℕ) → Piece → List Piece → Type 0
Before first p [] = Unit
Before first p (q ∷ ps) = p.place + p.size ≡ q.place → (p.size ≡ 16) ⊎ (lies_at first q % 65536 ≡ 0)

abbrev pub CutNowhereElse : (first : ℕ) → List Piece → Type 0
CutNowhereElse first [] = Unit
CutNowhereElse first (p ∷ ps) = Before first p ps × CutNowhereElse first ps

-- the marked places, each once and in order; each piece of good size; no cut but those that are asked for
pub record PiecesOf (first : ℕ) (flags : List ℕ) (ps : List Piece) : Type 0 where
  pub holds : held ps ≡ marked_places 0 flags
  pub sized : Every (Sized first) ps
  pub cuts : CutNowhereElse first ps

-- `pieces` are such, and nothing else is
abbrev pub MadeSo : Type 0
MadeSo = (first : ℕ) (flags : List ℕ) → PiecesOf first flags (pieces first 0 none flags)

abbrev pub OnlySo : Type 0
OnlySo = (first : ℕ) (flags : List ℕ) (ps qs : List Piece) → PiecesOf first flags ps → PiecesOf first flags qs → ps ≡ qs

-- ---- all records

-- the pieces of a list's data records
unfoldable pub data_in : List Record → List Piece
data_in [] = []
data_in (Data offset at len ∷ rs) = record { place = at; size = len } ∷ data_in rs
data_in (EndOfFile ∷ rs) = data_in rs
data_in (ExtendedSegmentAddress a ∷ rs) = data_in rs
data_in (StartSegmentAddress cs ip ∷ rs) = data_in rs
data_in (ExtendedLinearAddress a ∷ rs) = data_in rs
data_in (StartLinearAddress a ∷ rs) = data_in rs

-- what stands ahead of a record: nothing, a type 04 record, or a data record; of each but the first its upper 16 bits
pub data Ahead : Type 0 where
  nothing : Ahead
  extension_to : (upper : ℕ) → Ahead
  data_under : (upper : ℕ) → Ahead

-- what may stand behind what: a type 04 record at the front, or behind data with other upper bits; data behind a type 04 record with
-- their upper bits, or behind data with the same; the end record at the front or behind data, and nothing behind it
pub data Follows (first : ℕ) : Ahead → List Record → Type 0 where
  no_data : Follows first nothing (EndOfFile ∷ [])
  first_upper : (u : ℕ) {rs : List Record} → Follows first (extension_to u) rs → Follows first nothing (ExtendedLinearAddress u ∷ rs)
  at_last : {u : ℕ} → Follows first (data_under u) (EndOfFile ∷ [])
  other_upper : {v : ℕ} (u : ℕ) {rs : List Record} → v ≢ u → Follows first (extension_to u) rs → Follows first (data_under v) (ExtendedLinearAddress u ∷ rs)
  first_data : {u : ℕ} (offset at len : ℕ) {rs : List Record} → first + at ≡ u * 65536 + offset → offset ≤ 65535
      → Follows first (data_under u) rs → Follows first (extension_to u) (Data offset at len ∷ rs)
  more_data : {u : ℕ} (offset at len : ℕ) {rs : List Record} → first + at ≡ u * 65536 + offset → offset ≤ 65535
      → Follows first (data_under u) rs → Follows first (data_under u) (Data offset at len ∷ rs)

-- a file's records: the data records are the pieces of the marked places, and each record stands where it may
pub record RecordsOf (first : ℕ) (flags : List ℕ) (rs : List Record) : Type 0 where
  pub data_are : PiecesOf first flags (data_in rs)
  pub laid_out : Follows first nothing rs

-- `page_records` are such, and nothing else is
abbrev pub RecordsMadeSo : Type 0
RecordsMadeSo = (first : ℕ) (flags : List ℕ) → RecordsOf first flags (page_records first flags)

abbrev pub RecordsOnlySo : Type 0
RecordsOnlySo = (first : ℕ) (flags : List ℕ) (rs : List Record) → RecordsOf first flags rs → rs ≡ page_records first flags
