-- What is claimed of a window. Each claim is proved in `proofs/Claims.antt`: the same name, in small letters.
-- Assumes nothing.
use Rattle.std.specs.Prelude.{◌≡◌, ◌↔◌, ◌⊎◌, ℕ, ◌+◌, ◌*◌, ◌^◌, ◌≤◌, ◌<◌, Bool, true, false, List, length, get_or}
use Rattle.std.proofs.Math.Option.{Option, none, some}
use Rattle.marks.specs.Marks.{row_length, mark_at}
use Rattle.marks.specs.Claims.{Bytes}
use Rattle.steps.specs.Runs.{run}
use Rattle.window.specs.Aliases.{Reach}
use Rattle.window.specs.declared.Row.{Row}
use Rattle.window.specs.Window.{within, window}
use Rattle.window.specs.Promises.{OneWindow, IsUnfit, IsBadTable, FirstOutside, Painted, PutRun, PutInside, ClearMarks}
use Rattle.window.specs.Table.{site_of, Sound, BadTable}

-- an address is held exactly if it is one of the window's
abbrev pub HoldsItsAddresses : Type 0
HoldsItsAddresses = (first size address : ℕ) → (within first size address ≡ true) ↔ ((first ≤ address) × (address < first + size))

-- and exactly if one of its places shows it: a load takes no address that it could not store
abbrev pub ShownIffWithin : Type 0
ShownIffWithin = (first size address : ℕ) → (within first size address ≡ true) ↔ ((i : ℕ) × (window first size i ≡ some address))

-- a window that is not refused
pub record Window (first : ℕ) (page marks : List ℕ) : Type 0 where
  pub row : length marks ≡ row_length (length page)
  pub small : length page ≤ 65536
  pub below : first + length page ≤ 2 ^ 32

-- `is_unfit` returns true exactly where 16 refuses the window
abbrev pub UnfitIsNoWindow : Type 0
UnfitIsNoWindow =
    (first : ℕ) (page marks : List ℕ) (r : Bool) → IsUnfit first (length page) (length marks) r → (r ≡ false) ↔ Window first page marks

-- `is_bad_table` returns true exactly where 23 refuses the table, or the call with it
abbrev pub BadTableIsRefused : Type 0
BadTableIsRefused =
    (owner : ℕ) (rows : List Row) (pool marks : ℕ) (r : Bool) → IsBadTable owner rows pool marks r → (r ≡ true) ↔ BadTable owner pool marks rows

-- the place shows an address that is not one of the run's, or none
abbrev pub Beside : (address len : ℕ) → Option ℕ → Type 0
Beside address len none = Unit
Beside address len (some a) = (a < address) ⊎ (address + len ≤ a)

-- a run stored, place by place: byte k of the run is at the place that shows its address, and the place is marked; every other place keeps
-- byte and mark
pub record StoredRun (site : ℕ → Option ℕ) (address : ℕ) (bytes page marks page' marks' : List ℕ) : Type 0 where
  pub page_length : length page' ≡ length page
  pub marks_length : length marks' ≡ length marks
  pub marks_bytes : Bytes marks → Bytes marks'
  pub byte : (i k : ℕ) → i < length page → k < length bytes → site i ≡ some (address + k) → get_or page' i 0 ≡ get_or bytes k 0
  pub marked : (i k : ℕ) → k < length bytes → site i ≡ some (address + k) → i < 8 * length marks → mark_at marks' i ≡ 1
  pub byte_kept : (i : ℕ) → Beside address (length bytes) (site i) → get_or page' i 0 ≡ get_or page i 0
  pub mark_kept : (i : ℕ) → Beside address (length bytes) (site i) → mark_at marks' i ≡ mark_at marks i

-- that is what a run painted through a site is, neither more nor less
abbrev pub RunIsStored : Type 0
RunIsStored =
    (site : ℕ → Option ℕ) (address : ℕ) (bytes page marks page' marks' : List ℕ)
    → Painted site (run address bytes) page marks page' marks' ↔ StoredRun site address bytes page marks page' marks'

-- and it is what `put_run` does, in a table that is not refused
abbrev pub PutThroughSite : Type 0
PutThroughSite =
    (owner : ℕ) (rows : List Row) (address : ℕ) (bytes page marks page' marks' : List ℕ) → Sound (length page) rows
    → PutRun owner rows address bytes page marks page' marks' → Painted (site_of owner rows) (run address bytes) page marks page' marks'

-- ---- no second answer meets a contract

abbrev pub OneWindowUnique : Type 0
OneWindowUnique = (first places : ℕ) (r r' : List Row) → OneWindow first places r → OneWindow first places r' → r ≡ r'

abbrev pub IsUnfitUnique : Type 0
IsUnfitUnique = (first page marks : ℕ) (r r' : Bool) → IsUnfit first page marks r → IsUnfit first page marks r' → r ≡ r'

abbrev pub IsBadTableUnique : Type 0
IsBadTableUnique =
    (owner : ℕ) (rows : List Row) (pool marks : ℕ) (r r' : Bool) → IsBadTable owner rows pool marks r → IsBadTable owner rows pool marks r' → r ≡ r'

abbrev pub FirstOutsideUnique : Type 0
FirstOutsideUnique = (inside : ℕ → Bool) (address len : ℕ) (r r' : Reach) → FirstOutside inside address len r → FirstOutside inside address len r' → r ≡ r'

abbrev pub PutRunUnique : Type 0
PutRunUnique =
    (owner : ℕ) (rows : List Row) (address : ℕ) (bytes page marks p p' m m' : List ℕ) → Bytes marks
    → PutRun owner rows address bytes page marks p m → PutRun owner rows address bytes page marks p' m' → (p ≡ p') × (m ≡ m')

abbrev pub PutInsideUnique : Type 0
PutInsideUnique =
    (first address : ℕ) (bytes page marks : List ℕ) (r r' : Bool) (p p' m m' : List ℕ) → Bytes marks
    → PutInside first address bytes page marks r p m → PutInside first address bytes page marks r' p' m' → (r ≡ r') × (p ≡ p') × (m ≡ m')

abbrev pub ClearMarksUnique : Type 0
ClearMarksUnique = (owner : ℕ) (rows : List Row) (marks m m' : List ℕ) → Bytes marks → ClearMarks owner rows marks m → ClearMarks owner rows marks m' → m ≡ m'
