-- The contracts of the crate.
-- Assumes nothing.
use Rattle.std.specs.Prelude.{◌≡◌, ◌↔◌, ◌⊎◌, ℕ, ◌+◌, ◌-◌, ◌≤◌, ◌<◌, Bool, true, false, not, ◌&&◌, List, [], ◌∷◌, map, eqb, leb, ltb, length, get_or}
use Rattle.std.proofs.Math.Option
use Rattle.std.proofs.Math.Option.{Option, none, some}
use Rattle.std.specs.Prelude.{if◌then◌else◌}
use Rattle.marks.specs.Marks.{row_length, bits}
use Rattle.marks.specs.Claims.{Bytes}
use Rattle.steps.specs.Steps.{Placement, outside}
use Rattle.steps.specs.Sites.{painted}
use Rattle.steps.specs.Runs.{spread, run, as_mark, cleared}
use Rattle.window.specs.Aliases.{Reach}
use Rattle.window.specs.declared.Part.{Part}
use Rattle.window.specs.declared.Row.{Row}
use Rattle.window.specs.Window.{within, window, unfit}
use Rattle.window.specs.Table.{alone, MOST_WINDOWS, MOST_PLACES, is_owner, fits, site_of, inside_of}
use Rattle.std.specs.Prelude.{None, Some}

-- the contract of `is_unfit`
pub record IsUnfit (first page marks : ℕ) (r : Bool) : Type 0 where
  pub answer : r ≡ unfit first page marks

-- the contract of `one_window`
pub record OneWindow (first places : ℕ) (r : List Row) : Type 0 where
  pub answer : r ≡ alone first places

-- owner, number of windows, pool and marks keep within the limits
abbrev pub call_fits : (owner windows pool marks : ℕ) → Bool
call_fits owner windows pool marks = is_owner owner && (leb windows MOST_WINDOWS && (leb pool MOST_PLACES && eqb marks (row_length pool)))

-- the contract of `is_bad_table`
pub record IsBadTable (owner : ℕ) (rows : List Row) (pool marks : ℕ) (r : Bool) : Type 0 where
  pub answer : r ≡ not (fits owner pool marks rows)

-- the number of the byte that is named
abbrev pub first_byte : Reach → Option ℕ
first_byte None = none
first_byte (Some i) = some i

-- so many addresses from this one on are inside; none if this one is not
pub record RoomAt (owner : ℕ) (rows : List Row) (address r : ℕ) : Type 0 where
  pub inside : (k : ℕ) → k < r → inside_of owner rows (address + k) ≡ true
  pub none_there : r ≡ 0 → inside_of owner rows address ≡ false

-- the contract of `first_outside`: whatever the bytes of the run are, the first of them outside is the one that is named
pub record FirstOutside (inside : ℕ → Bool) (address len : ℕ) (r : Reach) : Type 0 where
  pub answer : (bytes : List ℕ) → length bytes ≡ len → outside inside (run address bytes) ≡ Option.map (λ i. address + i) (first_byte r)
  pub among : (i : ℕ) → first_byte r ≡ some i → i < len

-- of `len` bytes that lie where `at` says, the one that is named is the first outside
pub record Surveyed (at : ℕ → ℕ) (len : ℕ) (inside : ℕ → Bool) (r : Reach) : Type 0 where
  pub answer : (bytes : List ℕ) → length bytes ≡ len → outside inside (spread at 0 bytes) ≡ Option.map at (first_byte r)
  pub among : (i : ℕ) → first_byte r ≡ some i → i < len

-- the part of a run of `len` bytes that lies in a window of `size` places
pub record Parted (first size address len : ℕ) (part : Part) : Type 0 where
  pub in_run : part.skip + part.len ≤ len
  pub in_page : part.place + part.len ≤ size
  pub same_address : 0 < part.len → first + part.place ≡ address + part.skip
  pub all : (i k : ℕ) → i < size → k < len → first + i ≡ address + k → (part.skip ≤ k) × (k < part.skip + part.len)

-- bytes copied into a page from a place on: nothing else changes
pub record Copied (bytes : List ℕ) (place : ℕ) (page page' : List ℕ) : Type 0 where
  pub same_length : length page' ≡ length page
  pub there : (k : ℕ) → k < length bytes → get_or page' (place + k) 0 ≡ get_or bytes k 0
  pub elsewhere : (i : ℕ) → (i < place) ⊎ (place + length bytes ≤ i) → get_or page' i 0 ≡ get_or page i 0

-- as many bytes as before, and bytes if they were
pub record RowKept (marks marks' : List ℕ) : Type 0 where
  pub same_length : length marks' ≡ length marks
  pub bytes : Bytes marks → Bytes marks'

-- page and marks with these placements upon them; the mark of each place that one of them is at is a 1, and every other bit stays
pub record Painted (site : ℕ → Option ℕ) (ps : List Placement) (page₀ marks₀ page' marks' : List ℕ) : Type 0 where
  pub page : page' ≡ painted site 0 ps page₀
  pub marks : bits marks' ≡ painted site 0 (map as_mark ps) (bits marks₀)
  pub row : RowKept marks₀ marks'

-- what the places of one window show, in a page of so many places
unfoldable pub stretch : (size : ℕ) → Row → ℕ → Option ℕ
unfolding within
stretch size r i = if ltb i size && within r.place r.size i then some (r.first + (i - r.place)) else none

-- the contract of `put_in`
abbrev pub PutIn : (r : Row) (address : ℕ) (bytes page₀ marks₀ page' marks' : List ℕ) → Type 0
PutIn r address bytes page₀ marks₀ page' marks' = Painted (stretch (length page₀) r) (run address bytes) page₀ marks₀ page' marks'

-- placements upon the places of a page through each window of the owner, one window after the other
unfoldable pub through : (size owner : ℕ) → List Row → List Placement → (page : List ℕ) → List ℕ
unfolding stretch painted
through size owner [] ps page = page
through size owner (r ∷ rows) ps page = through size owner rows ps (if eqb r.owner owner then painted (stretch size r) 0 ps page else page)

-- the contract of `put_run`: where no windows share a place, this is `Painted` through the owner's site
pub record PutRun (owner : ℕ) (rows : List Row) (address : ℕ) (bytes page₀ marks₀ page' marks' : List ℕ) : Type 0 where
  pub page : page' ≡ through (length page₀) owner rows (run address bytes) page₀
  pub marks : bits marks' ≡ through (length page₀) owner rows (map as_mark (run address bytes)) (bits marks₀)
  pub row : RowKept marks₀ marks'

-- the contract of `put_inside`: true exactly if no byte of the run lies outside of the window that the page is; then the run is painted, else nothing changes
pub record PutInside (first address : ℕ) (bytes page₀ marks₀ : List ℕ) (r : Bool) (page' marks' : List ℕ) : Type 0 where
  pub answer : (r ≡ true) ↔ FirstOutside (within first (length page₀)) address (length bytes) None
  pub stored : r ≡ true → Painted (window first (length page₀)) (run address bytes) page₀ marks₀ page' marks'
  pub kept : r ≡ false → (page' ≡ page₀) × (marks' ≡ marks₀)

-- the contract of `clear_marks`: a place that is shown the owner is unmarked, and every other bit stays
pub record ClearMarks (owner : ℕ) (rows : List Row) (marks₀ marks' : List ℕ) : Type 0 where
  pub marks : bits marks' ≡ cleared (site_of owner rows) 0 (bits marks₀)
  pub row : RowKept marks₀ marks'
