-- A window table in bytes, and a load through it.
-- Assumes nothing.
use Rattle.std.specs.Prelude.{◌≡◌, ℕ, ◌%◌, ◌<◌, Bool, not, ◌||◌, List, eqb, ltb, length, get_or}
use Rattle.std.specs.Prelude.{if◌then◌else◌}
use Rattle.record.specs.Refusals.{bad_table}
use Rattle.steps.specs.Aliases.{Loading}
use Rattle.steps.specs.Steps.{refused}
use Rattle.steps.specs.Source.{Source}
use Rattle.steps.specs.Sites.{Loaded}
use Rattle.steps.specs.Told.{told_loading}
use Rattle.window.specs.declared.Row.{Row}
use Rattle.window.specs.Table.{nobody, MOST_WINDOWS, fits}
use Rattle.window.specs.Tables.{load_table}
use Rattle.entries.specs.Entry.{WINDOW_SIZE, row_at, rows_of}

-- the bytes of 16 windows
abbrev pub MOST_BYTES : ℕ
MOST_BYTES = 384

-- a part of a window is left over
abbrev pub torn : List ℕ → Bool
torn table = not (eqb (length table % WINDOW_SIZE) 0)

-- or there are more than 16 windows
abbrev pub torn_or_long : List ℕ → Bool
torn_or_long table = torn table || ltb MOST_BYTES (length table)

-- a text loaded through a table in bytes
unfoldable pub load_bytes : {S : Type 0} → Source S → (text : List ℕ) (owner : ℕ) (table pool marks : List ℕ) → Loaded
unfolding load_table rows_of
load_bytes src text owner table pool marks =
    if torn table then record { answer = refused bad_table 0; page = pool; marks = marks } else load_table src owner (rows_of table) text pool marks

-- the contract of a function that loads so
pub record LoadBytes {S : Type 0} (src : Source S) (text : List ℕ) (owner : ℕ) (table pool₀ marks₀ : List ℕ) (r : Loading) (pool' marks' : List ℕ) : Type 0 where
  pub answer : told_loading r ≡ (load_bytes src text owner table pool₀ marks₀).answer
  pub pool : pool' ≡ (load_bytes src text owner table pool₀ marks₀).page
  pub marks : marks' ≡ (load_bytes src text owner table pool₀ marks₀).marks

-- the contract of `is_bad`: so the table is refused for the first owner, and for the second too
pub record IsBad (table : List ℕ) (pool marks : ℕ) (r : Bool) : Type 0 where
  pub answer : r ≡ torn table || not (fits 1 pool marks (rows_of table))

-- the contract of `rows_of`: as many windows as a table can have, each as the table has it, and windows of nobody after the table's last one
pub record RowsOf (table : List ℕ) (rows : List Row) : Type 0 where
  pub as_many : length rows ≡ MOST_WINDOWS
  pub each : (i : ℕ) → i < MOST_WINDOWS → get_or rows i nobody ≡ row_at table i
