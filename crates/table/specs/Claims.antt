-- What is claimed of a load through a table in bytes. Each claim is proved in `proofs/Claims.antt`: the same name, in small letters.
-- Assumes nothing.
use Rattle.std.specs.Prelude.{◌≡◌, ◌≢◌, ◌↔◌, ◌⊎◌, ℕ, ◌%◌, Bool, true, List, length}
use Rattle.std.proofs.Math.Option.{some}
use Rattle.record.specs.Refusals.{bad_table}
use Rattle.reader.specs.Lines.{through}
use Rattle.steps.specs.Aliases.{Loading}
use Rattle.steps.specs.Steps.{Verdict, refused, by}
use Rattle.steps.specs.Source.{Source}
use Rattle.window.specs.Table.{IsOwner, BadTable}
use Rattle.window.specs.Tables.{stopping_by_table, load_table, AlikeFor}
use Rattle.intel.specs.Placing.{intel}
use Rattle.srecload.specs.Placing.{s_records}
use Rattle.entries.specs.Entry.{WINDOW_SIZE, rows_of}
use Rattle.table.specs.Load.{load_bytes, LoadBytes, IsBad}

-- bytes are refused as a table: a part of a window is left over, or a limit is broken
abbrev pub BadBytes : (owner : ℕ) (table : List ℕ) (pool marks : ℕ) → Type 0
BadBytes owner table pool marks = (length table % WINDOW_SIZE ≢ 0) ⊎ BadTable owner pool marks (rows_of table)

-- where no part is left over the load is that of the windows, and else it is refused and changes nothing
abbrev pub WholeTableLoads : Type 1
WholeTableLoads =
    (S : Type 0) (src : Source S) (text : List ℕ) (owner : ℕ) (table pool marks : List ℕ) → length table % WINDOW_SIZE ≡ 0
    → load_bytes src text owner table pool marks ≡ load_table src owner (rows_of table) text pool marks

abbrev pub TornTableRefused : Type 1
TornTableRefused =
    (S : Type 0) (src : Source S) (text : List ℕ) (owner : ℕ) (table pool marks : List ℕ) → length table % WINDOW_SIZE ≢ 0
    → load_bytes src text owner table pool marks ≡ record { answer = refused bad_table 0; page = pool; marks = marks }

-- `is_bad` returns true exactly where every load through the table is refused with 23, whichever owner it is for
abbrev pub BadForBoth : Type 0
BadForBoth =
    (table : List ℕ) (pool marks : ℕ) (r : Bool) → IsBad table pool marks r
    → (owner : ℕ) → IsOwner owner → (r ≡ true) ↔ BadBytes owner table pool marks

-- demand 3 for one owner, first half: text after the line at which the load stops, and old contents of pool and marks, change nothing
abbrev pub BytesNonInterference : Type 1
BytesNonInterference =
    (S : Type 0) (src : Source S) (owner : ℕ) (table text₁ text₂ pool₁ marks₁ pool₂ marks₂ : List ℕ)
    → length pool₁ ≡ length pool₂ → length marks₁ ≡ length marks₂
    → (line : ℕ) (v : Verdict) → stopping_by_table src owner (rows_of table) text₁ pool₁ marks₁ ≡ some (by line v)
    → (head : List ℕ) → through line text₁ ≡ some head → through line text₂ ≡ some head
    → AlikeFor owner (rows_of table) (length pool₁) (load_bytes src text₁ owner table pool₁ marks₁) (load_bytes src text₂ owner table pool₂ marks₂)

-- ---- no second answer meets a contract

abbrev pub IsBadUnique : Type 0
IsBadUnique = (table : List ℕ) (pool marks : ℕ) (r r' : Bool) → IsBad table pool marks r → IsBad table pool marks r' → r ≡ r'

abbrev pub LoadUnique : Type 0
LoadUnique =
    (text : List ℕ) (owner : ℕ) (table pool marks : List ℕ) (r r' : Loading) (p p' m m' : List ℕ)
    → LoadBytes intel text owner table pool marks r p m → LoadBytes intel text owner table pool marks r' p' m' → (r ≡ r') × (p ≡ p') × (m ≡ m')

abbrev pub LoadSrecordsUnique : Type 0
LoadSrecordsUnique =
    (text : List ℕ) (owner : ℕ) (table pool marks : List ℕ) (r r' : Loading) (p p' m m' : List ℕ)
    → LoadBytes s_records text owner table pool marks r p m → LoadBytes s_records text owner table pool marks r' p' m' → (r ≡ r') × (p ≡ p') × (m ≡ m')
