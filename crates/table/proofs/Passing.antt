-- A table in bytes handed on as windows: bytes that are not a table are refused, and else the load is that of the windows.
-- Assumes nothing.
use mathlib.Core.Path.{◌≡◌, refl}
use Prim.Native.Nat.{ℕ, ◌/◌, ◌%◌, ◌≤◌}
use native.Mathlib.Omega.{arith}
use mathlib.Core.Bool.{Bool, true, false, not, ◌||◌}
use mathlib.Core.List.{List}
use lib.Dec.{eqb, ltb}
use lib.ListN.{length, take}
use borrow.Author.Tests.{eqb-true, ltb-true, ltb-false, not-false}
use Rattle.digits.proofs.Tests.{or_false}
use Rattle.steps.specs.Aliases.{Loading}
use Rattle.steps.specs.declared.LoaderError.TheVariants.{BadTable}
use Rattle.steps.specs.Source.{Source}
use Rattle.window.specs.declared.Row.{Row}
use Rattle.window.specs.Promises.{IsBadTable}
use Rattle.window.specs.Table.{fits, too_many}
use Rattle.window.specs.Tables.{LoadTable}
use Rattle.window.proofs.Table.{refused_exactly}
use Rattle.window.proofs.Tables.{load_bad_table}
use Rattle.entries.specs.Entry.{rows_of}
use Rattle.entries.proofs.Rows.{rows_length}
use Rattle.table.specs.Load.{torn, torn_or_long, load_bytes, RowsOf, IsBad, LoadBytes}
use Rattle.table.proofs.Windows.{same_windows}
use Rattle.steps.specs.Aliases.{refuse}

-- more than 16 windows are too many, whoever calls
long_unfit : (owner pool marks : ℕ) (table : List ℕ) → torn table ≡ false → torn_or_long table ≡ true → fits owner pool marks (rows_of table) ≡ false
long_unfit owner pool marks table t e =
    let l : ltb 384 (length table) ≡ true = rw t at e in
    let z : length table % 24 ≡ 0 = eqb-true (length table % 24) 0 (not-false (eqb (length table % 24) 0) t) in
    (refused_exactly owner pool marks (rows_of table)).1 (too_many (omega (arith, rows_length table, ltb-true 384 (length table) l)))

-- bytes that pass
pub passes : (table : List ℕ) → torn_or_long table ≡ false → (torn table ≡ false) × (length table ≤ 384)
passes table e = let (t, l) = or_false (torn table) (ltb 384 (length table)) e in (t, ltb-false 384 (length table) l)

module _ {S : Type 0} (src : Source S) (text : List ℕ) (owner : ℕ) (table pool marks : List ℕ) where
  pub load_torn : torn_or_long table ≡ true → LoadBytes src text owner table pool marks (refuse BadTable 0) pool marks
  unfolding load_bytes
  load_torn e = go (torn table) refl
    where
      go : (b : Bool) → torn table ≡ b → LoadBytes src text owner table pool marks (refuse BadTable 0) pool marks
      go true t = record { answer = rw t; pool = rw t; marks = rw t }
      go false t =
          let l = load_bad_table src owner (rows_of table) text pool marks (long_unfit owner (length pool) (length marks) table t e) in
          record { answer = rw t l.answer; pool = rw t l.pool; marks = rw t l.marks }

  pub load_whole : torn_or_long table ≡ false → (rows : List Row) → RowsOf table rows → (r : Loading) (p m : List ℕ)
      → LoadTable src owner (take (length table / 24) rows) text pool marks r p m → LoadBytes src text owner table pool marks r p m
  unfolding load_bytes
  load_whole e rows n r p m x =
      let (t, h) = passes table e in
      let l : LoadTable src owner (rows_of table) text pool marks r p m = rw (same_windows table rows n h) at x in
      record { answer = rw t l.answer; pool = rw t l.pool; marks = rw t l.marks }

module _ (table : List ℕ) (pool marks : ℕ) where
  pub bad_torn : torn_or_long table ≡ true → IsBad table pool marks true
  bad_torn e = record { answer = go (torn table) refl }
    where
      go : (b : Bool) → torn table ≡ b → true ≡ torn table || not (fits 1 pool marks (rows_of table))
      go true t = rw t
      go false t = rw (t, long_unfit 1 pool marks table t e)

  pub bad_whole : torn_or_long table ≡ false → (rows : List Row) → RowsOf table rows → (r : Bool)
      → IsBadTable 1 (take (length table / 24) rows) pool marks r → IsBad table pool marks r
  bad_whole e rows n r x =
      let (t, h) = passes table e in
      let y : IsBadTable 1 (rows_of table) pool marks r = rw (same_windows table rows n h) at x in
      record { answer = rw t y.answer }
