-- The first windows that `rows_of` returns, as many as the table has, are the table's.
-- Assumes nothing.
use mathlib.Core.Path.{◌≡◌, sym, ◌∙◌}
use Prim.Native.Nat.{ℕ, ◌/◌, ◌≤◌}
use native.Mathlib.Omega.{arith}
use mathlib.Core.List.{List}
use lib.ListN.{length, take}
use lib.Seq.{ext_get_or, length-take-le, get_or-take}
use Rattle.window.specs.declared.Row.{Row}
use Rattle.window.specs.Table.{nobody}
use Rattle.entries.specs.Entry.{rows_of}
use Rattle.entries.proofs.Rows.{rows_length, rows_each}
use Rattle.table.specs.Load.{RowsOf}

pub same_windows : (table : List ℕ) (rows : List Row) → RowsOf table rows → length table ≤ 384 → take (length table / 24) rows ≡ rows_of table
same_windows table rows r h =
    ext_get_or nobody (take (length table / 24) rows) (rows_of table) (many ∙ sym (rows_length table))
    (λ i l. get_or-take (length table / 24) rows i nobody (omega (arith, many)) ∙ r.each i (omega (arith, many)) ∙ sym (rows_each table i))
  where
    many : length (take (length table / 24) rows) ≡ length table / 24
    many = length-take-le (length table / 24) rows (omega (arith, r.as_many))
