-- A table in bytes, window by window: a window for each 24 bytes, and each the one that `row_at` gives.
-- Assumes nothing.
use Prim.Native.Nat.{ℕ, zero, suc, ◌+◌, ◌*◌, ◌/◌, ◌≤◌, ◌<◌}
use mathlib.Core.Path.{◌≡◌, refl, sym, ◌∙◌, ap}
use mathlib.Core.List.{List}
use native.Mathlib.Omega.{arith}
use lib.ListN.{length, get_or, get_or-eq_default}
use borrow.Author.Tests.{lt-ltb, le-ltb}
use Rattle.digits.proofs.Tests.{split}
use Rattle.window.specs.declared.Row.{Row}
use Rattle.window.specs.Table.{nobody}
use Rattle.entries.specs.Entry.{four_at, eight_at, window_at, row_at, rows_from, rows_of}
use Rattle.entries.specs.Claims.{RowsLength, RowsEach}

-- a window that the table has
pub row_within : (table : List ℕ) (i : ℕ) → i < length table / 24 → row_at table i ≡ window_at table (24 * i)
unfolding row_at
row_within table i h = rw (lt-ltb _ _ h)

-- and one that it does not have
pub row_beyond : (table : List ℕ) (i : ℕ) → length table / 24 ≤ i → row_at table i ≡ nobody
unfolding row_at
row_beyond table i h = rw (le-ltb _ _ h)

-- a window from its four numbers
pub row_read : {owner first size place : ℕ} (table : List ℕ) (i : ℕ) → i < length table / 24 → owner ≡ four_at table (24 * i)
    → first ≡ four_at table (24 * i + 4) → size ≡ eight_at table (24 * i + 8) → place ≡ eight_at table (24 * i + 16)
    → ◌≡◌ {A = Row} (record { owner = owner; first = first; size = size; place = place }) (row_at table i)
row_read table i h a b c d = rw (a, b, c, d) (sym (row_within table i h))

-- ---- the windows of a table

from_length : (table : List ℕ) (i n : ℕ) → length (rows_from table i n) ≡ n
unfolding rows_from
from_length table i zero = refl
from_length table i (suc n) = ap suc (from_length table (suc i) n)

from_each : (table : List ℕ) (i n j : ℕ) → j < n → get_or (rows_from table i n) j nobody ≡ row_at table (i + j)
unfolding rows_from
from_each table i zero j h = absurd (omega arith)
from_each table i (suc n) zero h = ap (row_at table) (omega arith)
from_each table i (suc n) (suc j) h = from_each table (suc i) n j (omega arith) ∙ ap (row_at table) (omega arith)

pub rows_length : RowsLength
unfolding rows_of
rows_length table = from_length table 0 (length table / 24)

pub rows_each : RowsEach
unfolding rows_of
rows_each table i =
    split (suc i) (length table / 24)
    (λ h. from_each table 0 (length table / 24) i h ∙ ap (row_at table) (omega arith))
    (λ h. get_or-eq_default (rows_of table) nobody (omega (arith, rows_length table)) ∙ sym (row_beyond table i (omega arith)))
