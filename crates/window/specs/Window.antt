-- One window onto the addresses: what it holds, what each of its places shows, and row 16 of document 01's table.
-- Assumes nothing.
use Rattle.std.specs.Prelude.{ℕ, ◌+◌, ◌^◌, Bool, not, ◌&&◌, ◌||◌, eqb, leb, ltb}
use Rattle.std.proofs.Math.Option.{Option, none, some}
use Rattle.std.specs.Prelude.{if◌then◌else◌}
use Rattle.record.specs.Refusals.{bad_window}
use Rattle.marks.specs.Marks.{row_length}
use Rattle.steps.specs.Sites.{Room}

-- does the window of `size` places from `first` on hold the address?
unfoldable pub within : (first size address : ℕ) → Bool
within first size address = leb first address && ltb address (first + size)

-- place i of the window shows the address first + i
unfoldable pub window : (first size : ℕ) → ℕ → Option ℕ
window first size i = if ltb i size then some (first + i) else none

-- the marks are not a packed row for the page's places, the page has over 65,536 places, or the window goes beyond 2^32
unfoldable pub unfit : (first page marks : ℕ) → Bool
unfolding row_length
unfit first page marks = not (eqb (row_length page) marks) || ltb 65536 page || ltb (2 ^ 32) (first + page)

-- a page and marks of these lengths as a room, with 16 for a window that is refused
unfoldable pub one_window : (first page marks : ℕ) → Room
unfolding unfit within window
one_window first page marks =
    record { fault = if unfit first page marks then some bad_window else none; inside = within first page; site = window first page }
