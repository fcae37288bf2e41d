-- What was staged for a page, committed to it: the bytes at marked places, and the row of marks.
-- Assumes nothing.
use Rattle.std.specs.Prelude.{ℕ, ◌≡◌, Bool, ◌&&◌, List, eqb, length, get_or}
use Rattle.std.specs.Prelude.{if◌then◌else◌}
use Rattle.marks.specs.Marks.{row_length, mark_at, listed}

-- the byte of place i after a commit: the staged one where the place is marked, and else the page's own
unfoldable pub byte_after : (stage stated page : List ℕ) (i : ℕ) → ℕ
unfolding mark_at
byte_after stage stated page i = if eqb (mark_at stated i) 1 then get_or stage i 0 else get_or page i 0

unfoldable pub committed : (stage stated page : List ℕ) → List ℕ
unfolding listed byte_after
committed stage stated page = listed (byte_after stage stated page) (length page)

-- do the lengths fit? Stage and page have as many places, and both rows of marks the bytes that these need
unfoldable pub lengths_fit : (stage stated page marks : ℕ) → Bool
unfolding row_length
lengths_fit stage stated page marks = eqb stage page && (eqb stated marks && eqb marks (row_length page))

-- the contract of `commit`: the row of marks is copied as it is, with its unused bits; where the lengths do not fit nothing changes
pub record Commit (stage stated page₀ marks₀ : List ℕ) (r : Bool) (page' marks' : List ℕ) : Type 0 where
  pub answer : r ≡ lengths_fit (length stage) (length stated) (length page₀) (length marks₀)
  pub page : page' ≡ (if r then committed stage stated page₀ else page₀)
  pub marks : marks' ≡ (if r then stated else marks₀)
