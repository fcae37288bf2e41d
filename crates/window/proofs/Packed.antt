-- Packed marks in a window: rows after one another, and the row of what is painted upon cleared marks.
-- Assumes nothing.
use mathlib.Core.Path.{◌≡◌, refl, sym, ap, ◌∙◌}
use Prim.Native.Nat.{ℕ, suc, ◌+◌, ◌*◌, ◌≤◌, ◌<◌}
use native.Mathlib.Omega.{arith}
use mathlib.Core.Option.{Option}
use mathlib.Core.List.{List, [], ◌∷◌, map}
use lib.ListN.{length, get_or, replicate, length-replicate, get_or-replicate}
use Rattle.marks.specs.Marks.{row_length, mark_at, flags, bits, packed}
use Rattle.marks.proofs.Below.{split}
use Rattle.marks.proofs.Rows.{outside, zeros_none, zeros_bytes, flags_length}
use Rattle.marks.proofs.Claims.{bits_length, bits_say, row_only_so, row_holds_places}
use Rattle.steps.specs.Steps.{Placement}
use Rattle.steps.specs.Sites.{byte_shown, painted, marked}
use Rattle.steps.specs.Runs.{as_mark, cleared}
use Rattle.steps.proofs.Places.{painted_at, length_marked}
use Rattle.steps.proofs.Runs.{marks_by_ones}
use Rattle.window.specs.Window.{window}
use Rattle.window.specs.Promises.{RowKept}
use Rattle.window.proofs.Storing.{shows, shows_not}

pub row_same : (marks : List ℕ) → RowKept marks marks
row_same marks = record { same_length = refl; bytes = λ b. b }

pub row_both : (m₀ m m' : List ℕ) → RowKept m₀ m → RowKept m m' → RowKept m₀ m'
row_both m₀ m m' x y = record { same_length = y.same_length ∙ x.same_length; bytes = λ b. y.bytes (x.bytes b) }

-- in a window every mark is cleared
all_cleared : (first size i : ℕ) (marks : List ℕ) → i + length marks ≤ size → cleared (window first size) i marks ≡ replicate (length marks) 0
unfolding cleared
all_cleared first size i [] h = refl
all_cleared first size i (m ∷ marks) h = rw (shows first size i (omega arith)) (ap (λ (l : List ℕ). 0 ∷ l) (all_cleared first size (suc i) marks (omega arith)))

-- so its marks are ones upon zeros, whatever they were
pub marks_anew : (first size : ℕ) (ps : List Placement) (marks : List ℕ) → length marks ≡ size
    → marked (window first size) 0 ps marks ≡ painted (window first size) 0 (map as_mark ps) (replicate size 0)
marks_anew first size ps marks e =
    marks_by_ones (window first size) ps marks
    ∙ ap (painted (window first size) 0 (map as_mark ps)) (all_cleared first size 0 marks (omega arith) ∙ ap (λ (n : ℕ). replicate n 0) e)

-- ---- the row of what is painted upon a cleared row

module _ (first size : ℕ) (ps : List Placement) (row zeros row' : List ℕ) (fit : length row ≡ row_length size) (none-set : zeros ≡ replicate (length row) 0)
    (set : bits row' ≡ painted (window first size) 0 (map as_mark ps) (bits zeros)) (kept : RowKept zeros row') where
  list : List ℕ
  list = marked (window first size) 0 ps (flags size row)

  list_length : length list ≡ size
  unfolding list
  list_length = length_marked (window first size) ps 0 (flags size row) ∙ flags_length size row

  list_is : list ≡ painted (window first size) 0 (map as_mark ps) (replicate size 0)
  unfolding list
  list_is = marks_anew first size ps (flags size row) (flags_length size row)

  zeros_length : length zeros ≡ row_length size
  zeros_length = ap length none-set ∙ length-replicate (length row) 0 ∙ fit

  -- what the row says of a place that it has
  said : (p : ℕ) → p < 8 * row_length size → mark_at row' p ≡ byte_shown (window first size p) (map as_mark ps) 0
  said p h =
      sym (bits_say row' p) ∙ ap (λ (l : List ℕ). get_or l p 0) set
      ∙ painted_at (window first size) (map as_mark ps) (bits zeros) p (omega (arith, bits_length zeros, zeros_length))
      ∙ ap (byte_shown (window first size p) (map as_mark ps)) (bits_say zeros p ∙ ap (λ (l : List ℕ). mark_at l p) none-set ∙ zeros_none (length row) p)

  as_listed : (p : ℕ) → p < size → mark_at row' p ≡ get_or list p 0
  as_listed p h =
      said p (omega (arith, row_holds_places size))
      ∙ sym (ap (λ (l : List ℕ). get_or l p 0) list_is
      ∙ painted_at (window first size) (map as_mark ps) (replicate size 0) p (omega (arith, length-replicate {A = ℕ} size 0))
      ∙ ap (byte_shown (window first size p) (map as_mark ps)) (get_or-replicate size p 0 0 h))

  unused : (p : ℕ) → size ≤ p → mark_at row' p ≡ 0
  unfolding byte_shown
  unused p l =
      split (8 * row_length size) p
      (λ o. outside row' p (omega (arith, kept.same_length, zeros_length)))
      (λ i. said p i ∙ ap (λ (s : Option ℕ). byte_shown s (map as_mark ps) 0) (shows_not first size p l))

  pub packed_anew : row' ≡ packed (marked (window first size) 0 ps (flags size row))
  unfolding list
  packed_anew = row_only_so list row' (record {
    as_many = kept.same_length ∙ zeros_length ∙ ap row_length (sym list_length);
    bytes = kept.bytes (λ i. rw none-set (zeros_bytes (length row) i));
    say = λ p h. as_listed p (omega (arith, list_length));
    unused = λ p l. unused p (omega (arith, list_length));
  })
