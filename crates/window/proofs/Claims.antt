-- What is claimed of a window.
-- Assumes nothing.
use mathlib.Core.Path.{◌≡◌, refl, sym, ap, ◌∙◌}
use Prim.Native.Nat.{ℕ, ◌+◌, ◌-◌}
use native.Mathlib.Omega.{arith}
use mathlib.Core.Bool.{Bool, true, false, not}
use mathlib.Core.Option.{none, some, map}
use mathlib.Core.List.{List}
use lib.Dec.{ltb}
use lib.ListN.{length, replicate, length-replicate}
use borrow.Author.Tests.{ltb-true, not-true}
use Rattle.std.specs.Prelude.{if◌then◌else◌}
use Rattle.marks.proofs.Claims.{same_bits}
use Rattle.window.specs.Aliases.{Reach}
use Rattle.window.specs.Window.{within, window, unfit}
use Rattle.window.specs.Promises.{first_byte}
use Rattle.window.specs.Claims.{HoldsItsAddresses, ShownIffWithin, Window, UnfitIsNoWindow, BadTableIsRefused, OneWindowUnique, IsUnfitUnique, IsBadTableUnique, FirstOutsideUnique, PutRunUnique, ClearMarksUnique}
use Rattle.window.specs.Table.{fits}
use Rattle.window.proofs.Storing.{shows}
use Rattle.window.proofs.Tests.{within_true, true_within, good_window, no_window}
use Rattle.window.proofs.Table.{refused_exactly}
use Rattle.std.specs.Prelude.{None, Some}

pub holds_its_addresses : HoldsItsAddresses
holds_its_addresses first size address = (within_true first size address, λ (l, u). true_within first size address l u)

pub shown_iff_within : ShownIffWithin
unfolding window
shown_iff_within first size address = (
  λ e. let (l, u) = within_true first size address e in
      let at : first + (address - first) ≡ address = omega arith in
      (address - first, shows first size (address - first) (omega arith) ∙ ap some at),
  λ (i, e). go i (ltb i size) refl e,
)
  where
    go : (i : ℕ) (b : Bool) → ltb i size ≡ b → (if b then some (first + i) else none) ≡ some address → within first size address ≡ true
    go i true h e = let a : first + i ≡ address = cc in true_within first size address (omega arith) (omega (arith, ltb-true i size h))
    go i false h e = let z : ◌≡◌ {A = ℕ} 0 1 = cc in absurd (omega arith)

pub unfit_is_no_window : UnfitIsNoWindow
unfit_is_no_window first page marks r x =
    (λ e. good_window first page marks (sym x.answer ∙ e), λ w. fit (unfit first (length page) (length marks)) refl w)
  where
    fit : (b : Bool) → unfit first (length page) (length marks) ≡ b → Window first page marks → r ≡ false
    fit true e w = absurd (no_window first page marks e w)
    fit false e w = x.answer ∙ e

pub bad_table_is_refused : BadTableIsRefused
bad_table_is_refused owner rows pool marks r x =
    let (breaks, refused) = refused_exactly owner pool marks rows in
    (λ e. breaks (not-true (fits owner pool marks rows) (sym x.answer ∙ e)), λ b. x.answer ∙ ap not (refused b))

pub is_bad_table_unique : IsBadTableUnique
is_bad_table_unique owner rows pool marks r r' x y = x.answer ∙ sym y.answer

pub one_window_unique : OneWindowUnique
one_window_unique first places r r' x y = x.answer ∙ sym y.answer

pub is_unfit_unique : IsUnfitUnique
is_unfit_unique first page marks r r' x y = x.answer ∙ sym y.answer

-- the byte that is named says which answer it was
named_apart : (address : ℕ) (r r' : Reach) → map (λ i. address + i) (first_byte r) ≡ map (λ i. address + i) (first_byte r') → r ≡ r'
named_apart address None None e = refl
named_apart address None (Some k) e = let z : ◌≡◌ {A = ℕ} 0 1 = cc in absurd (omega arith)
named_apart address (Some i) None e = let z : ◌≡◌ {A = ℕ} 0 1 = cc in absurd (omega arith)
named_apart address (Some i) (Some k) e = let h : address + i ≡ address + k = cc in ap Some (omega arith)

pub first_outside_unique : FirstOutsideUnique
first_outside_unique inside address len r r' x y =
    let bytes : List ℕ = replicate len 0 in
    let l : length bytes ≡ len = length-replicate {A = ℕ} len 0 in
    named_apart address r r' (sym (x.answer bytes l) ∙ y.answer bytes l)

pub put_run_unique : PutRunUnique
put_run_unique owner rows address bytes page marks p p' m m' b x y =
    (x.page ∙ sym y.page, same_bits m m' (x.row.bytes b) (y.row.bytes b) (x.row.same_length ∙ sym y.row.same_length) (x.marks ∙ sym y.marks))

pub clear_marks_unique : ClearMarksUnique
clear_marks_unique owner rows marks m m' b x y =
    same_bits m m' (x.row.bytes b) (y.row.bytes b) (x.row.same_length ∙ sym y.row.same_length) (x.marks ∙ sym y.marks)
