-- The claims of `specs/Told.antt`, and the contract of `salvage` from its two passes.
-- Assumes nothing.
use Prim.Native.Nat.{ℕ, ◌-◌, ◌/◌}
use mathlib.Core.Path.{◌≡◌, refl, sym, ap, ap₂, ◌∙◌}
use native.Mathlib.Omega.{arith}
use mathlib.Core.Bool.{Bool, true, false}
use mathlib.Core.Option.{none, some}
use mathlib.Core.List.{List}
use lib.Dec.{ltb}
use lib.ListN.{length}
use borrow.Author.Tests.{ltb-true, ltb-false}
use Rattle.record.specs.Refusals.{number_of, output_full, list_full}
use Rattle.salvage.specs.declared.SalvageError.TheVariants.{OutputFull, ListFull}
use Rattle.salvage.specs.declared.Spare.{Spare}
use Rattle.salvage.specs.Salvage.{clean, removed, refusal_for}
use Rattle.salvage.specs.Told.{saves, answered_by, Salvages, SalvageUnique, ToldApart, Why, output_short, list_short, both_fit, Reasons, OneReason}
use Rattle.salvage.specs.Helpers.{left_of, Surveyed, Fits, WroteAll}
use Rattle.std.specs.Prelude.{Err, Ok, None, Some, if◌then◌else◌}

-- ---- the refusal

module _ (text : List ℕ) (room places : ℕ) where
  full_so : ltb room (length (clean text)) ≡ true → refusal_for text room places ≡ some output_full
  unfolding refusal_for
  full_so f = rw f

  short_so : ltb room (length (clean text)) ≡ false → ltb places (length (removed text)) ≡ true → refusal_for text room places ≡ some list_full
  unfolding refusal_for
  short_so f s = rw (f, s)

  none_so : ltb room (length (clean text)) ≡ false → ltb places (length (removed text)) ≡ false → refusal_for text room places ≡ none
  unfolding refusal_for
  none_so f s = rw (f, s)

pub reasons : Reasons
reasons text room places = go (ltb room (length (clean text))) refl (ltb places (length (removed text))) refl
  where
    go : (f : Bool) → ltb room (length (clean text)) ≡ f → (s : Bool) → ltb places (length (removed text)) ≡ s → Why text room places (answered_by (refusal_for text room places) text)
    go true e s q = rw (full_so text room places e) (output_short (ltb-true room (length (clean text)) e))
    go false e true q = rw (short_so text room places e q) (list_short (ltb-false room (length (clean text)) e) (ltb-true places (length (removed text)) q))
    go false e false q = rw (none_so text room places e q) (both_fit (ltb-false room (length (clean text)) e) (ltb-false places (length (removed text)) q))

pub one_reason : OneReason
one_reason text room places t t' (output_short h) (output_short h') = refl
one_reason text room places t t' (output_short h) (list_short h' k') = absurd (omega arith)
one_reason text room places t t' (output_short h) (both_fit h' k') = absurd (omega arith)
one_reason text room places t t' (list_short h k) (output_short h') = absurd (omega arith)
one_reason text room places t t' (list_short h k) (list_short h' k') = refl
one_reason text room places t t' (list_short h k) (both_fit h' k') = absurd (omega arith)
one_reason text room places t t' (both_fit h k) (output_short h') = absurd (omega arith)
one_reason text room places t t' (both_fit h k) (list_short h' k') = absurd (omega arith)
one_reason text room places t t' (both_fit h k) (both_fit h' k') = refl

pub told_apart : ToldApart
told_apart (Ok s) (Ok s') e =
    let a : s.length ≡ s'.length = cc in
    let b : s.entries ≡ s'.entries = cc in
    ap (λ (n : ℕ). Ok (record { length = n; entries = s.entries })) a ∙ ap (λ (k : ℕ). Ok (record { length = s'.length; entries = k })) b
told_apart (Ok s) (Err OutputFull) e = let z : ◌≡◌ {A = ℕ} 0 1 = cc in absurd (omega arith)
told_apart (Ok s) (Err ListFull) e = let z : ◌≡◌ {A = ℕ} 0 1 = cc in absurd (omega arith)
told_apart (Err OutputFull) (Ok s) e = let z : ◌≡◌ {A = ℕ} 0 1 = cc in absurd (omega arith)
told_apart (Err ListFull) (Ok s) e = let z : ◌≡◌ {A = ℕ} 0 1 = cc in absurd (omega arith)
told_apart (Err OutputFull) (Err OutputFull) e = refl
told_apart (Err OutputFull) (Err ListFull) e = let q : output_full ≡ list_full = cc in let n = ap number_of q in absurd (omega arith)
told_apart (Err ListFull) (Err OutputFull) e = let q : list_full ≡ output_full = cc in let n = ap number_of q in absurd (omega arith)
told_apart (Err ListFull) (Err ListFull) e = refl

pub salvage_unique : SalvageUnique
salvage_unique text out list r r' o o' l l' x y =
    (told_apart r r' (x.answer ∙ sym y.answer), x.output ∙ sym y.output, x.entries ∙ sym y.entries)

-- ---- the function

none_left : (have used : ℕ) → left_of have used ≡ None → ltb have used ≡ true
none_left have used e = go (ltb have used) e
  where
    go : (b : Bool) → (if b then None else Some (have - used)) ≡ None → b ≡ true
    go true q = refl
    go false q = let z : ◌≡◌ {A = ℕ} 0 1 = cc in absurd (omega arith)

some_left : (have used left : ℕ) → left_of have used ≡ Some left → (ltb have used ≡ false) × (left ≡ have - used)
some_left have used left e = go (ltb have used) e
  where
    go : (b : Bool) → (if b then None else Some (have - used)) ≡ Some left → (b ≡ false) × (left ≡ have - used)
    go true q = let z : ◌≡◌ {A = ℕ} 0 1 = cc in absurd (omega arith)
    go false q = (refl, cc)

module _ (text out list : List ℕ) (s : Spare) (v : Surveyed text (length out) (length list / 16) s) where
  space_is : s.space ≡ left_of (length out) (length (clean text))
  space_is = ap (λ (x : Spare). x.space) v

  places_is : s.places ≡ left_of (length list / 16) (length (removed text))
  places_is = ap (λ (x : Spare). x.places) v

  pub by_full : s.space ≡ None → Salvages text out list (Err OutputFull) out list
  by_full f = let e = full_so text (length out) (length list / 16) (none_left _ _ (sym space_is ∙ f)) in record { answer = rw e; output = rw e; entries = rw e }

  module _ (space : ℕ) (f : s.space ≡ Some space) where
    out_is : (ltb (length out) (length (clean text)) ≡ false) × (space ≡ length out - length (clean text))
    out_is = some_left _ _ space (sym space_is ∙ f)

    pub by_short : s.places ≡ None → Salvages text out list (Err ListFull) out list
    by_short t =
        let e = short_so text (length out) (length list / 16) out_is.0 (none_left _ _ (sym places_is ∙ t)) in record { answer = rw e; output = rw e; entries = rw e }

    module _ (left : ℕ) (t : s.places ≡ Some left) where
      list_is : (ltb (length list / 16) (length (removed text)) ≡ false) × (left ≡ length list / 16 - length (removed text))
      list_is = some_left _ _ left (sym places_is ∙ t)

      pub both_have_room : Fits text out list
      both_have_room =
          record {
            output = ltb-false (length out) (length (clean text)) out_is.0;
            entries = omega (arith, ltb-false (length list / 16) (length (removed text)) list_is.0);
          }

      pub by_all : (out' list' : List ℕ) → length out' ≡ length out → WroteAll text out list out' list'
          → Salvages text out list (Ok (record { length = length out' - space; entries = length list / 16 - left })) out' list'
      by_all out' list' lo w =
          let e = none_so text (length out) (length list / 16) out_is.0 list_is.0 in
          let h = both_have_room in
          let k = ltb-false (length list / 16) (length (removed text)) list_is.0 in
          let n : length out' - space ≡ length (clean text) = omega (arith, h.output, out_is.1) in
          let m : length list / 16 - left ≡ length (removed text) = omega (arith, list_is.1) in
          record { answer = rw e (ap₂ saves n m); output = rw e w.output; entries = rw e w.entries }
