-- The type of S-records that a digit names is the one that `srec::type_of` returns for it.
-- Assumes nothing.
use Prim.Native.Nat.{ℕ}
use mathlib.Core.Path.{◌≡◌, refl, sym, ◌∙◌, ap}
use mathlib.Core.Bool.{Bool, true, false}
use mathlib.Core.Option.{none, some}
use native.Mathlib.Omega.{arith}
use borrow.Author.Tests.{ne_eqb}
use Rattle.std.specs.Prelude.{if◌then◌else◌}
use Rattle.digits.proofs.Tests.{split}
use Rattle.srec.specs.declared.SType.{SType}
use Rattle.srec.specs.declared.SType.TheVariants.{S0, S1, S2, S3, S5, S7, S8, S9}
use Rattle.srec.specs.Types.{is_named}
use Rattle.srec.specs.Record.{digit_of, TypeOf}
use Rattle.srec.proofs.Naming.{each_digit, each_type}
use Rattle.entries.specs.Entry.{type_named}
use Rattle.entries.proofs.Listing.{some_none, same_some}
use Rattle.std.specs.Prelude.{None, Some}

-- a type is named by its digit
pub by_digit : (t : SType) → type_named (digit_of t) ≡ some t
unfolding type_named
by_digit S0 = refl
by_digit S1 = refl
by_digit S2 = refl
by_digit S3 = refl
by_digit S5 = refl
by_digit S7 = refl
by_digit S8 = refl
by_digit S9 = refl

typed : (digit : ℕ) → is_named digit ≡ true → (t : SType) × (digit_of t ≡ digit)
typed digit e =
    each_type (λ (k : ℕ). (t : SType) × (digit_of t ≡ k)) (S0, refl) (S1, refl) (S2, refl) (S3, refl) (S5, refl) (S7, refl) (S8, refl) (S9, refl) digit e

-- and no other digit names one
pub by_none : (digit : ℕ) → is_named digit ≡ false → type_named digit ≡ none
unfolding type_named is_named
by_none digit e =
    split digit 9
    (λ h. each_digit (λ (k : ℕ). is_named k ≡ false → type_named k ≡ none) never never never never (λ q. refl) never (λ q. refl) never never never digit h e)
    (λ h. rw (ne_eqb digit 0 (λ q. omega arith), ne_eqb digit 1 (λ q. omega arith), ne_eqb digit 2 (λ q. omega arith), ne_eqb digit 3 (λ q. omega arith), ne_eqb digit 5 (λ q. omega arith), ne_eqb digit 7 (λ q. omega arith), ne_eqb digit 8 (λ q. omega arith), ne_eqb digit 9 (λ q. omega arith)))
  where
    never : {X : Type 0} → true ≡ false → X
    never q = let z : ◌≡◌ {A = ℕ} 0 1 = cc in absurd (omega arith)

-- the digit of a type that is named
pub digit_again : (digit : ℕ) (t : SType) → type_named digit ≡ some t → digit_of t ≡ digit
digit_again digit t e = go (is_named digit) refl
  where
    go : (b : Bool) → is_named digit ≡ b → digit_of t ≡ digit
    go true q =
        let (u, d) = typed digit q in
        ap digit_of (same_some (sym e ∙ ap type_named (sym d) ∙ by_digit u)) ∙ d
    go false q = some_none e (by_none digit q)

-- a digit that names no type is not named
pub none_named : (digit : ℕ) → type_named digit ≡ none → is_named digit ≡ false
none_named digit e = go (is_named digit) refl
  where
    go : (b : Bool) → is_named digit ≡ b → is_named digit ≡ false
    go true q = let (u, d) = typed digit q in some_none (ap type_named (sym d) ∙ by_digit u) e
    go false q = q

pub is_kind : (digit : ℕ) (t : SType) → TypeOf digit (Some t) → type_named digit ≡ some t
is_kind digit t x = go (is_named digit) x.answer
  where
    go : (b : Bool) → some (digit_of t) ≡ (if b then some digit else none) → type_named digit ≡ some t
    go true e = ap type_named (sym (same_some e)) ∙ by_digit t
    go false e = some_none refl e

pub is_nothing : (digit : ℕ) → TypeOf digit None → type_named digit ≡ none
is_nothing digit x = go (is_named digit) refl x.answer
  where
    go : (b : Bool) → is_named digit ≡ b → none ≡ (if b then some digit else none) → type_named digit ≡ none
    go true q e = some_none refl (sym e)
    go false q e = by_none digit q
