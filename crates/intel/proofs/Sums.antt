-- Where bytes lie, proved: the base in force is the latest one, and each byte lies by its index.
-- Assumes nothing.
use mathlib.Core.Path.{◌≡◌, refl, sym, ap, ◌∙◌, subst}
use mathlib.Core.Logic.{◌⊎◌, inl, inr}
use Prim.Native.Nat.{ℕ}
use native.Mathlib.Nat.{zero-add}
use native.Mathlib.Omega.{arith}
use mathlib.Core.Option.{Option, none, some}
use mathlib.Core.List.{List, [], ◌∷◌, ◌++◌}
use Rattle.digits.specs.Common.{Every}
use Rattle.record.specs.Meaning.{Meaning, data_at, end_of_file, extended_segment, start_segment, extended_linear, start_linear}
use Rattle.steps.proofs.Puts.{length_spread, spread_at}
use Rattle.intel.specs.Placing.{Base, segment, linear, byte_address, stated_by}
use Rattle.intel.specs.Lines.{record_on, sets, latest, in_force, states}
use Rattle.intel.specs.Sums.{NoExtension, Latest, At, in_segment, linearly, from_zero, IntelRule, OneAddress}

-- ---- the latest base

-- a line that is no extension sets nothing
sets_none : (l : List ℕ) (o : Option Meaning) → record_on l ≡ o → NoExtension l → sets o ≡ none
unfolding sets
sets_none l none e x = refl
sets_none l (some (data_at offset bytes)) e x = refl
sets_none l (some end_of_file) e x = refl
sets_none l (some (extended_segment n)) e x = absurd ((x n).0 e)
sets_none l (some (start_segment cs ip)) e x = refl
sets_none l (some (extended_linear n)) e x = absurd ((x n).1 e)
sets_none l (some (start_linear n)) e x = refl

no_extension : (l : List ℕ) → sets (record_on l) ≡ none → NoExtension l
unfolding sets
no_extension l e n = ((λ q. apart _ (sym e ∙ ap sets q)), (λ q. apart _ (sym e ∙ ap sets q)))
  where
    apart : (b : Base) → ¬ (none ≡ some b)
    apart b q = let z : ◌≡◌ {A = ℕ} 0 1 = cc in omega arith

none_latest : (ls : List (List ℕ)) → Every NoExtension ls → latest ls ≡ none
unfolding latest
none_latest [] e = refl
none_latest (l ∷ ls) (x, xs) = rw (none_latest ls xs, sets_none l (record_on l) refl x)

latest_is : (before : List (List ℕ)) (l : List ℕ) (after : List (List ℕ)) (b : Base) → Every NoExtension after → sets (record_on l) ≡ some b
    → latest (before ++ (l ∷ after)) ≡ some b
unfolding latest
latest_is [] l after b x e = rw (none_latest after x, e)
latest_is (k ∷ before) l after b x e = rw (latest_is before l after b x e)

in_force_is : (ahead : List (List ℕ)) (m : Meaning) (b : Base) → Latest ahead m → sets (some m) ≡ some b → in_force ahead ≡ b
unfolding in_force
in_force_is ahead m b x e = rw (x.whole, latest_is x.before x.line x.after b x.none_later (ap sets x.there ∙ e))

-- ---- Intel's rule

abbrev OneHolds : List (List ℕ) → Type 0
OneHolds ahead = ((usba : ℕ) × Latest ahead (extended_segment usba)) ⊎ (((ulba : ℕ) × Latest ahead (extended_linear ulba)) ⊎ Every NoExtension ahead)

more : (l : List ℕ) (ls : List (List ℕ)) (m : Meaning) → Latest ls m → Latest (l ∷ ls) m
more l ls m x = record { before = l ∷ x.before; line = x.line; after = x.after; whole = ap (λ (k : List (List ℕ)). l ∷ k) x.whole; there = x.there; none_later = x.none_later }

first : (l : List ℕ) (ls : List (List ℕ)) (m : Meaning) → record_on l ≡ some m → Every NoExtension ls → Latest (l ∷ ls) m
first l ls m e x = record { before = []; line = l; after = ls; whole = refl; there = e; none_later = x }

one_holds : (ahead : List (List ℕ)) → OneHolds ahead
unfolding sets
one_holds [] = inr (inr tt)
one_holds (l ∷ ls) = go (one_holds ls)
  where
    other : Every NoExtension ls → (o : Option Meaning) → record_on l ≡ o → OneHolds (l ∷ ls)
    other x none e = inr (inr (no_extension l (ap sets e), x))
    other x (some (extended_segment n)) e = inl (n, first l ls (extended_segment n) e x)
    other x (some (extended_linear n)) e = inr (inl (n, first l ls (extended_linear n) e x))
    other x (some (data_at offset bytes)) e = inr (inr (no_extension l (ap sets e), x))
    other x (some end_of_file) e = inr (inr (no_extension l (ap sets e), x))
    other x (some (start_segment cs ip)) e = inr (inr (no_extension l (ap sets e), x))
    other x (some (start_linear n)) e = inr (inr (no_extension l (ap sets e), x))

    go : OneHolds ls → OneHolds (l ∷ ls)
    go (inl (n, x)) = inl (n, more l ls (extended_segment n) x)
    go (inr (inl (n, x))) = inr (inl (n, more l ls (extended_linear n) x))
    go (inr (inr x)) = other x (record_on l) refl

-- Intel's address is the one that the definitions give
pub at_only : (ahead : List (List ℕ)) (drlo dri a : ℕ) → At ahead drlo dri a → a ≡ byte_address (in_force ahead) drlo dri
unfolding sets in_force byte_address
at_only ahead drlo dri a (in_segment usba x) = rw (in_force_is ahead (extended_segment usba) (segment usba) x refl) (omega arith)
at_only ahead drlo dri a (linearly ulba x) = rw (in_force_is ahead (extended_linear ulba) (linear ulba) x refl) (omega arith)
at_only ahead drlo dri a (from_zero x) = rw (none_latest ahead x) (omega arith)

pub at_there : (ahead : List (List ℕ)) (drlo dri : ℕ) → At ahead drlo dri (byte_address (in_force ahead) drlo dri)
at_there ahead drlo dri = go (one_holds ahead)
  where
    so : (a : ℕ) → At ahead drlo dri a → At ahead drlo dri (byte_address (in_force ahead) drlo dri)
    so a x = subst (At ahead drlo dri) (at_only ahead drlo dri a x) x

    go : OneHolds ahead → At ahead drlo dri (byte_address (in_force ahead) drlo dri)
    go (inl (usba, x)) = so _ (in_segment usba x)
    go (inr (inl (ulba, x))) = so _ (linearly ulba x)
    go (inr (inr x)) = so _ (from_zero x)

pub intel_rule : IntelRule
unfolding states stated_by
intel_rule ahead drlo bytes = (length_spread (byte_address (in_force ahead) drlo) 0 bytes, λ dri h. rw (spread_at (byte_address (in_force ahead) drlo) 0 bytes dri h, zero-add dri) (at_there ahead drlo dri, refl))

pub one_address : OneAddress
one_address ahead drlo dri a a' x y = at_only ahead drlo dri a x ∙ sym (at_only ahead drlo dri a' y)
