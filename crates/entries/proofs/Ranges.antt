-- The records of a list in bytes have numbers that fit their fields, as their bytes do.
-- Assumes nothing.
use Prim.Native.Nat.{ℕ, zero, suc, ◌+◌, ◌*◌, ◌/◌, ◌%◌, ◌<◌}
use mathlib.Core.Path.{subst}
use mathlib.Core.Option.{Option, none, some}
use mathlib.Core.List.{List, [], ◌∷◌, ◌++◌}
use native.Mathlib.Omega.{arith}
use lib.Dec.{eqb, leb}
use lib.ListN.{length, get_or}
use borrow.Author.Tests.{leb-true}
use Rattle.digits.specs.Common.{Every, Byte}
use Rattle.record.specs.declared.Record.{Record}
use Rattle.record.specs.declared.Record.TheVariants.{Data, ExtendedSegmentAddress, StartSegmentAddress, ExtendedLinearAddress}
use Rattle.digits.proofs.Tests.{branch}
use Rattle.writer.specs.Claims.{InRange}
use Rattle.entries.specs.Entry.{if_short, record_of, two_at, four_at, eight_at, record_at, and_then, first_records, records_of}
use Rattle.entries.specs.Claims.{ListInRange}

-- ---- numbers of bytes

byte_at : (bytes : List ℕ) → Every Byte bytes → (i : ℕ) → get_or bytes i 0 < 256
byte_at [] h i = omega arith
byte_at (b ∷ bytes) (h, hs) zero = h
byte_at (b ∷ bytes) (h, hs) (suc i) = byte_at bytes hs i

two_small : (bytes : List ℕ) → Every Byte bytes → (at : ℕ) → two_at bytes at < 65536
two_small bytes h at = omega (arith, byte_at bytes h at, byte_at bytes h (at + 1))

four_small : (bytes : List ℕ) → Every Byte bytes → (at : ℕ) → four_at bytes at < 4294967296
four_small bytes h at = omega (arith, two_small bytes h at, two_small bytes h (at + 2))

-- ---- records of bytes

abbrev IfInRange : Option Record → Type 0
IfInRange none = Unit
IfInRange (some r) = InRange r

short_range : (number : ℕ) (r : Record) → (number < 65536 → InRange r) → IfInRange (if_short number r)
short_range number r h = branch IfInRange (leb number 65535) (some r) none (λ e. h (omega (arith, leb-true number 65535 e))) (λ e. tt)

of_range : (kind number second at len : ℕ) → number < 4294967296 → second < 65536 → IfInRange (record_of kind number second at len)
unfolding record_of
of_range kind number second at len n s =
    branch IfInRange (eqb kind 0) _ _ (λ e. short_range number (Data number at len) (λ h. h))
    (λ e. branch IfInRange (eqb kind 1) _ _ (λ e. tt)
    (λ e. branch IfInRange (eqb kind 2) _ _ (λ e. short_range number (ExtendedSegmentAddress number) (λ h. h))
    (λ e. branch IfInRange (eqb kind 3) _ _ (λ e. short_range number (StartSegmentAddress number second) (λ h. (h, s)))
    (λ e. branch IfInRange (eqb kind 4) _ _ (λ e. short_range number (ExtendedLinearAddress number) (λ h. h))
    (λ e. branch IfInRange (eqb kind 5) _ _ (λ e. n) (λ e. tt))))))

abbrev AllInRange : Option (List Record) → Type 0
AllInRange none = Unit
AllInRange (some rs) = Every InRange rs

every_append : (rs : List Record) (r : Record) → Every InRange rs → InRange r → Every InRange (rs ++ (r ∷ []))
every_append [] r h k = (k, tt)
every_append (q ∷ rs) r (h, hs) k = (h, every_append rs r hs k)

then_range : (rs : Option (List Record)) (r : Option Record) → AllInRange rs → IfInRange r → AllInRange (and_then rs r)
then_range none r h k = tt
then_range (some rs) none h k = tt
then_range (some rs) (some r) h k = every_append rs r h k

at_range : (bytes : List ℕ) → Every Byte bytes → (at : ℕ) → IfInRange (record_at bytes at)
unfolding record_at
at_range bytes h at =
    of_range (get_or bytes at 0) (four_at bytes (at + 4)) (two_at bytes (at + 2)) (eight_at bytes (at + 8)) (eight_at bytes (at + 16))
    (four_small bytes h (at + 4)) (two_small bytes h (at + 2))

first_range : (bytes : List ℕ) → Every Byte bytes → (n : ℕ) → AllInRange (first_records bytes n)
unfolding first_records
first_range bytes h zero = tt
first_range bytes h (suc n) =
    then_range (first_records bytes n) (record_at bytes (24 * n)) (first_range bytes h n) (at_range bytes h (24 * n))

list_range : (bytes : List ℕ) → Every Byte bytes → AllInRange (records_of bytes)
unfolding records_of
list_range bytes h = branch AllInRange (eqb (length bytes % 24) 0) _ none (λ e. first_range bytes h (length bytes / 24)) (λ e. tt)

pub list_in_range : ListInRange
list_in_range bytes rs h e = subst AllInRange e (list_range bytes h)
