-- What is printed of an answer: its parts, and how long it is beside its line. A record's line spells each byte that is printed of it, a
-- refusal that has a byte or two has a line of five bytes or more, and one that has a place has a line of two bytes or more.
-- Assumes nothing.
use Prim.Native.Nat.{ℕ, ◌+◌, ◌*◌, ◌≤◌, ◌<◌}
use mathlib.Core.Path.{◌≡◌, refl, sym, ◌∙◌, ap}
use mathlib.Core.List.{List, [], ◌∷◌, ◌++◌, append_assoc, append-nil}
use native.Mathlib.Omega.{arith}
use lib.ListN.{length, length-append}
use Rattle.digits.specs.Common.{text}
use Rattle.record.specs.Refusals.{Refusal, number_of}
use Rattle.record.specs.Faults.{Fault, no_colon, no_digit, short, long, odd, sum_differs, length_differs, type_unknown, size_differs}
use Rattle.record.specs.Line.{Said, says, wrong}
use Rattle.record.specs.Meaning.{data_at, meaning}
use Rattle.record.specs.Written.{two_bytes}
use Rattle.digits.specs.Spelling.{spelt}
use Rattle.digits.proofs.Hex.{spells_length}
use Rattle.record.proofs.Judging.{size_fits, kinds}
use Rattle.record.proofs.Standing.{Stands}
use Rattle.digits.proofs.Spelt.{spelt_length, spelt_append}
use Rattle.reader.specs.declared.ReaderError.{ReaderError}
use Rattle.reader.specs.declared.ReaderError.TheVariants.{MissingStartCode, RecordTooShort, RecordTooLong, RecordNotEvenLength, ContainsInvalidCharacters, ChecksumMismatch, PayloadLengthMismatch, UnsupportedRecordType, InvalidLengthForType, PoolFull}
use Rattle.reader.specs.Told.{refusal_of, values_in}
use Rattle.listing.specs.Listing.{decimal, payload, record_entry, values_shown, refusal_entry, entry, ended}
use Rattle.listing.specs.Helpers.{numbered, values_put}

-- ---- parts

pub payload_none : (bs : List ℕ) → length bs ≡ 0 → payload bs ≡ []
unfolding payload
payload_none [] e = refl
payload_none (b ∷ bs) e = absurd (omega arith)

pub payload_some : (bs : List ℕ) → 0 < length bs → payload bs ≡ text " " ++ spelt bs
unfolding payload
payload_some [] h = absurd (omega arith)
payload_some (b ∷ bs) h = refl

pub payload_length : (bs : List ℕ) → 0 < length bs → length (payload bs) ≡ 1 + 2 * length bs
payload_length bs h = ap length (payload_some bs h) ∙ omega (arith, spelt_length bs)

pub payload_most : (bs : List ℕ) → length (payload bs) ≤ 1 + 2 * length bs
unfolding payload
payload_most [] = omega arith
payload_most (b ∷ bs) = omega (arith, payload_length (b ∷ bs) (omega arith))

pub data_length : (offset : ℕ) (bs : List ℕ) → length (record_entry (data_at offset bs)) ≡ 6 + length (payload bs)
unfolding record_entry spelt
data_length offset bs = length-append (text "D " ++ spelt (two_bytes offset)) (payload bs)

pub data_none : (offset : ℕ) (bs : List ℕ) → length bs ≡ 0 → text "D " ++ spelt (two_bytes offset) ≡ record_entry (data_at offset bs)
unfolding record_entry
data_none offset bs e =
    sym (append-nil (text "D " ++ spelt (two_bytes offset))) ∙ ap (λ (l : List ℕ). text "D " ++ spelt (two_bytes offset) ++ l) (sym (payload_none bs e))

pub data_some : (offset : ℕ) (bs : List ℕ) → 0 < length bs → text "D " ++ spelt (two_bytes offset) ++ text " " ++ spelt bs ≡ record_entry (data_at offset bs)
unfolding record_entry
data_some offset bs h =
    append_assoc (text "D " ++ spelt (two_bytes offset)) (text " ") (spelt bs) ∙ ap (λ (l : List ℕ). text "D " ++ spelt (two_bytes offset) ++ l) (sym (payload_some bs h))

pub numbered_more : (digit : ℕ) (xs ys : List ℕ) → numbered digit xs ++ spelt ys ≡ numbered digit (xs ++ ys)
unfolding numbered
numbered_more digit xs ys = append_assoc (text "X" ++ (digit ∷ []) ++ text " ") (spelt xs) (spelt ys) ∙ ap (λ (l : List ℕ). text "X" ++ (digit ∷ []) ++ text " " ++ l) (sym (spelt_append xs ys))

pub numbered_length : (digit : ℕ) (xs : List ℕ) → length (numbered digit xs) ≡ 3 + 2 * length xs
unfolding numbered
numbered_length digit xs = omega (arith, spelt_length xs)

pub refusal_length : (r : Refusal) → length (refusal_entry r) ≡ 2 + length (decimal (number_of r)) + length (values_shown r)
unfolding refusal_entry
refusal_length r = length-append (text "! " ++ decimal (number_of r)) (values_shown r) ∙ omega arith

pub refusal_is : (r : Refusal) → refusal_entry r ≡ text "! " ++ decimal (number_of r) ++ values_shown r
unfolding refusal_entry
refusal_is r = refl

-- a refusal's values are those of its figures
pub values_so : (e : ReaderError) → values_put (values_in (refusal_of e)) ≡ values_shown (refusal_of e)
unfolding values_put values_shown spelt
values_so MissingStartCode = refl
values_so (ContainsInvalidCharacters place) = refl
values_so RecordTooShort = refl
values_so RecordTooLong = refl
values_so RecordNotEvenLength = refl
values_so (ChecksumMismatch computed stated) = refl
values_so PayloadLengthMismatch = refl
values_so (UnsupportedRecordType kind) = refl
values_so InvalidLengthForType = refl
values_so PoolFull = refl

-- ---- beside its line

record_most : (kind address : ℕ) (bs : List ℕ) → kind ≤ 5 → length (record_entry (meaning kind address bs)) ≤ 11 + 2 * length bs
unfolding meaning record_entry numbered spelt
record_most kind address bs =
    kinds (λ (k : ℕ). length (record_entry (meaning k address bs)) ≤ 11 + 2 * length bs)
    (omega (arith, data_length address bs, payload_most bs)) (omega arith) (omega arith) (omega arith) (omega arith) (omega arith) kind

-- an entry with its LF is at most three times as long as its line with an LF
pub entry_most : (line : List ℕ) (said : Said) → Stands line said → 0 < length line → length (ended (entry said)) ≤ 3 * length line + 3
unfolding entry decimal values_shown spelt
entry_most line (says kind address bs) f h =
    let n : length line ≡ 1 + 2 * (4 + (length bs + 1)) =
    ap length f.starts ∙ omega (arith, spells_length f.spells, length-append bs (f.check ∷ [])) in
    omega (arith, length-append (record_entry (meaning kind address bs)) (10 ∷ []), record_most kind address bs (size_fits f.sized).0)
entry_most line (wrong r) (no_colon k) h = omega arith
entry_most line (wrong r) (no_digit place f) h = omega (arith, f.behind, f.inside)
entry_most line (wrong r) (short ds e d k) h = omega arith
entry_most line (wrong r) (long ds e d k) h = omega arith
entry_most line (wrong r) (odd ds e d k l m) h = omega arith
entry_most line (wrong r) (sum_differs ds body stated e s least most k) h =
    omega (arith, ap length e, spells_length s, length-append body (stated ∷ []))
entry_most line (wrong r) (length_differs len high low kind check bs s k) h = omega arith
entry_most line (wrong r) (type_unknown high low kind check bs s k) h =
    omega (arith, ap length s.starts, spells_length s.spells)
entry_most line (wrong r) (size_differs high low kind check bs s k l) h = omega arith

-- no line is refused as PoolFull is
pub not_full : (line : List ℕ) (r : Refusal) → Fault line r → number_of r < 10
not_full line r (no_colon k) = omega arith
not_full line r (no_digit place f) = omega arith
not_full line r (short ds e d k) = omega arith
not_full line r (long ds e d k) = omega arith
not_full line r (odd ds e d k l m) = omega arith
not_full line r (sum_differs ds body stated e s least most k) = omega arith
not_full line r (length_differs len high low kind check bs s k) = omega arith
not_full line r (type_unknown high low kind check bs s k) = omega arith
not_full line r (size_differs high low kind check bs s k l) = omega arith
