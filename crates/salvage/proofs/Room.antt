-- How long clean file and list can be: a kept line is as long as the line that is written for it.
-- Assumes nothing.
use Prim.Native.Nat.{ℕ, suc, ◌+◌, ◌≤◌}
use mathlib.Core.Path.{◌≡◌, refl, sym}
use mathlib.Core.Logic.{◌⊎◌, inl, inr}
use native.Mathlib.Omega.{arith}
use mathlib.Core.Bool.{Bool, true, false, ◌&&◌, ◌||◌}
use mathlib.Core.List.{List, [], ◌∷◌, nil≢cons}
use lib.Dec.{eqb}
use lib.ListN.{length, length-append}
use Rattle.std.specs.Prelude.{if◌then◌else◌}
use Rattle.record.specs.Line.{Said, says, wrong, judge}
use Rattle.record.specs.Format.{Size, type_00, type_01, type_02, type_03, type_04, type_05}
use Rattle.record.specs.Meaning.{Meaning, data_at, end_of_file, extended_segment, start_segment, extended_linear, start_linear, meaning}
use Rattle.record.specs.Written.{written, line_of, kind_of, address_of, payload_of}
use Rattle.record.proofs.Writing.{reads_back}
use Rattle.record.proofs.Claims.{admits}
use Rattle.record.proofs.Noise.{format_length}
use Rattle.reader.specs.Lines.{LF, CR, at_LF, ends_line, first_line, lines, later}
use Rattle.reader.specs.Row.{Numbered, on, sayings, is_end, through_stop, row, stops}
use Rattle.reader.proofs.Texts.{lines_few, sayings_few}
use Rattle.salvage.specs.Salvage.{kept, dropped, base_unknown, fate_of, still_known, known_behind, Sorted, of, sorted, past_refusals, fates, records, text_of, saved, clean, removed}
use Rattle.salvage.specs.Fates.{Says}
use Rattle.salvage.specs.Claims.{NoEnd, CleanShort, with_a_byte, RemovedFew}
use Rattle.salvage.proofs.Fates.{said_so}
use Rattle.salvage.proofs.Stating.{said_case, keeps, keeps_record, keeps_refused}
use Rattle.salvage.proofs.Clean.{says_sayable}
use Rattle.salvage.proofs.Accounts.{counted}

-- ---- the list

sorted_length : (known : Bool) (ns : List Numbered) → length (sorted known ns) ≤ length ns
unfolding sorted
sorted_length known [] = omega arith
sorted_length known (on n s ∷ ns) = omega (arith, sorted_length (known_behind known s) ns)

stop_length : (ns : List Numbered) → length (through_stop past_refusals ns) ≤ length ns
unfolding through_stop
stop_length [] = omega arith
stop_length (on n s ∷ ns) = go (stops past_refusals s) (stop_length ns)
  where
    go : (b : Bool) → length (through_stop past_refusals ns) ≤ length ns → suc (length (if b then [] else through_stop past_refusals ns)) ≤ suc (length ns)
    go true h = omega arith
    go false h = omega arith

fates_few : (text : List ℕ) → length (fates text) ≤ with_a_byte text
unfolding fates row
fates_few text = omega (arith, sorted_length true (through_stop past_refusals (sayings 1 (lines text))), stop_length (sayings 1 (lines text)))

-- an end record at least is saved
one_saved : (xs : List Sorted) → 1 ≤ length (records xs)
unfolding records
one_saved [] = omega arith
one_saved (of n (kept m) ∷ xs) = omega arith
one_saved (of n (dropped why) ∷ xs) = one_saved xs

pub removed_few : RemovedFew
unfolding saved
removed_few text = (go (counted text) (one_saved (fates text)) (fates_few text), omega (arith, sayings_few 1 (lines text), (lines_few text).0))
  where
    go : ((length (saved text) + length (removed text) ≡ length (fates text)) × (¬ NoEnd text)) ⊎ ((length (saved text) + length (removed text) ≡ length (fates text) + 2) × NoEnd text)
        → 1 ≤ length (saved text) → length (fates text) ≤ with_a_byte text → length (removed text) ≤ with_a_byte text + 1
    go (inl (e, n)) h f = omega arith
    go (inr (e, n)) h f = omega arith

-- ---- lines

-- lines with a LF each
total : List (List ℕ) → ℕ
total [] = 0
total (l ∷ ls) = suc (length l) + total ls

lines_total : (text : List ℕ) → (total (lines text) ≤ suc (length text)) × (length (first_line text) + total (later text) ≤ length text)
unfolding total lines first_line ends_line
lines_total [] = (omega arith, omega arith)
lines_total (c ∷ text) = let (a, f) = lines_total text in go (eqb c LF) (eqb c CR && at_LF text) a f
  where
    go : (b e : Bool) → total (lines text) ≤ suc (length text) → length (first_line text) + total (later text) ≤ length text
        → (suc (length (if b || e then [] else c ∷ first_line text)) + total (if b then lines text else later text) ≤ suc (suc (length text)))
        × (length (if b || e then [] else c ∷ first_line text) + total (if b then lines text else later text) ≤ suc (length text))
    go true e a f = (omega arith, omega arith)
    go false true a f = (omega arith, omega arith)
    go false false a f = (omega arith, omega arith)

-- ---- the clean file

payload_length : {kind : ℕ} (address : ℕ) (payload : List ℕ) → Size kind (length payload) → length (payload_of (meaning kind address payload)) ≡ length payload
unfolding meaning
payload_length address payload (type_00 e) = rw e
payload_length address payload (type_01 e z) = rw e (sym z)
payload_length address payload (type_02 e z) = rw e (sym z)
payload_length address payload (type_03 e z) = rw e (sym z)
payload_length address payload (type_04 e z) = rw e (sym z)
payload_length address payload (type_05 e z) = rw e (sym z)

same_length : (l : List ℕ) (m : Meaning) → Says l m → length (line_of m) ≡ length l
same_length l m h = go (judge l) refl
  where
    go : (s : Said) → judge l ≡ s → length (line_of m) ≡ length l
    go (says kind address payload) e =
        let f = (admits l kind address payload).0 e in
        let w : meaning kind address payload ≡ m = said_case (λ s. judge l ≡ s → meaning kind address payload ≡ m) (judge l) m h (λ k a p q z. cc (e, z, q)) refl in
        let g = (admits (line_of m) (kind_of m) (address_of m) (payload_of m)).0 (reads_back m (says_sayable l m h)).said in
        let n : length (payload_of m) ≡ length payload = rw (← w) (payload_length address payload f.sized) in
        omega (arith, format_length f, format_length g)
    go (wrong r) e = absurd (said_case (λ s. judge l ≡ s → ⊥) (judge l) m h (λ k a p q z. let y : ◌≡◌ {A = ℕ} 0 1 = cc (e, z) in omega arith) refl)

kept_short : (ls : List (List ℕ)) (known : Bool) (n : ℕ) → length (text_of (keeps known n ls)) ≤ total ls + 12
unfolding total sayings sorted through_stop records text_of written fate_of still_known is_end
kept_short [] known n = omega arith
kept_short ([] ∷ ls) known n = omega (arith, kept_short ls known (suc n))
kept_short ((c ∷ l) ∷ ls) known n = go (judge (c ∷ l)) refl (λ k. kept_short ls k (suc n))
  where
    Below : Type 0
    Below = (k : Bool) → length (text_of (keeps k (suc n) ls)) ≤ total ls + 12

    of_record : (m : Meaning) → length (line_of m) ≡ suc (length l) → Below
        → length (text_of (records (of n (fate_of known m) ∷ sorted (still_known known m) (if is_end m && true then [] else through_stop past_refusals (sayings (suc n) ls)))))
        ≤ suc (suc (length l)) + total ls + 12
    of_record (data_at offset bytes) e below = go known (below known)
      where
        rest : List ℕ
        rest = text_of (keeps known (suc n) ls)

        go : (b : Bool) → length rest ≤ total ls + 12
            → length (text_of (records (of n (if b then kept (data_at offset bytes) else dropped base_unknown) ∷ sorted known (through_stop past_refusals (sayings (suc n) ls))))) ≤ suc (suc (length l)) + total ls + 12
        go true h = omega (arith, length-append (line_of (data_at offset bytes)) (LF ∷ rest))
        go false h = omega arith
    of_record end_of_file e below = omega (arith, length-append (line_of end_of_file) (LF ∷ []))
    of_record (extended_segment x) e below = omega (arith, below true, length-append (line_of (extended_segment x)) (LF ∷ text_of (keeps true (suc n) ls)))
    of_record (start_segment cs ip) e below = omega (arith, below known, length-append (line_of (start_segment cs ip)) (LF ∷ text_of (keeps known (suc n) ls)))
    of_record (extended_linear x) e below = omega (arith, below true, length-append (line_of (extended_linear x)) (LF ∷ text_of (keeps true (suc n) ls)))
    of_record (start_linear x) e below = omega (arith, below known, length-append (line_of (start_linear x)) (LF ∷ text_of (keeps known (suc n) ls)))

    go : (s : Said) → judge (c ∷ l) ≡ s → Below → length (text_of (keeps known n ((c ∷ l) ∷ ls))) ≤ suc (suc (length l)) + total ls + 12
    go (says kind address payload) e below =
        let m = meaning kind address payload in
        let h = said_so (c ∷ l) kind address payload e in
        rw (keeps_record known n (c ∷ l) ls m h) (of_record m (same_length (c ∷ l) m h) below)
    go (wrong r) e below = rw (keeps_refused known n (c ∷ l) ls r (record { has_byte = λ z. nil≢cons (sym z); judged = e })) (omega (arith, below false))

pub clean_short : CleanShort
unfolding clean saved fates row
clean_short text = omega (arith, kept_short (lines text) true 1, (lines_total text).0)
