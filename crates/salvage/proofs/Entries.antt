-- The numbers of an entry fit their bytes, and are read from them again.
-- Assumes nothing.
use Prim.Native.Nat.{ℕ, suc, ◌+◌, ◌*◌, ◌/◌, ◌%◌, ◌^◌, ◌≤◌, ◌<◌}
use mathlib.Core.Path.{◌≡◌, refl, sym, ap, ◌∙◌, subst}
use mathlib.Core.Logic.{◌⊎◌, inl, inr}
use native.Mathlib.Omega.{arith}
use mathlib.Core.Bool.{◌||◌}
use mathlib.Core.List.{List, [], ◌∷◌, ◌++◌, Memᴰ}
use lib.Dec.{eqb}
use lib.ListN.{length, take, drop, length-append}
use lib.Seq.{take-append_seam}
use Rattle.std.specs.Prelude.{if◌then◌else◌}
use Rattle.digits.proofs.Hex.{spells_small}
use Rattle.checksum.proofs.Laws.{negated_small}
use Rattle.record.specs.Refusals.{Refusal, refusal, missing_end_of_file_record}
use Rattle.record.specs.Faults.{Fault, no_colon, no_digit, short, long, odd, sum_differs, length_differs, type_unknown, size_differs}
use Rattle.record.proofs.Standing.{Stands, stands}
use Rattle.reader.specs.Lines.{lines}
use Rattle.reader.proofs.Texts.{lines_few}
use Rattle.steps.proofs.Firsts.{every_at}
use Rattle.salvage.specs.Salvage.{Reason, refused, base_unknown, dropped, entry, end_added, removed}
use Rattle.salvage.specs.Fates.{Fated, Becomes, not_a_record, data_lost}
use Rattle.salvage.specs.Claims.{NoEnd}
use Rattle.salvage.specs.Told.{low_first, reason_number, reason_value, ENTRY, entry_bytes, list_bytes, number_in, EntriesFit, ReadFrom, EntryReadsBack, EntriesApart, EntriesInOrder}
use Rattle.salvage.proofs.Accounts.{listed_exactly}
use Rattle.salvage.proofs.Putting.{entry_length}

-- ---- what is listed

-- how many values a refusal with this number has, of those of a line and 13
values_from : (number a b : ℕ) → List ℕ
values_from number a b = if eqb number 6 then a ∷ b ∷ [] else if eqb number 2 || eqb number 8 then a ∷ [] else []

-- the reason with these numbers
reason_from : (number a b : ℕ) → Reason
unfolding values_from
reason_from number a b = if eqb number 0 then base_unknown else refused (refusal number (values_from number a b))

record Small (why : Reason) : Type 0 where
  pub number : reason_number why ≤ 9
  pub first : reason_value why 0 < 65536
  pub second : reason_value why 1 < 65536
  pub formed : reason_from (reason_number why) (reason_value why 0) (reason_value why 1) ≡ why

of_fault : {line : List ℕ} {r : Refusal} → Fault line r → Small (refused r)
unfolding reason_from values_from
of_fault (no_colon h) = record { number = omega arith; first = omega arith; second = omega arith; formed = refl }
of_fault (no_digit place f) = record { number = omega arith; first = omega arith; second = omega arith; formed = refl }
of_fault (short ds a b c) = record { number = omega arith; first = omega arith; second = omega arith; formed = refl }
of_fault (long ds a b c) = record { number = omega arith; first = omega arith; second = omega arith; formed = refl }
of_fault (odd ds a b c d e) = record { number = omega arith; first = omega arith; second = omega arith; formed = refl }
of_fault (sum_differs ds body stated a s b c d) =
    let small = every_at (λ (b : ℕ). b < 256) body stated [] (spells_small s) in
    record { number = omega arith; first = omega (arith, negated_small body); second = omega arith; formed = refl }
of_fault (length_differs len high low kind check payload s n) = record { number = omega arith; first = omega arith; second = omega arith; formed = refl }
of_fault (type_unknown high low kind check payload s k) =
    let b = spells_small s.spells in record { number = omega arith; first = omega (arith, b.1.1.1.0); second = omega arith; formed = refl }
of_fault (size_differs high low kind check payload s k n) = record { number = omega arith; first = omega arith; second = omega arith; formed = refl }

becomes_small : {ahead : List (List ℕ)} {line : List ℕ} {why : Reason} → Becomes ahead line (dropped why) → Small why
unfolding reason_from values_from
becomes_small {line = line} (not_a_record r d) = of_fault (subst (Stands line) d.judged (stands line))
becomes_small (data_lost offset bytes s u) = record { number = omega arith; first = omega arith; second = omega arith; formed = refl }

-- an entry of a list is of a line, or of an added end
listed_case : {P : Type 0} (text : List ℕ) (line : ℕ) (why : Reason) → Memᴰ (entry line why) (removed text)
    → (Fated (lines text) line (dropped why) → P) → (entry line why ≡ end_added → P) → P
listed_case {P} text line why m f g = go ((listed_exactly text line why).0 m)
  where
    go : Fated (lines text) line (dropped why) ⊎ ((entry line why ≡ end_added) × NoEnd text) → P
    go (inl x) = f x
    go (inr (e, n)) = g e

pub entries_fit : EntriesFit
entries_fit text line why m = listed_case text line why m of_line of_end
  where
    Fit : Type 0
    Fit = (((reason_number why ≤ 9) × (1 ≤ line)) ⊎ (entry line why ≡ end_added)) × (reason_value why 0 < 65536) × (reason_value why 1 < 65536) × (line ≤ length text)

    of_line : Fated (lines text) line (dropped why) → Fit
    of_line f =
        let s = becomes_small f.becomes in
        let r = f.reached in
        (inl (s.number, omega (arith, r.number)), s.first, s.second, omega (arith, r.number, ap length r.whole, length-append f.ahead (f.line ∷ r.behind), (lines_few text).0))

    of_end : entry line why ≡ end_added → Fit
    of_end e = let l : line ≡ 0 = cc in let w : why ≡ refused missing_end_of_file_record = cc in (inr e, rw w (omega arith), rw w (omega arith), omega (arith, l))

listed_formed : (text : List ℕ) (line : ℕ) (why : Reason) → Memᴰ (entry line why) (removed text)
    → reason_from (reason_number why) (reason_value why 0) (reason_value why 1) ≡ why
unfolding reason_from values_from
listed_formed text line why m = listed_case text line why m (λ f. (becomes_small f.becomes).formed) (λ e. let w : why ≡ refused missing_end_of_file_record = cc in rw w refl)

-- ---- read again

reads_one : (n : ℕ) (bs : List ℕ) → number_in bs ≡ n / 256 → number_in (n % 256 ∷ bs) ≡ n
unfolding number_in
reads_one n bs e = omega arith

reads_none : (n : ℕ) → n ≡ 0 → number_in [] ≡ n
unfolding number_in
reads_none n e = sym e

pub entry_reads_back : EntryReadsBack
unfolding entry_bytes low_first
entry_reads_back line why a b c d =
    record { why_is = four (reason_number why) a; a_is = two (reason_value why 0) b; b_is = two (reason_value why 1) c; line_is = eight line d }
  where
    two : (n : ℕ) → n < 65536 → number_in (low_first 2 n) ≡ n
    two n h = reads_one n _ (reads_one (n / 256) _ (reads_none (n / 256 / 256) (omega arith)))

    four : (n : ℕ) → n < 2 ^ 32 → number_in (low_first 4 n) ≡ n
    four n h = reads_one n _ (reads_one (n / 256) _ (two (n / 256 / 256) (omega arith)))

    eight : (n : ℕ) → n < 2 ^ 64 → number_in (low_first 8 n) ≡ n
    eight n h =
        reads_one n _ (reads_one (n / 256) _ (reads_one (n / 256 / 256) _ (reads_one (n / 256 / 256 / 256) _ (four (n / 256 / 256 / 256 / 256) (omega arith)))))

listed_reads : (text : List ℕ) (line : ℕ) (why : Reason) → length text < 2 ^ 64 → Memᴰ (entry line why) (removed text) → ReadFrom (entry_bytes (entry line why)) line why
listed_reads text line why h m =
    let (n, a, b, l) = entries_fit text line why m in
    entry_reads_back line why (small n) a b (omega arith)
  where
    small : ((reason_number why ≤ 9) × (1 ≤ line)) ⊎ (entry line why ≡ end_added) → reason_number why < 2 ^ 32
    small (inl (n, k)) = omega arith
    small (inr e) = let w : why ≡ refused missing_end_of_file_record = cc in rw w (omega arith)

pub entries_apart : EntriesApart
entries_apart text text' (entry line why) (entry line' why') h h' m m' e =
    let r = listed_reads text line why h m in
    let r' = listed_reads text' line' why' h' m' in
    let n : reason_number why ≡ reason_number why' = sym r.why_is ∙ ap (λ (bs : List ℕ). number_in (take 4 bs)) e ∙ r'.why_is in
    let a : reason_value why 0 ≡ reason_value why' 0 = sym r.a_is ∙ ap (λ (bs : List ℕ). number_in (take 2 (drop 4 bs))) e ∙ r'.a_is in
    let b : reason_value why 1 ≡ reason_value why' 1 = sym r.b_is ∙ ap (λ (bs : List ℕ). number_in (take 2 (drop 6 bs))) e ∙ r'.b_is in
    let l : line ≡ line' = sym r.line_is ∙ ap (λ (bs : List ℕ). number_in (take 8 (drop 8 bs))) e ∙ r'.line_is in
    let f = listed_formed text line why m in
    let f' = listed_formed text' line' why' m' in
    let w : why ≡ why' = cc in
    cc

-- ---- one after the other

drop_more : (xs ys : List ℕ) (k : ℕ) → drop (length xs + k) (xs ++ ys) ≡ drop k ys
drop_more [] ys k = let e : 0 + k ≡ k = omega arith in ap (λ (j : ℕ). drop j ys) e
drop_more (x ∷ xs) ys k = let e : suc (length xs) + k ≡ suc (length xs + k) = omega arith in ap (λ (j : ℕ). drop j (x ∷ (xs ++ ys))) e ∙ drop_more xs ys k

pub entries_in_order : EntriesInOrder
unfolding list_bytes
entries_in_order [] after e = subst (λ (k : ℕ). take k (entry_bytes e ++ list_bytes after) ≡ entry_bytes e) (entry_length e) (take-append_seam (entry_bytes e) (list_bytes after))
entries_in_order (x ∷ before) after e =
    let n : ENTRY * suc (length before) ≡ length (entry_bytes x) + ENTRY * length before = omega (arith, entry_length x) in
    rw (n, drop_more (entry_bytes x) (list_bytes (before ++ (e ∷ after))) (ENTRY * length before)) (entries_in_order before after e)
