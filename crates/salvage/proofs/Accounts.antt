-- Nothing is lost in silence: each line that is read is in the clean file or in the list, in order.
-- Assumes nothing.
use Prim.Native.Nat.{ℕ, suc, ◌+◌, ◌<◌}
use mathlib.Core.Path.{◌≡◌, refl, sym, ap, ◌∙◌, subst}
use mathlib.Core.Logic.{◌⊎◌, inl, inr}
use native.Mathlib.Omega.{arith}
use mathlib.Core.Bool.{Bool, true, false, ◌&&◌}
use mathlib.Core.List.Memᴰ
use mathlib.Core.List.{List, [], ◌∷◌, ◌++◌, append-nil, append_assoc, Memᴰ}
use lib.ListN.{length}
use Rattle.digits.specs.Common.{Every}
use Rattle.std.specs.Prelude.{if◌then◌else◌}
use Rattle.record.specs.Line.{Said, says, wrong, judge}
use Rattle.record.specs.Meaning.{Meaning, data_at, end_of_file, extended_segment, start_segment, extended_linear, start_linear, meaning}
use Rattle.reader.specs.Lines.{lines}
use Rattle.reader.specs.Row.{Numbered, on, sayings, is_end, stops, through_stop, row}
use Rattle.steps.proofs.Firsts.{every_at}
use Rattle.salvage.specs.Salvage.{Reason, base_unknown, Fate, kept, dropped, fate_of, fate, still_known, known_behind, Sorted, of, sorted, past_refusals, fates, records, Entry, entry, end_added, entries, saved, removed}
use Rattle.salvage.specs.Fates.{Becomes, other_kept, GoesOn, Fated}
use Rattle.salvage.specs.Claims.{Accounted, is_kept, is_listed, NothingLost, NoEnd, ListedExactly, SavedExactly, Ascending, NumbersAscend, Rising, ListRises, Counted}
use Rattle.salvage.proofs.Fates.{every_snoc, is_the_end, is_no_end, has_fate, fates_of_lines}
use Rattle.salvage.proofs.Clean.{Endless, endless_cons, records_from, kept_says}

-- ---- nothing stands after an end record

Tidy : List Sorted → Type 0
Tidy [] = Unit
Tidy (of n (kept m) ∷ later) = (is_end m ≡ true → later ≡ []) × Tidy later
Tidy (of n (dropped why) ∷ later) = Tidy later

tidy : (known : Bool) (row : List Numbered) → Tidy (sorted known (through_stop past_refusals row))
unfolding Tidy sorted through_stop fate known_behind stops fate_of still_known is_end
tidy known [] = tt
tidy known (on n s ∷ row) = go s (λ k. tidy k row)
  where
    Below : Type 0
    Below = (k : Bool) → Tidy (sorted k (through_stop past_refusals row))

    data_tidy : (b : Bool) (offset : ℕ) (bytes : List ℕ) (later : List Sorted) → Tidy later → Tidy (of n (if b then kept (data_at offset bytes) else dropped base_unknown) ∷ later)
    data_tidy true offset bytes later h = (λ e. cc, h)
    data_tidy false offset bytes later h = h

    record_tidy : (m : Meaning) → Below → Tidy (of n (fate_of known m) ∷ sorted (still_known known m) (if is_end m && true then [] else through_stop past_refusals row))
    record_tidy (data_at offset bytes) below = data_tidy known offset bytes (sorted known (through_stop past_refusals row)) (below known)
    record_tidy end_of_file below = (λ e. refl, tt)
    record_tidy (extended_segment x) below = (λ e. cc, below true)
    record_tidy (start_segment cs ip) below = (λ e. cc, below known)
    record_tidy (extended_linear x) below = (λ e. cc, below true)
    record_tidy (start_linear x) below = (λ e. cc, below known)

    go : (s : Said) → Below → Tidy (of n (fate known s) ∷ sorted (known_behind known s) (if stops past_refusals s then [] else through_stop past_refusals row))
    go (says kind address payload) below = record_tidy (meaning kind address payload) below
    go (wrong r) below = below false

fates_tidy : (text : List ℕ) → Tidy (fates text)
unfolding fates row
fates_tidy text = tidy true (sayings 1 (lines text))

-- ---- a line that is kept is in the clean file, one that is dropped is in the list

kept_in : (n : ℕ) (m : Meaning) (xs : List Sorted) → Tidy xs → Memᴰ (of n (kept m)) xs → Memᴰ m (records xs)
unfolding Tidy records
kept_in n m [] t h = absurd (Memᴰ.not-nil h)
kept_in n m (of k (kept a) ∷ xs) (f, t) h = go (is_end a) refl (kept_in n m xs t) (Memᴰ.cases_cons h)
  where
    go : (b : Bool) → is_end a ≡ b → (Memᴰ (of n (kept m)) xs → Memᴰ m (records xs)) → (of n (kept m) ≡ of k (kept a)) ⊎ Memᴰ (of n (kept m)) xs
        → Memᴰ m (a ∷ (if b then [] else records xs))
    go b e below (inl q) = let w : m ≡ a = cc in Memᴰ.head w
    go true e below (inr h) = absurd (Memᴰ.not-nil (subst (Memᴰ (of n (kept m))) (f e) h))
    go false e below (inr h) = Memᴰ.tail (below h)
kept_in n m (of k (dropped why) ∷ xs) t h = go (Memᴰ.cases_cons h) (kept_in n m xs t)
  where
    go : (of n (kept m) ≡ of k (dropped why)) ⊎ Memᴰ (of n (kept m)) xs → (Memᴰ (of n (kept m)) xs → Memᴰ m (records xs)) → Memᴰ m (records xs)
    go (inl q) below = absurd (let z : ◌≡◌ {A = ℕ} 0 1 = cc in omega arith)
    go (inr h) below = below h

dropped_in : (n : ℕ) (why : Reason) (xs : List Sorted) → Tidy xs → Memᴰ (of n (dropped why)) xs → Memᴰ (entry n why) (entries xs)
unfolding Tidy entries
dropped_in n why [] t h = absurd (Memᴰ.not-nil h)
dropped_in n why (of k (kept a) ∷ xs) (f, t) h = go (is_end a) refl (dropped_in n why xs t) (Memᴰ.cases_cons h)
  where
    go : (b : Bool) → is_end a ≡ b → (Memᴰ (of n (dropped why)) xs → Memᴰ (entry n why) (entries xs))
        → (of n (dropped why) ≡ of k (kept a)) ⊎ Memᴰ (of n (dropped why)) xs → Memᴰ (entry n why) (if b then [] else entries xs)
    go b e below (inl q) = absurd (let z : ◌≡◌ {A = ℕ} 0 1 = cc in omega arith)
    go true e below (inr h) = absurd (Memᴰ.not-nil (subst (Memᴰ (of n (dropped why))) (f e) h))
    go false e below (inr h) = below h
dropped_in n why (of k (dropped y) ∷ xs) t h = go (Memᴰ.cases_cons h) (dropped_in n why xs t)
  where
    go : (of n (dropped why) ≡ of k (dropped y)) ⊎ Memᴰ (of n (dropped why)) xs → (Memᴰ (of n (dropped why)) xs → Memᴰ (entry n why) (entries xs))
        → Memᴰ (entry n why) (entry k y ∷ entries xs)
    go (inl q) below = let w : entry n why ≡ entry k y = cc in Memᴰ.head w
    go (inr h) below = Memᴰ.tail (below h)

pub nothing_lost : NothingLost
unfolding saved removed
nothing_lost text n ahead line r ne = go (has_fate ahead line ne)
  where
    at : (what : Fate) → Becomes ahead line what → Memᴰ (of n what) (fates text)
    at what b = (fates_of_lines text n what).1 (record { ahead = ahead; line = line; reached = r; becomes = b })

    go : (what : Fate) × Becomes ahead line what → Accounted text n line
    go (kept m, b) = is_kept m (kept_says b m refl) (at (kept m) b) (kept_in n m (fates text) (fates_tidy text) (at (kept m) b))
    go (dropped why, b) = is_listed why (dropped_in n why (fates text) (fates_tidy text) (at (dropped why) b))

-- ---- and nothing else is

listed_from : (n : ℕ) (why : Reason) (xs : List Sorted) → Memᴰ (entry n why) (entries xs)
    → Memᴰ (of n (dropped why)) xs ⊎ ((entry n why ≡ end_added) × Endless xs)
unfolding entries
listed_from n why [] h = go (Memᴰ.cases_cons h)
  where
    go : (entry n why ≡ end_added) ⊎ Memᴰ (entry n why) [] → Memᴰ (of n (dropped why)) [] ⊎ ((entry n why ≡ end_added) × Endless [])
    go (inl e) = inr (e, λ k q. Memᴰ.not-nil q)
    go (inr h) = absurd (Memᴰ.not-nil h)
listed_from n why (of k (kept a) ∷ xs) h = go (is_end a) refl (listed_from n why xs) h
  where
    later : is_end a ≡ false → Memᴰ (of n (dropped why)) xs ⊎ ((entry n why ≡ end_added) × Endless xs)
        → Memᴰ (of n (dropped why)) (of k (kept a) ∷ xs) ⊎ ((entry n why ≡ end_added) × Endless (of k (kept a) ∷ xs))
    later b (inl h) = inl (Memᴰ.tail h)
    later b (inr (e, f)) = inr (e, endless_cons k (kept a) xs (λ q. is_no_end a b (cc)) f)

    go : (b : Bool) → is_end a ≡ b → (Memᴰ (entry n why) (entries xs) → Memᴰ (of n (dropped why)) xs ⊎ ((entry n why ≡ end_added) × Endless xs))
        → Memᴰ (entry n why) (if b then [] else entries xs) → Memᴰ (of n (dropped why)) (of k (kept a) ∷ xs) ⊎ ((entry n why ≡ end_added) × Endless (of k (kept a) ∷ xs))
    go true e below h = absurd (Memᴰ.not-nil h)
    go false e below h = later e (below h)
listed_from n why (of k (dropped y) ∷ xs) h = go (Memᴰ.cases_cons h) (listed_from n why xs)
  where
    later : Memᴰ (of n (dropped why)) xs ⊎ ((entry n why ≡ end_added) × Endless xs)
        → Memᴰ (of n (dropped why)) (of k (dropped y) ∷ xs) ⊎ ((entry n why ≡ end_added) × Endless (of k (dropped y) ∷ xs))
    later (inl h) = inl (Memᴰ.tail h)
    later (inr (e, f)) = inr (e, endless_cons k (dropped y) xs (λ q. let z : ◌≡◌ {A = ℕ} 0 1 = cc in omega arith) f)

    go : (entry n why ≡ entry k y) ⊎ Memᴰ (entry n why) (entries xs)
        → (Memᴰ (entry n why) (entries xs) → Memᴰ (of n (dropped why)) xs ⊎ ((entry n why ≡ end_added) × Endless xs))
        → Memᴰ (of n (dropped why)) (of k (dropped y) ∷ xs) ⊎ ((entry n why ≡ end_added) × Endless (of k (dropped y) ∷ xs))
    go (inl e) below = let w : of n (dropped why) ≡ of k (dropped y) = cc in inl (Memᴰ.head w)
    go (inr h) below = later (below h)

-- ---- an end is added exactly where there is none

-- where no line is kept as an end record, no line is an end record: the first one would be kept
no_end_lines : (all : List (List ℕ)) → ((n : ℕ) → ¬ Fated all n (kept end_of_file)) → (rest ahead : List (List ℕ)) → all ≡ ahead ++ rest → Every GoesOn ahead → Every GoesOn all
no_end_lines all f [] ahead w g = rw (w ∙ append-nil ahead) g
no_end_lines all f (l ∷ rest) ahead w g =
    no_end_lines all f rest (ahead ++ (l ∷ [])) (w ∙ sym (append_assoc ahead (l ∷ []) rest))
    (every_snoc GoesOn ahead l g
    (λ q. f (suc (length ahead))
    (record {
      ahead = ahead;
      line = l;
      reached = record { behind = rest; whole = w; number = refl; come_to = g };
      becomes = other_kept end_of_file q (λ o b z. let y : ◌≡◌ {A = ℕ} 0 1 = cc in omega arith);
    })))

endless_text : (text : List ℕ) → Endless (fates text) → NoEnd text
endless_text text f = no_end_lines (lines text) (λ n h. f n ((fates_of_lines text n (kept end_of_file)).1 h)) (lines text) [] refl tt

text_endless : (text : List ℕ) → NoEnd text → Endless (fates text)
text_endless text g n h =
    let f = (fates_of_lines text n (kept end_of_file)).0 h in
    every_at GoesOn f.ahead f.line f.reached.behind (subst (Every GoesOn) f.reached.whole g) (kept_says f.becomes end_of_file refl)

added : (xs : List Sorted) → Endless xs → Memᴰ end_added (entries xs) × Memᴰ end_of_file (records xs)
unfolding entries records
added [] f = (Memᴰ.head refl, Memᴰ.head refl)
added (of n (kept m) ∷ xs) f = go (is_end m) refl (added xs (λ k h. f k (Memᴰ.tail h)))
  where
    go : (b : Bool) → is_end m ≡ b → Memᴰ end_added (entries xs) × Memᴰ end_of_file (records xs)
        → Memᴰ end_added (if b then [] else entries xs) × Memᴰ end_of_file (m ∷ (if b then [] else records xs))
    go true e (h, h') = let w : of n (kept end_of_file) ≡ of n (kept m) = ap (λ (a : Meaning). of n (kept a)) (sym (is_the_end m e)) in absurd (f n (Memᴰ.head w))
    go false e (h, h') = (h, Memᴰ.tail h')
added (of n (dropped why) ∷ xs) f = let (h, h') = added xs (λ k h. f k (Memᴰ.tail h)) in (Memᴰ.tail h, h')

pub listed_exactly : ListedExactly
unfolding removed
listed_exactly text n why = (λ h. there (listed_from n why (fates text) h), back)
  where
    there : Memᴰ (of n (dropped why)) (fates text) ⊎ ((entry n why ≡ end_added) × Endless (fates text)) → Fated (lines text) n (dropped why) ⊎ ((entry n why ≡ end_added) × NoEnd text)
    there (inl h) = inl ((fates_of_lines text n (dropped why)).0 h)
    there (inr (e, f)) = inr (e, endless_text text f)

    back : Fated (lines text) n (dropped why) ⊎ ((entry n why ≡ end_added) × NoEnd text) → Memᴰ (entry n why) (entries (fates text))
    back (inl f) = dropped_in n why (fates text) (fates_tidy text) ((fates_of_lines text n (dropped why)).1 f)
    back (inr (e, g)) = rw e (added (fates text) (text_endless text g)).0

pub saved_exactly : SavedExactly
unfolding saved
saved_exactly text m = (λ h. there (records_from m (fates text) h), back)
  where
    there : ((n : ℕ) × Memᴰ (of n (kept m)) (fates text)) ⊎ ((m ≡ end_of_file) × Endless (fates text)) → ((n : ℕ) × Fated (lines text) n (kept m)) ⊎ ((m ≡ end_of_file) × NoEnd text)
    there (inl (n, h)) = inl (n, (fates_of_lines text n (kept m)).0 h)
    there (inr (e, f)) = inr (e, endless_text text f)

    back : ((n : ℕ) × Fated (lines text) n (kept m)) ⊎ ((m ≡ end_of_file) × NoEnd text) → Memᴰ m (records (fates text))
    back (inl (n, f)) = kept_in n m (fates text) (fates_tidy text) ((fates_of_lines text n (kept m)).1 f)
    back (inr (e, g)) = rw e (added (fates text) (text_endless text g)).1

-- ---- line numbers

ascending : (known : Bool) (above n : ℕ) (ls : List (List ℕ)) → above < n → Ascending above (sorted known (through_stop past_refusals (sayings n ls)))
unfolding Ascending sorted through_stop sayings
ascending known above n [] h = tt
ascending known above n ([] ∷ ls) h = ascending known above (suc n) ls (omega arith)
ascending known above n ((c ∷ l) ∷ ls) h = (h, go (stops past_refusals (judge (c ∷ l))) (λ k. ascending k n (suc n) ls (omega arith)))
  where
    go : (b : Bool) → ((k : Bool) → Ascending n (sorted k (through_stop past_refusals (sayings (suc n) ls))))
        → Ascending n (sorted (known_behind known (judge (c ∷ l))) (if b then [] else through_stop past_refusals (sayings (suc n) ls)))
    go true below = tt
    go false below = below (known_behind known (judge (c ∷ l)))

pub numbers_ascend : NumbersAscend
unfolding fates row
numbers_ascend text = ascending true 0 1 (lines text) (omega arith)

rises_from : (k n : ℕ) (es : List Entry) → k < n → Rising n es → Rising k es
unfolding Rising
rises_from k n [] h r = tt
rises_from k n (entry j why ∷ es) h (inl (l, r)) = inl (omega arith, r)
rises_from k n (entry j why ∷ es) h (inr q) = inr q

rising : (k : ℕ) (xs : List Sorted) → Ascending k xs → Rising k (entries xs)
unfolding Rising Ascending entries
rising k [] a = inr (refl, refl)
rising k (of n (kept m) ∷ xs) (l, a) = go (is_end m) (rises_from k n (entries xs) l (rising n xs a))
  where
    go : (b : Bool) → Rising k (entries xs) → Rising k (if b then [] else entries xs)
    go true r = tt
    go false r = r
rising k (of n (dropped why) ∷ xs) (l, a) = inl (l, rising n xs a)

pub list_rises : ListRises
unfolding removed
list_rises text = rising 0 (fates text) (numbers_ascend text)

-- ---- how many

Counts : List Sorted → Type 0
unfolding Tidy records entries
Counts xs =
    ((length (records xs) + length (entries xs) ≡ length xs) × (¬ Endless xs)) ⊎ ((length (records xs) + length (entries xs) ≡ length xs + 2) × Endless xs)

endless_later : (x : Sorted) (xs : List Sorted) → ¬ Endless xs → ¬ Endless (x ∷ xs)
endless_later x xs h f = h (λ n m. f n (Memᴰ.tail m))

counted_from : (xs : List Sorted) → Tidy xs → Counts xs
unfolding Tidy Counts records entries
counted_from [] t = inr (refl, λ n h. Memᴰ.not-nil h)
counted_from (of n (kept m) ∷ xs) (f, t) = go (is_end m) refl (counted_from xs t)
  where
    go : (b : Bool) → is_end m ≡ b → Counts xs
        → ((suc (length (if b then [] else records xs)) + length (if b then [] else entries xs) ≡ suc (length xs)) × (¬ Endless (of n (kept m) ∷ xs)))
        ⊎ ((suc (length (if b then [] else records xs)) + length (if b then [] else entries xs) ≡ suc (length xs) + 2) × Endless (of n (kept m) ∷ xs))
    go true e h = inl (rw (f e), λ g. g n (Memᴰ.head (ap (λ (x : Meaning). of n (kept x)) (sym (is_the_end m e)))))
    go false e (inl (h, g)) = inl (omega arith, endless_later (of n (kept m)) xs g)
    go false e (inr (h, g)) = inr (omega arith, endless_cons n (kept m) xs (λ q. is_no_end m e (cc)) g)
counted_from (of n (dropped why) ∷ xs) t = go (counted_from xs t)
  where
    go : Counts xs → Counts (of n (dropped why) ∷ xs)
    go (inl (h, g)) = inl (omega arith, endless_later (of n (dropped why)) xs g)
    go (inr (h, g)) = inr (omega arith, endless_cons n (dropped why) xs (λ q. let z : ◌≡◌ {A = ℕ} 0 1 = cc in omega arith) g)

pub counted : Counted
unfolding saved removed Counts
counted text = go (counted_from (fates text) (fates_tidy text))
  where
    go : Counts (fates text)
        → ((length (records (fates text)) + length (entries (fates text)) ≡ length (fates text)) × (¬ NoEnd text))
        ⊎ ((length (records (fates text)) + length (entries (fates text)) ≡ length (fates text) + 2) × NoEnd text)
    go (inl (e, f)) = inl (e, λ g. f (text_endless text g))
    go (inr (e, f)) = inr (e, endless_text text f)
