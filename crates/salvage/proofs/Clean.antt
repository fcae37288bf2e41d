-- The clean file: its lines are cut where they were joined, each says its record, and only the last ends the reading.
-- Assumes nothing.
use Prim.Native.Nat.{ℕ, suc, ◌+◌}
use mathlib.Core.Path.{◌≡◌, refl, sym, ap, ap₂, ◌∙◌, subst}
use mathlib.Core.Logic.{◌≢◌, ◌⊎◌, inl, inr}
use native.Mathlib.Omega.{arith}
use mathlib.Core.Bool.{Bool, true, false, ◌&&◌}
use mathlib.Core.Option.{none}
use mathlib.Core.List.Memᴰ
use mathlib.Core.List.{List, [], ◌∷◌, ◌++◌, map, nil≢cons, tail-eq_of_cons-eq, head-eq_of_cons-eq, append-nil, append_assoc, Memᴰ}
use lib.ListN.{length}
use borrow.Author.Tests.{le-leb}
use lib.Seq.{take-length}
use Rattle.digits.specs.Common.{Every}
use Rattle.std.specs.Prelude.{if◌then◌else◌}
use Rattle.record.specs.declared.Record.{Record}
use Rattle.record.specs.declared.Record.TheVariants.{Data, EndOfFile, ExtendedSegmentAddress, StartSegmentAddress, ExtendedLinearAddress, StartLinearAddress}
use Rattle.record.specs.Record.{meant, Inside}
use Rattle.record.specs.Line.{Said, says, wrong, judge}
use Rattle.record.specs.Meaning.{Meaning, data_at, end_of_file, extended_segment, start_segment, extended_linear, start_linear, meaning}
use Rattle.record.specs.Written.{written, Sayable, line_of}
use Rattle.digits.proofs.Tests.{and_true}
use Rattle.digits.proofs.Parts.{part_length}
use Rattle.record.proofs.Writing.{reads_back, said_is_sayable}
use Rattle.reader.specs.declared.ReaderOptions.{ReaderOptions}
use Rattle.reader.specs.Lines.{LF, lines}
use Rattle.reader.specs.Row.{Numbered, on, sayings, is_end, stops, through_stop, row}
use Rattle.reader.specs.Text.{default_options}
use Rattle.reader.proofs.Cutting.{lines_closed, closed}
use Rattle.steps.specs.Steps.{Placement, step, stated}
use Rattle.intel.specs.Placing.{Base, from_start, placed, stated_by, base_behind, does, act, base_after, along}
use Rattle.intel.specs.Lines.{said_record}
use Rattle.intel.proofs.Rows.{cut_text}
use Rattle.writer.specs.Line.{line_refusal, line}
use Rattle.writer.specs.Object.{ends, ends_in_end, joined_lines, is_end as is_end_record}
use Rattle.writer.proofs.Objects.{whole_object}
use Rattle.page.specs.Spoken.{said_of}
use Rattle.page.proofs.Spoken.{lines_of}
use Rattle.salvage.specs.Salvage.{Fate, kept, dropped, fate_of, fate, still_known, known_behind, Sorted, of, sorted, past_refusals, fates, records, entries, text_of, saved, clean, removed}
use Rattle.salvage.specs.Fates.{Says, Becomes, not_a_record, data_lost, data_kept, other_kept}
use Rattle.salvage.specs.Claims.{OneEnd, the_last, ahead_of_it, SavedEnds, SavedSayable, CleanLines, spoken, CleanSays, all_stated, CleanStates, CleanIsObject, CleanIsClean}
use Rattle.salvage.proofs.Fates.{is_the_end, is_no_end, not_end, fates_of_lines}

-- ---- the records

-- none of these is a line that is kept as an end record
abbrev pub Endless : List Sorted → Type 0
Endless xs = (n : ℕ) → ¬ Memᴰ (of n (kept end_of_file)) xs

pub endless_cons : (n : ℕ) (what : Fate) (xs : List Sorted) → what ≢ kept end_of_file → Endless xs → Endless (of n what ∷ xs)
endless_cons n what xs ne f k h = go (Memᴰ.cases_cons h)
  where
    go : (of k (kept end_of_file) ≡ of n what) ⊎ Memᴰ (of k (kept end_of_file)) xs → ⊥
    go (inl e) = ne (cc)
    go (inr h) = f k h

pub records_end : (xs : List Sorted) → OneEnd (records xs)
unfolding records
records_end [] = the_last
records_end (of n (kept m) ∷ xs) = go (is_end m) refl (records_end xs)
  where
    go : (b : Bool) → is_end m ≡ b → OneEnd (records xs) → OneEnd (m ∷ (if b then [] else records xs))
    go true e h = rw (is_the_end m e) the_last
    go false e h = ahead_of_it (is_no_end m e) h
records_end (of n (dropped why) ∷ xs) = records_end xs

pub saved_ends : SavedEnds
unfolding saved
saved_ends text = records_end (fates text)

-- a record is that of a line that is kept, or an added end
pub records_from : (m : Meaning) (xs : List Sorted) → Memᴰ m (records xs) → ((n : ℕ) × Memᴰ (of n (kept m)) xs) ⊎ ((m ≡ end_of_file) × Endless xs)
unfolding records
records_from m [] h = go (Memᴰ.cases_cons h)
  where
    go : (m ≡ end_of_file) ⊎ Memᴰ m [] → ((n : ℕ) × Memᴰ (of n (kept m)) []) ⊎ ((m ≡ end_of_file) × Endless [])
    go (inl e) = inr (e, λ n q. Memᴰ.not-nil q)
    go (inr h) = absurd (Memᴰ.not-nil h)
records_from m (of n (kept a) ∷ xs) h = go (is_end a) refl (records_from m xs) (Memᴰ.cases_cons h)
  where
    later : is_end a ≡ false → ((n' : ℕ) × Memᴰ (of n' (kept m)) xs) ⊎ ((m ≡ end_of_file) × Endless xs)
        → ((n' : ℕ) × Memᴰ (of n' (kept m)) (of n (kept a) ∷ xs)) ⊎ ((m ≡ end_of_file) × Endless (of n (kept a) ∷ xs))
    later b (inl (k, h)) = inl (k, Memᴰ.tail h)
    later b (inr (e, f)) = inr (e, endless_cons n (kept a) xs (λ q. is_no_end a b (cc)) f)

    go : (b : Bool) → is_end a ≡ b → (Memᴰ m (records xs) → ((n' : ℕ) × Memᴰ (of n' (kept m)) xs) ⊎ ((m ≡ end_of_file) × Endless xs))
        → (m ≡ a) ⊎ Memᴰ m (if b then [] else records xs) → ((n' : ℕ) × Memᴰ (of n' (kept m)) (of n (kept a) ∷ xs)) ⊎ ((m ≡ end_of_file) × Endless (of n (kept a) ∷ xs))
    go b q below (inl e) = inl (n, Memᴰ.head (ap (λ (x : Meaning). of n (kept x)) e))
    go true q below (inr h) = absurd (Memᴰ.not-nil h)
    go false q below (inr h) = later q (below h)
records_from m (of n (dropped why) ∷ xs) h = later (records_from m xs h)
  where
    later : ((n' : ℕ) × Memᴰ (of n' (kept m)) xs) ⊎ ((m ≡ end_of_file) × Endless xs)
        → ((n' : ℕ) × Memᴰ (of n' (kept m)) (of n (dropped why) ∷ xs)) ⊎ ((m ≡ end_of_file) × Endless (of n (dropped why) ∷ xs))
    later (inl (k, h)) = inl (k, Memᴰ.tail h)
    later (inr (e, f)) = inr (e, endless_cons n (dropped why) xs (λ q. let z : ◌≡◌ {A = ℕ} 0 1 = cc in omega arith) f)

every_of : {A : Type 0} (P : A → Type 0) (xs : List A) → ((x : A) → Memᴰ x xs → P x) → Every P xs
every_of P [] h = tt
every_of P (x ∷ xs) h = (h x (Memᴰ.head refl), every_of P xs (λ y m. h y (Memᴰ.tail m)))

pub says_sayable : (l : List ℕ) (m : Meaning) → Says l m → Sayable m
unfolding said_record
says_sayable l m e = go (judge l) refl
  where
    go : (s : Said) → judge l ≡ s → Sayable m
    go (says kind address payload) q =
        let h : said_record (judge l) ≡ said_record (says kind address payload) = ap said_record q in
        let w : meaning kind address payload ≡ m = cc in
        subst Sayable w (said_is_sayable l kind address payload q)
    go (wrong r) q = let h : said_record (judge l) ≡ said_record (wrong r) = ap said_record q in absurd (let z : ◌≡◌ {A = ℕ} 0 1 = cc in omega arith)

pub kept_says : {ahead : List (List ℕ)} {l : List ℕ} {what : Fate} → Becomes ahead l what → (m : Meaning) → what ≡ kept m → Says l m
kept_says (not_a_record r h) m e = cc
kept_says (data_lost o b h u) m e = cc
kept_says (data_kept o b h k) m e = cc
kept_says (other_kept a h d) m e = cc

pub saved_sayable : SavedSayable
unfolding saved
saved_sayable text = every_of Sayable (records (fates text)) (λ m h. go m (records_from m (fates text) h))
  where
    go : (m : Meaning) → ((n : ℕ) × Memᴰ (of n (kept m)) (fates text)) ⊎ ((m ≡ end_of_file) × Endless (fates text)) → Sayable m
    go m (inr (e, f)) = rw e tt
    go m (inl (n, h)) = let f = (fates_of_lines text n (kept m)).0 h in says_sayable f.line m (kept_says f.becomes m refl)

-- ---- the lines

-- a record of the code that means it, and the pool for it
as_record : Meaning → Record
as_record (data_at offset bytes) = Data offset 0 (length bytes)
as_record end_of_file = EndOfFile
as_record (extended_segment x) = ExtendedSegmentAddress x
as_record (start_segment cs ip) = StartSegmentAddress cs ip
as_record (extended_linear x) = ExtendedLinearAddress x
as_record (start_linear x) = StartLinearAddress x

pool_of : Meaning → List ℕ
pool_of (data_at offset bytes) = bytes
pool_of end_of_file = []
pool_of (extended_segment x) = []
pool_of (start_segment cs ip) = []
pool_of (extended_linear x) = []
pool_of (start_linear x) = []

means_it : (m : Meaning) → meant (as_record m) (pool_of m) ≡ m
unfolding as_record pool_of
means_it (data_at offset bytes) = ap (data_at offset) (take-length bytes)
means_it end_of_file = refl
means_it (extended_segment x) = refl
means_it (start_segment cs ip) = refl
means_it (extended_linear x) = refl
means_it (start_linear x) = refl

one_line : (m : Meaning) → lines (line_of m ++ (LF ∷ [])) ≡ line_of m ∷ []
unfolding joined_lines
one_line m =
    subst (λ (a : Meaning). lines (line_of a ++ (LF ∷ [])) ≡ line_of a ∷ []) (means_it m)
    (ap lines (sym (append-nil (line_of (meant (as_record m) (pool_of m)) ++ (LF ∷ [])))) ∙ lines_of (as_record m ∷ []) (pool_of m))

pub text_lines : (ms : List Meaning) → lines (text_of ms) ≡ map line_of ms
unfolding text_of lines
text_lines [] = refl
text_lines (m ∷ ms) =
    ap lines (sym (append_assoc (line_of m) (LF ∷ []) (text_of ms)))
    ∙ lines_closed (closed (line_of m)) (text_of ms)
    ∙ ap₂ (λ (xs ys : List (List ℕ)). xs ++ ys) (one_line m) (text_lines ms)

pub clean_lines : CleanLines
unfolding clean
clean_lines text = text_lines (saved text)

said_in : (n : ℕ) (ms : List Meaning) → Every Sayable ms → sayings n (map line_of ms) ≡ spoken n ms
unfolding sayings spoken written
said_in n [] h = refl
said_in n (m ∷ ms) (h, hs) = ap₂ (λ (s : Said) (l : List Numbered). on n s ∷ l) (reads_back m h).said (said_in (suc n) ms hs)

stops_so : (options : ReaderOptions) → options.stop_after_eof ≡ true → (m : Meaning) → Sayable m → stops options (said_of m) ≡ is_end m
unfolding stops
stops_so options e m h = ap₂ (λ (a : Meaning) (b : Bool). is_end a && b) (reads_back m h).means e ∙ and_true (is_end m)

all_read : (options : ReaderOptions) → options.stop_after_eof ≡ true → (n : ℕ) {ms : List Meaning} → OneEnd ms → Every Sayable ms
    → through_stop options (spoken n ms) ≡ spoken n ms
unfolding through_stop spoken is_end
all_read options e n the_last (h, hs) = rw (stops_so options e end_of_file h)
all_read options e n (ahead_of_it {m = m} ne o) (h, hs) =
    rw (stops_so options e m h ∙ not_end m ne) (ap (λ (l : List Numbered). on n (said_of m) ∷ l) (all_read options e (suc n) o hs))

-- the rows of a text of such records
pub row_of : (options : ReaderOptions) → options.stop_after_eof ≡ true → {ms : List Meaning} → OneEnd ms → Every Sayable ms → row options (text_of ms) ≡ spoken 1 ms
unfolding row
row_of options e {ms} o h = rw (text_lines ms, said_in 1 ms h) (all_read options e 1 o h)

pub clean_says : CleanSays
unfolding clean
clean_says text = row_of default_options refl (saved_ends text) (saved_sayable text)

-- ---- what they state

-- what a row of sayings states, from a base on
abbrev row_states : Base → List Numbered → List Placement
row_states base row = stated (along (λ b. b) base row)

steps_state : (base : Base) (n : ℕ) {ms : List Meaning} → OneEnd ms → Every Sayable ms → row_states base (spoken n ms) ≡ all_stated base ms
unfolding along act base_after does spoken all_stated meaning stated stated_by
steps_state base n the_last h = refl
steps_state base n (ahead_of_it {m = m} {ms = ms} ne o) (h, hs) = rw (reads_back m h).means (go m ne (steps_state (base_behind base m) (suc n) o hs))
  where
    go : (m : Meaning) → m ≢ end_of_file → row_states (base_behind base m) (spoken (suc n) ms) ≡ all_stated (base_behind base m) ms
        → stated (map (step n) (does base m) ++ along (λ b. b) (base_behind base m) (spoken (suc n) ms)) ≡ stated_by base m ++ all_stated (base_behind base m) ms
    go (data_at offset bytes) ne e = ap (λ (ps : List Placement). placed base offset 0 bytes ++ ps) e
    go end_of_file ne e = absurd (ne refl)
    go (extended_segment x) ne e = e
    go (start_segment cs ip) ne e = e
    go (extended_linear x) ne e = e
    go (start_linear x) ne e = e

pub clean_states : CleanStates
clean_states text = sym (cut_text (λ b. b) (clean text)).1 ∙ rw (clean_says text) (steps_state from_start 1 (saved_ends text) (saved_sayable text))

-- ---- salvaged again

all_kept : (n : ℕ) {ms : List Meaning} → OneEnd ms → Every Sayable ms → (records (sorted true (spoken n ms)) ≡ ms) × (entries (sorted true (spoken n ms)) ≡ [])
unfolding records entries sorted spoken fate known_behind
all_kept n the_last h = (refl, refl)
all_kept n (ahead_of_it {m = m} {ms = ms} ne o) (h, hs) = rw (reads_back m h).means (go m ne (all_kept (suc n) o hs))
  where
    go : (m : Meaning) → m ≢ end_of_file → (records (sorted true (spoken (suc n) ms)) ≡ ms) × (entries (sorted true (spoken (suc n) ms)) ≡ [])
        → (records (of n (fate_of true m) ∷ sorted (still_known true m) (spoken (suc n) ms)) ≡ m ∷ ms) × (entries (of n (fate_of true m) ∷ sorted (still_known true m) (spoken (suc n) ms)) ≡ [])
    go (data_at offset bytes) ne (e, f) = (ap (λ (l : List Meaning). data_at offset bytes ∷ l) e, f)
    go end_of_file ne (e, f) = absurd (ne refl)
    go (extended_segment x) ne (e, f) = (ap (λ (l : List Meaning). extended_segment x ∷ l) e, f)
    go (start_segment cs ip) ne (e, f) = (ap (λ (l : List Meaning). start_segment cs ip ∷ l) e, f)
    go (extended_linear x) ne (e, f) = (ap (λ (l : List Meaning). extended_linear x ∷ l) e, f)
    go (start_linear x) ne (e, f) = (ap (λ (l : List Meaning). start_linear x ∷ l) e, f)

fates_again : (text : List ℕ) → fates (clean text) ≡ sorted true (spoken 1 (saved text))
unfolding fates clean
fates_again text = ap (sorted true) (row_of past_refusals refl (saved_ends text) (saved_sayable text))

pub clean_is_clean : CleanIsClean
unfolding clean saved removed
clean_is_clean text =
    let (e, f) = all_kept 1 (saved_ends text) (saved_sayable text) in
    (ap text_of (ap records (fates_again text) ∙ e), ap entries (fates_again text) ∙ f)

-- ---- as the object writer writes it

-- a record of the code that has its line: it means what a line can hold, and its payload lies in the pool
has_line : (r : Record) (pool : List ℕ) → Inside r (length pool) → Sayable (meant r pool) → line_refusal r (length pool) ≡ none
has_line (Data offset at len) pool i (o, s, b) =
    let n = part_length pool at len i in rw (le-leb (at + len) (length pool) i, le-leb len 255 (omega arith))
has_line EndOfFile pool i s = refl
has_line (ExtendedSegmentAddress a) pool i s = refl
has_line (StartSegmentAddress cs ip) pool i s = refl
has_line (ExtendedLinearAddress a) pool i s = refl
has_line (StartLinearAddress a) pool i s = refl

end_of : (r : Record) (pool : List ℕ) → meant r pool ≡ end_of_file → (is_end_record r ≡ true)
end_of (Data offset at len) pool e = cc
end_of EndOfFile pool e = refl
end_of (ExtendedSegmentAddress a) pool e = cc
end_of (StartSegmentAddress cs ip) pool e = cc
end_of (ExtendedLinearAddress a) pool e = cc
end_of (StartLinearAddress a) pool e = cc

no_end_of : (r : Record) (pool : List ℕ) → meant r pool ≢ end_of_file → (is_end_record r ≡ false)
no_end_of (Data offset at len) pool e = refl
no_end_of EndOfFile pool e = absurd (e refl)
no_end_of (ExtendedSegmentAddress a) pool e = refl
no_end_of (StartSegmentAddress cs ip) pool e = refl
no_end_of (ExtendedLinearAddress a) pool e = refl
no_end_of (StartLinearAddress a) pool e = refl

module _ (pool : List ℕ) where
  abbrev meanings : List Record → List Meaning
  meanings rs = map (λ r. meant r pool) rs

  same_text : (rs : List Record) → text_of (meanings rs) ≡ joined_lines rs pool
  unfolding text_of joined_lines
  same_text [] = refl
  same_text (r ∷ rs) = ap (λ (t : List ℕ). line r pool ++ (LF ∷ t)) (same_text rs) ∙ sym (append_assoc (line r pool) (LF ∷ []) (joined_lines rs pool))

  all_have_lines : (rs : List Record) → Every (λ r. Inside r (length pool)) rs → Every Sayable (meanings rs) → Every (λ r. line_refusal r (length pool) ≡ none) rs
  all_have_lines [] i s = tt
  all_have_lines (r ∷ rs) (i, is) (s, ss) = (has_line r pool i s, all_have_lines rs is ss)

  one_end : (rs : List Record) → {ms : List Meaning} → OneEnd ms → meanings rs ≡ ms → (ends_in_end rs ≡ true) × (ends rs ≡ 1)
  unfolding ends_in_end ends
  one_end [] the_last e = absurd (nil≢cons e)
  one_end [] (ahead_of_it ne o) e = absurd (nil≢cons e)
  one_end (r ∷ []) the_last e = let h = end_of r pool (head-eq_of_cons-eq e) in (h, rw h)
  one_end (r ∷ q ∷ rs) the_last e = absurd (nil≢cons (sym (tail-eq_of_cons-eq e)))
  one_end (r ∷ []) (ahead_of_it ne o) e = let (a, b) = one_end [] o (tail-eq_of_cons-eq e) in absurd (let z : ◌≡◌ {A = ℕ} 0 1 = cc in omega arith)
  one_end (r ∷ q ∷ rs) (ahead_of_it {m = m} ne o) e =
      let (a, b) = one_end (q ∷ rs) o (tail-eq_of_cons-eq e) in
      let h = no_end_of r pool (λ z. ne (cc (head-eq_of_cons-eq e))) in
      (a, rw h (omega arith))

pub clean_is_object : CleanIsObject
unfolding clean
clean_is_object text rs pool e i =
    let (a, b) = one_end pool rs (saved_ends text) e in
    whole_object rs pool (clean text)
    (record {
      fine = all_have_lines pool rs i (rw e (saved_sayable text));
      lined = ap text_of (sym e) ∙ same_text pool rs;
      ended = a;
      one = b;
    })
