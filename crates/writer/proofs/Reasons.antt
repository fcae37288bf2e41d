-- The claims of `specs/Reasons.antt`, proved. A record, and a list of records, is refused by a definition exactly with the fault that it has;
-- so one law over the refusal and the text serves the line, the step and the object.
-- Assumes nothing.
use Rattle.std.proofs.Common.{◌≡◌, ℕ, ◌+◌, Bool, true, false, ltb, leb, ◌≢◌, ◌↔◌, List, [], ◌∷◌, ◌++◌, length, sym, refl, ap, ◌∙◌, subst, inl, add-zero, zero-add, arith, length-append, ltb-false, ltb-true, lt-ltb, le-leb, leb-false, leb-true}
use mathlib.Core.Option.{Option, none, some}
use borrow.Author.Tests.{lt-leb}
use Rattle.digits.specs.Common.{or_else, Every}
use Rattle.std.specs.Prelude.{if◌then◌else◌}
use Rattle.record.specs.Refusals.{Refusal, missing_end_of_file_record, multiple_end_of_file_records}
use Rattle.record.specs.declared.Record.{Record}
use Rattle.record.specs.declared.Record.TheVariants.{Data, EndOfFile, ExtendedSegmentAddress, StartSegmentAddress, ExtendedLinearAddress, StartLinearAddress}
use Rattle.record.specs.Record.{meant}
use Rattle.record.specs.Format.{type_01, type_02, type_03, type_04, type_05}
use Rattle.record.specs.Written.{payload_of}
use Rattle.digits.proofs.Tests.{branch}
use Rattle.record.proofs.Choices.{or_else_both}
use Rattle.digits.proofs.Parts.{part_length}
use Rattle.record.proofs.Judging.{size_is, ending}
use Rattle.writer.specs.Told.{ToldWritten, wrote}
use Rattle.writer.specs.Text.{refused, unless, place_behind, if_room}
use Rattle.writer.specs.Line.{line_refusal, line, line_text, ended_line}
use Rattle.writer.specs.Object.{is_end, ends, ends_in_end, first_refusal, joined_lines, object}
use Rattle.writer.specs.Reasons.{RecordFault, outside, too_long, PayloadSize, stated, fixed, LineSize, LinesSize, no_line, one_more, EndsLast, NoEndLast, no_record, other_last, EndsCount, no_end, counted, passed, FirstFault, ListFault, unended, ended_twice, in_record, Why, faulty, no_room, written, WhyLine, WhyObject, Reasons, OneReason}
use Rattle.writer.proofs.Measuring.{line_length}
use Rattle.writer.proofs.Records.{fine_data}
use Rattle.writer.proofs.Objects.{ends_in_end_snoc, one_at_least}
use Rattle.writer.proofs.Surveying.{survey_answers}

-- ---- one law

-- what is refused exactly with its faults, and has one size: its answer has a reason, and no second answer has one
module _ (Fault : Refusal → Type 0) (Long : ℕ → Type 0) (f : Option Refusal) (exact : (g : Refusal) → Fault g ↔ (f ≡ some g)) (at room : ℕ) where
  faultless : f ≡ none → (g : Refusal) → ¬ Fault g
  faultless e g h = let k = (exact g).0 h in let z : ◌≡◌ {A = ℕ} 0 1 = cc in absurd (omega arith)

  pub reason : (cs : List ℕ) → (f ≡ none → Long (length cs)) → Why Fault Long at room (if_room (place_behind (unless f cs) at) room)
  reason cs long = go f refl
    where
      go : (g : Option Refusal) → f ≡ g → Why Fault Long at room (if_room (place_behind (unless g cs) at) room)
      go none e = branch (Why Fault Long at room) (leb (at + length cs) room) _ _
          (λ b. written (length cs) (faultless e) (long e) (leb-true (at + length cs) room b))
          (λ b. no_room (length cs) (faultless e) (long e) (leb-false (at + length cs) room b))
      go (some g) e = faulty g ((exact g).1 e)

  pub one_answer : ((n m : ℕ) → Long n → Long m → n ≡ m) → (t t' : ToldWritten) → Why Fault Long at room t → Why Fault Long at room t' → t ≡ t'
  one_answer one _ _ (faulty g h) (faulty g' h') = let k : some g ≡ some g' = sym ((exact g).0 h) ∙ (exact g').0 h' in cc
  one_answer one _ _ (faulty g h) (no_room n s l r) = absurd (s g h)
  one_answer one _ _ (faulty g h) (written n s l r) = absurd (s g h)
  one_answer one _ _ (no_room n s l r) (faulty g h) = absurd (s g h)
  one_answer one _ _ (no_room n s l r) (no_room n' s' l' r') = refl
  one_answer one _ _ (no_room n s l r) (written n' s' l' r') = let e = one n n' l l' in absurd (omega arith)
  one_answer one _ _ (written n s l r) (faulty g h) = absurd (s g h)
  one_answer one _ _ (written n s l r) (no_room n' s' l' r') = let e = one n n' l l' in absurd (omega arith)
  one_answer one _ _ (written n s l r) (written n' s' l' r') = ap (λ (k : ℕ). wrote (at + k)) (one n n' l l')

-- ---- one record

-- a record is refused exactly with its fault
record_exact : (size : ℕ) (r : Record) (f : Refusal) → RecordFault size r f ↔ (line_refusal r size ≡ some f)
record_exact size r f = (refuses_it, has_it r)
  where
    by_tests : (offset at len : ℕ) → line_refusal (Data offset at len) size ≡ some f → RecordFault size (Data offset at len) f
    by_tests offset at len =
        branch (λ (o : Option Refusal). o ≡ some f → RecordFault size (Data offset at len) f) (leb (at + len) size) _ _
        (λ b. branch (λ (o : Option Refusal). o ≡ some f → RecordFault size (Data offset at len) f) (leb len 255) _ _
        (λ c e. let z : ◌≡◌ {A = ℕ} 0 1 = cc in absurd (omega arith))
        (λ c e. subst (RecordFault size (Data offset at len)) (cc) (too_long offset at len (leb-true (at + len) size b) (leb-false len 255 c))))
        (λ b e. subst (RecordFault size (Data offset at len)) (cc) (outside offset at len (leb-false (at + len) size b)))

    refuses_it : {r : Record} {f : Refusal} → RecordFault size r f → line_refusal r size ≡ some f
    refuses_it (outside offset at len h) = rw (lt-leb (at + len) size h)
    refuses_it (too_long offset at len h l) = rw (le-leb (at + len) size h, lt-leb len 255 l)

    has_it : (r : Record) → line_refusal r size ≡ some f → RecordFault size r f
    has_it (Data offset at len) e = by_tests offset at len e
    has_it EndOfFile e = let z : ◌≡◌ {A = ℕ} 0 1 = cc in absurd (omega arith)
    has_it (ExtendedSegmentAddress a) e = let z : ◌≡◌ {A = ℕ} 0 1 = cc in absurd (omega arith)
    has_it (StartSegmentAddress cs ip) e = let z : ◌≡◌ {A = ℕ} 0 1 = cc in absurd (omega arith)
    has_it (ExtendedLinearAddress a) e = let z : ◌≡◌ {A = ℕ} 0 1 = cc in absurd (omega arith)
    has_it (StartLinearAddress a) e = let z : ◌≡◌ {A = ℕ} 0 1 = cc in absurd (omega arith)

-- so one that has none is not refused
sound : (size : ℕ) (r : Record) → ((f : Refusal) → ¬ RecordFault size r f) → line_refusal r size ≡ none
sound size r h = go (line_refusal r size) refl
  where
    go : (o : Option Refusal) → line_refusal r size ≡ o → o ≡ none
    go none e = refl
    go (some f) e = absurd (h f ((record_exact size r f).1 e))

-- ---- sizes

payload_size : (r : Record) (pool : List ℕ) → line_refusal r (length pool) ≡ none → PayloadSize r (length (payload_of (meant r pool)))
payload_size (Data offset at len) pool e =
    subst (PayloadSize (Data offset at len)) (sym (part_length pool at len (fine_data offset at len (length pool) e).0)) (stated offset at len)
payload_size EndOfFile pool e = fixed EndOfFile 0 (λ z. omega arith) (type_01 refl refl)
payload_size (ExtendedSegmentAddress a) pool e = fixed (ExtendedSegmentAddress a) 2 (λ z. omega arith) (type_02 refl refl)
payload_size (StartSegmentAddress cs ip) pool e = fixed (StartSegmentAddress cs ip) 4 (λ z. omega arith) (type_03 refl refl)
payload_size (ExtendedLinearAddress a) pool e = fixed (ExtendedLinearAddress a) 2 (λ z. omega arith) (type_04 refl refl)
payload_size (StartLinearAddress a) pool e = fixed (StartLinearAddress a) 4 (λ z. omega arith) (type_05 refl refl)

line_size : (r : Record) (pool : List ℕ) → line_refusal r (length pool) ≡ none → LineSize r (length (line r pool))
line_size r pool e = (length (payload_of (meant r pool)), payload_size r pool e, line_length r pool)

-- one line more, and its LF
lines_more : (r : Record) (rs : List Record) (pool : List ℕ) (n : ℕ) → line_refusal r (length pool) ≡ none → LinesSize rs n → LinesSize (r ∷ rs) (length (ended_line r pool) + n)
lines_more r rs pool n e s =
    let l : length (line r pool) + 1 + n ≡ length (ended_line r pool) + n = let a = length-append (line r pool) (10 ∷ []) in omega arith in
    subst (LinesSize (r ∷ rs)) l (one_more (length (line r pool)) n (line_size r pool e) s)

step_size : (r : Record) (pool : List ℕ) → line_refusal r (length pool) ≡ none → LinesSize (r ∷ []) (length (ended_line r pool))
step_size r pool e = rw add-zero at (lines_more r [] pool 0 e no_line)

lines_size : (rs : List Record) (pool : List ℕ) → first_refusal rs (length pool) ≡ none → LinesSize rs (length (joined_lines rs pool))
unfolding first_refusal joined_lines
lines_size [] pool e = no_line
lines_size (r ∷ rs) pool e =
    let p = or_else_both (line_refusal r (length pool)) (first_refusal rs (length pool)) e in
    rw length-append (lines_more r rs pool (length (joined_lines rs pool)) p.0 (lines_size rs pool p.1))

one_payload_size : (r : Record) (n m : ℕ) → PayloadSize r n → PayloadSize r m → n ≡ m
one_payload_size _ _ _ (stated offset at len) (stated _ _ _) = refl
one_payload_size _ _ _ (stated offset at len) (fixed _ m h s) = absurd (h refl)
one_payload_size _ _ _ (fixed _ n h s) (stated offset at len) = absurd (h refl)
one_payload_size _ _ _ (fixed _ n h s) (fixed _ m h' s') = size_is h s ∙ sym (size_is h' s')

one_line_size : (r : Record) (n m : ℕ) → LineSize r n → LineSize r m → n ≡ m
one_line_size r n m (a, p, e) (b, q, f) = let z = one_payload_size r a b p q in omega arith

one_lines_size : (rs : List Record) (n m : ℕ) → LinesSize rs n → LinesSize rs m → n ≡ m
one_lines_size _ _ _ no_line no_line = refl
one_lines_size _ _ _ (one_more {r} {rs} n k l s) (one_more n' k' l' s') =
    let a = one_line_size r n n' l l' in
    let b = one_lines_size rs k k' s s' in
    omega arith

-- ---- a list of records

end_is : (r : Record) → is_end r ≡ true → r ≡ EndOfFile
end_is EndOfFile e = refl
end_is (Data offset at len) e = let z : ◌≡◌ {A = ℕ} 0 1 = cc in absurd (omega arith)
end_is (ExtendedSegmentAddress a) e = let z : ◌≡◌ {A = ℕ} 0 1 = cc in absurd (omega arith)
end_is (StartSegmentAddress cs ip) e = let z : ◌≡◌ {A = ℕ} 0 1 = cc in absurd (omega arith)
end_is (ExtendedLinearAddress a) e = let z : ◌≡◌ {A = ℕ} 0 1 = cc in absurd (omega arith)
end_is (StartLinearAddress a) e = let z : ◌≡◌ {A = ℕ} 0 1 = cc in absurd (omega arith)

-- a record is an end, or another one
end_cases : {X : Type 0} (r : Record) → (r ≡ EndOfFile → is_end r ≡ true → X) → (r ≢ EndOfFile → is_end r ≡ false → X) → X
end_cases {X} r f g = go (is_end r) refl
  where
    go : (b : Bool) → is_end r ≡ b → X
    go true e = f (end_is r e) e
    go false e = g (λ k. let z : true ≡ false = sym (ap is_end k) ∙ e in let w : ◌≡◌ {A = ℕ} 0 1 = cc in absurd (omega arith)) e

-- an end is last, or none is
last_cases : {X : Type 0} (rs : List Record) → (EndsLast rs → ends_in_end rs ≡ true → X) → (NoEndLast rs → ends_in_end rs ≡ false → X) → X
unfolding ends_in_end
last_cases [] f g = g (no_record refl) refl
last_cases (r ∷ rs) f g =
    let t = ending r rs in
    let s = ap ends_in_end t.whole ∙ ends_in_end_snoc t.front t.final in
    end_cases t.final
    (λ k e. f (t.front, t.whole ∙ ap (λ (q : Record). t.front ++ (q ∷ [])) k) (s ∙ e))
    (λ k e. g (other_last t.front t.final t.whole k) (s ∙ e))

last_true : (rs : List Record) → EndsLast rs → ends_in_end rs ≡ true
last_true rs (before, e) = ap ends_in_end e ∙ ends_in_end_snoc before EndOfFile

last_false : (rs : List Record) → NoEndLast rs → ends_in_end rs ≡ false
unfolding ends_in_end
last_false rs (no_record e) = ap ends_in_end e
last_false rs (other_last before r e k) = ap ends_in_end e ∙ ends_in_end_snoc before r ∙ end_cases r (λ s _. absurd (k s)) (λ _ s. s)

-- the count
count : (rs : List Record) → EndsCount rs (ends rs)
unfolding ends
count [] = no_end
count (r ∷ rs) =
    end_cases r
    (λ k e. rw k (counted (count rs)))
    (λ k e. rw (e, zero-add) (passed k (count rs)))

count_is : {rs : List Record} {n : ℕ} → EndsCount rs n → ends rs ≡ n
unfolding ends
count_is no_end = refl
count_is (counted c) = let i = count_is c in omega arith
count_is (passed {r} k c) = end_cases r (λ s _. absurd (k s)) (λ _ e. rw (e, zero-add) (count_is c))

-- the first fault is the first refusal
first_more : (size : ℕ) (r : Record) {rs : List Record} {f : Refusal} → line_refusal r size ≡ none → FirstFault size rs f → FirstFault size (r ∷ rs) f
first_more size r e t = record {
  before = r ∷ t.before;
  faulty = t.faulty;
  after = t.after;
  whole = ap (λ (l : List Record). r ∷ l) t.whole;
  fault = t.fault;
  none_before = (λ g h. let k = (record_exact size r g).0 h in let z : ◌≡◌ {A = ℕ} 0 1 = cc in absurd (omega arith), t.none_before);
}

first_exact : (size : ℕ) (rs : List Record) (f : Refusal) → FirstFault size rs f ↔ (first_refusal rs size ≡ some f)
unfolding first_refusal
first_exact size rs f = (λ t. ap (λ (l : List Record). first_refusal l size) t.whole ∙ found t.before t.faulty t.after t.fault t.none_before, find rs)
  where
    found : (before : List Record) (r : Record) (after : List Record) → RecordFault size r f → Every (λ q. (g : Refusal) → ¬ RecordFault size q g) before
        → first_refusal (before ++ (r ∷ after)) size ≡ some f
    found [] r after h _ = rw ((record_exact size r f).0 h)
    found (q ∷ before) r after h (k, ks) = rw (sound size q k) (found before r after h ks)

    go : (r : Record) (rs : List Record) (o : Option Refusal) → line_refusal r size ≡ o → or_else o (first_refusal rs size) ≡ some f
        → (first_refusal rs size ≡ some f → FirstFault size rs f) → FirstFault size (r ∷ rs) f
    go r rs none e q rest = first_more size r e (rest q)
    go r rs (some g) e q rest = record { before = []; faulty = r; after = rs; whole = refl; fault = (record_exact size r f).1 (e ∙ q); none_before = tt }

    find : (rs : List Record) → first_refusal rs size ≡ some f → FirstFault size rs f
    find [] e = let z : ◌≡◌ {A = ℕ} 0 1 = cc in absurd (omega arith)
    find (r ∷ rs) e = go r rs (line_refusal r size) refl e (find rs)

-- why a list has no text, by the tests of `object`
list_refusal : List Record → (size : ℕ) → Option Refusal
list_refusal rs size =
    if ends_in_end rs
    then (if ltb 1 (ends rs) then some (multiple_end_of_file_records (ends rs)) else first_refusal rs size)
    else some missing_end_of_file_record

object_is : (rs : List Record) (pool : List ℕ) → object rs pool ≡ unless (list_refusal rs (length pool)) (joined_lines rs pool)
unfolding object list_refusal
object_is rs pool = go (ends_in_end rs) (ltb 1 (ends rs))
  where
    go : (b c : Bool)
        → (if b then (if c then refused (multiple_end_of_file_records (ends rs)) else unless (first_refusal rs (length pool)) (joined_lines rs pool)) else refused missing_end_of_file_record)
        ≡ unless (if b then (if c then some (multiple_end_of_file_records (ends rs)) else first_refusal rs (length pool)) else some missing_end_of_file_record) (joined_lines rs pool)
    go true true = refl
    go true false = refl
    go false c = refl

-- a list is refused exactly with its fault
list_exact : (size : ℕ) (rs : List Record) (f : Refusal) → ListFault size rs f ↔ (list_refusal rs size ≡ some f)
unfolding list_refusal
list_exact size rs f = (refuses_it, has_it)
  where
    refuses_it : {f : Refusal} → ListFault size rs f → list_refusal rs size ≡ some f
    refuses_it (unended k) = rw (last_false rs k)
    refuses_it (ended_twice n k c h) = rw (last_true rs k, count_is c, lt-ltb 1 n h)
    refuses_it {f} (in_record k c t) = rw (last_true rs k, count_is c) ((first_exact size rs f).0 t)

    ended : EndsLast rs → ends_in_end rs ≡ true → (c : Bool) → ltb 1 (ends rs) ≡ c
        → (if c then some (multiple_end_of_file_records (ends rs)) else first_refusal rs size) ≡ some f → ListFault size rs f
    ended k e true l q = subst (ListFault size rs) (cc) (ended_twice (ends rs) k (count rs) (ltb-true 1 (ends rs) l))
    ended k e false l q =
        let least = one_at_least rs e in
        let most = ltb-false 1 (ends rs) l in
        let one : ends rs ≡ 1 = omega arith in
        in_record k (subst (EndsCount rs) one (count rs)) ((first_exact size rs f).1 q)

    has_it : list_refusal rs size ≡ some f → ListFault size rs f
    has_it q =
        last_cases rs
        (λ k e. ended k e (ltb 1 (ends rs)) refl (rw e at q))
        (λ k e. let m : some missing_end_of_file_record ≡ some f = rw e at q in subst (ListFault size rs) (cc) (unended k))

-- a list that is not refused has no fault of a record
no_first : (rs : List Record) (size : ℕ) → list_refusal rs size ≡ none → first_refusal rs size ≡ none
unfolding list_refusal
no_first rs size = go (ends_in_end rs) (ltb 1 (ends rs))
  where
    go : (b c : Bool)
        → (if b then (if c then some (multiple_end_of_file_records (ends rs)) else first_refusal rs size) else some missing_end_of_file_record) ≡ none
        → first_refusal rs size ≡ none
    go true true e = let z : ◌≡◌ {A = ℕ} 0 1 = cc in absurd (omega arith)
    go true false e = e
    go false c e = let z : ◌≡◌ {A = ℕ} 0 1 = cc in absurd (omega arith)

-- ---- the claims

pub line_reason : (r : Record) (pool : List ℕ) (room : ℕ) → WhyLine r (length pool) room (if_room (place_behind (line_text r pool) 0) room)
line_reason r pool room =
    reason _ (LineSize r) (line_refusal r (length pool)) (record_exact (length pool) r) 0 room (line r pool) (line_size r pool)

pub object_reason : (rs : List Record) (pool : List ℕ) (room : ℕ) → WhyObject rs (length pool) room (if_room (place_behind (object rs pool) 0) room)
object_reason rs pool room =
    rw (object_is rs pool)
    (reason _ (LinesSize rs) (list_refusal rs (length pool)) (list_exact (length pool) rs) 0 room (joined_lines rs pool) (λ e. lines_size rs pool (no_first rs (length pool) e)))

pub reasons : Reasons
reasons =
    record {
      of_line = λ r pool out w out' h. rw h.answer (line_reason r pool (length out));
      of_step = λ r pool out at w out' h.
          rw h.answer (reason _ (LinesSize (r ∷ [])) (line_refusal r (length pool)) (record_exact (length pool) r) at (length out) (ended_line r pool) (step_size r pool));
      of_object = λ rs pool out w out' h. rw h.answer (object_reason rs pool (length out));
      of_survey = λ rs pool s room w few small v a. rw (survey_answers rs pool s room w few (inl small) v a) (object_reason rs pool room);
    }

pub one_reason : OneReason
one_reason = record {
  of_line = λ r size room. one_answer _ (LineSize r) (line_refusal r size) (record_exact size r) 0 room (one_line_size r);
  of_step = λ r size at room. one_answer _ (LinesSize (r ∷ [])) (line_refusal r size) (record_exact size r) at room (one_lines_size (r ∷ []));
  of_object = λ rs size room. one_answer _ (LinesSize rs) (list_refusal rs size) (list_exact size rs) 0 room (one_lines_size rs);
}
