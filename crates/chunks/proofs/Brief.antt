-- A line is judged as the line that what is kept of it stands for, by every judge that asks of a longer line only for its first 521 bytes, whether all
-- after the first are digits, and how many of them lead; a zero in the place of a digit changes none of it, nor does any byte after one that is not a digit.
-- Assumes nothing.
use Rattle.std.proofs.Common.{◌≡◌, ℕ, zero, suc, ◌+◌, ◌<◌, ◌≤◌, Bool, true, false, ◌&&◌, eqb, ltb, List, [], ◌∷◌, ◌++◌, length, get_or, take, drop, replicate, sym, refl, ap, ◌∙◌, ap₂, append_assoc, append-nil, arith, length-append, take-append-drop, drop_of_length-le, length-take-le, take_at, drop_at, ltb-false, ltb-true, le-ltb, lt-ltb}
use mathlib.Core.List.{foldl}
use lib.ListN.{length-replicate}
use lib.Seq.{split_at, get_or_at}
use Rattle.std.specs.Prelude.{if◌then◌else◌}
use Rattle.record.specs.Refusals.{missing_start_code, contains_invalid_characters, record_too_long}
use Rattle.digits.specs.Digits.{is_digit, all_digits, leading}
use Rattle.record.specs.Line.{Said, wrong, invalid, judge, judge_digits}
use Rattle.digits.specs.Reading.{named}
use Rattle.digits.proofs.Tests.{both, and_assoc, split}
use Rattle.digits.proofs.Leading.{leading_on, leading_in}
use Rattle.chunks.specs.Claims.{LeftOutCounted, NothingBehindCounted}
use Rattle.chunks.specs.Begun.{Kept, none_kept, push, brief, behind_digits, stands_for}

-- what is said of a first byte and a row after it: `good` if the row is of digits alone
abbrev pub by_digits : (start c : ℕ) (ds : List ℕ) (good : Said) → Said
by_digits start c ds good = if eqb c start then (if all_digits ds then good else invalid ds) else wrong missing_start_code

-- a line over 521 bytes: 1, 2 or 4
pub judge_over : (c : ℕ) (ds : List ℕ) → 520 < length ds → judge (c ∷ ds) ≡ by_digits 58 c ds (wrong record_too_long)
unfolding judge judge_digits
judge_over c ds h = let short : 10 ≤ length ds = omega arith in rw (le-ltb (length ds) 10 short, lt-ltb 520 (length ds) h)

pub digits_append : (a b : List ℕ) → all_digits (a ++ b) ≡ all_digits a && all_digits b
unfolding all_digits
digits_append [] b = refl
digits_append (c ∷ a) b = ap (λ (t : Bool). is_digit c && t) (digits_append a b) ∙ sym (and_assoc (is_digit c) (all_digits a) (all_digits b))

-- ---- long rows that are judged alike

-- both are digits alone, or neither is; and as many digits lead both, as far as places are named
pub record JudgedAlike (ds es : List ℕ) : Type 0 where
  pub all : all_digits ds ≡ all_digits es
  pub place : named (suc (leading ds)) ≡ named (suc (leading es))

-- a judge of lines over 521 bytes by their first byte, by whether all else are digits, and by how many lead; of digits alone, by the first 520
pub record JudgesLong (J : List ℕ → Said) : Type 0 where
  pub start : ℕ
  pub long : (front : List ℕ) → Said
  pub over : (c : ℕ) (front ds : List ℕ) → length front ≡ 520 → 0 < length ds → J (c ∷ (front ++ ds)) ≡ by_digits start c (front ++ ds) (long front)

-- Intel's is one
unfoldable pub intel_long : JudgesLong judge
intel_long =
    record {
      start = 58;
      long = λ front. wrong record_too_long;
      over = λ c front ds h k. judge_over c (front ++ ds) (omega (arith, length-append front ds));
    }

-- the same front, and behind it rows that as many digits lead, as far as places are named from there
alike_behind : (front ds es : List ℕ) → all_digits ds ≡ all_digits es
    → (all_digits front ≡ true → named (suc (length front + leading ds)) ≡ named (suc (length front + leading es))) → JudgedAlike (front ++ ds) (front ++ es)
alike_behind front ds es a p =
    record {
      all = digits_append front ds ∙ ap (λ (t : Bool). all_digits front && t) a ∙ sym (digits_append front es);
      place = go (all_digits front) refl;
    }
  where
    go : (t : Bool) → all_digits front ≡ t → named (suc (leading (front ++ ds))) ≡ named (suc (leading (front ++ es)))
    go true e = ap (λ (n : ℕ). named (suc n)) (leading_on front ds e) ∙ p e ∙ sym (ap (λ (n : ℕ). named (suc n)) (leading_on front es e))
    go false e = ap (λ (n : ℕ). named (suc n)) (leading_in front ds e ∙ sym (leading_in front es e))

-- ---- zeros

zeros_digits : (n : ℕ) → all_digits (replicate n 48) ≡ true
unfolding all_digits
zeros_digits zero = refl
zeros_digits (suc n) = zeros_digits n

-- zeros ahead of a row
module _ (n : ℕ) (ds : List ℕ) where
  pub all_behind : all_digits (replicate n 48 ++ ds) ≡ all_digits ds
  all_behind = digits_append (replicate n 48) ds ∙ ap (λ (t : Bool). t && all_digits ds) (zeros_digits n)

  pub leading_behind : leading (replicate n 48 ++ ds) ≡ n + leading ds
  leading_behind = leading_on (replicate n 48) ds (zeros_digits n) ∙ ap (λ (k : ℕ). k + leading ds) (length-replicate n 48)

-- ---- one byte onto 522

-- the last of them is a digit: whatever comes next takes its place, with one zero more ahead of it
pub counted_in : (front : List ℕ) (n y c : ℕ) (l : List ℕ) → length front ≡ 520 → is_digit y ≡ true
    → JudgedAlike (front ++ (replicate (named (suc n)) 48 ++ (c ∷ l))) (front ++ (replicate n 48 ++ (y ∷ c ∷ l)))
unfolding all_digits leading
counted_in front n y c l h e =
    let all : all_digits (y ∷ c ∷ l) ≡ all_digits (c ∷ l) = rw e in
    let one : leading (y ∷ c ∷ l) ≡ suc (leading (c ∷ l)) = rw e in
    alike_behind front (replicate (named (suc n)) 48 ++ (c ∷ l)) (replicate n 48 ++ (y ∷ c ∷ l))
    (all_behind (named (suc n)) (c ∷ l) ∙ sym (all_behind n (y ∷ c ∷ l) ∙ all))
    (λ _. omega (arith, leading_behind (named (suc n)) (c ∷ l), leading_behind n (y ∷ c ∷ l), one))

-- it is none: what comes next does not matter
pub passed_by : (front : List ℕ) (n y c : ℕ) (l : List ℕ) → is_digit y ≡ false
    → JudgedAlike (front ++ (replicate n 48 ++ (y ∷ l))) (front ++ (replicate n 48 ++ (y ∷ c ∷ l)))
unfolding all_digits leading
passed_by front n y c l e =
    let all : all_digits (y ∷ l) ≡ all_digits (y ∷ c ∷ l) = rw e in
    let one : leading (y ∷ l) ≡ leading (y ∷ c ∷ l) = rw e in
    alike_behind front (replicate n 48 ++ (y ∷ l)) (replicate n 48 ++ (y ∷ c ∷ l))
    (all_behind n (y ∷ l) ∙ all ∙ sym (all_behind n (y ∷ c ∷ l)))
    (λ _. omega (arith, leading_behind n (y ∷ l), leading_behind n (y ∷ c ∷ l), one))

-- ---- what is kept of a line of 522 bytes and more: a first byte, 520 more, and a last

module _ (x : ℕ) (front : List ℕ) (h : length front ≡ 520) where
  abbrev pub full : (y n : ℕ) → Kept
  full y n = record { bytes = (x ∷ front) ++ (y ∷ []); skipped = n }

  pub full_stands : (y n : ℕ) → stands_for (full y n) ≡ x ∷ (front ++ (replicate n 48 ++ (y ∷ [])))
  unfolding stands_for
  full_stands y n = rw (take_at front (y ∷ []) 520 h, drop_at front (y ∷ []) 520 h)

  full_push : (y n c : ℕ) → push (full y n) c ≡ (if is_digit y then full c (named (suc n)) else full y n)
  unfolding push
  full_push y n c =
      let l : length ((x ∷ front) ++ (y ∷ [])) ≡ 522 = length-append (x ∷ front) (y ∷ []) ∙ omega arith in
      rw (l, get_or_at front y [] 0 520 h, take_at front (y ∷ []) 520 h)

-- 522 bytes, taken apart
pub record Full (bytes : List ℕ) : Type 0 where
  pub first : ℕ
  pub front : List ℕ
  pub last : ℕ
  pub whole : bytes ≡ (first ∷ front) ++ (last ∷ [])
  pub long : length front ≡ 520

pub taken_apart : (bytes : List ℕ) → length bytes ≡ 522 → Full bytes
taken_apart [] h = absurd (omega arith)
taken_apart (x ∷ ds) h =
    let none : drop 521 ds ≡ [] = drop_of_length-le ds {i = 521} (omega arith) in
    record {
      first = x;
      front = take 520 ds;
      last = get_or ds 520 0;
      whole = ap (λ (l : List ℕ). x ∷ l) (split_at ds 520 0 (omega arith) ∙ rw none);
      long = length-take-le 520 ds (omega arith);
    }

-- ---- how much is kept

pub push_more : (k : Kept) (c : ℕ) → length k.bytes < 522 → push k c ≡ record { bytes = k.bytes ++ (c ∷ []); skipped = k.skipped }
unfolding push
push_more k c h = rw (lt-ltb (length k.bytes) 522 h)

pub length_push : (k : Kept) (c : ℕ) → length k.bytes ≤ 522 → length (push k c).bytes ≤ 522
unfolding push
length_push k c h = go (ltb (length k.bytes) 522) refl (is_digit (get_or k.bytes 521 0))
  where
    go : (t : Bool) → ltb (length k.bytes) 522 ≡ t → (u : Bool)
        → let k' : Kept = if t then record { bytes = k.bytes ++ (c ∷ []); skipped = k.skipped } else if u then record { bytes = take 521 k.bytes ++ (c ∷ []); skipped = named (suc k.skipped) } else k in
        length k'.bytes ≤ 522
    go true e u = simp length-append (omega (arith, ltb-true (length k.bytes) 522 e))
    go false e true = simp (length-append, length-take-le 521 k.bytes (omega (arith, ltb-false (length k.bytes) 522 e))) (omega arith)
    go false e false = h

pub still_full : (k : Kept) (c : ℕ) → length k.bytes ≡ 522 → length (push k c).bytes ≡ 522
unfolding push
still_full k c h = rw h (go (is_digit (get_or k.bytes 521 0)))
  where
    go : (u : Bool) → let k' : Kept = if u then record { bytes = take 521 k.bytes ++ (c ∷ []); skipped = named (suc k.skipped) } else k in length k'.bytes ≡ 522
    go true = length-append (take 521 k.bytes) (c ∷ []) ∙ omega (arith, length-take-le 521 k.bytes (omega arith))
    go false = h

-- a line of at most 522 bytes is kept as it is
pub short_kept : (l : List ℕ) (k : Kept) → length k.bytes + length l < 523 → foldl push k l ≡ record { bytes = k.bytes ++ l; skipped = k.skipped }
short_kept [] k h = ap (λ (b : List ℕ). record { bytes = b; skipped = k.skipped }) (sym (append-nil k.bytes))
short_kept (c ∷ l) k h =
    ap (λ (k' : Kept). foldl push k' l) (push_more k c (omega arith))
    ∙ short_kept l (record { bytes = k.bytes ++ (c ∷ []); skipped = k.skipped }) (simp length-append (omega arith))
    ∙ ap (λ (b : List ℕ). record { bytes = b; skipped = k.skipped }) (append_assoc k.bytes (c ∷ []) l)

pub brief_short : (l : List ℕ) → length l < 523 → brief l ≡ record { bytes = l; skipped = 0 }
brief_short l h = short_kept l none_kept (omega arith)

-- and where nothing was left out, it stands for itself
pub stands_itself : (bytes : List ℕ) → stands_for (record { bytes = bytes; skipped = 0 }) ≡ bytes
unfolding stands_for behind_digits
stands_itself bytes = ap (λ (l : List ℕ). take 521 bytes ++ l) (none_ahead (drop 521 bytes)) ∙ take-append-drop 521 bytes
  where
    none_ahead : (l : List ℕ) → behind_digits 0 l ≡ l
    none_ahead [] = refl
    none_ahead (c ∷ l) = refl

pub foldl_on : (a b : List ℕ) (k : Kept) → foldl push k (a ++ b) ≡ foldl push (foldl push k a) b
foldl_on [] b k = refl
foldl_on (c ∷ a) b k = foldl_on a b (push k c)

-- ---- a judge of long rows by what they share

module _ (J : List ℕ → Said) (by : JudgesLong J) where
  alike : (c : ℕ) (front ds es : List ℕ) → length front ≡ 520 → 0 < length ds → 0 < length es → JudgedAlike (front ++ ds) (front ++ es) → J (c ∷ (front ++ ds)) ≡ J (c ∷ (front ++ es))
  alike c front ds es h k l a =
      by.over c front ds h k
      ∙ ap₂ (λ (t : Bool) (p : ℕ). if eqb c by.start then (if t then by.long front else wrong (contains_invalid_characters p)) else wrong missing_start_code) a.all a.place
      ∙ sym (by.over c front es h l)

  module _ (x : ℕ) (front : List ℕ) (h : length front ≡ 520) where
    onto_full : (y n c : ℕ) (l : List ℕ) → J (stands_for (push (full x front h y n) c) ++ l) ≡ J (stands_for (full x front h y n) ++ (c ∷ l))
    onto_full y n c l = ap (λ (k : Kept). J (stands_for k ++ l)) (full_push x front h y n c) ∙ go (is_digit y) refl
      where
        shape : (y n : ℕ) (l : List ℕ) → stands_for (full x front h y n) ++ l ≡ x ∷ (front ++ (replicate n 48 ++ (y ∷ l)))
        shape y n l =
            ap (λ (s : List ℕ). s ++ l) (full_stands x front h y n)
            ∙ ap (λ (s : List ℕ). x ∷ s) (append_assoc front (replicate n 48 ++ (y ∷ [])) l ∙ ap (λ (s : List ℕ). front ++ s) (append_assoc (replicate n 48) (y ∷ []) l))

        more : (y n : ℕ) (l : List ℕ) → 0 < length (replicate n 48 ++ (y ∷ l))
        more y n l = omega (arith, length-append (replicate n 48) (y ∷ l))

        go : (t : Bool) → is_digit y ≡ t → J (stands_for (if t then full x front h c (named (suc n)) else full x front h y n) ++ l) ≡ J (stands_for (full x front h y n) ++ (c ∷ l))
        go true e =
            ap J (shape c (named (suc n)) l)
            ∙ alike x front _ _ h (more c (named (suc n)) l) (more y n (c ∷ l)) (counted_in front n y c l h e)
            ∙ sym (ap J (shape y n (c ∷ l)))
        go false e =
            ap J (shape y n l)
            ∙ alike x front _ _ h (more y n l) (more y n (c ∷ l)) (passed_by front n y c l e)
            ∙ sym (ap J (shape y n (c ∷ l)))

  step_judged : (k : Kept) (c : ℕ) (l : List ℕ) → length k.bytes ≡ 522 → J (stands_for (push k c) ++ l) ≡ J (stands_for k ++ (c ∷ l))
  step_judged k c l h =
      let f = taken_apart k.bytes h in
      let e : k ≡ full f.first f.front f.long f.last k.skipped = ap (λ (b : List ℕ). record { bytes = b; skipped = k.skipped }) f.whole in
      ap (λ (k : Kept). J (stands_for (push k c) ++ l)) e
      ∙ onto_full f.first f.front f.long f.last k.skipped c l
      ∙ sym (ap (λ (k : Kept). J (stands_for k ++ (c ∷ l))) e)

  full_judged : (l : List ℕ) (k : Kept) → length k.bytes ≡ 522 → J (stands_for (foldl push k l)) ≡ J (stands_for k ++ l)
  full_judged [] k h = rw append-nil
  full_judged (c ∷ l) k h = full_judged l (push k c) (still_full k c h) ∙ step_judged k c l h

  pub brief_judged : (l : List ℕ) → J (stands_for (brief l)) ≡ J l
  brief_judged l =
      split (length l) 522
      (λ h. ap (λ (k : Kept). J (stands_for k)) (brief_short l (omega arith)) ∙ ap J (stands_itself l))
      (λ h.
      let n : length (take 522 l) ≡ 522 = length-take-le 522 l (omega arith) in
      ap (λ (t : List ℕ). J (stands_for (brief t))) (sym (take-append-drop 522 l))
      ∙ ap (λ (k : Kept). J (stands_for k)) (foldl_on (take 522 l) (drop 522 l) none_kept ∙ ap (λ (k : Kept). foldl push k (drop 522 l)) (brief_short (take 522 l) (omega arith)))
      ∙ full_judged (drop 522 l) (record { bytes = take 522 l; skipped = 0 }) n
      ∙ ap (λ (t : List ℕ). J (t ++ drop 522 l)) (stands_itself (take 522 l))
      ∙ ap J (take-append-drop 522 l))

-- Intel's

pub judged_full : (l : List ℕ) (k : Kept) → length k.bytes ≡ 522 → judge (stands_for (foldl push k l)) ≡ judge (stands_for k ++ l)
judged_full = full_judged judge intel_long

pub judge_brief : (l : List ℕ) → judge (stands_for (brief l)) ≡ judge l
judge_brief = brief_judged judge intel_long

-- ---- what is left out

module _ (x : ℕ) (front : List ℕ) (h : length front ≡ 520) where
  -- behind a digit that is the last byte kept
  on_digit : (y n c : ℕ) → is_digit y ≡ true → push (full x front h y n) c ≡ full x front h c (named (suc n))
  on_digit y n c e = full_push x front h y n c ∙ rw e

  run_counted : (ds : List ℕ) (y n c : ℕ) → is_digit y ≡ true → all_digits ds ≡ true → suc (n + length ds) ≤ 65535
      → foldl push (full x front h y n) (ds ++ (c ∷ [])) ≡ full x front h c (suc (n + length ds))
  unfolding all_digits
  run_counted [] y n c e d k = on_digit y n c e ∙ ap (full x front h c) (omega arith)
  run_counted (z ∷ ds) y n c e d k =
      let (f, g) = both (is_digit z) (all_digits ds) d in
      let one : named (suc n) ≡ suc n = omega arith in
      ap (λ (k : Kept). foldl push k (ds ++ (c ∷ []))) (on_digit y n z e ∙ ap (full x front h z) one)
      ∙ run_counted ds z (suc n) c f g (omega arith) ∙ ap (full x front h c) (omega arith)

  -- however many they are, the last byte is kept
  run_kept : (ds : List ℕ) (y n c : ℕ) → is_digit y ≡ true → all_digits ds ≡ true → (m : ℕ) × (foldl push (full x front h y n) (ds ++ (c ∷ [])) ≡ full x front h c m)
  unfolding all_digits
  run_kept [] y n c e d = (named (suc n), on_digit y n c e)
  run_kept (z ∷ ds) y n c e d =
      let (f, g) = both (is_digit z) (all_digits ds) d in
      let (m, k) = run_kept ds z (named (suc n)) c f g in
      (m, ap (λ (k : Kept). foldl push k (ds ++ (c ∷ []))) (on_digit y n z e) ∙ k)

  -- a byte that is none stays
  run_stays : (more : List ℕ) (y n : ℕ) → is_digit y ≡ false → foldl push (full x front h y n) more ≡ full x front h y n
  run_stays [] y n e = refl
  run_stays (z ∷ more) y n e = ap (λ (k : Kept). foldl push k more) (full_push x front h y n z ∙ rw e) ∙ run_stays more y n e

  -- 522 bytes, and what comes behind them
  brief_behind : (y : ℕ) (l : List ℕ) → brief ((x ∷ front) ++ (y ∷ l)) ≡ foldl push (full x front h y 0) l
  brief_behind y l =
      ap brief (sym (append_assoc (x ∷ front) (y ∷ []) l))
      ∙ foldl_on ((x ∷ front) ++ (y ∷ [])) l none_kept
      ∙ ap (λ (k : Kept). foldl push k l) (brief_short ((x ∷ front) ++ (y ∷ [])) (omega (arith, length-append (x ∷ front) (y ∷ []))))

  digits_counted : (ds : List ℕ) (c : ℕ) → all_digits ds ≡ true → length ds ≤ 65535 → brief ((x ∷ front) ++ (ds ++ (c ∷ []))) ≡ full x front h c (length ds)
  unfolding all_digits
  digits_counted [] c d k = brief_behind c []
  digits_counted (y ∷ ds) c d k =
      let (f, g) = both (is_digit y) (all_digits ds) d in
      brief_behind y (ds ++ (c ∷ [])) ∙ run_counted ds y 0 c f g (omega arith) ∙ ap (full x front h c) (omega arith)

  behind_other : (ds more : List ℕ) (c : ℕ) → all_digits ds ≡ true → is_digit c ≡ false → brief ((x ∷ front) ++ (ds ++ (c ∷ more))) ≡ brief ((x ∷ front) ++ (ds ++ (c ∷ [])))
  unfolding all_digits
  behind_other [] more c d e = brief_behind c more ∙ run_stays more c 0 e ∙ sym (brief_behind c [])
  behind_other (y ∷ ds) more c d e =
      let (f, g) = both (is_digit y) (all_digits ds) d in
      let (m, k) = run_kept ds y 0 c f g in
      brief_behind y (ds ++ (c ∷ more))
      ∙ ap (foldl push (full x front h y 0)) (sym (append_assoc ds (c ∷ []) more))
      ∙ foldl_on (ds ++ (c ∷ [])) more (full x front h y 0)
      ∙ ap (λ (k : Kept). foldl push k more) k ∙ run_stays more c m e ∙ sym k ∙ sym (brief_behind y (ds ++ (c ∷ [])))

pub left_out_counted : LeftOutCounted
left_out_counted [] digits c h d k = absurd (omega arith)
left_out_counted (x ∷ front) digits c h d k = digits_counted x front (omega arith) digits c d k

pub nothing_behind_counted : NothingBehindCounted
nothing_behind_counted [] digits more c h d e = absurd (omega arith)
nothing_behind_counted (x ∷ front) digits more c h d e = behind_other x front (omega arith) digits more c d e
