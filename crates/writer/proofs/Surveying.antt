-- A survey keeps of a list of records what its object's answer needs; its numbers stay at the largest where they would pass it.
-- Assumes nothing.
use Rattle.std.proofs.Common.{◌≡◌, ℕ, ◌+◌, ◌-◌, ◌^◌, min, ◌<◌, ◌≤◌, Bool, true, false, ltb, ◌⊎◌, List, [], ◌∷◌, ◌++◌, length, sym, refl, ap, ◌∙◌, inl, inr, arith, length-append, le-leb}
use mathlib.Core.Option.{Option, none, some}
use mir.Val.{bool_byte}
use borrow.Author.Tests.{lt-leb}
use Rattle.std.proofs.Math.Nat.{min-eq_left, min-eq_right}
use Rattle.digits.specs.Common.{or_else}
use Rattle.std.specs.Prelude.{if◌then◌else◌}
use Rattle.record.specs.Refusals.{Refusal, missing_end_of_file_record, multiple_end_of_file_records}
use Rattle.record.specs.declared.Record.{Record}
use Rattle.digits.proofs.Tests.{split}
use Rattle.writer.specs.declared.Survey.{Survey}
use Rattle.writer.specs.Told.{ToldWritten, wrote, refuses, told_written}
use Rattle.writer.specs.Text.{refused, unless, place_behind, if_room}
use Rattle.writer.specs.Line.{line_refusal, line, ended_line}
use Rattle.writer.specs.Object.{is_end, ends, ends_in_end, first_refusal, joined_lines, object}
use Rattle.writer.specs.Survey.{SurveyNew, SurveyAdd, most, cap, longer, surveyed}
use Rattle.writer.specs.Claims.{Surveys, at_first, then_add, SurveyAnswers}
use Rattle.writer.proofs.Objects.{ends_snoc, ends_most, ends_in_end_snoc, first_refusal_snoc, lines_snoc}

-- ---- numbers

cap_below : (n : ℕ) → n ≤ most → cap n ≡ n
unfolding cap
cap_below n h = rw (le-leb n most h)

cap_above : (n : ℕ) → most ≤ n → cap n ≡ most
unfolding cap
cap_above n h = split n most (λ k. let e : n ≡ most = omega arith in rw (le-leb n most k) e) (λ k. rw (lt-leb n most k))

-- as the machine caps it
pub cap_min : (n : ℕ) → min n (2 ^ 64 - 1) ≡ cap n
cap_min n = split n most (λ h. min-eq_left h ∙ sym (cap_below n h)) (λ h. min-eq_right (omega arith) ∙ sym (cap_above n (omega arith)))

-- one more, where a test says so
pub one_more : (b : Bool) (n x : ℕ) → n ≤ most → x ≡ bool_byte b → min (n + x) (2 ^ 64 - 1) ≡ (if b then cap (n + 1) else n)
one_more true n x h e = rw e (cap_min (n + 1))
one_more false n x h e = let z : n + x ≡ n = omega arith in rw z (cap_min n ∙ cap_below n h)

-- a sum may be capped in two steps
pub cap_twice : (n m : ℕ) → cap (n + cap m) ≡ cap (n + m)
cap_twice n m =
    split m most
    (λ h. ap (λ (k : ℕ). cap (n + k)) (cap_below m h))
    (λ h. let e = cap_above m (omega arith) in cap_above (n + cap m) (omega arith) ∙ sym (cap_above (n + m) (omega arith)))

cap_first : (n m : ℕ) → cap (cap n + m) ≡ cap (n + m)
cap_first n m =
    let a : cap n + m ≡ m + cap n = omega arith in
    let b : m + n ≡ n + m = omega arith in
    ap cap a ∙ cap_twice m n ∙ ap cap b

-- ---- what is kept

-- the length so far, or the first refusal
abbrev sized : Option Refusal → (n : ℕ) → ToldWritten
sized none n = wrote (cap n)
sized (some r) n = refuses r

record Kept (rs : List Record) (pool : List ℕ) (s : Survey) : Type 0 where
  pub ends : s.ends ≡ cap (ends rs)
  pub ended : s.ended ≡ ends_in_end rs
  pub total : told_written s.total ≡ sized (first_refusal rs (length pool)) (length (joined_lines rs pool))

counted : (b : Bool) (k x : ℕ) → x ≡ cap k → (if b then cap (x + 1) else x) ≡ cap (k + (if b then 1 else 0))
counted true k x e = ap (λ (y : ℕ). cap (y + 1)) e ∙ cap_first k 1
counted false k x e = let z : k ≡ k + 0 = omega arith in e ∙ ap cap z

lengthened : (f g : Option Refusal) (k : ℕ) (cs : List ℕ) → longer (sized f k) (place_behind (unless g cs) 0) ≡ sized (or_else f g) (k + (length cs + 1))
unfolding longer
lengthened none none k cs =
    let z : cap k + (0 + length cs + 1) ≡ cap k + (length cs + 1) = omega arith in
    ap wrote (ap cap z ∙ cap_first k (length cs + 1))
lengthened none (some r) k cs = refl
lengthened (some r) g k cs = refl

kept_none : (pool : List ℕ) (s : Survey) → SurveyNew s → Kept [] pool s
unfolding ends ends_in_end first_refusal joined_lines
kept_none pool s x =
    let z = cap_below 0 (omega arith) in
    record { ends = x.ends ∙ sym z; ended = x.ended; total = x.total ∙ ap wrote (sym z) }

kept_more : (rs : List Record) (r : Record) (pool : List ℕ) (s t : Survey) → Kept rs pool s → SurveyAdd s r pool t → Kept (rs ++ (r ∷ [])) pool t
kept_more rs r pool s t k a =
    let n : length (joined_lines rs pool) + (length (line r pool) + 1) ≡ length (joined_lines (rs ++ (r ∷ [])) pool) =
    let l = ap length (lines_snoc rs r pool) in
    let m = length-append (joined_lines rs pool) (ended_line r pool) in
    let o = length-append (line r pool) (10 ∷ []) in
    omega arith in
    record {
      ends = a.ends ∙ counted (is_end r) (ends rs) s.ends k.ends ∙ ap cap (sym (ends_snoc rs r));
      ended = a.ended ∙ sym (ends_in_end_snoc rs r);
      total =
          a.total
          ∙ ap (λ (w : ToldWritten). longer w (place_behind (unless (line_refusal r (length pool)) (line r pool)) 0)) k.total
          ∙ lengthened (first_refusal rs (length pool)) (line_refusal r (length pool)) (length (joined_lines rs pool)) (line r pool)
          ∙ rw (first_refusal_snoc rs r (length pool), n);
    }

kept : (pool : List ℕ) {rs : List Record} {s : Survey} → Surveys pool rs s → Kept rs pool s
kept pool {s} (at_first x) = kept_none pool s x
kept pool (then_add {rs} {whole} {r} {s} {t} v a e) = rw e (kept_more rs r pool s t (kept pool v) a)

-- ---- what is answered

-- a length that is capped does not fit where the length does not
roomy : (n room : ℕ) → (room < most) ⊎ (n ≤ most) → if_room (wrote (cap n)) room ≡ if_room (wrote n) room
roomy n room (inr k) = ap (λ (m : ℕ). if_room (wrote m) room) (cap_below n k)
roomy n room (inl h) =
    split n most
    (λ k. ap (λ (m : ℕ). if_room (wrote m) room) (cap_below n k))
    (λ k. ap (λ (m : ℕ). if_room (wrote m) room) (cap_above n (omega arith)) ∙ rw (lt-leb most room h, lt-leb n room (omega arith)))

measured : (f : Option Refusal) (cs : List ℕ) (room : ℕ) → (room < most) ⊎ (length cs ≤ most) → if_room (sized f (length cs)) room ≡ if_room (place_behind (unless f cs) 0) room
measured none cs room h = let z : length cs ≡ 0 + length cs = omega arith in roomy (length cs) room h ∙ ap (λ (m : ℕ). if_room (wrote m) room) z
measured (some r) cs room h = refl

-- the tests of the survey and of the object are the same
pub answered : (rs : List Record) (pool : List ℕ) (s : Survey) (room : ℕ) → length rs ≤ most → (room < most) ⊎ (length (joined_lines rs pool) ≤ most) → Surveys pool rs s
    → surveyed s room ≡ if_room (place_behind (object rs pool) 0) room
unfolding object
answered rs pool s room few small v =
    let k = kept pool v in
    let n : s.ends ≡ ends rs = let m = ends_most rs in k.ends ∙ cap_below (ends rs) (omega arith) in
    rw (k.ended, n, k.total) (go (ends_in_end rs) (ltb 1 (ends rs)))
  where
    go : (b c : Bool)
        → (if b then (if c then refuses (multiple_end_of_file_records (ends rs)) else if_room (sized (first_refusal rs (length pool)) (length (joined_lines rs pool))) room) else refuses missing_end_of_file_record)
        ≡ if_room (place_behind (if b then (if c then refused (multiple_end_of_file_records (ends rs)) else unless (first_refusal rs (length pool)) (joined_lines rs pool)) else refused missing_end_of_file_record) 0) room
    go true true = refl
    go true false = measured (first_refusal rs (length pool)) (joined_lines rs pool) room small
    go false c = refl

pub survey_answers : SurveyAnswers
survey_answers rs pool s room a few small v x = x.answer ∙ answered rs pool s room few small v
