-- The judge, on a line: each test of the code decides one of the definition, which goes on from there. The definition asks for digits before
-- it asks for their number and the type, the code after it, so an answer on these holds unless a character is not a digit.
-- Assumes nothing.
use Rattle.std.proofs.Common.{◌≡◌, ℕ, ◌-◌, ◌%◌, ◌<◌, ◌≤◌, true, false, ◌≢◌, List, [], ◌∷◌, length, get_or, drop, refl, ◌∙◌, arith, length-drop, le-ltb, lt-ltb, eq-eqb, ne_eqb}
use Rattle.std.specs.Prelude.{if◌then◌else◌}
use Rattle.digits.specs.Digits.{digit, is_digit, all_digits, bytes}
use Rattle.digits.proofs.Tests.{and_false}
use Rattle.record.specs.Refusals.{missing_start_code, record_too_short, record_too_long, record_not_even_length, unsupported_record_type}
use Rattle.record.specs.Line.{Said, wrong, invalid}
use Rattle.srec.specs.Types.{is_named}
use Rattle.srec.specs.Line.{least_digits, judge_bytes, judge_digits, judge_typed, judge}
use Rattle.srec.proofs.Naming.{named_small}
use Rattle.srec.proofs.Judging as judging

pub judge_none : (l : List ℕ) → length l ≡ 0 → judge l ≡ wrong missing_start_code
unfolding judge
judge_none [] h = refl
judge_none (c ∷ cs) h = absurd (omega arith)

pub judge_other : (l : List ℕ) → get_or l 0 0 ≢ 83 → judge l ≡ wrong missing_start_code
unfolding judge
judge_other [] h = refl
judge_other (c ∷ cs) h = rw (ne_eqb c 83 h)

pub judge_typeless : (l : List ℕ) → get_or l 0 0 ≡ 83 → length l ≡ 1 → judge l ≡ wrong record_too_short
unfolding judge
judge_typeless [] h n = absurd (omega arith)
judge_typeless (c ∷ []) h n = rw h
judge_typeless (c ∷ d ∷ cs) h n = absurd (omega arith)

pub judge_bad : (l : List ℕ) → get_or l 0 0 ≡ 83 → all_digits (drop 1 l) ≡ false → judge l ≡ invalid (drop 1 l)
judge_bad [] h d = absurd (omega arith)
judge_bad (c ∷ cs) h d = rw h (judging.judge_bad cs d)

-- the characters after the type decide whether all after the S are digits, where the type is named
pub digits_all : (l : List ℕ) → 2 ≤ length l → is_named (digit (get_or l 1 0)) ≡ true → all_digits (drop 2 l) ≡ true → all_digits (drop 1 l) ≡ true
unfolding all_digits
digits_all [] h k d = absurd (omega arith)
digits_all (c ∷ []) h k d = absurd (omega arith)
digits_all (c ∷ t ∷ ds) h k d = let s = named_small (digit t) k in rw (lt-ltb (digit t) 16 (omega arith)) d

pub digits_bad : (l : List ℕ) → 2 ≤ length l → all_digits (drop 2 l) ≡ false → all_digits (drop 1 l) ≡ false
unfolding all_digits
digits_bad [] h d = absurd (omega arith)
digits_bad (c ∷ []) h d = absurd (omega arith)
digits_bad (c ∷ t ∷ ds) h d = rw d (and_false (is_digit t))

-- a type's digit and others after it
two : (l : List ℕ) → get_or l 0 0 ≡ 83 → 2 ≤ length l
    → judge l ≡ (if all_digits (drop 1 l)
    then (if is_named (digit (get_or l 1 0)) then judge_digits (digit (get_or l 1 0)) (drop 2 l) else wrong (unsupported_record_type (digit (get_or l 1 0))))
    else invalid (drop 1 l))
unfolding judge_typed
two [] h n = absurd (omega arith)
two (c ∷ []) h n = absurd (omega arith)
two (c ∷ t ∷ ds) h n = rw h (judging.judge_start (t ∷ ds))

module _ (l : List ℕ) (start : get_or l 0 0 ≡ 83) (long : 2 ≤ length l) (kind : ℕ) (typed : kind ≡ digit (get_or l 1 0)) where
  -- the judge's answer where the tests of the type and of the digits' number give this, unless a character is not a digit
  abbrev Unless : Said → Type 0
  Unless said = judge l ≡ (if all_digits (drop 1 l) then said else invalid (drop 1 l))

  known : Unless (if is_named kind then judge_digits kind (drop 2 l) else wrong (unsupported_record_type kind))
  known = rw typed (two l start long)

  pub judge_unnamed : is_named kind ≡ false → Unless (wrong (unsupported_record_type kind))
  judge_unnamed e = known ∙ rw e

  module _ (named : is_named kind ≡ true) where
    pub judge_few : length l - 2 < least_digits kind → Unless (wrong record_too_short)
    unfolding judge_digits
    judge_few h = known ∙ rw (named, length-drop 2 l, lt-ltb (length l - 2) (least_digits kind) h)

    module _ (least : least_digits kind ≤ length l - 2) where
      pub judge_many : 512 < length l - 2 → Unless (wrong record_too_long)
      unfolding judge_digits
      judge_many h = known ∙ rw (named, length-drop 2 l, le-ltb (length l - 2) (least_digits kind) least, lt-ltb 512 (length l - 2) h)

      module _ (most : length l - 2 ≤ 512) where
        pub judge_uneven : (length l - 2) % 2 ≢ 0 → Unless (wrong record_not_even_length)
        unfolding judge_digits
        judge_uneven h =
            let odd : (length l - 2) % 2 ≡ 1 = omega arith in
            known
            ∙ rw (named, length-drop 2 l, le-ltb (length l - 2) (least_digits kind) least, le-ltb 512 (length l - 2) most, eq-eqb ((length l - 2) % 2) 1 odd)

        pub judge_whole : (length l - 2) % 2 ≡ 0 → all_digits (drop 1 l) ≡ true → judge l ≡ judge_bytes kind (bytes (drop 2 l))
        unfolding judge_digits
        judge_whole h d =
            known
            ∙ rw (d, named, length-drop 2 l, le-ltb (length l - 2) (least_digits kind) least, le-ltb 512 (length l - 2) most, ne_eqb ((length l - 2) % 2) 1 (λ e. omega arith))
