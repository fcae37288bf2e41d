-- The judge, on a line: each test of the code decides one of the definition, which goes on from there. The definition asks for digits ahead
-- of their number, the code behind it, so an answer on their number holds unless a character is no digit.
-- Assumes nothing.
use Rattle.std.proofs.Common.{◌≡◌, ℕ, ◌-◌, ◌%◌, ◌<◌, ◌≤◌, true, false, ◌≢◌, List, [], ◌∷◌, length, get_or, drop, refl, ◌∙◌, arith, length-drop, le-ltb, lt-ltb, eq-eqb, ne_eqb}
use Rattle.std.specs.Prelude.{if◌then◌else◌}
use Rattle.record.specs.Refusals.{missing_start_code, record_too_short, record_too_long, record_not_even_length}
use Rattle.digits.specs.Digits.{all_digits, bytes}
use Rattle.record.specs.Line.{Said, wrong, invalid, judge_bytes, judge_digits, judge}

pub judge_none : (l : List ℕ) → length l ≡ 0 → judge l ≡ wrong missing_start_code
unfolding judge
judge_none [] h = refl
judge_none (c ∷ ds) h = absurd (omega arith)

pub judge_other : (l : List ℕ) → get_or l 0 0 ≢ 58 → judge l ≡ wrong missing_start_code
unfolding judge
judge_other [] h = refl
judge_other (c ∷ ds) h = rw (ne_eqb c 58 h)

judge_colon : (l : List ℕ) → get_or l 0 0 ≡ 58 → judge l ≡ judge_digits (drop 1 l)
unfolding judge
judge_colon [] h = absurd (omega arith)
judge_colon (c ∷ ds) h = rw (eq-eqb c 58 h)

module _ (l : List ℕ) (colon : get_or l 0 0 ≡ 58) where
  -- the judge's answer where the tests of the digits' number give this, unless a character is no digit
  abbrev Unless : Said → Type 0
  Unless said = judge l ≡ (if all_digits (drop 1 l) then said else invalid (drop 1 l))

  pub judge_short : length l - 1 < 10 → Unless (wrong record_too_short)
  unfolding judge_digits
  judge_short h = judge_colon l colon ∙ rw (length-drop, lt-ltb (length l - 1) 10 h)

  pub judge_long : 520 < length l - 1 → Unless (wrong record_too_long)
  unfolding judge_digits
  judge_long h =
      judge_colon l colon ∙ rw (length-drop, le-ltb (length l - 1) 10 (omega arith), lt-ltb 520 (length l - 1) h)

  module _ (least : 10 ≤ length l - 1) (most : length l - 1 ≤ 520) where
    pub judge_odd : (length l - 1) % 2 ≢ 0 → Unless (wrong record_not_even_length)
    unfolding judge_digits
    judge_odd h =
        let odd : (length l - 1) % 2 ≡ 1 = omega arith in
        judge_colon l colon
        ∙ rw (length-drop, le-ltb (length l - 1) 10 least, le-ltb 520 (length l - 1) most, eq-eqb ((length l - 1) % 2) 1 odd)

    pub judge_whole : (length l - 1) % 2 ≡ 0 → all_digits (drop 1 l) ≡ true → judge l ≡ judge_bytes (bytes (drop 1 l))
    unfolding judge_digits
    judge_whole h d =
        judge_colon l colon
        ∙ rw (d, length-drop, le-ltb (length l - 1) 10 least, le-ltb 520 (length l - 1) most, ne_eqb ((length l - 1) % 2) 1 (λ e. omega arith))

  pub judge_bad : all_digits (drop 1 l) ≡ false → judge l ≡ invalid (drop 1 l)
  unfolding judge_digits
  judge_bad d = judge_colon l colon ∙ rw d
