-- `reader::read_with` meets its contract: refusals 1 to 5 by the tests, and what the decoded bytes say for the rest.
-- Assumes nothing.
use Rattle.std.proofs.Common.{◌≡◌, ℕ, suc, ◌+◌, ◌-◌, ◌/◌, ◌%◌, ◌≤◌, true, Bool, List, length, take, drop, sym, ap, ◌∙◌, arith, length-drop, eqb-true}
use Rattle.checksum.specs.Checksum.{sum}
use Rattle.digits.specs.Digits.{leading, all_digits, bytes}
use Rattle.digits.specs.Reading.{pairs, Decoded, named}
use Rattle.digits.proofs.Leading.{leading_most}
use Rattle.digits.proofs.Decoding.{pairs_all, decoded_all}
use Rattle.digits.proofs.Parts.{rest_is}
use Rattle.record.specs.Refusals.{contains_invalid_characters}
use Rattle.record.specs.Line.{wrong, judge, judge_bytes}
use Rattle.reader.specs.declared.ReaderError.TheVariants.{MissingStartCode, RecordTooShort, RecordTooLong, RecordNotEvenLength, ContainsInvalidCharacters}
use Rattle.reader.specs.Helpers.{invalid_at}
use Rattle.reader.proofs.Answers.{refused, chosen}
use Rattle.reader.proofs.Line.{judge_none, judge_other, judge_short, judge_long, judge_odd, judge_bad, judge_whole}
use Rattle.reader.proofs.read_with.Goals as goal
use Rattle.reader.proofs.read_with.Goals.{then-is_empty-via-then-is_empty, then-is_empty-via-else-is_empty+then-line-ne-COLON}

-- what was decoded: the characters after the colon, all of them
module _ (l buf buf' : List ℕ) (whole : Bool) (total : ℕ) (most : length l - 1 ≤ 520) (even : (length l - 1) % 2 ≡ 0) (room : 260 ≤ length buf)
    (part : Decoded (pairs (take (length l - 1) (drop 1 l)) (length buf)) buf whole total buf') where
  decoded : Decoded (drop 1 l) buf whole total buf'
  decoded = rw (rest_is l 1, pairs_all (drop 1 l) (length buf) (omega (arith, length-drop 1 l)) (omega (arith, length-drop 1 l))) at part

  -- where each is a digit, the buffer holds what they spell, and the sum is theirs
  spelt : whole ≡ true → (take ((length l - 1) / 2) buf' ≡ bytes (drop 1 l)) × (total ≡ sum (bytes (drop 1 l)) % 256)
  spelt w =
      let x = decoded_all decoded (sym decoded.digits ∙ w) in
      (ap (λ (n : ℕ). take (n / 2) buf') (sym (length-drop 1 l)) ∙ x.0, x.1)

pub returns-then-is_empty : goal.returns-then-is_empty
returns-then-is_empty c =
    let a = c.args in
    refused (judge a.line.now) a.pool.now a.at MissingStartCode
    (elim c.then-is_empty.branch [
      | then-is_empty-via-then-is_empty w ↦
          judge_none a.line.now (eqb-true (length a.line.now) 0 (sym c.is_empty.ensures ∙ w.if-is_empty.true))
      | then-is_empty-via-else-is_empty+then-line-ne-COLON w ↦ judge_other a.line.now w.if-line-ne-COLON.true
    ])

pub returns-then-n-lt-FEWEST_DIGITS : goal.returns-then-n-lt-FEWEST_DIGITS
returns-then-n-lt-FEWEST_DIGITS c =
    let a = c.args in
    chosen (judge a.line.now) a.pool.now a.at (all_digits (drop 1 a.line.now)) c.digits_or.result RecordTooShort (invalid_at a.line.now)
    (judge_short a.line.now c.if-line-ne-COLON.false c.if-n-lt-FEWEST_DIGITS.true) c.digits_or.ensures

pub returns-then-n-gt-MOST_DIGITS : goal.returns-then-n-gt-MOST_DIGITS
returns-then-n-gt-MOST_DIGITS c =
    let a = c.args in
    let d = c.digits_or-then-n-gt-MOST_DIGITS in
    chosen (judge a.line.now) a.pool.now a.at (all_digits (drop 1 a.line.now)) d.result RecordTooLong (invalid_at a.line.now)
    (judge_long a.line.now c.if-line-ne-COLON.false c.if-n-gt-MOST_DIGITS.true) d.ensures

pub returns-then-n-ne0 : goal.returns-then-n-ne0
returns-then-n-ne0 c =
    let a = c.args in
    let d = c.digits_or-then-n-ne0 in
    chosen (judge a.line.now) a.pool.now a.at (all_digits (drop 1 a.line.now)) d.result RecordNotEvenLength (invalid_at a.line.now)
    (judge_odd a.line.now c.if-line-ne-COLON.false (omega arith) (omega arith) c.if-n-ne0.true) d.ensures

pub overflow_add-good : goal.overflow_add-good
overflow_add-good c =
    let l = c.args.line.now in
    let place : c.first_other-good.result ≡ leading (take (length l - 1) (drop 1 l)) = c.first_other-good.ensures.answer in
    let e = place ∙ ap leading (rest_is l 1) in
    omega (arith, leading_most (drop 1 l), length-drop 1 l)

pub returns-then-not-whole : goal.returns-then-not-whole
returns-then-not-whole c =
    let a = c.args in
    let l = a.line.now in
    let d = c.decode-whole in
    let f = c.first_other-good in
    let place : f.result ≡ leading (take (length l - 1) (drop 1 l)) = f.ensures.answer in
    let e = place ∙ ap leading (rest_is l 1) in
    let g : f.result + 1 ≡ suc (leading (drop 1 l)) = omega arith in
    let x = decoded l a.buf.now d.new.buf d.result.whole d.result.sum (omega arith) c.if-n-ne0.false c.requires d.ensures in
    refused (judge l) a.pool.now a.at (ContainsInvalidCharacters c.name_place.result)
    (judge_bad l c.if-line-ne-COLON.false (sym x.digits ∙ c.if-not-whole.true)
    ∙ ap (λ (place : ℕ). wrong (contains_invalid_characters place)) (sym (c.name_place.ensures.answer ∙ ap named g)))

pub judge_bytes-requires : goal.judge_bytes-requires
judge_bytes-requires c =
    let d = c.decode-whole in
    let k : length d.new.buf ≡ length c.args.buf.now = d.auto.buf in
    let e = spelt c.args.line.now c.args.buf.now d.new.buf d.result.whole d.result.sum (omega arith) c.if-n-ne0.false c.requires d.ensures c.if-not-whole.false in
    record {
      least = omega arith;
      most = omega arith;
      room = omega (arith, c.requires);
      sums = e.1 ∙ ap (λ (bs : List ℕ). sum bs % 256) (sym e.0);
    }

pub returns : goal.returns
returns c =
    let a = c.args in
    let l = a.line.now in
    let d = c.decode-whole in
    let x = decoded l a.buf.now d.new.buf d.result.whole d.result.sum (omega arith) c.if-n-ne0.false c.requires d.ensures in
    let e = spelt l a.buf.now d.new.buf d.result.whole d.result.sum (omega arith) c.if-n-ne0.false c.requires d.ensures c.if-not-whole.false in
    rw (judge_whole l c.if-line-ne-COLON.false (omega arith) (omega arith) c.if-n-ne0.false (sym x.digits ∙ c.if-not-whole.false)
    ∙ ap judge_bytes (sym e.0))
    c.judge_bytes.ensures
