-- `srec::read_typed` meets its contract: refusals 2 to 5 by the tests, and what the decoded bytes say for the rest.
-- Assumes nothing.
use Rattle.std.proofs.Common.{◌≡◌, ℕ, suc, ◌+◌, ◌-◌, ◌/◌, ◌%◌, ◌≤◌, Bool, true, List, length, get_or, take, drop, sym, ap, ◌∙◌, arith, length-drop}
use Rattle.std.proofs.lemmas.Bool.{not-true, not-false}
use Rattle.checksum.specs.Checksum.{sum}
use Rattle.digits.specs.Digits.{leading, digit, all_digits, bytes}
use Rattle.digits.specs.Reading.{pairs, Decoded, named}
use Rattle.digits.proofs.Parts.{rest_is}
use Rattle.digits.proofs.Leading.{leading_most}
use Rattle.digits.proofs.Decoding.{pairs_all, decoded_all}
use Rattle.record.specs.Refusals.{contains_invalid_characters}
use Rattle.record.specs.Line.{wrong}
use Rattle.reader.specs.declared.ReaderError.TheVariants.{RecordTooShort, RecordTooLong, RecordNotEvenLength, ContainsInvalidCharacters}
use Rattle.reader.specs.Helpers.{invalid_at}
use Rattle.srec.specs.Types.{is_named}
use Rattle.srec.specs.Record.{digit_of}
use Rattle.srec.specs.Line.{judge, judge_bytes}
use Rattle.srec.proofs.Answers.{refused, chosen}
use Rattle.srec.proofs.Line.{digits_all, digits_bad, judge_bad, judge_few, judge_many, judge_uneven, judge_whole}
use Rattle.srec.proofs.read_typed.Goals as goal

-- what was decoded: the characters after the type, all of them
decoded : (l buf : List ℕ) (whole : Bool) (total : ℕ) (buf' : List ℕ) → 2 ≤ length l → (length l - 2) % 2 ≡ 0 → length l ≤ 514 → 256 ≤ length buf
    → Decoded (pairs (take (length l - 2) (drop 2 l)) (length buf)) buf whole total buf' → Decoded (drop 2 l) buf whole total buf'
decoded l buf whole total buf' long even most room d =
    rw (rest_is l 2, pairs_all (drop 2 l) (length buf) (omega (arith, length-drop 2 l)) (omega (arith, length-drop 2 l))) at d

pub returns-then-n-width : goal.returns-then-n-width
returns-then-n-width c =
    let l = c.args.line.now in
    chosen (judge l) c.args.pool.now c.args.at (all_digits (drop 1 l)) c.digits_or.result RecordTooShort (invalid_at l)
    (judge_few l c.requires.starts c.requires.long (digit_of c.args.kind) c.requires.typed c.requires.named (omega (arith, c.width.ensures.0, c.if-n-width.true))) c.digits_or.ensures

pub returns-then-n-gt-MOST_DIGITS : goal.returns-then-n-gt-MOST_DIGITS
returns-then-n-gt-MOST_DIGITS c =
    let l = c.args.line.now in
    chosen (judge l) c.args.pool.now c.args.at (all_digits (drop 1 l)) c.digits_or-then-n-gt-MOST_DIGITS.result RecordTooLong (invalid_at l)
    (judge_many l c.requires.starts c.requires.long (digit_of c.args.kind) c.requires.typed c.requires.named (omega (arith, c.width.ensures.0, c.if-n-width.false)) c.if-n-gt-MOST_DIGITS.true) c.digits_or-then-n-gt-MOST_DIGITS.ensures

pub returns-then-n-ne0 : goal.returns-then-n-ne0
returns-then-n-ne0 c =
    let l = c.args.line.now in
    chosen (judge l) c.args.pool.now c.args.at (all_digits (drop 1 l)) c.digits_or-then-n-ne0.result RecordNotEvenLength (invalid_at l)
    (judge_uneven l c.requires.starts c.requires.long (digit_of c.args.kind) c.requires.typed c.requires.named (omega (arith, c.width.ensures.0, c.if-n-width.false)) c.if-n-gt-MOST_DIGITS.false c.if-n-ne0.true) c.digits_or-then-n-ne0.ensures

pub overflow_add-good : goal.overflow_add-good
overflow_add-good c =
    let l = c.args.line.now in
    let place : c.first_other-good.result ≡ leading (take (length l - 1) (drop 1 l)) = c.first_other-good.ensures.answer in
    let e = place ∙ ap leading (rest_is l 1) in
    omega (arith, leading_most (drop 1 l), length-drop 1 l)

pub returns-then-not-scan : goal.returns-then-not-scan
returns-then-not-scan c =
    let l = c.args.line.now in
    let f = c.first_other-good in
    let place : f.result ≡ leading (take (length l - 1) (drop 1 l)) = f.ensures.answer in
    let e = place ∙ ap leading (rest_is l 1) in
    let g : f.result + 1 ≡ suc (leading (drop 1 l)) = omega arith in
    let s = c.decode-scan in
    let d = decoded l c.args.buf.now s.result.whole s.result.sum s.new.buf c.requires.long c.if-n-ne0.false (omega arith) c.requires.room s.ensures in
    refused (judge l) c.args.pool.now c.args.at (ContainsInvalidCharacters c.name_place.result)
    (judge_bad l c.requires.starts (digits_bad l c.requires.long (sym d.digits ∙ not-true s.result.whole c.if-not-scan.true))
    ∙ ap (λ (place : ℕ). wrong (contains_invalid_characters place)) (sym (c.name_place.ensures.answer ∙ ap named g)))

-- the decoded bytes are what the digits spell
spelt : (l buf' : List ℕ) (total : ℕ) → (take (length (drop 2 l) / 2) buf' ≡ bytes (drop 2 l)) × (total ≡ sum (bytes (drop 2 l)) % 256)
    → (take ((length l - 2) / 2) buf' ≡ bytes (drop 2 l)) × (total ≡ sum (take ((length l - 2) / 2) buf') % 256)
spelt l buf' total x =
    let e = ap (λ (n : ℕ). take (n / 2) buf') (sym (length-drop 2 l)) ∙ x.0 in
    (e, x.1 ∙ ap (λ (bs : List ℕ). sum bs % 256) (sym e))

pub judge_bytes-requires : goal.judge_bytes-requires
judge_bytes-requires c =
    let l = c.args.line.now in
    let s = c.decode-scan in
    let k : length s.new.buf ≡ length c.args.buf.now = s.auto.buf in
    let d = decoded l c.args.buf.now s.result.whole s.result.sum s.new.buf c.requires.long c.if-n-ne0.false (omega arith) c.requires.room s.ensures in
    let good : all_digits (drop 2 l) ≡ true = sym d.digits ∙ not-false s.result.whole c.if-not-scan.false in
    record {
      named = c.requires.named;
      least = omega (arith, c.width.ensures.0, c.if-n-width.false);
      most = omega arith;
      room = omega (arith, c.requires.room);
      sums = (spelt l s.new.buf s.result.sum (decoded_all d good)).1;
    }

pub returns : goal.returns
returns c =
    let l = c.args.line.now in
    let t = digit_of c.args.kind in
    let s = c.decode-scan in
    let d = decoded l c.args.buf.now s.result.whole s.result.sum s.new.buf c.requires.long c.if-n-ne0.false (omega arith) c.requires.room s.ensures in
    let good : all_digits (drop 2 l) ≡ true = sym d.digits ∙ not-false s.result.whole c.if-not-scan.false in
    let named : is_named (digit (get_or l 1 0)) ≡ true = ap is_named (sym c.requires.typed) ∙ c.requires.named in
    rw (judge_whole l c.requires.starts c.requires.long t c.requires.typed c.requires.named (omega (arith, c.width.ensures.0, c.if-n-width.false)) (omega arith) (omega arith) (digits_all l c.requires.long named good)
    ∙ ap (judge_bytes t) (sym (spelt l s.new.buf s.result.sum (decoded_all d good)).0))
    c.judge_bytes.ensures
