-- `srec::judge_bytes` meets its contract: at each `return` the tests that led there say which case of the judge holds.
-- Assumes nothing.
use Rattle.std.proofs.Common.{◌≡◌, ◌+◌, ◌-◌, ◌%◌, get_or, take, sym, refl, ◌∙◌, arith, ltb-true, ltb-false}
use Rattle.reader.specs.declared.ReaderError.TheVariants.{ChecksumMismatch, PayloadLengthMismatch, InvalidLengthForType}
use Rattle.digits.proofs.Parts.{part_length}
use Rattle.srec.specs.Line.{judge_bytes}
use Rattle.srec.specs.Record.{digit_of}
use Rattle.srec.proofs.Answers.{refused, bare}
use Rattle.srec.proofs.Judge.{data_in, differs, said_mislaid, said_misfit, said_data, said_bare}
use Rattle.srec.proofs.judge_bytes.Goals as goal

pub returns-then-sum-ne-GOOD_SUM : goal.returns-then-sum-ne-GOOD_SUM
returns-then-sum-ne-GOOD_SUM c =
    let a = c.args in
    let d = digit_of a.kind in
    let last = get_or a.buf.now (a.m - 1) 0 in
    let r = (a.sum + (256 - last)) % 256 in
    let small = (c.type_inv.buf (a.m - 1)).fits in
    let fits = c.ranges.sum.fits in
    refused (judge_bytes d (take a.m a.buf.now)) a.pool.now a.at (ChecksumMismatch (255 - r) last)
    (differs d a.buf.now a.m a.sum c.requires r c.if-sum-ne-GOOD_SUM.true (omega arith) (omega arith) small)

pub returns-then-from-last : goal.returns-then-from-last
returns-then-from-last c =
    let a = c.args in
    let d = digit_of a.kind in
    let w = c.width-w in
    let small = (c.type_inv.buf (a.m - 1)).fits in
    refused (judge_bytes d (take a.m a.buf.now)) a.pool.now a.at PayloadLengthMismatch
    (said_mislaid d a.buf.now a.m a.sum c.requires w.result w.ensures.0 c.if-sum-ne-GOOD_SUM.false small (λ e. c.if-from-last.true (c.from.ensures ∙ e)))

pub returns-then-holds_data : goal.returns-then-holds_data
returns-then-holds_data c =
    let a = c.args in
    let n : a.m - 1 - (1 + c.width-w.result) ≡ a.m - 1 - c.width-w.result - 1 = omega arith in
    let d = digit_of a.kind in
    let w = c.width-w in
    let address = c.address_of-address in
    let small = (c.type_inv.buf (a.m - 1)).fits in
    rw (said_data d a.buf.now a.m a.sum c.requires w.result w.ensures.0 c.if-sum-ne-GOOD_SUM.false small d address.result refl address.ensures.answer
    (sym c.from.ensures ∙ c.if-from-last.false) (ltb-true d 4 (sym c.holds_data.ensures ∙ c.if-holds_data.true)))
    (rw n at c.lay_down.ensures)

pub returns-then-payload-ne0 : goal.returns-then-payload-ne0
returns-then-payload-ne0 c =
    let a = c.args in
    let n : a.m - 1 - (1 + c.width-w.result) ≡ a.m - 1 - c.width-w.result - 1 = omega arith in
    let long = part_length a.buf.now (1 + c.width-w.result) (a.m - 1 - (1 + c.width-w.result)) (omega (arith, c.requires.most, c.requires.room, c.requires.least)) ∙ n in
    let d = digit_of a.kind in
    let w = c.width-w in
    let small = (c.type_inv.buf (a.m - 1)).fits in
    refused (judge_bytes d (take a.m a.buf.now)) a.pool.now a.at InvalidLengthForType
    (said_misfit d a.buf.now a.m a.sum c.requires w.result w.ensures.0 c.if-sum-ne-GOOD_SUM.false small
    (sym c.from.ensures ∙ c.if-from-last.false) (ltb-false d 4 (sym c.holds_data.ensures ∙ c.if-holds_data.false)) (λ e. c.if-payload-ne0.true (long ∙ e)))

pub returns : goal.returns
returns c =
    let a = c.args in
    let n : a.m - 1 - (1 + c.width-w.result) ≡ a.m - 1 - c.width-w.result - 1 = omega arith in
    let long = part_length a.buf.now (1 + c.width-w.result) (a.m - 1 - (1 + c.width-w.result)) (omega (arith, c.requires.most, c.requires.room, c.requires.least)) ∙ n in
    let d = digit_of a.kind in
    let w = c.width-w in
    let address = c.address_of-address in
    let small = (c.type_inv.buf (a.m - 1)).fits in
    bare (judge_bytes d (take a.m a.buf.now)) a.pool.now a.at a.kind d address.result (data_in w.result a.buf.now a.m) refl
    (ltb-false d 4 (sym c.holds_data.ensures ∙ c.if-holds_data.false))
    (said_bare d a.buf.now a.m a.sum c.requires w.result w.ensures.0 c.if-sum-ne-GOOD_SUM.false small d address.result refl address.ensures.answer
    (sym c.from.ensures ∙ c.if-from-last.false) (sym long ∙ c.if-payload-ne0.false))
