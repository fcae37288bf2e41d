-- `reader::judge_bytes` meets its contract: at each `return` the tests that led there say which case of the judge holds.
-- Assumes nothing.
use Rattle.std.proofs.Common.{◌-◌, get_or, take, drop, sym, ◌∙◌, arith, rules}
use Rattle.record.specs.Line.{judge_bytes}
use Rattle.reader.specs.declared.ReaderError.TheVariants.{ChecksumMismatch, PayloadLengthMismatch, UnsupportedRecordType}
use Rattle.reader.specs.Answer.{word}
use Rattle.reader.proofs.Answers.{refused, gave_special}
use Rattle.reader.proofs.Judge.{differs, mislaid, says_data, unknown, misfit, says_special}
use Rattle.reader.proofs.judge_bytes.Goals as goal

pub returns-then-sum-ne0 : goal.returns-then-sum-ne0
returns-then-sum-ne0 c =
    let a = c.args in
    let stated = c.type_inv.buf (a.m - 1) in
    refused (judge_bytes (take a.m a.buf.now)) a.pool.now a.at (ChecksumMismatch _ _)
    (differs a.buf.now a.m a.sum c.requires _ c.if-sum-ne0.true (omega arith) (omega arith))

pub returns-then-from-n : goal.returns-then-from-n
returns-then-from-n c =
    let a = c.args in
    refused (judge_bytes (take a.m a.buf.now)) a.pool.now a.at PayloadLengthMismatch
    (mislaid a.buf.now a.m a.sum c.requires c.if-sum-ne0.false (search rules) (λ e. c.if-from-n.true (c.from.ensures ∙ e)))

pub returns-in-0 : goal.returns-in-0
returns-in-0 c =
    let a = c.args in
    rw (says_data a.buf.now a.m a.sum c.requires c.if-sum-ne0.false (search rules) (sym c.from.ensures ∙ c.if-from-n.false) c.in-0.is)
    c.lay_down.ensures

pub returns-in-1-to-5 : goal.returns-in-1-to-5
returns-in-1-to-5 c =
    let a = c.args in
    let right = sym c.from.ensures ∙ c.if-from-n.false in
    gave_special (judge_bytes (take a.m a.buf.now)) a.pool.now a.at (get_or a.buf.now 3 0) (word a.buf.now 1) (take (a.m - 5) (drop 4 a.buf.now)) (omega arith) (omega arith)
    (says_special a.buf.now a.m a.sum c.requires c.if-sum-ne0.false (search rules) right (omega arith) (λ z. omega arith))
    (misfit a.buf.now a.m a.sum c.requires c.if-sum-ne0.false (search rules) right (omega arith) (λ z. omega arith))
    c.special.ensures

pub returns-in_default : goal.returns-in_default
returns-in_default c =
    let a = c.args in
    refused (judge_bytes (take a.m a.buf.now)) a.pool.now a.at (UnsupportedRecordType _)
    (unknown a.buf.now a.m a.sum c.requires c.if-sum-ne0.false (search rules) (sym c.from.ensures ∙ c.if-from-n.false) (omega arith))
