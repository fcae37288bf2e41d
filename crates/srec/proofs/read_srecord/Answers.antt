-- `srec::read_srecord` meets its contract: refusals 1, 3 and 8 by the tests of the S and of the type.
-- Assumes nothing.
use Rattle.std.proofs.Common.{drop, arith}
use Rattle.digits.specs.Digits.{all_digits}
use Rattle.reader.specs.declared.ReaderError.TheVariants.{MissingStartCode, RecordTooShort, UnsupportedRecordType}
use Rattle.reader.specs.Helpers.{invalid_at}
use Rattle.srec.specs.Line.{judge}
use Rattle.srec.proofs.Answers.{refused, chosen}
use Rattle.srec.proofs.Line.{judge_none, judge_other, judge_typeless, judge_unnamed}
use Rattle.srec.proofs.Naming.{type_unnamed}
use Rattle.srec.proofs.read_srecord.Goals as goal

pub returns-in-83 : goal.returns-in-83
returns-in-83 c = let l = c.args.line.now in refused (judge l) c.args.pool.now c.args.at RecordTooShort (judge_typeless l (omega arith) (omega arith))

pub returns-in-None : goal.returns-in-None
returns-in-None c =
    let l = c.args.line.now in
    let k = c.digit_value-digit in
    chosen (judge l) c.args.pool.now c.args.at (all_digits (drop 1 l)) c.digits_or.result (UnsupportedRecordType k.result) (invalid_at l)
    (judge_unnamed l (omega arith) (omega arith) k.result k.ensures.answer (type_unnamed k.result c.in-None.ensures))
    c.digits_or.ensures

pub returns-in_default : goal.returns-in_default
returns-in_default c = let l = c.args.line.now in refused (judge l) c.args.pool.now c.args.at MissingStartCode (judge_none l (omega arith))

pub returns-in_default-2 : goal.returns-in_default-2
returns-in_default-2 c = let l = c.args.line.now in refused (judge l) c.args.pool.now c.args.at MissingStartCode (judge_other l (λ e. omega arith))

pub returns-in_default-3 : goal.returns-in_default-3
returns-in_default-3 c = let l = c.args.line.now in refused (judge l) c.args.pool.now c.args.at MissingStartCode (judge_other l (λ e. omega arith))
