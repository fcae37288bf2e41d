-- `writer::write_step` meets its contract: measured, then put with its LF, if there is room.
-- Assumes nothing.
use Rattle.std.proofs.Common.{◌+◌, [], ◌∷◌, length, set, arith, length-append}
use Rattle.writer.specs.Line.{line_refusal, line, ended_line}
use Rattle.digits.proofs.Pasting.{pasted_one, pasted_more}
use Rattle.writer.proofs.Answers.{there, written_there}
use Rattle.writer.proofs.write_step.Goals as goal

pub returns : goal.returns
returns c =
    let a = c.args in
    let f = line_refusal a.«record» (length a.pool.now) in
    let cs = line a.«record» a.pool.now in
    let m = there f cs c.in_ok-n.n c.in_ok-n.ensures in
    let p = c.put_record in
    let end = a.at + c.in_ok-n.n in
    let l = length-append cs (10 ∷ []) in
    let k = p.auto.out in
    written_there f (ended_line a.«record» a.pool.now) a.out.now a.at m.0
    _ (set p.new.out end 10) (omega arith) (omega arith)
    (pasted_more a.out.now a.at cs (omega arith) (10 ∷ []) end p.ensures (omega arith) (pasted_one p.new.out end 10 (omega arith)))
