-- `is_end_srecord`: the record that was read is an end by its type, and a line that is refused is none.
-- Assumes nothing.
use Rattle.std.proofs.Common.{ℕ, replicate, subst}
use lib.ListN.{length-replicate}
use Rattle.srec.specs.Aliases.{SAnswer}
use Rattle.srec.specs.Answer.{ReadSRecord}
use Rattle.srecload.proofs.Reading.{came_read, came_refused}
use Rattle.intake.proofs.Past.{s_end, s_other, s_refused}
use Rattle.intake.proofs.is_end_srecord.Goals as goal

pub returns-in-S7 : goal.returns-in-S7
returns-in-S7 c =
    let a = c.args in
    let n = c.read_srecord in
    s_end a.line.now n.new.pool c.in-Ok.given
    (came_read a.line.now (replicate 252 0) n.new.pool (length-replicate {A = ℕ} 252 0) c.in-Ok.given (subst (λ (x : SAnswer). ReadSRecord a.line.now (replicate 252 0) 0 x n.new.pool) c.in-Ok.is n.ensures))
    c.in-S7.is

pub returns-in_default : goal.returns-in_default
returns-in_default c =
    let a = c.args in
    let n = c.read_srecord in
    s_other a.line.now n.new.pool c.in-Ok.given
    (came_read a.line.now (replicate 252 0) n.new.pool (length-replicate {A = ℕ} 252 0) c.in-Ok.given (subst (λ (x : SAnswer). ReadSRecord a.line.now (replicate 252 0) 0 x n.new.pool) c.in-Ok.is n.ensures))
    c.in_default.not-S7 c.in_default.not-S8 c.in_default.not-S9

pub returns-in-Err : goal.returns-in-Err
returns-in-Err c =
    let a = c.args in
    let n = c.read_srecord in
    s_refused a.line.now c.in-Err.field-0
    (came_refused a.line.now (replicate 252 0) n.new.pool (length-replicate {A = ℕ} 252 0) c.in-Err.field-0 (subst (λ (x : SAnswer). ReadSRecord a.line.now (replicate 252 0) 0 x n.new.pool) c.in-Err.is n.ensures))
