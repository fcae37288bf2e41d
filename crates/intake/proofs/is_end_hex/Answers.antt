-- `is_end_hex`: the record that was read is the end by its variant, and a line that is refused is none.
-- Assumes nothing.
use Rattle.std.proofs.Common.{replicate, refl, subst}
use Rattle.reader.specs.Aliases.{Answer}
use Rattle.reader.specs.Answer.{ReadRecord}
use Rattle.intel.proofs.Calls.{line_read, line_refused}
use Rattle.intake.proofs.Past.{hex_end, hex_other, hex_refused}
use Rattle.intake.proofs.is_end_hex.Goals as goal

pub returns-in-EndOfFile : goal.returns-in-EndOfFile
returns-in-EndOfFile c =
    let a = c.args in
    let n = c.read_record in
    hex_end a.line.now n.new.pool c.in-Ok.given
    (line_read a.line.now (replicate 255 0) n.new.pool refl c.in-Ok.given (subst (λ (x : Answer). ReadRecord a.line.now (replicate 255 0) 0 x n.new.pool) c.in-Ok.is n.ensures))
    c.in-EndOfFile.is

pub returns-in_default : goal.returns-in_default
returns-in_default c =
    let a = c.args in
    let n = c.read_record in
    hex_other a.line.now n.new.pool c.in-Ok.given
    (line_read a.line.now (replicate 255 0) n.new.pool refl c.in-Ok.given (subst (λ (x : Answer). ReadRecord a.line.now (replicate 255 0) 0 x n.new.pool) c.in-Ok.is n.ensures))
    c.in_default.not-EndOfFile

pub returns-in-Err : goal.returns-in-Err
returns-in-Err c =
    let a = c.args in
    let n = c.read_record in
    hex_refused a.line.now c.in-Err.field-0
    (line_refused a.line.now (replicate 255 0) n.new.pool refl c.in-Err.field-0 (subst (λ (x : Answer). ReadRecord a.line.now (replicate 255 0) 0 x n.new.pool) c.in-Err.is n.ensures))
