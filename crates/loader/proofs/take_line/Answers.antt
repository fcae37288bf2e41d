-- A line that is refused changes nothing, and a record is taken.
-- Assumes nothing.
use Rattle.std.proofs.Common.{replicate, sym, refl, ◌∙◌, arith}
use Rattle.window.proofs.Taking.{not_closed}
use Rattle.intel.proofs.Calls.{line_read, line_refused}
use Rattle.loader.proofs.Taking.{taken_refused, taken_read}
use Rattle.loader.proofs.take_line.Goals as goal

pub take_record-requires : goal.take_record-requires
take_record-requires c =
    let s = c.args in
    let n = c.read_record in
    let said = line_read s.line.now (replicate 255 0) n.new.pool refl c.in-Ok.given (rw c.in-Ok.is at n.ensures) in
    (said.lies n.auto.pool, omega (arith, c.if-tally-eq18446744073709551615.false), sym c.is_unfit.ensures.answer ∙ c.if-is_unfit.false)

pub returns-in-Ok : goal.returns-in-Ok
returns-in-Ok c =
    let s = c.args in
    let n = c.read_record in
    let said = line_read s.line.now (replicate 255 0) n.new.pool refl c.in-Ok.given (rw c.in-Ok.is at n.ensures) in
    let t = c.take_record in
    taken_read s.line.now s.number s.base s.tally s.first s.page.now s.marks.now
    (not_closed s.tally.records s.first _ _ (sym c.is_unfit.ensures.answer ∙ c.if-is_unfit.false) (λ e. c.if-tally-eq18446744073709551615.false (omega arith)))
    n.new.pool c.in-Ok.given said t.result _ _ t.ensures

pub returns-in-Err : goal.returns-in-Err
returns-in-Err c =
    let s = c.args in
    let n = c.read_record in
    rw c.at-in-Err.ensures.answer (taken_refused s.line.now s.number s.base s.tally s.first s.page.now s.marks.now
    (not_closed s.tally.records s.first _ _ (sym c.is_unfit.ensures.answer ∙ c.if-is_unfit.false) (λ e. c.if-tally-eq18446744073709551615.false (omega arith))) c.in-Err.e
    (line_refused s.line.now (replicate 255 0) n.new.pool refl c.in-Err.e (rw c.in-Err.is at n.ensures)))
