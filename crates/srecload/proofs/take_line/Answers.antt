-- A bad window and a full count change nothing. Else the line comes to what the source says of it.
-- Assumes nothing.
use Rattle.std.proofs.Common.{ℕ, [], length, replicate, sym, ◌∙◌, arith}
use lib.ListN.{length-replicate}
use Rattle.window.specs.Window.{within}
use Rattle.window.proofs.Loads.{painted_nothing}
use Rattle.srecload.specs.Taking.{told_taken}
use Rattle.srecload.proofs.Reading.{came_read, came_refused}
use Rattle.srecload.proofs.Taking.{line_read, line_refused, not_closed, take_open}
use Rattle.srecload.proofs.take_line.Goals as goal

pub take_in_window-requires : goal.take_in_window-requires
take_in_window-requires c =
    let a = c.args in
    let k = came_read a.line.now (replicate 252 0) c.read_srecord.new.pool (length-replicate {A = ℕ} 252 0) c.in-Ok.given c.in-Ok.ensures in
    ((k.lies, k.few), omega (arith, c.if-seen-eq18446744073709551615.false), sym c.is_unfit.ensures.answer ∙ c.if-is_unfit.false)

pub returns-in-Ok : goal.returns-in-Ok
returns-in-Ok c =
    let a = c.args in
    let k = came_read a.line.now (replicate 252 0) c.read_srecord.new.pool (length-replicate {A = ℕ} 252 0) c.in-Ok.given c.in-Ok.ensures in
    let t = c.take_in_window in
    let (ps, e, p) = t.ensures in
    take_open a.line.now a.number a.seen a.first a.page.now a.marks.now
    (not_closed a.seen a.first _ _ (sym c.is_unfit.ensures.answer ∙ c.if-is_unfit.false) (λ e. c.if-seen-eq18446744073709551615.false (omega arith)))
    t.result ps _ _ (line_read (within a.first (length a.page.now)) a.number a.seen a.line.now _ _ (told_taken t.result ps) k e) p

pub returns-in-Err : goal.returns-in-Err
returns-in-Err c =
    let a = c.args in
    rw c.at-in-Err.ensures.answer (take_open a.line.now a.number a.seen a.first a.page.now a.marks.now
    (not_closed a.seen a.first _ _ (sym c.is_unfit.ensures.answer ∙ c.if-is_unfit.false) (λ e. c.if-seen-eq18446744073709551615.false (omega arith))) _ [] _ _
    (line_refused (within a.first (length a.page.now)) a.number a.seen a.line.now c.in-Err.e
    (came_refused a.line.now (replicate 252 0) c.read_srecord.new.pool (length-replicate {A = ℕ} 252 0) c.in-Err.e c.in-Err.ensures)) (painted_nothing _ a.page.now a.marks.now))
