-- `chunks::settle` meets its contract: a record, PoolFull, or any other refusal.
-- Assumes nothing.
use Rattle.std.proofs.Common.{◌≡◌, ◌||◌, false, sym, ◌∙◌}
use Rattle.reader.specs.Text.{ends_row}
use Rattle.reader.specs.Told.{told, is_pool_full}
use Rattle.std.specs.Prelude.{Ok}
use Rattle.chunks.proofs.Outcomes.{settle_read, settle_full, settle_refused}
use Rattle.chunks.proofs.settle.Goals as goal
use Rattle.chunks.proofs.settle.Goals.{then-last, else-last, then-last-2, else-last-2}

pub returns-after-last : goal.returns-after-last
returns-after-last c =
    let a = c.args in
    let finished : c.if-last.finished ≡ (a.last || ends_row a.s.options (told (Ok c.in-Ok.r))) =
    elim c.if-last.branch [
      | then-last w ↦ rw (w.finished-is, w.if-last.true)
      | else-last w ↦ rw (w.finished-is, w.if-last.false) w.ends-finished.ensures.answer
    ] in
    settle_read a.s a.answer a.found.position a.found.line a.last a.lies _ _ _ c.in-Ok.is c.past_line.ensures finished

pub returns-in-Err : goal.returns-in-Err
returns-in-Err c =
    let a = c.args in
    settle_full a.s a.answer a.found.position a.found.line a.last a.lies _ _ c.in-Err.is (sym c.is_pool_full.ensures.answer ∙ c.if-is_pool_full.true) c.plain.ensures

pub returns-after-last-2 : goal.returns-after-last-2
returns-after-last-2 c =
    let a = c.args in
    let finished : c.if-last-2.finished ≡ (a.last || a.s.options.stop_after_first_error) =
    elim c.if-last-2.branch [
      | then-last-2 w ↦ rw (w.finished-is, w.if-last-2.true)
      | else-last-2 w ↦ rw (w.finished-is, w.if-last-2.false)
    ] in
    let same : c.in-Err-2.e ≡ c.in-Err.e = cc in
    let not_full : is_pool_full c.in-Err-2.e ≡ false = rw same (sym c.is_pool_full.ensures.answer ∙ c.if-is_pool_full.false) in
    settle_refused a.s a.answer a.found.position a.found.line a.last a.lies _ _ _ _ c.in-Err-2.is not_full
    c.past_line-in-Err-2.ensures finished c.plain-in-Err-2.ensures
