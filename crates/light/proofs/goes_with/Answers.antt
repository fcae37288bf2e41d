-- A refusal, marks of another size, and a row by its unused bits.
use Rattle.std.proofs.Common.{◌≡◌, true, sym, ◌∙◌, ne_eqb}
use Rattle.steps.specs.Told.{is_accepted}
use Rattle.light.proofs.Telling.{acceptance}
use Rattle.light.proofs.After.{goes_other_size, goes_by_found}
use Rattle.light.proofs.goes_with.Goals as goal

pub returns-then-marks-row_length : goal.returns-then-marks-row_length
returns-then-marks-row_length c =
    let a = c.args in
    let w : is_accepted a.answer ≡ true = acceptance a.answer (sym c.is_err.ensures.value ∙ c.if-is_err.false) in
    goes_by_found a.answer a.places a.marks.now w (c.if-marks-row_length.true ∙ c.row_length.ensures.answer) c.first_unused.result c.is_none.result (sym c.first_unused.ensures.answer) c.is_none.ensures

pub returns-else-marks-row_length : goal.returns-else-marks-row_length
returns-else-marks-row_length c =
    let a = c.args in
    let w : is_accepted a.answer ≡ true = acceptance a.answer (sym c.is_err.ensures.value ∙ c.if-is_err.false) in
    rw (ne_eqb _ _ c.if-marks-row_length.false) (goes_other_size a.answer a.places a.marks.now w (λ e. c.if-marks-row_length.false (e ∙ sym c.row_length.ensures.answer)))
