-- `commit::commit` meets its contract: what does not fit changes nothing; else the bytes at marked places are copied, and the row of marks whole.
-- Assumes nothing.
use Rattle.std.proofs.Common.{sym, ◌∙◌, rules}
use Rattle.commit.proofs.Copying.{other_stage, other_row, other_marks, all_copied}
use Rattle.commit.proofs.commit.Goals as goal
use Rattle.commit.proofs.commit.Goals.{then-stage-page-via-then-stage-page, then-stage-page-via-else-stage-page+then-stated-marks, then-stage-page-via-else-stage-page+else-stated-marks+then-marks-row_length}

pub returns-then-stage-page : goal.returns-then-stage-page
returns-then-stage-page c =
    let s = c.args in
    elim c.then-stage-page.branch [
      | then-stage-page-via-then-stage-page w ↦ other_stage s.stage.now s.stated.now s.page.now s.marks.now w.if-stage-page.true
      | then-stage-page-via-else-stage-page+then-stated-marks w ↦ other_row s.stage.now s.stated.now s.page.now s.marks.now w.if-stage-page.false w.if-stated-marks.true
      | then-stage-page-via-else-stage-page+else-stated-marks+then-marks-row_length w ↦
          other_marks s.stage.now s.stated.now s.page.now s.marks.now w.if-stage-page.false w.if-stated-marks.false (λ e. w.if-marks-row_length.true (e ∙ sym w.row_length.ensures.answer))
    ]

pub returns : goal.returns
returns c =
    let s = c.args in
    all_copied s.stage.now s.stated.now s.page.now s.marks.now c.if-stage-page.false c.if-stated-marks.false (c.if-marks-row_length.false ∙ c.row_length.ensures.answer) _ _
    c.copy_marked.ensures (c.copy.ensures.all (search rules)).1
