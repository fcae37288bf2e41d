-- The survey and the steps write the file.
use Rattle.std.proofs.Common.{ℕ, arith, subst}
use Rattle.writer.specs.Survey.{SurveyBegin}
use Rattle.page.specs.File.{file}
use Rattle.page.proofs.Answers.{file_written, only_full, page_told}
use Rattle.page.proofs.write_page.Goals as goal

pub write_records-requires : goal.write_records-requires
write_records-requires c = let w = c.in_ok-survey_page.ensures.window in omega (arith, w.below)

pub as_paged-requires : goal.as_paged-requires
as_paged-requires c =
    let a = c.args in
    let w = c.write_records in
    let s = c.in_ok-survey_page.ensures in
    only_full (file a.first a.page.now a.marks.now) a.out.now _ w.result _ s.text_is
    (file_written a.first a.page.now a.marks.now _ s a.out.now c.begin-start.result w.result w.new.out (omega arith)
    (subst (λ (room : ℕ). SurveyBegin c.in_ok-survey_page.field-0 room c.begin-start.result) (omega arith) c.begin-start.ensures) w.ensures)

pub returns : goal.returns
returns c =
    let a = c.args in
    let w = c.write_records in
    let s = c.in_ok-survey_page.ensures in
    page_told a.first a.page.now a.marks.now a.out.now w.result c.as_paged.result w.new.out
    (file_written a.first a.page.now a.marks.now _ s a.out.now c.begin-start.result w.result w.new.out (omega arith)
    (subst (λ (room : ℕ). SurveyBegin c.in_ok-survey_page.field-0 room c.begin-start.result) (omega arith) c.begin-start.ensures) w.ensures) c.as_paged.ensures
