-- The survey's answer, however much room there is.
use Rattle.page.proofs.Answers.{surveyed_length, never_refused, length_told}
use Rattle.page.proofs.page_file_length.Goals as goal

pub as_paged-requires : goal.as_paged-requires
as_paged-requires c =
    let a = c.args in
    never_refused c.answer.result _ (surveyed_length a.first a.page.now a.marks.now _ c.in_ok-survey_page.ensures c.answer.result c.answer.ensures)

pub returns : goal.returns
returns c =
    let a = c.args in
    let w = c.in_ok-survey_page.ensures in
    length_told a.first a.page.now a.marks.now c.answer.result c.as_paged.result w.text_is
    (surveyed_length a.first a.page.now a.marks.now _ w c.answer.result c.answer.ensures) c.as_paged.ensures
