-- 16, then 19, and else the survey.
use Rattle.std.proofs.Common.{◌≡◌, false, length, sym, ◌∙◌, ap}
use Rattle.marks.specs.Marks.{told_unused}
use Rattle.window.specs.Window.{unfit}
use Rattle.window.proofs.Tests.{good_window}
use Rattle.page.proofs.Answers.{text_unfit, text_bad, text_good}
use Rattle.page.proofs.survey_page.Goals as goal

pub returns-then-is_unfit : goal.returns-then-is_unfit
returns-then-is_unfit c =
    let a = c.args in
    text_unfit a.first a.page.now a.marks.now (sym c.is_unfit.ensures.answer ∙ c.if-is_unfit.true)

pub returns-in-Some : goal.returns-in-Some
returns-in-Some c =
    let a = c.args in
    text_bad a.first a.page.now a.marks.now (sym c.is_unfit.ensures.answer ∙ c.if-is_unfit.false) _ (sym c.first_unused.ensures.answer ∙ ap told_unused c.in-Some.is)

pub survey-requires : goal.survey-requires
survey-requires c =
    let a = c.args in
    (good_window a.first a.page.now a.marks.now (sym c.is_unfit.ensures.answer ∙ c.if-is_unfit.false)).below

pub returns-in-None : goal.returns-in-None
returns-in-None c =
    let a = c.args in
    let f : unfit a.first (length a.page.now) (length a.marks.now) ≡ false = sym c.is_unfit.ensures.answer ∙ c.if-is_unfit.false in
    record {
      window = good_window a.first a.page.now a.marks.now f;
      text_is = text_good a.first a.page.now a.marks.now f (sym c.first_unused.ensures.answer ∙ ap told_unused c.in-None.is);
      surveys = c.survey.ensures;
    }
