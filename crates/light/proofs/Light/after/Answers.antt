-- 16 for what no load of this light leaves, and else the load is told.
use Rattle.std.proofs.Common.{true, sym, ◌∙◌, subst}
use Rattle.light.specs.declared.Dumped.{Dumped}
use Rattle.light.specs.After.{goes_with, After}
use Rattle.light.proofs.After.{goes_held, after_other_length, after_other_marks, after_told}
use Rattle.light.proofs.Light.after.Goals as goal
use Rattle.light.proofs.Light.after.Goals.{then-page-self-via-then-page-self, then-page-self-via-else-page-self+then-not-goes_with}

pub returns-then-page-self : goal.returns-then-page-self
returns-then-page-self c =
    let a = c.args in
    subst (λ (r : Dumped). After a.self a.answer a.page.now a.marks.now r) (sym c.misfit.ensures)
    (elim c.then-page-self.branch [
      | then-page-self-via-then-page-self w ↦ after_other_length a.self a.answer a.page.now a.marks.now w.if-page-self.true
      | then-page-self-via-else-page-self+then-not-goes_with w ↦
          after_other_marks a.self a.answer a.page.now a.marks.now w.if-page-self.false (sym w.goes_with.ensures.answer_is ∙ w.if-not-goes_with.true)
    ])

pub tell-requires : goal.tell-requires
tell-requires c =
    let a = c.args in
    goes_held a.answer a.page.now a.marks.now (sym c.goes_with.ensures.answer_is ∙ c.if-not-goes_with.false)

pub returns : goal.returns
returns c =
    let a = c.args in
    after_told a.self a.answer a.page.now a.marks.now c.if-page-self.false (sym c.goes_with.ensures.answer_is ∙ c.if-not-goes_with.false) c.tell.result c.tell.ensures
