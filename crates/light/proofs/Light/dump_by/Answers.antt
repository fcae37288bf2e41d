-- A page of another length is refused, and else its load decides.
use Rattle.std.proofs.Common.{sym, subst}
use Rattle.light.specs.declared.Dumped.{Dumped}
use Rattle.light.specs.Light.{Dumps}
use Rattle.light.proofs.Telling.{dumps_misfit, held, dumps_told}
use Rattle.light.proofs.Light.dump_by.Goals as goal

pub returns-then-page-self : goal.returns-then-page-self
returns-then-page-self g c =
    let a = c.args in
    subst (λ (r : Dumped). Dumps g.W.LineByLine.source a.self a.text.now a.page.now a.marks.now r a.page.now a.marks.now) (sym c.misfit.ensures)
    (dumps_misfit g.W.LineByLine.source a.self a.text.now a.page.now a.marks.now c.if-page-self.true)

pub tell-requires : goal.tell-requires
tell-requires g c =
    let a = c.args in
    let d = c.load_through_window-answer in
    held g.W.LineByLine.source a.self a.text.now a.page.now a.marks.now d.result d.new.page d.new.marks d.ensures

pub returns : goal.returns
returns g c =
    let a = c.args in
    let d = c.load_through_window-answer in
    dumps_told g.W.LineByLine.source a.self a.text.now a.page.now a.marks.now d.result d.new.page d.new.marks d.ensures c.if-page-self.false c.tell.result c.tell.ensures
