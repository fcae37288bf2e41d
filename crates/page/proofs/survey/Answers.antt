-- The records that were given, one by one, are all of the file.
use Rattle.std.proofs.Common.{refl, ap, subst, map-id, sym, ◌∙◌, List}
use Rattle.std.proofs.lemmas.Iterator.Consumers.{YieldsList-from_first, YieldsList-end}
use Rattle.record.specs.declared.Record.{Record}
use Rattle.writer.specs.Claims.{Surveys, at_first, then_add}
use Rattle.page.specs.Walk.{to_come}
use Rattle.page.proofs.survey.Goals as goal

pub loop-given-init : goal.loop-given-init
loop-given-init c = at_first c.new-s.ensures

pub loop-given-preserved : goal.loop-given-preserved
loop-given-preserved c = then_add c.loop-given.invariant c.add-s.ensures refl

pub returns : goal.returns
returns c =
    let l = c.loop-given in
    let start = c.into_iter-given-iterator in
    let whole = YieldsList-from_first (λ (x : Record). x) to_come {s = start.result} _ (ap to_come start.ensures.into_iter_gives ∙ c.new-given-items.ensures) in
    let all = YieldsList-end whole l.yielded l.given-iterator l.yielded_by _ c.next.new.self c.in-None.is c.next.ensures.steps in
    subst (λ (rs : List Record). Surveys c.args.page.now rs l.s) (sym (map-id l.yielded) ∙ all.0) l.invariant
