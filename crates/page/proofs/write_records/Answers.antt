-- The records that were given, one by one, are all of the file.
use Rattle.std.proofs.Common.{refl, ap, subst, map-id, sym, ◌∙◌, List}
use Rattle.std.proofs.lemmas.Iterator.Consumers.{YieldsList-from_first, YieldsList-end}
use Rattle.record.specs.declared.Record.{Record}
use Rattle.writer.specs.Claims.{Steps, no_step, then_step}
use Rattle.page.specs.Walk.{to_come}
use Rattle.page.proofs.write_records.Goals as goal

pub loop-given-init : goal.loop-given-init
loop-given-init c = no_step

pub loop-given-preserved : goal.loop-given-preserved
loop-given-preserved c =
    let w = c.write_next-done in
    then_step c.in-Some.given w.new.out c.loop-given.invariant w.ensures refl

pub returns : goal.returns
returns c =
    let l = c.loop-given in
    let start = c.into_iter-given-iterator in
    let whole = YieldsList-from_first (λ (x : Record). x) to_come {s = start.result} _ (ap to_come start.ensures.into_iter_gives ∙ c.new-given-items.ensures) in
    let all = YieldsList-end whole l.yielded l.given-iterator l.yielded_by _ c.next.new.self c.in-None.is c.next.ensures.steps in
    subst (λ (rs : List Record). Steps c.args.page.now c.args.out.now c.args.start rs l.done l.out) (sym (map-id l.yielded) ∙ all.0) l.invariant
