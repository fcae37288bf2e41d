-- A refused load, a load without a count, and one with a count.
use Rattle.std.proofs.Common.{◌≡◌, true, false, sym, ◌∙◌}
use Rattle.steps.specs.Told.{is_accepted}
use Rattle.light.proofs.Telling.{refusal, acceptance, tells_broken, tells_none, tells_count, held_now}
use Rattle.light.proofs.tell.Goals as goal

pub returns-then-is_err : goal.returns-then-is_err
returns-then-is_err c =
    let a = c.args in
    tells_broken a.light a.answer a.page.now a.marks.now (refusal a.answer (sym c.is_err.ensures.value ∙ c.if-is_err.true))

went : (c : goal.Else-is_err) → is_accepted c.args.answer ≡ true
went c = acceptance c.args.answer (sym c.is_err.ensures.value ∙ c.if-is_err.false)

pub count_in-requires : goal.count_in-requires
count_in-requires c =
    held_now c.args.answer c.args.page.now c.args.marks.now c.requires (went c)

pub returns-in-None : goal.returns-in-None
returns-in-None c =
    let a = c.args in
    let w : is_accepted a.answer ≡ true = acceptance a.answer (sym c.is_err.ensures.value ∙ c.if-is_err.false) in
    tells_none a.light a.answer a.page.now a.marks.now w c.in-None.ensures

pub returns-in-Some : goal.returns-in-Some
returns-in-Some c =
    let a = c.args in
    let w : is_accepted a.answer ≡ true = acceptance a.answer (sym c.is_err.ensures.value ∙ c.if-is_err.false) in
    tells_count a.light a.answer a.page.now a.marks.now _ c.compare.result w c.in-Some.ensures c.compare.ensures
