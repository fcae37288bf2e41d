-- `writer::create_object_file_representation` meets its contract: the list is surveyed, and then written record by record from where the survey says.
-- Assumes nothing.
use Rattle.std.proofs.Common.{◌^◌, ◌+◌, ◌<◌, length, get_or, take, drop, sym, refl, arith, rules, take-append-drop}
use Rattle.std.proofs.lemmas.Result.{err_from_is_err_and}
use Rattle.std.specs.Prelude.{Err, Ok}
use Rattle.record.specs.declared.Record.TheVariants.{Data}
use Rattle.writer.specs.Aliases.{Written}
use Rattle.writer.specs.Claims.{Steps, no_step, then_step}
use Rattle.writer.proofs.Stepping.{object_written, stays}
use Rattle.writer.proofs.Taking.{taken_more, taken_all}
use Rattle.writer.proofs.create_object_file_representation.Goals as goal

pub returns-in_err-at : goal.returns-in_err-at
returns-in_err-at c =
    let a = c.args in
    let p = err_from_is_err_and c.from_residual.result c.from_residual.ensures.1 in
    let e : Written = Err c.in_err-at.field-0.0 in
    let few : length a.records.now < 2 ^ 64 = search rules in
    let short : length a.out.now < 2 ^ 63 = search rules in
    rw (p.1, p.2)
    (object_written a.records.now a.pool.now a.out.now c.survey_list.result e e a.out.now (omega (arith, few)) (omega (arith, short))
    c.survey_list.ensures c.in_err-at.ensures (stays a.pool.now a.out.now e a.records.now no_step refl))

pub loop-record-init : goal.loop-record-init
loop-record-init c = no_step

pub returns-in_err-at-2 : goal.returns-in_err-at-2
returns-in_err-at-2 c =
    let a = c.args in
    let i = c.loop-record.record-index in
    let p = err_from_is_err_and c.from_residual-in_err-at-2.result c.from_residual-in_err-at-2.ensures.1 in
    let e : Written = Err c.in_err-at-2.field-0.0 in
    let few : length a.records.now < 2 ^ 64 = search rules in
    let short : length a.out.now < 2 ^ 63 = search rules in
    let s : Steps a.pool.now a.out.now (Ok c.in_ok-at.at) (take (i + 1) a.records.now) e c.write_step.new.out =
    then_step (get_or a.records.now i (Data 0 0 0)) c.write_step.new.out c.loop-record.invariant c.in_err-at-2.ensures
    (taken_more a.records.now i (Data 0 0 0) c.loop-record-test.true) in
    rw (p.1, p.2)
    (object_written a.records.now a.pool.now a.out.now c.survey_list.result (Ok c.in_ok-at.at) e c.write_step.new.out (omega (arith, few)) (omega (arith, short))
    c.survey_list.ensures c.in_ok-at.ensures
    (stays a.pool.now a.out.now (Ok c.in_ok-at.at) (drop (i + 1) a.records.now) s (sym (take-append-drop (i + 1) a.records.now))))

pub loop-record-preserved : goal.loop-record-preserved
loop-record-preserved c =
    let i = c.loop-record.record-index in
    then_step (get_or c.args.records.now i (Data 0 0 0)) c.write_step.new.out c.loop-record.invariant c.in_ok-at-2.ensures
    (taken_more c.args.records.now i (Data 0 0 0) c.loop-record-test.true)

pub returns : goal.returns
returns c =
    let a = c.args in
    let few : length a.records.now < 2 ^ 64 = search rules in
    let short : length a.out.now < 2 ^ 63 = search rules in
    let t = taken_all a.records.now (λ rs. Steps a.pool.now a.out.now (Ok c.in_ok-at.at) rs (Ok c.loop-record.at) c.loop-record.out) c.loop-record.record-index c.loop-record-test.false c.loop-record.invariant in
    object_written a.records.now a.pool.now a.out.now c.survey_list.result (Ok c.in_ok-at.at) (Ok c.loop-record.at) c.loop-record.out (omega (arith, few)) (omega (arith, short))
    c.survey_list.ensures c.in_ok-at.ensures t
