-- `take_srecord`: the loader of S-records takes the line, and an answer is named in it.
-- Assumes nothing.
use Rattle.std.proofs.Common.{refl, ap, ◌∙◌}
use Rattle.std.specs.Prelude.{None}
use mathlib.Core.Option.{none}
use Rattle.steps.specs.declared.LoaderError.TheVariants.{BadWindow}
use Rattle.steps.specs.Aliases.{refuse}
use Rattle.srecload.specs.declared.Taken.{Taken}
use Rattle.srecload.specs.declared.Taken.TheVariants.{Stop}
use Rattle.srecload.specs.Placing.{s_records}
use Rattle.srecload.specs.Taking.{told_taken}
use Rattle.intake.specs.declared.Turn.TheVariants as turn
use Rattle.intake.specs.Ways.{s_standing}
use Rattle.intake.specs.Helpers.{in_line}
use Rattle.intake.proofs.Turning.{turned, stop_in_line}
use Rattle.intake.proofs.take_srecord.Goals as goal

pub returns-in-On : goal.returns-in-On
returns-in-On c =
    let a = c.args in
    let t = c.take_line in (
      turned s_records s_standing told_taken (Stop (refuse BadWindow 0)) refl a.line.now a.skipped a.number a.w.base a.w.tally tt (record { records = a.w.tally.records; start = none }) refl
          a.first a.page.now a.marks.now c.requires t.result _ _ (record { refused = t.ensures.refused; taken = t.ensures.taken }) (turn.On a.w.base (record { records = c.in-On.records; start = None }))
          (λ ps. ap (λ (x : Taken). in_line a.skipped (told_taken x ps)) c.in-On.is),
      refl,
    )

pub returns-in-Stop : goal.returns-in-Stop
returns-in-Stop c =
    let a = c.args in
    let t = c.take_line in (
      turned s_records s_standing told_taken (Stop (refuse BadWindow 0)) refl a.line.now a.skipped a.number a.w.base a.w.tally tt (record { records = a.w.tally.records; start = none }) refl
          a.first a.page.now a.marks.now c.requires t.result _ _ (record { refused = t.ensures.refused; taken = t.ensures.taken }) (turn.Stop c.in_line.result)
          (λ ps. ap (λ (x : Taken). in_line a.skipped (told_taken x ps)) c.in-Stop.is ∙ stop_in_line a.skipped ps c.in-Stop.answer c.in_line.result c.in_line.ensures),
      tt,
    )
