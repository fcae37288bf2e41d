-- `take_hex`: the loader takes the line, and an answer is named in it.
-- Assumes nothing.
use Rattle.std.proofs.Common.{refl, ap, ◌∙◌}
use Rattle.steps.specs.declared.LoaderError.TheVariants.{BadWindow}
use Rattle.steps.specs.Aliases.{refuse}
use Rattle.steps.specs.Told.{tallied}
use Rattle.intel.specs.Placing.{intel}
use Rattle.loader.specs.declared.Taken.{Taken}
use Rattle.loader.specs.declared.Taken.TheVariants.{Stop}
use Rattle.loader.specs.Helpers.{based, told_taken}
use Rattle.intake.specs.declared.Turn.TheVariants as turn
use Rattle.intake.specs.Ways.{hex_standing}
use Rattle.intake.specs.Helpers.{in_line}
use Rattle.intake.proofs.Turning.{turned, stop_in_line}
use Rattle.intake.proofs.take_hex.Goals as goal

pub returns-in-On : goal.returns-in-On
returns-in-On c =
    let a = c.args in
    let t = c.take_line in (
      turned intel hex_standing told_taken (Stop (refuse BadWindow 0)) refl a.line.now a.skipped a.number a.w.base a.w.tally (based a.w.base) (tallied a.w.tally) refl
          a.first a.page.now a.marks.now c.requires t.result _ _ t.ensures (turn.On c.in-On.after c.in-On.t)
          (λ ps. ap (λ (x : Taken). in_line a.skipped (told_taken x ps)) c.in-On.is),
      tt,
    )

pub returns-in-Stop : goal.returns-in-Stop
returns-in-Stop c =
    let a = c.args in
    let t = c.take_line in (
      turned intel hex_standing told_taken (Stop (refuse BadWindow 0)) refl a.line.now a.skipped a.number a.w.base a.w.tally (based a.w.base) (tallied a.w.tally) refl
          a.first a.page.now a.marks.now c.requires t.result _ _ t.ensures (turn.Stop c.in_line.result)
          (λ ps. ap (λ (x : Taken). in_line a.skipped (told_taken x ps)) c.in-Stop.is ∙ stop_in_line a.skipped ps c.in-Stop.answer c.in_line.result c.in_line.ensures),
      tt,
    )
