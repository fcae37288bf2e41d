-- The first pass says what the record comes to, and the second paints it where the load goes on.
-- Assumes nothing.
use Rattle.std.proofs.Common.{[], map}
use Rattle.digits.proofs.Parts.{part_length}
use Rattle.steps.specs.Steps.{step, stated}
use Rattle.window.specs.Table.{inside_of}
use Rattle.window.proofs.Loads.{painted_nothing}
use Rattle.srec.specs.Record.{data_of}
use Rattle.srecload.specs.Placing.{s_does}
use Rattle.srecload.specs.Helpers.{meant_in}
use Rattle.srecload.proofs.Taking.{record_goes, record_stops}
use Rattle.srecload.proofs.take_record.Goals as goal

pub returns-in-On : goal.returns-in-On
returns-in-On c =
    let a = c.args in
    let m = meant_in a.given a.pool.now in
    let met = c.in-On.ensures (data_of a.given a.pool.now) (part_length a.pool.now a.given.at a.given.len c.requires.0.0) in (
      stated (map (step a.number) (s_does m)),
      rw c.in-On.is (record_goes (inside_of 1 a.rows.now) a.number a.seen m c.in-On.field-0 met),
      (c.write_record.ensures a.number).painted,
    )

pub returns-in_default : goal.returns-in_default
returns-in_default c =
    let a = c.args in
    let m = meant_in a.given a.pool.now in
    let met = c.in_default.ensures (data_of a.given a.pool.now) (part_length a.pool.now a.given.at a.given.len c.requires.0.0) in
    ([], rw c.in_default.is (record_stops (inside_of 1 a.rows.now) a.number a.seen m c.in_default.field-0 met), painted_nothing _ a.page.now a.marks.now)
