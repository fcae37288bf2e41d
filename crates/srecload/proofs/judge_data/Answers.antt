-- The survey of its bytes says whether it passes.
-- Assumes nothing.
use Rattle.std.proofs.Common.{refl, arith}
use Rattle.window.specs.Table.{inside_of}
use Rattle.srecload.proofs.Meeting.{met_inside, met_outside}
use Rattle.srecload.proofs.judge_data.Goals as goal

pub byte_address-address-requires : goal.byte_address-address-requires
byte_address-address-requires c = omega (arith, c.requires.0, c.in-Some.ensures.among c.in-Some.i refl)

pub returns-in-None : goal.returns-in-None
returns-in-None c = λ bytes l.
    let a = c.args in met_inside (inside_of a.owner a.rows.now) a.number a.seen a.given.address a.given.len bytes l c.in-None.ensures

pub returns-in-Some : goal.returns-in-Some
returns-in-Some c = λ bytes l rest.
    let a = c.args in
    rw (c.at.ensures.answer, c.byte_address-address.ensures) (met_outside (inside_of a.owner a.rows.now) a.number a.seen a.given.address a.given.len bytes l c.in-Some.i c.in-Some.ensures rest)
