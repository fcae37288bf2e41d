-- Record by record. A data record goes by the survey of its bytes.
-- Assumes nothing.
use Rattle.std.proofs.Common.{refl, subst, ⊎_elim, arith, Some}
use Rattle.window.specs.Table.{inside_of}
use Rattle.steps.specs.Steps.{cs_with_ip, linear_address}
use Rattle.steps.specs.declared.Start.TheVariants.{Segment, Linear}
use Rattle.intel.specs.Placing.{does}
use Rattle.intel.specs.Records.{Short}
use Rattle.loader.specs.Helpers.{stated_by}
use Rattle.loader.proofs.Meeting.{met_inside, met_outside, met_end, met_quiet, met_start, behind_data, behind_cs_ip, behind_eip}
use Rattle.loader.proofs.judge_record.Goals as goal

pub byte_address-address-requires : goal.byte_address-address-requires
byte_address-address-requires c =
    let short = subst Short c.in-Data.is c.requires.0 in omega (arith, short, c.in-Some.ensures.among c.in-Some.i refl)

pub returns-in-None : goal.returns-in-None
returns-in-None c = λ pool lies.
    let a = c.args in
    let d = c.in-Data in
    met_inside (inside_of a.owner a.rows.now) a.number a.base a.tally a.given pool lies d.offset d.at d.len d.is c.in-None.ensures a.base (behind_data a.base a.given d.offset d.at d.len d.is)

pub returns-in-Some : goal.returns-in-Some
returns-in-Some c = λ pool lies.
    let a = c.args in
    let d = c.in-Data in
    rw (c.at.ensures.answer, c.byte_address-address.ensures) (met_outside (inside_of a.owner a.rows.now) a.number a.base a.tally a.given pool lies d.offset d.at d.len c.in-Some.i d.is c.in-Some.ensures)

pub returns-in-EndOfFile : goal.returns-in-EndOfFile
returns-in-EndOfFile c = λ pool lies. let a = c.args in met_end (inside_of a.owner a.rows.now) a.number a.base a.tally a.given pool lies c.in-EndOfFile.is

pub returns-in-ExtendedSegmentAddress : goal.returns-in-ExtendedSegmentAddress
unfolding does stated_by
returns-in-ExtendedSegmentAddress c = λ pool lies.
    let a = c.args in
    let b = c.base_behind in
    ⊎_elim
    (λ e. met_quiet (inside_of a.owner a.rows.now) a.number a.base a.tally a.given pool lies (rw e.1) (rw e.1) b.result b.ensures)
    (λ e. met_quiet (inside_of a.owner a.rows.now) a.number a.base a.tally a.given pool lies (rw e.1) (rw e.1) b.result b.ensures)
    c.in-ExtendedSegmentAddress.is

pub returns-in-StartSegmentAddress : goal.returns-in-StartSegmentAddress
unfolding does stated_by
returns-in-StartSegmentAddress c = λ pool lies.
    let a = c.args in
    let s = c.in-StartSegmentAddress in
    met_start (inside_of a.owner a.rows.now) a.number a.base a.tally a.given pool lies (cs_with_ip s.cs s.ip) (Some (Segment s.cs s.ip)) refl (rw s.is) (rw s.is)
    a.base (behind_cs_ip a.base a.given s.cs s.ip s.is) _ c.judge_start.ensures

pub returns-in-StartLinearAddress : goal.returns-in-StartLinearAddress
unfolding does stated_by
returns-in-StartLinearAddress c = λ pool lies.
    let a = c.args in
    let s = c.in-StartLinearAddress in
    met_start (inside_of a.owner a.rows.now) a.number a.base a.tally a.given pool lies (linear_address s.address) (Some (Linear s.address)) refl (rw s.is) (rw s.is)
    a.base (behind_eip a.base a.given s.address s.is) _ c.judge_start-in-StartLinearAddress.ensures
