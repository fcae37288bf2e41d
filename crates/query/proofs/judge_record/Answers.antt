-- `query::judge_record` meets its contract, record by record.
-- Assumes nothing.
use Rattle.std.proofs.Common.{refl}
use Rattle.std.specs.Prelude.{Some}
use Rattle.steps.specs.Steps.{cs_with_ip, linear_address}
use Rattle.steps.specs.declared.Start.TheVariants.{Segment, Linear}
use Rattle.query.specs.Along.{at_record}
use Rattle.query.proofs.Meeting.{met_data, met_end, met_segment, met_linear, met_start}
use Rattle.query.proofs.judge_record.Goals as goal

pub returns-in-Data : goal.returns-in-Data
returns-in-Data c =
    let a = c.args in
    met_data a.address a.pool.now a.w a.given c.in-Data.offset c.in-Data.at c.in-Data.len c.in-Data.is c.note.result c.note.ensures

pub returns-in-EndOfFile : goal.returns-in-EndOfFile
returns-in-EndOfFile c = let a = c.args in met_end a.address a.pool.now a.w a.given c.in-EndOfFile.is

pub returns-in-ExtendedSegmentAddress : goal.returns-in-ExtendedSegmentAddress
returns-in-ExtendedSegmentAddress c =
    let a = c.args in
    met_segment a.address a.pool.now a.w a.given c.in-ExtendedSegmentAddress.number c.in-ExtendedSegmentAddress.is c.from_segment.result c.from_segment.ensures

pub returns-in-StartSegmentAddress : goal.returns-in-StartSegmentAddress
unfolding at_record
returns-in-StartSegmentAddress c =
    let a = c.args in
    let s = c.in-StartSegmentAddress in
    met_start a.address a.pool.now a.w a.given (cs_with_ip s.cs s.ip) (Some (Segment s.cs s.ip)) refl (λ k n. rw s.is) c.judge_start.result c.judge_start.ensures

pub returns-in-ExtendedLinearAddress : goal.returns-in-ExtendedLinearAddress
returns-in-ExtendedLinearAddress c =
    let a = c.args in
    met_linear a.address a.pool.now a.w a.given c.in-ExtendedLinearAddress.number c.in-ExtendedLinearAddress.is c.from_linear.result c.from_linear.ensures

pub returns-in-StartLinearAddress : goal.returns-in-StartLinearAddress
unfolding at_record
returns-in-StartLinearAddress c =
    let a = c.args in
    let s = c.in-StartLinearAddress in
    let j = c.judge_start-in-StartLinearAddress in
    met_start a.address a.pool.now a.w a.given (linear_address s.number) (Some (Linear s.number)) refl (λ k n. rw s.is) j.result j.ensures
