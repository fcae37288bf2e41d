-- The base behind a record: the latest of types 02 and 04 holds.
-- Assumes nothing.
use Rattle.loader.proofs.Meeting.{behind_segment, behind_linear, behind_other}
use Rattle.loader.proofs.base_behind.Goals as goal

pub returns-in-ExtendedSegmentAddress : goal.returns-in-ExtendedSegmentAddress
returns-in-ExtendedSegmentAddress c = behind_segment c.args.base c.args.given _ c.in-ExtendedSegmentAddress.is

pub returns-in-ExtendedLinearAddress : goal.returns-in-ExtendedLinearAddress
returns-in-ExtendedLinearAddress c = behind_linear c.args.base c.args.given _ c.in-ExtendedLinearAddress.is

pub returns-in_default : goal.returns-in_default
returns-in_default c = let d = c.in_default in behind_other c.args.base c.args.given d.not-ExtendedSegmentAddress d.not-ExtendedLinearAddress
