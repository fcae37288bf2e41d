-- `writer::measure` meets its contract: a law of `proofs/Measuring.antt` for each length.
-- Assumes nothing.
use Rattle.std.proofs.Common.{arith}
use Rattle.writer.proofs.Measuring.{fits_line, plain_end, plain_segment, plain_start, plain_linear, plain_long}
use Rattle.writer.proofs.measure.Goals as goal

pub returns-else-len-gt-MOST_DATA : goal.returns-else-len-gt-MOST_DATA
returns-else-len-gt-MOST_DATA c =
    rw c.in-Data.is (fits_line c.in-Data.offset c.in-Data.at c.in-Data.len c.args.pool.now (omega arith) (omega arith))

pub returns-in-EndOfFile : goal.returns-in-EndOfFile
returns-in-EndOfFile c = rw c.in-EndOfFile.is (plain_end c.args.pool.now)

pub returns-in-ExtendedSegmentAddress : goal.returns-in-ExtendedSegmentAddress
returns-in-ExtendedSegmentAddress c = rw c.in-ExtendedSegmentAddress.is (plain_segment c.args.pool.now _)

pub returns-in-StartSegmentAddress : goal.returns-in-StartSegmentAddress
returns-in-StartSegmentAddress c = rw c.in-StartSegmentAddress.is (plain_start c.args.pool.now _ _)

pub returns-in-ExtendedLinearAddress : goal.returns-in-ExtendedLinearAddress
returns-in-ExtendedLinearAddress c = rw c.in-ExtendedLinearAddress.is (plain_linear c.args.pool.now _)

pub returns-in-StartLinearAddress : goal.returns-in-StartLinearAddress
returns-in-StartLinearAddress c = rw c.in-StartLinearAddress.is (plain_long c.args.pool.now _)
