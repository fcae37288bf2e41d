-- `writer::put_record` meets its contract: each arm hands on its type, address and payload.
-- Assumes nothing.
use Rattle.std.proofs.Common.{[], length, ap, arith}
use Rattle.digits.proofs.Parts.{part_is, part_length}
use Rattle.writer.proofs.Records.{fine_data, fitting}
use Rattle.writer.proofs.put_record.Goals as goal

pub put_line-requires : goal.put_line-requires
put_line-requires c =
    let a = c.args in
    let d = c.in-Data in
    let i = fine_data d.offset d.from d.len (length a.pool.now) (rw d.is at c.requires.fine) in
    let n = part_length a.pool.now d.from d.len i.0 in
    let m = ap length (part_is a.pool.now d.from d.len) in
    fitting a.«record» a.pool.now a.out.now a.at _ c.requires (rw d.is m) (omega arith)

pub put_line-requires-in-EndOfFile : goal.put_line-requires-in-EndOfFile
put_line-requires-in-EndOfFile c =
    let a = c.args in
    fitting a.«record» a.pool.now a.out.now a.at [] c.requires (rw c.in-EndOfFile.is) (omega arith)

pub put_line-requires-in-ExtendedSegmentAddress : goal.put_line-requires-in-ExtendedSegmentAddress
put_line-requires-in-ExtendedSegmentAddress c =
    let a = c.args in
    let n = ap length c.to_be_bytes.ensures in
    fitting a.«record» a.pool.now a.out.now a.at _ c.requires (rw c.in-ExtendedSegmentAddress.is n) (omega arith)

pub put_line-requires-in-StartSegmentAddress : goal.put_line-requires-in-StartSegmentAddress
put_line-requires-in-StartSegmentAddress c =
    let a = c.args in
    fitting a.«record» a.pool.now a.out.now a.at _ c.requires (rw c.in-StartSegmentAddress.is) (omega arith)

pub put_line-requires-in-ExtendedLinearAddress : goal.put_line-requires-in-ExtendedLinearAddress
put_line-requires-in-ExtendedLinearAddress c =
    let a = c.args in
    let n = ap length c.to_be_bytes-in-ExtendedLinearAddress.ensures in
    fitting a.«record» a.pool.now a.out.now a.at _ c.requires (rw c.in-ExtendedLinearAddress.is n) (omega arith)

pub put_line-requires-in-StartLinearAddress : goal.put_line-requires-in-StartLinearAddress
put_line-requires-in-StartLinearAddress c =
    let a = c.args in
    let n = ap length c.to_be_bytes-in-StartLinearAddress.ensures in
    fitting a.«record» a.pool.now a.out.now a.at _ c.requires (rw c.in-StartLinearAddress.is n) (omega arith)
