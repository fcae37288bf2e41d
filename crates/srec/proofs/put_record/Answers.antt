-- `srec::put_record` meets its contract: the record's data is a part of the pool.
-- Assumes nothing.
use Rattle.std.proofs.Common.{arith}
use Rattle.digits.proofs.Parts.{part_is, part_length}
use Rattle.srec.specs.Record.{digit_of}
use Rattle.srec.proofs.Measuring.{digit_named, digit_small, line_length, fine}
use Rattle.srec.proofs.put_record.Goals as goal

pub overflow_add-payload : goal.overflow_add-payload
overflow_add-payload c = let r = c.args.«record» in let f = fine (digit_of r.kind) r.address r.at r.len _ c.requires.fine in omega arith

pub slice_bounds-payload-end : goal.slice_bounds-payload-end
slice_bounds-payload-end c = let r = c.args.«record» in let f = fine (digit_of r.kind) r.address r.at r.len _ c.requires.fine in omega arith

pub put_line-requires : goal.put_line-requires
put_line-requires c =
    let r = c.args.«record» in
    let f = fine (digit_of r.kind) r.address r.at r.len _ c.requires.fine in
    let l = line_length r c.args.pool.now f.inside in
    let n = part_length c.args.pool.now r.at r.len f.inside in
    rw (part_is c.args.pool.now r.at r.len)
    (record { named = digit_named r.kind; digit = digit_small r.kind; most = omega (arith, f.most); room = omega (arith, c.requires.room) })
