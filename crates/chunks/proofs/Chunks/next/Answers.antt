-- `chunks::Chunks::next` meets its contract: the line that was found is read where it lies and settled, and any other reply is handed on.
-- Assumes nothing.
use Rattle.std.proofs.Common.{refl}
use Rattle.digits.proofs.Parts.{part_is}
use Rattle.chunks.proofs.Reading.{next_reads}
use Rattle.chunks.proofs.Chunks.next.Goals as goal

pub returns-in-InChunk : goal.returns-in-InChunk
returns-in-InChunk c =
    let a = c.args in
    let l = c.next_line-step in
    let q = c.read_record-answer in
    next_reads a.self a.chunk.now a.carry.now a.pool.now a.at l.result c.settle.result l.new.carry q.new.pool l.ensures
    (rw c.in-InChunk.is (q.result, rw (part_is a.chunk.now c.in-InChunk.from c.in-InChunk.len) at q.ensures, c.settle.ensures))

pub returns-in-InCarry : goal.returns-in-InCarry
returns-in-InCarry c =
    let a = c.args in
    let l = c.next_line-step in
    let q = c.read_kept-answer in
    next_reads a.self a.chunk.now a.carry.now a.pool.now a.at l.result c.settle-in-InCarry.result l.new.carry q.new.pool l.ensures
    (rw c.in-InCarry.is (q.result, q.ensures, c.settle-in-InCarry.ensures))

pub returns-in-UsedUp : goal.returns-in-UsedUp
returns-in-UsedUp c =
    let a = c.args in
    let l = c.next_line-step in
    next_reads a.self a.chunk.now a.carry.now a.pool.now a.at l.result c.plain.result l.new.carry a.pool.now l.ensures
    (rw c.in-UsedUp.is (c.plain.ensures, refl))

pub returns-in-Done : goal.returns-in-Done
returns-in-Done c =
    let a = c.args in
    let l = c.next_line-step in
    next_reads a.self a.chunk.now a.carry.now a.pool.now a.at l.result c.plain-in-Done.result l.new.carry a.pool.now l.ensures
    (rw c.in-Done.is (c.plain-in-Done.ensures, refl))

pub returns-in-CarryTooSmall : goal.returns-in-CarryTooSmall
returns-in-CarryTooSmall c =
    let a = c.args in
    let l = c.next_line-step in
    next_reads a.self a.chunk.now a.carry.now a.pool.now a.at l.result c.plain-in-CarryTooSmall.result l.new.carry a.pool.now l.ensures
    (rw c.in-CarryTooSmall.is (c.plain-in-CarryTooSmall.ensures, refl))
