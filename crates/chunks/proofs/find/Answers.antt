-- `chunks::find` meets its contract: each turn passes a line.
-- Assumes nothing.
use Rattle.std.proofs.Common.{arith}
use Rattle.reader.proofs.Searching.{cut_off}
use Rattle.chunks.proofs.InPlace.{turn}
use Rattle.chunks.proofs.find.Goals as goal

pub overflow_sub-next : goal.overflow_sub-next
overflow_sub-next c =
    let a = c.args in
    let s = c.loop-from in
    let f = c.first_line-line in
    let t = turn a.chunk.now a.position a.empties s.from s.passed f.result.now f.new.behind s.invariant.same_search c.loop-from-test.true (cut_off f.ensures) in
    omega (arith, t.moves)

pub returns-then-chunk-next-ne-LF : goal.returns-then-chunk-next-ne-LF
returns-then-chunk-next-ne-LF c =
    let a = c.args in
    let s = c.loop-from in
    let f = c.first_line-line in
    let t = turn a.chunk.now a.position a.empties s.from s.passed f.result.now f.new.behind s.invariant.same_search c.loop-from-test.true (cut_off f.ensures) in
    t.opens c.if-chunk-next-ne-LF.true

pub returns-then-len-gt0 : goal.returns-then-len-gt0
returns-then-len-gt0 c =
    let a = c.args in
    let s = c.loop-from in
    let f = c.first_line-line in
    let t = turn a.chunk.now a.position a.empties s.from s.passed f.result.now f.new.behind s.invariant.same_search c.loop-from-test.true (cut_off f.ensures) in
    t.finds (omega (arith, c.if-chunk-next-ne-LF.false)) c.if-len-gt0.true

pub loop-from-smaller : goal.loop-from-smaller
loop-from-smaller c =
    let a = c.args in
    let s = c.loop-from in
    let f = c.first_line-line in
    let t = turn a.chunk.now a.position a.empties s.from s.passed f.result.now f.new.behind s.invariant.same_search c.loop-from-test.true (cut_off f.ensures) in
    omega (arith, t.inside, t.moves)

pub loop-from-preserved : goal.loop-from-preserved
loop-from-preserved c =
    let a = c.args in
    let s = c.loop-from in
    let f = c.first_line-line in
    let t = turn a.chunk.now a.position a.empties s.from s.passed f.result.now f.new.behind s.invariant.same_search c.loop-from-test.true (cut_off f.ensures) in
    record {
      same_search = t.goes_on (omega (arith, c.if-chunk-next-ne-LF.false)) (omega (arith, c.if-len-gt0.false));
      inside = t.inside;
    }
