-- `chunks::older` meets its contract: the chunk is used up, an empty line is passed, or the line is found in the carry.
-- Assumes nothing.
use Rattle.std.proofs.Common.{refl, arith}
use Rattle.chunks.proofs.Paths.{older_open, older_line, older_empty}
use Rattle.chunks.proofs.older.Goals as goal

pub returns-then-g-chunk : goal.returns-then-g-chunk
returns-then-g-chunk c =
    let a = c.args in
    let g = c.gather-g in
    let h = g.result in
    older_open a.s a.chunk.now a.position a.carry.now g.result.position h.used h.skipped h.cr c.used_up.result g.new.carry (rw c.left_out.ensures at g.ensures.up_to_lf)
    c.if-g-chunk.true (omega (arith, g.ensures.grown.within, g.auto.carry)) c.used_up.ensures

pub returns-then-g-eq0 : goal.returns-then-g-eq0
returns-then-g-eq0 c =
    let a = c.args in
    let g = c.gather-g in
    let h = g.result in
    older_empty a.s a.chunk.now a.position a.carry.now g.result.position h.used h.skipped h.cr g.new.carry (rw c.left_out.ensures at g.ensures.up_to_lf) c.if-g-chunk.false
    _ c.fresh.result c.fresh.new.carry c.if-g-eq0.true refl c.fresh.ensures

pub returns : goal.returns
returns c =
    let a = c.args in
    let g = c.gather-g in
    let h = g.result in
    older_line a.s a.chunk.now a.position a.carry.now g.result.position h.used h.skipped h.cr g.new.carry (rw c.left_out.ensures at g.ensures.up_to_lf) c.if-g-chunk.false
    c.found.result c.if-g-eq0.false g.ensures.grown.within (omega (arith, g.ensures.grown.within, g.auto.carry)) c.found.ensures
