-- The next line is cut off and written. At the end, and after a line that ends the text, nothing is stated.
-- Assumes nothing.
use Rattle.std.proofs.Common.{refl, sym, length-take-le, arith}
use Rattle.reader.proofs.Searching.{cut_off}
use Rattle.window.specs.Table.{site_of}
use Rattle.srecload.proofs.Writing.{wrote_on, wrote_out, nothing_left}
use Rattle.srecload.proofs.WalkLineByLine.write_next.Goals as goal

pub returns-then-from-text : goal.returns-then-from-text
returns-then-from-text c = (nothing_left c.args.text.now c.args.self c.if-from-text.true, refl, refl)

pub returns-then-write_line : goal.returns-then-write_line
returns-then-write_line c =
    let a = c.args in
    let f = c.first_line-line in
    let o = c.write_line in
    wrote_on (site_of a.owner a.rows.now) a.text.now a.self c.requires.0 (omega (arith, c.requires.0.inside, c.if-from-text.false)) f.result.now f.new.behind (cut_off f.ensures) a.page.now a.marks.now _ _
    o.result c.if-write_line.true o.ensures

pub returns : goal.returns
returns c =
    let a = c.args in
    let f = c.first_line-line in
    let o = c.write_line in
    wrote_out (site_of a.owner a.rows.now) a.text.now a.self c.requires.0 (omega (arith, c.requires.0.inside, c.if-from-text.false)) f.result.now f.new.behind (cut_off f.ensures) a.page.now a.marks.now _ _
    o.result c.if-write_line.false o.ensures

pub slice_bounds-write_line-end-2 : goal.slice_bounds-write_line-end-2
slice_bounds-write_line-end-2 c = sym (length-take-le 252 c.args.pool.now (omega (arith, c.requires.1)))

pub write_line-requires : goal.write_line-requires
write_line-requires c = (length-take-le 252 c.args.pool.now (omega (arith, c.requires.1)), c.requires.2)
