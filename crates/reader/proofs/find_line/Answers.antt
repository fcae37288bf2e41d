-- `reader::find_line` meets its contract: an empty line is passed, and any other is the one.
-- Assumes nothing.
use Rattle.std.proofs.Common.{length, sym, ap, ◌∙◌, arith, drop_of_length-le, eqb-true}
use borrow.Author.Tests.{eqb-false}
use Rattle.reader.specs.Lines.{next_line}
use Rattle.reader.proofs.Searching.{cut_off, turn_inside, turn_moves, turn_on, turn_found}
use Rattle.reader.proofs.find_line.Goals as goal

pub returns-then-not-is_empty : goal.returns-then-not-is_empty
returns-then-not-is_empty c =
    let s = c.loop-from in
    let f = c.first_line-line in
    let some = eqb-false (length f.result.now) 0 (sym c.is_empty.ensures ∙ c.if-not-is_empty.true) in
    turn_found c.args.text.now c.args.position s.from s.empties f.result.now f.new.behind s.invariant.0 s.invariant.1 c.loop-from-test.true (cut_off f.ensures) (omega arith)

pub loop-from-smaller : goal.loop-from-smaller
loop-from-smaller c =
    let s = c.loop-from in
    let f = c.first_line-line in
    omega (
      arith,
      turn_inside c.args.text.now c.args.position s.from s.empties f.result.now f.new.behind s.invariant.0 s.invariant.1 c.loop-from-test.true (cut_off f.ensures),
      turn_moves c.args.text.now c.args.position s.from s.empties f.result.now f.new.behind s.invariant.0 s.invariant.1 c.loop-from-test.true (cut_off f.ensures),
    )

pub loop-from-preserved : goal.loop-from-preserved
loop-from-preserved c =
    let s = c.loop-from in
    let f = c.first_line-line in
    let none = eqb-true (length f.result.now) 0 (sym c.is_empty.ensures ∙ c.if-not-is_empty.false) in
    turn_on c.args.text.now c.args.position s.from s.empties f.result.now f.new.behind s.invariant.0 s.invariant.1 c.loop-from-test.true (cut_off f.ensures) none

pub returns : goal.returns
unfolding next_line
returns c =
    let s = c.loop-from in
    (s.empties, s.invariant.0 ∙ ap (next_line s.empties) (drop_of_length-le c.args.text.now c.loop-from-test.false))
