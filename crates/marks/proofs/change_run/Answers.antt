-- `marks::change_run` meets its contract: each turn changes the part of the run that lies in one byte.
-- Assumes nothing.
use Rattle.std.proofs.Common.{◌≡◌, ℕ, ◌+◌, ◌*◌, ◌∙◌, sym, ap, arith, slice_index_or}
use Rattle.marks.specs.Marks.{with_bits, changed_run, ones_at}
use Rattle.marks.proofs.Runs.{run_on, run_outside}
use Rattle.marks.proofs.change_run.Goals as goal

pub loop-at-init : goal.loop-at-init
loop-at-init c =
    let a = c.args in
    record { in_byte = omega arith; same = ap (λ (place : ℕ). changed_run a.set a.marks.now place a.len) (omega arith) }

pub returns-then-left-eq0 : goal.returns-then-left-eq0
unfolding changed_run
returns-then-left-eq0 c =
    let l = c.loop-at in
    record { left = sym (ap (changed_run c.args.set l.marks (8 * l.at + l.first)) c.if-left-eq0.true) ∙ l.invariant.same }

pub loop-at-preserved : goal.loop-at-preserved
loop-at-preserved c =
    let l = c.loop-at in
    let byte = slice_index_or l.marks l.at 0 in
    let e : c.changed.result ≡ with_bits c.args.set byte (ones_at l.first c.min-count.result) =
    c.changed.ensures ∙ ap (with_bits c.args.set byte) c.ones.ensures in
    record {
      in_byte = omega arith;
      same =
          run_on c.args.set l.marks l.at l.first l.left c.min-count.result c.changed.result (omega arith) l.invariant.in_byte (omega arith)
          (omega (arith, c.min-count.ensures)) e ∙ l.invariant.same;
    }

pub returns : goal.returns
returns c =
    let l = c.loop-at in
    record { left = sym (run_outside c.args.set l.marks (8 * l.at + l.first) l.left (omega arith)) ∙ l.invariant.same }
