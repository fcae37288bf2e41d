-- A count only where both places are marked.
use Rattle.std.proofs.Common.{arith}
use Rattle.light.proofs.Telling.{marked_true, marked_false, no_high, no_low, both_there}
use Rattle.light.proofs.count_in.Goals as goal
use Rattle.light.proofs.count_in.Goals.{else-is_marked-via-then-is_marked+else-is_marked-2, else-is_marked-via-else-is_marked}

pub returns-then-is_marked-2 : goal.returns-then-is_marked-2
returns-then-is_marked-2 c =
    let a = c.args in
    both_there a.page.now a.marks.now a.high a.low _ (marked_true a.marks.now a.high c.is_marked.ensures c.if-is_marked.true (omega arith))
    (marked_true a.marks.now a.low c.is_marked-then-is_marked.ensures c.if-is_marked-2.true (omega arith)) (omega arith)

pub returns-else-is_marked : goal.returns-else-is_marked
returns-else-is_marked c =
    let a = c.args in
    elim c.else-is_marked.branch [
      | else-is_marked-via-then-is_marked+else-is_marked-2 w ↦
          no_low a.page.now a.marks.now a.high a.low (marked_true a.marks.now a.high c.is_marked.ensures w.if-is_marked.true (omega arith))
          (marked_false a.marks.now a.low w.is_marked-then-is_marked.ensures w.if-is_marked-2.false (omega arith))
      | else-is_marked-via-else-is_marked w ↦ no_high a.page.now a.marks.now a.high a.low (marked_false a.marks.now a.high c.is_marked.ensures w.if-is_marked.false (omega arith))
    ]
