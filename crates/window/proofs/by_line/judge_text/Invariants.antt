-- The decision on what is left is the whole decision. The measure is what is left of the text.
-- Assumes nothing.
use Rattle.window.specs.Table.{inside_of}
use Rattle.window.proofs.Rounds.{Judging}
use Rattle.window.proofs.by_line.judge_text.Given as goal

abbrev pub invariant-loop-next : goal.invariant-loop-next
invariant-loop-next g l =
    let t = g.W.LineByLine in Judging t.source t.stands_in t.has_met t.ahead t.left (inside_of l.owner l.rows) l.text l.pool l.w l.tally

abbrev pub decreases-loop-next : goal.decreases-loop-next
decreases-loop-next g l = g.W.LineByLine.left l.w l.text
