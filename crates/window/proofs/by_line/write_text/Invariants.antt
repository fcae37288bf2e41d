-- What is left, painted on page and marks as they are, is all of it painted on them as they were. The measure is what is left of the text.
-- Assumes nothing.
use Rattle.window.specs.Table.{site_of}
use Rattle.window.proofs.Rounds.{Writing}
use Rattle.window.proofs.by_line.write_text.Given as goal

abbrev pub invariant-loop-next : goal.invariant-loop-next
invariant-loop-next g l =
    let t = g.W.LineByLine in Writing t.source t.stands_in t.has_met t.ahead t.left (site_of l.owner l.rows) l.text l.initial.page l.initial.marks l.page l.marks l.pool l.w

abbrev pub decreases-loop-next : goal.decreases-loop-next
decreases-loop-next g l = g.W.LineByLine.left l.w l.text
