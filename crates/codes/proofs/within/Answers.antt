-- `within`: its parts' numbers give the dump back.
-- Assumes nothing.
use Rattle.codes.proofs.Listeners.{within_returns, stood}
use Rattle.codes.proofs.within.Goals as goal

pub returns : goal.returns
returns c =
    let begin = c.start_number.ensures in
    let base = c.base_number.ensures in
    let start = c.start_flag.ensures.is in
    let linear = c.base_flag.ensures.is in
    let cr = c.flag-2.ensures.is in
    let kind = c.kind_flag.ensures.is in
    let tail = c.flag.ensures.is in
    stood (rw (tail, kind, cr, linear, start, base, begin.is)) (within_returns _ (rw begin.is at begin))
