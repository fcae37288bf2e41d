-- `chunks::gather` meets its contract where a line was copied: it ends, its last CR waits, or it does not end.
-- Assumes nothing.
use Rattle.std.proofs.Common.{arith, sym, ◌∙◌}
use Rattle.reader.proofs.Searching.{cut_off}
use Rattle.chunks.proofs.Runs.{gathered_line, gathered_plain, gathered_CR}
use Rattle.chunks.proofs.gather.Goals as goal

pub returns-then-n-len-clause-up_to_lf : goal.returns-then-n-len-clause-up_to_lf
returns-then-n-len-clause-up_to_lf c =
    let a = c.args in
    let f = c.first_line-line in
    rw c.if-cr.false
    (gathered_line a.chunk.now a.position a.carry.now a.used a.skipped f.result.now f.new.behind c.copy.new.carry c.requires.0 c.requires.1 c.requires.2 (cut_off f.ensures) c.if-len-used.false c.copy.ensures c.if-n-len.true).0

pub returns-then-ends_in_cr-clause-up_to_lf : goal.returns-then-ends_in_cr-clause-up_to_lf
returns-then-ends_in_cr-clause-up_to_lf c =
    let a = c.args in
    let f = c.first_line-line in
    rw c.if-cr.false
    (gathered_CR a.chunk.now a.position a.carry.now a.used a.skipped f.result.now f.new.behind c.copy.new.carry c.requires.0 c.requires.1 c.requires.2 (cut_off f.ensures) c.if-len-used.false c.copy.ensures (omega (arith, c.if-n-len.false)) (sym c.ends_in_cr.ensures ∙ c.if-ends_in_cr.true)).0

pub returns-clause-up_to_lf : goal.returns-clause-up_to_lf
returns-clause-up_to_lf c =
    let a = c.args in
    let f = c.first_line-line in
    rw c.if-cr.false
    (gathered_plain a.chunk.now a.position a.carry.now a.used a.skipped f.result.now f.new.behind c.copy.new.carry c.requires.0 c.requires.1 c.requires.2 (cut_off f.ensures) c.if-len-used.false c.copy.ensures (omega (arith, c.if-n-len.false)) (sym c.ends_in_cr.ensures ∙ c.if-ends_in_cr.false)).0
