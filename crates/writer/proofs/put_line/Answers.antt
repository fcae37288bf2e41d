-- `writer::put_line` meets its contract: head, payload and checksum, one after the other.
-- Assumes nothing.
use Rattle.std.proofs.Common.{refl, arith}
use Rattle.writer.proofs.Lines.{line_put}
use Rattle.writer.proofs.put_line.Goals as goal

pub returns : goal.returns
returns c =
    let a = c.args in
    let h = c.put_head-first in
    let p = c.spell-sum in
    line_put a.kind a.address a.payload.now a.out.now a.at h.result p.result _ c.spell.result
    c.requires (omega arith) h.ensures h.auto.out p.ensures refl (omega arith) c.spell.ensures refl
