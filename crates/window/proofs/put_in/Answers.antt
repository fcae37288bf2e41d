-- `window::put_in` meets its contract: the part of the run that lies in the window is stored from the window's place on, and its places are marked.
-- Assumes nothing.
use Rattle.std.proofs.Common.{refl}
use Rattle.digits.proofs.Parts.{part_is}
use Rattle.window.proofs.Storing.{put_part}
use Rattle.window.proofs.put_in.Goals as goal

pub returns : goal.returns
returns c =
    let s = c.args in
    let start = c.min-start in
    let size = c.min-size in
    let p = c.part_inside-part in
    put_part s.row.now s.address s.bytes.now s.page.now s.marks.now start.result size.result start.ensures size.ensures p.result _ refl _ _ p.ensures
    (rw (part_is s.bytes.now p.result.skip p.result.len) at c.copy_to.ensures) c.mark_run.ensures.left
