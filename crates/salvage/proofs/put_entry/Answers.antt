-- Its four numbers, one after the other.
use Rattle.std.proofs.Common.{ap, ◌∙◌}
use Rattle.digits.specs.Common.{pasted}
use Rattle.salvage.specs.Told.{low_first}
use Rattle.salvage.proofs.Putting.{low_two, low_four, low_eight, entry_put}
use Rattle.salvage.proofs.put_entry.Goals as goal

pub returns : goal.returns
returns c =
    let p = c.put_bytes in
    let q = c.put_bytes-2 in
    let r = c.put_bytes-3 in
    let t = c.put_bytes-4 in
    let h = c.from.ensures in
    entry_put c.args.e c.args.list.now c.args.place c.requires p.new.list q.new.list r.new.list t.new.list
    (p.ensures ∙ ap (pasted _ _) (c.to_le_bytes.ensures ∙ low_four _ ∙ ap (low_first 4) h))
    (q.ensures ∙ ap (pasted _ _) (c.to_le_bytes-2.ensures ∙ low_two _))
    (r.ensures ∙ ap (pasted _ _) (c.to_le_bytes-3.ensures ∙ low_two _))
    (t.ensures ∙ ap (pasted _ _) (c.to_le_bytes-4.ensures ∙ low_eight _))
