-- The next place without a mark, as far as a piece may reach.
use Rattle.page.proofs.Marks.{piece_ends}
use Rattle.page.proofs.piece_end.Goals as goal

pub returns : goal.returns
returns c =
    let a = c.args in
    piece_ends a.marks.now a.places a.first a.start _ _ c.requires.0 c.farthest-end.ensures c.next_unmarked.ensures
