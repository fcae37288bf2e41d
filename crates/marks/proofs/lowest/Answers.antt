-- `marks::lowest` meets its contract: the number of trailing zeros is the lowest set bit.
-- Assumes nothing.
use Rattle.marks.proofs.Searches.{below_lowest, lowest_set}
use Rattle.marks.proofs.lowest.Goals as goal

pub returns : goal.returns
returns c =
    let x = c.args.bits in
    let small = c.ranges.bits.fits in
    record {
      near = λ n h. (lowest_set 8 x n c.requires small h).1;
      clear = below_lowest 8 x;
      set = (lowest_set 8 x 8 c.requires small small).0;
    }
