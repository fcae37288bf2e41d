-- `digits::put` meets its contract: two stores, one after the other.
-- Assumes nothing.
use Rattle.digits.proofs.Spelling.{put_two}
use Rattle.digits.proofs.put.Goals as goal

pub returns : goal.returns
returns c =
    let a = c.args in
    record {
      left = put_two a.out.now a.at a.byte _ _ c.ranges.byte.fits c.requires c.capital_digit.ensures.answer c.capital_digit-2.ensures.answer;
    }
