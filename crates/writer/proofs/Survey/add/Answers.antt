-- `writer::Survey::add` meets its contract: field by field, what the helpers say.
-- Assumes nothing.
use Rattle.std.proofs.Common.{◌∙◌, arith}
use Rattle.writer.proofs.Surveying.{one_more}
use Rattle.writer.proofs.Survey.add.Goals as goal

pub returns : goal.returns
returns c =
    let s = c.args.self in
    record {
      ends = c.saturating_add.ensures ∙ rw (← c.is_end-ended.ensures) (one_more c.is_end-ended.result s.ends c.from.result (omega arith) c.from.ensures);
      ended = c.is_end-ended.ensures;
      total = rw (← c.measure.ensures) c.longer.ensures;
    }
