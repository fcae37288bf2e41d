-- `query::ask` meets its contract: from what is known the answer stays the whole answer.
-- Assumes nothing.
use Rattle.std.proofs.Common.{arith, rules}
use Rattle.query.proofs.Reading.{reading_start}
use Rattle.query.proofs.ask.Goals as goal

pub loop-next-init : goal.loop-next-init
loop-next-init c = reading_start c.args.address c.args.text.now _ (omega arith) (search rules) c.begin-w.result c.begin-w.ensures
