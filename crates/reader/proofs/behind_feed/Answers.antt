-- `reader::behind_feed` meets its contract: what stands behind the first LF, or nothing behind a text without one.
-- Assumes nothing.
use Rattle.std.proofs.Common.{arith}
use Rattle.reader.proofs.Feeds.{behind_all, behind_LF}
use Rattle.reader.proofs.behind_feed.Goals as goal

pub returns-then-feed-text : goal.returns-then-feed-text
returns-then-feed-text c = behind_LF c.args.text.now c.args.feed c.requires (λ e. omega arith)

pub returns-else-feed-text : goal.returns-else-feed-text
returns-else-feed-text c = behind_all c.args.text.now c.args.feed c.requires (omega (arith, c.requires.inside))
