-- `reader::line_len` meets its contract: each of its answers is a cut, by what is known of the LF.
-- Assumes nothing.
use Rattle.std.proofs.Common.{arith}
use Rattle.reader.proofs.Feeds.{all_of_it, no_byte_before, with_LF_only, with_CR}
use Rattle.reader.proofs.line_len.Goals as goal
use Rattle.reader.proofs.line_len.Goals.{else-feed-gt0-via-then-feed-gt0+then-feed-text+else-text-feed-eq-CR, else-feed-gt0-via-then-feed-gt0+else-feed-text, else-feed-gt0-via-else-feed-gt0}

pub returns-then-text-feed-eq-CR : goal.returns-then-text-feed-eq-CR
returns-then-text-feed-eq-CR c =
    with_CR c.args.text.now c.args.feed c.requires (λ e. omega arith) (λ e. omega arith) c.if-text-feed-eq-CR.true

pub returns : goal.returns
returns c =
    let text = c.args.text.now in
    let feed = c.args.feed in
    elim c.else-feed-gt0.branch [
      | else-feed-gt0-via-then-feed-gt0+then-feed-text+else-text-feed-eq-CR w ↦
          with_LF_only text feed c.requires (λ e. omega arith) w.if-text-feed-eq-CR.false
      | else-feed-gt0-via-then-feed-gt0+else-feed-text w ↦
          all_of_it text feed c.requires (omega (arith, c.requires.inside))
      | else-feed-gt0-via-else-feed-gt0 w ↦ no_byte_before text feed c.requires (omega arith)
    ]
