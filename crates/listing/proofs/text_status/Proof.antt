-- `listing::text_status` meets its contract: 2 where the text is too long, else the status of its row.
-- Assumes nothing.
use mathlib.Core.Path.{sym, ◌∙◌, ap}
use native.Mathlib.Omega.{arith}
use Rattle.listing.specs.Listing.{answers}
use Rattle.listing.specs.Status.{status_of}
use Rattle.listing.proofs.Judging.{two_means, status_by_verdict}
use borrow.Author.Rules.{rules}
use Rattle.listing.proofs.text_status.Statement.{statement}
use Rattle.listing.proofs.text_status.Tie as tie

returns : tie.Need-returns-then-text-gt-LONGEST_TEXT
returns c = record { answer = sym ((two_means c.args.text.now).0.1 (omega arith)) }

returns-2 : tie.Need-returns
returns-2 c =
    let input = c.args.text.now in
    record {
      answer = c.exit_status.ensures.answer ∙ ap status_of c.text_verdict.ensures ∙ status_by_verdict (answers input) ∙ sym ((two_means input).1 (omega arith));
    }

pub text_status_spec : {M : Type 1} → statement M
text_status_spec = tie.close (tie.spec returns (λ c κs. search rules) (λ c κs. search rules) returns-2)
