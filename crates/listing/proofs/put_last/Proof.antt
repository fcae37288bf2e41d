-- `listing::put_last` meets its contract: the number, and the words behind it.
-- Assumes nothing.
use mathlib.Core.Path.{sym}
use mathlib.Core.List.{[], ◌∷◌, append_assoc}
use native.Mathlib.Omega.{arith}
use Rattle.digits.specs.Common.{text}
use Rattle.listing.specs.Listing.{decimal}
use Rattle.listing.proofs.Putting.{put_then, put_as}
use Rattle.listing.proofs.Whole.{count_line_length}
use borrow.Author.Rules.{rules}
use Rattle.listing.proofs.put_last.Statement.{statement}
use Rattle.listing.proofs.put_last.Tie as tie

put-decimal-requires : tie.Need-put_decimal-behind-requires
put-decimal-requires c κs = omega (arith, c.requires, count_line_length c.args.count)

put-text-requires : tie.Need-put_text-requires
put-text-requires c κs =
    let p = c.put_decimal-behind in
    omega (arith, c.requires, count_line_length c.args.count, p.ensures.place, p.auto)

returns : tie.Need-returns
returns c =
    let a = c.args in
    put_as a.out.now a.at (sym (append_assoc (decimal a.count) (text " answers") (10 ∷ [])))
    (put_then a.out.now a.at (omega (arith, c.requires, count_line_length a.count)) c.put_decimal-behind.ensures c.put_text.ensures)

pub put_last_spec : {M : Type 1} → statement M
put_last_spec =
    tie.close
    (tie.spec put-decimal-requires put-text-requires (λ c. search rules) returns)
