-- `listing::put_numbered` meets its contract: each part behind the one before.
-- Assumes nothing.
use native.Mathlib.Omega.{arith}
use Rattle.listing.specs.Helpers.{numbered}
use Rattle.listing.proofs.Putting.{put_then}
use borrow.Author.Rules.{rules}
use Rattle.listing.proofs.put_numbered.Statement.{statement}
use Rattle.listing.proofs.put_numbered.Tie as tie

returns : tie.Need-returns
unfolding numbered
returns c =
    let a = c.args in
    let o = a.out.now in
    put_then o a.at (omega (arith, c.requires))
    (put_then o a.at (omega (arith, c.requires)) (put_then o a.at (omega (arith, c.requires)) c.put_char-digit.ensures c.put_char-space.ensures) c.put_char-number.ensures)
    c.put_word.ensures

pub put_numbered_spec : {M : Type 1} → statement M
put_numbered_spec =
    tie.close
    (tie.spec
    (λ c κs. search rules)
    (λ c κs. search rules)
    (λ c κs. search rules)
    (λ c κs. search rules)
    (λ c. search rules)
    returns)
