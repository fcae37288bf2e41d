-- `listing::put_long` meets its contract: two bytes more behind the first two.
-- Assumes nothing.
use native.Mathlib.Omega.{arith}
use Rattle.record.specs.Written.{two_bytes}
use Rattle.listing.proofs.Putting.{put_then, put_as}
use Rattle.listing.proofs.Entry.{numbered_more, numbered_length}
use borrow.Author.Rules.{rules}
use Rattle.listing.proofs.put_long.Statement.{statement}
use Rattle.listing.proofs.put_long.Tie as tie

put-word-requires : tie.Need-put_word-requires
put-word-requires c κs = let a = c.args in omega (arith, c.requires, c.put_numbered-rest.ensures.place, c.put_numbered-rest.auto, numbered_length a.kind (two_bytes a.high))

returns : tie.Need-returns
returns c =
    let a = c.args in
    put_as a.out.now a.at (numbered_more a.kind (two_bytes a.high) (two_bytes a.low))
    (put_then a.out.now a.at (omega (arith, c.requires, numbered_length a.kind (two_bytes a.high))) c.put_numbered-rest.ensures c.put_word.ensures)

pub put_long_spec : {M : Type 1} → statement M
put_long_spec = tie.close (tie.spec (λ c κs. search rules) put-word-requires (λ c. search rules) returns)
