-- `listing::list_last` meets its contract: no room, or the line.
-- Assumes nothing.
use mathlib.Core.Path.{sym, ◌∙◌}
use native.Mathlib.Omega.{arith}
use lib.ListN.{length}
use borrow.Author.Tests.{leb-true}
use Rattle.listing.specs.Listing.{count_line}
use Rattle.listing.specs.Listed.{line_room}
use Rattle.listing.proofs.Lines.{count_fits}
use Rattle.listing.proofs.Whole.{writes_none, writes_put}
use borrow.Author.Rules.{rules}
use Rattle.listing.proofs.list_last.Statement.{statement}
use Rattle.listing.proofs.list_last.Tie as tie

returns : tie.Need-returns-then-not-has_room
returns c =
    let a = c.args in
    writes_none (line_room 0 (length a.out.now)) (count_line a.count) a.out.now (sym c.has_room.ensures ∙ c.if-not-has_room.true)

put-last-requires : tie.Need-put_last-requires
put-last-requires c κs =
    let a = c.args in
    omega (arith, count_fits a.count c.ranges.count.fits, leb-true 32 (length a.out.now) (sym c.has_room.ensures ∙ c.if-not-has_room.false))

returns-2 : tie.Need-returns
returns-2 c =
    let a = c.args in
    let p = c.put_last in
    writes_put (line_room 0 (length a.out.now)) (count_line a.count) a.out.now p.result p.new.out (sym c.has_room.ensures ∙ c.if-not-has_room.false) p.ensures

pub list_last_spec : {M : Type 1} → statement M
list_last_spec = tie.close (tie.spec (λ c κs. search rules) returns put-last-requires (λ c. search rules) returns-2)
