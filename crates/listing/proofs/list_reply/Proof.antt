-- `listing::list_reply` meets its contract: no room, or the line.
-- Assumes nothing.
use mathlib.Core.Path.{sym, ◌∙◌}
use lib.ListN.{length}
use Rattle.listing.specs.Listing.{shown}
use Rattle.listing.specs.Listed.{reply_room}
use Rattle.listing.proofs.Lines.{reply_fits}
use Rattle.listing.proofs.Whole.{writes_none, writes_put}
use borrow.Author.Rules.{rules}
use Rattle.listing.proofs.list_reply.Statement.{statement}
use Rattle.listing.proofs.list_reply.Tie as tie

returns : tie.Need-returns-then-not-reply_room
returns c =
    let a = c.args in
    writes_none (reply_room a.reply (length a.pool.now) (length a.out.now)) (shown a.reply a.pool.now) a.out.now (sym c.reply_room.ensures ∙ c.if-not-reply_room.true)

put-reply-requires : tie.Need-put_reply-requires
put-reply-requires c κs =
    let a = c.args in
    reply_fits a.pool.now a.out.now a.reply (sym c.reply_room.ensures ∙ c.if-not-reply_room.false)

returns-2 : tie.Need-returns
returns-2 c =
    let a = c.args in
    let p = c.put_reply in
    writes_put (reply_room a.reply (length a.pool.now) (length a.out.now)) (shown a.reply a.pool.now) a.out.now p.result p.new.out (sym c.reply_room.ensures ∙ c.if-not-reply_room.false) p.ensures

pub list_reply_spec : {M : Type 1} → statement M
list_reply_spec =
    tie.close (tie.spec (λ c κs. search rules) returns put-reply-requires (λ c. search rules) returns-2)
