-- `listing::list` meets its contract: no room, an input that is too long, or the listing part by part.
-- Assumes nothing.
use Prim.Native.Nat.{◌+◌, ◌*◌, ◌≤◌}
use mathlib.Core.Path.{sym, ◌∙◌}
use mathlib.Core.List.{◌++◌}
use native.Mathlib.Omega.{arith}
use lib.ListN.{length, length-append}
use borrow.Author.Tests.{leb-true, leb-false}
use Rattle.digits.specs.Common.{text}
use Rattle.listing.specs.Listing.{ended, heading, count_line, entries, answers}
use Rattle.listing.proofs.Putting.{put_then}
use Rattle.listing.proofs.Sizes.{answers_room}
use Rattle.listing.proofs.Whole.{listing_long, listing_short, count_length, lists_full, lists_wrote}
use borrow.Author.Rules.{rules}
use Rattle.listing.proofs.list.Statement.{statement}
use Rattle.listing.proofs.list.Tie as tie

returns : tie.Need-returns-then-not-text_room
returns c =
    let a = c.args in
    lists_full a.text.now a.out.now (leb-false _ _ (sym c.text_room.ensures ∙ c.if-not-text_room.true))

-- past the first test there is room
roomy : (c : tie.Else-not-text_room) → 3 * length c.args.text.now + 32 ≤ length c.args.out.now
roomy c = leb-true _ _ (sym c.text_room.ensures ∙ c.if-not-text_room.false)

put-text-requires : tie.Need-put_text-requires
put-text-requires c κs = omega (arith, roomy c.before.before.before.before)

returns-2 : tie.Need-returns-then-text-gt-LONGEST_TEXT
returns-2 c =
    let a = c.args in
    let p = c.put_text in
    lists_wrote a.text.now a.out.now p.result p.new.out (ended (text "input too long")) (roomy c.before.before.before.before.before.before.before) (listing_long a.text.now (omega (arith, c.if-text-gt-LONGEST_TEXT.true))) p.ensures

put-first-requires : tie.Need-put_first-first-requires
put-first-requires c κs = omega (arith, roomy c.before.before)

put-entries-requires : tie.Need-put_entries-entries-requires
put-entries-requires c κs =
    let p = c.put_first-first in
    record { small = omega (arith, c.if-text-gt-LONGEST_TEXT.false); room = omega (arith, roomy c.before.before.before.before.before.before, answers_room c.args.text.now, p.ensures.place, p.auto) }

put-last-requires : tie.Need-put_last-requires
put-last-requires c κs =
    let a = c.args in
    let p = c.put_first-first in
    let e = c.put_entries-entries in
    omega (arith, roomy c.before.before.before.before.before.before.before.before.before.before, answers_room a.text.now, p.ensures.place, p.auto, e.ensures.puts.place, e.auto, count_length a.text.now (omega (arith, c.if-text-gt-LONGEST_TEXT.false)) e.result.count e.ensures.counts)

returns-3 : tie.Need-returns
returns-3 c =
    let a = c.args in
    let e = c.put_entries-entries in
    let p = c.put_last in
    let o = a.out.now in
    let xs = entries (answers a.text.now) in
    let room = roomy c.before.before.before.before.before.before.before.before.before.before.before.before.before in
    let small : length a.text.now ≤ 65536 = omega (arith, c.if-text-gt-LONGEST_TEXT.false) in
    let n = answers_room a.text.now in
    let l = length-append heading xs in
    lists_wrote a.text.now o p.result p.new.out
    (heading ++ xs ++ count_line e.result.count) room
    (listing_short a.text.now small e.result.count e.ensures.counts)
    (put_then o 0 (omega arith) (put_then o 0 (omega arith) c.put_first-first.ensures e.ensures.puts) p.ensures)

pub list_spec : {M : Type 1} → statement M
list_spec =
    tie.close
    (tie.spec
    (λ c κs. search rules)
    returns
    put-text-requires
    (λ c. search rules)
    returns-2
    put-first-requires
    put-entries-requires
    put-last-requires
    (λ c. search rules)
    returns-3)
