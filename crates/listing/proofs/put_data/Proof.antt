-- `listing::put_data` meets its contract, with a payload and without.
-- Assumes nothing.
use native.Mathlib.Omega.{arith}
use Rattle.digits.specs.Spelling.{spelt}
use Rattle.listing.proofs.Putting.{put_then, put_as}
use Rattle.listing.proofs.Entry.{data_length, data_none, data_some, payload_length}
use borrow.Author.Rules.{rules}
use Rattle.listing.proofs.put_data.Statement.{statement}
use Rattle.listing.proofs.put_data.Tie as tie

put-text-requires : tie.Need-put_text-address-requires
put-text-requires c κs = let a = c.args in omega (arith, c.requires, data_length a.offset a.payload.now)

put-word-requires : tie.Need-put_word-behind-requires
put-word-requires c κs = let a = c.args in omega (arith, c.requires, data_length a.offset a.payload.now, c.put_text-address.ensures.place)

returns : tie.Need-returns-then-payload-eq0
unfolding spelt
returns c =
    let a = c.args in
    put_as a.out.now a.at (data_none a.offset a.payload.now c.if-payload-eq0.true)
    (put_then a.out.now a.at (omega (arith, c.requires, data_length a.offset a.payload.now)) c.put_text-address.ensures c.put_word-behind.ensures)

put-char-requires : tie.Need-put_char-bytes-requires
unfolding spelt
put-char-requires c κs =
    let a = c.args in
    omega (arith, c.requires, c.if-payload-eq0.false, data_length a.offset a.payload.now, payload_length a.payload.now (omega (arith, c.if-payload-eq0.false)), c.put_text-address.ensures.place, c.put_word-behind.ensures.place, c.put_word-behind.auto)

put-bytes-requires : tie.Need-put_bytes-requires
unfolding spelt
put-bytes-requires c κs =
    let a = c.args in
    omega (arith, c.requires, c.if-payload-eq0.false, data_length a.offset a.payload.now, payload_length a.payload.now (omega (arith, c.if-payload-eq0.false)), c.put_text-address.ensures.place, c.put_word-behind.ensures.place, c.put_char-bytes.ensures.place, c.put_char-bytes.auto, c.put_word-behind.auto, c.put_text-address.auto)

returns-2 : tie.Need-returns
unfolding spelt
returns-2 c =
    let a = c.args in
    let o = a.out.now in
    let n = data_length a.offset a.payload.now in
    let m = payload_length a.payload.now (omega (arith, c.if-payload-eq0.false)) in
    put_as o a.at (data_some a.offset a.payload.now (omega (arith, c.if-payload-eq0.false)))
    (put_then o a.at (omega (arith, c.requires))
    (put_then o a.at (omega (arith, c.requires)) (put_then o a.at (omega (arith, c.requires)) c.put_text-address.ensures c.put_word-behind.ensures) c.put_char-bytes.ensures)
    c.put_bytes.ensures)

pub put_data_spec : {M : Type 1} → statement M
put_data_spec =
    tie.close
    (tie.spec
    put-text-requires
    put-word-requires
    (λ c. search rules)
    returns
    put-char-requires
    put-bytes-requires
    (λ c. search rules)
    returns-2)
