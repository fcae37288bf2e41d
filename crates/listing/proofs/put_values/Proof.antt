-- `listing::put_values` meets its contract: a refusal has a place, a byte, two bytes, or nothing.
-- Assumes nothing.
use mathlib.Core.Path.{sym, ap}
use native.Mathlib.Omega.{arith}
use lib.ListN.{length}
use Rattle.digits.specs.Spelling.{spelt}
use Rattle.reader.specs.declared.Values.{Values}
use Rattle.listing.specs.Helpers.{values_put}
use Rattle.listing.proofs.Putting.{put_none, put_then, put_as}
use borrow.Author.Rules.{rules}
use Rattle.listing.proofs.put_values.Statement.{statement}
use Rattle.listing.proofs.put_values.Tie as tie

put-place-requires : tie.Need-put_place-requires
unfolding values_put spelt
put-place-requires c κs = omega (arith, c.requires, ap (λ (x : Values). length (values_put x)) c.in-Position.is)

put-value-requires : tie.Need-put_value-requires
unfolding values_put spelt
put-value-requires c κs = omega (arith, c.requires, ap (λ (x : Values). length (values_put x)) c.in-Byte.is)

put-value-requires-2 : tie.Need-put_value-next-requires
unfolding values_put spelt
put-value-requires-2 c κs = omega (arith, c.requires, ap (λ (x : Values). length (values_put x)) c.in-Bytes.is)

put-value-requires-3 : tie.Need-put_value-requires-in-Bytes
unfolding values_put spelt
put-value-requires-3 c κs =
    omega (arith, c.requires, ap (λ (x : Values). length (values_put x)) c.in-Bytes.is, c.put_value-next.ensures.place, c.put_value-next.auto)

returns : tie.Need-returns-in-Nothing
unfolding values_put
returns c =
    let a = c.args in
    put_as a.out.now a.at (ap values_put (sym c.in-Nothing.is)) (put_none a.out.now a.at)

returns-2 : tie.Need-returns-in-Position
unfolding values_put
returns-2 c =
    let a = c.args in
    put_as a.out.now a.at (ap values_put (sym c.in-Position.is)) c.put_place.ensures

returns-3 : tie.Need-returns-in-Byte
unfolding values_put
returns-3 c =
    let a = c.args in
    put_as a.out.now a.at (ap values_put (sym c.in-Byte.is)) c.put_value.ensures

returns-4 : tie.Need-returns-in-Bytes
unfolding values_put spelt
returns-4 c =
    let a = c.args in
    put_as a.out.now a.at (ap values_put (sym c.in-Bytes.is))
    (put_then a.out.now a.at (omega (arith, c.requires, ap (λ (x : Values). length (values_put x)) c.in-Bytes.is)) c.put_value-next.ensures c.put_value-in-Bytes.ensures)

pub put_values_spec : {M : Type 1} → statement M
put_values_spec =
    tie.close
    (tie.spec
    (λ c. search rules)
    (λ c. search rules)
    put-place-requires
    (λ c. search rules)
    put-value-requires
    (λ c. search rules)
    put-value-requires-2
    put-value-requires-3
    returns
    (λ c. search rules)
    returns-2
    (λ c. search rules)
    returns-3
    (λ c. search rules)
    returns-4)
