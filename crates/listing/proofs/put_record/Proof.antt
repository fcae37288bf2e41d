-- `listing::put_record` meets its contract: each record by what it means.
-- Assumes nothing.
use Prim.Native.Nat.{ℕ, ◌+◌, ◌-◌, ◌≤◌}
use mathlib.Core.Path.{◌≡◌, sym, ◌∙◌, ap, subst}
use native.Mathlib.Omega.{arith}
use lib.ListN.{length, take, drop}
use Rattle.record.specs.declared.Record.{Record}
use Rattle.record.specs.Record.{meant, Inside}
use Rattle.record.specs.Meaning.{data_at}
use Rattle.digits.specs.Spelling.{spelt}
use Rattle.listing.specs.Listing.{record_entry}
use Rattle.listing.specs.Helpers.{numbered}
use Rattle.listing.proofs.Putting.{put_as}
use borrow.Author.Rules.{rules}
use Rattle.listing.proofs.put_record.Statement.{statement}
use Rattle.listing.proofs.put_record.Tie as tie

add-end : tie.Need-overflow_add-end
add-end c = let l = subst (λ (x : Record). Inside x (length c.args.pool.now)) c.in-Data.is c.requires.lies in omega (arith, l)

part-put-data-end : tie.Need-slice_bounds-put_data-end
part-put-data-end c = subst (λ (x : Record). Inside x (length c.args.pool.now)) c.in-Data.is c.requires.lies

put-data-requires : tie.Need-put_data-requires
put-data-requires c κs =
    let a = c.args in
    let n : c.in-Data.from + c.in-Data.len - c.in-Data.from ≡ c.in-Data.len = omega arith in
    subst (λ (k : ℕ). a.at + length (record_entry (data_at c.in-Data.offset (take k (drop c.in-Data.from a.pool.now)))) ≤ length a.out.now) (sym n)
    (subst (λ (x : Record). a.at + length (record_entry (meant x a.pool.now)) ≤ length a.out.now) c.in-Data.is c.requires.room)

put-char-requires : tie.Need-put_char-requires
unfolding record_entry numbered spelt
put-char-requires c κs = omega (arith, c.requires.room, ap (λ (x : Record). length (record_entry (meant x c.args.pool.now))) c.in-EndOfFile.is)

put-numbered-requires : tie.Need-put_numbered-requires
unfolding record_entry numbered spelt
put-numbered-requires c κs = omega (arith, c.requires.room, ap (λ (x : Record). length (record_entry (meant x c.args.pool.now))) c.in-ExtendedSegmentAddress.is)

put-long-requires : tie.Need-put_long-requires
unfolding record_entry numbered spelt
put-long-requires c κs = omega (arith, c.requires.room, ap (λ (x : Record). length (record_entry (meant x c.args.pool.now))) c.in-StartSegmentAddress.is)

put-numbered-requires-2 : tie.Need-put_numbered-requires-in-ExtendedLinearAddress
unfolding record_entry numbered spelt
put-numbered-requires-2 c κs = omega (arith, c.requires.room, ap (λ (x : Record). length (record_entry (meant x c.args.pool.now))) c.in-ExtendedLinearAddress.is)

put-long-requires-2 : tie.Need-put_long-requires-in-StartLinearAddress
unfolding record_entry numbered spelt
put-long-requires-2 c κs = omega (arith, c.requires.room, ap (λ (x : Record). length (record_entry (meant x c.args.pool.now))) c.in-StartLinearAddress.is)

returns : tie.Need-returns-in-Data
returns c =
    let a = c.args in
    let n : c.in-Data.from + c.in-Data.len - c.in-Data.from ≡ c.in-Data.len = omega arith in
    put_as a.out.now a.at
    (ap (λ (k : ℕ). record_entry (data_at c.in-Data.offset (take k (drop c.in-Data.from a.pool.now)))) n ∙ ap (λ (x : Record). record_entry (meant x a.pool.now)) (sym c.in-Data.is))
    c.put_data.ensures

returns-2 : tie.Need-returns-in-EndOfFile
unfolding record_entry numbered
returns-2 c =
    let a = c.args in
    put_as a.out.now a.at (ap (λ (x : Record). record_entry (meant x a.pool.now)) (sym c.in-EndOfFile.is)) c.put_char.ensures

returns-3 : tie.Need-returns-in-ExtendedSegmentAddress
unfolding record_entry numbered
returns-3 c =
    let a = c.args in
    put_as a.out.now a.at (ap (λ (x : Record). record_entry (meant x a.pool.now)) (sym c.in-ExtendedSegmentAddress.is)) c.put_numbered.ensures

returns-4 : tie.Need-returns-in-StartSegmentAddress
unfolding record_entry numbered
returns-4 c =
    let a = c.args in
    put_as a.out.now a.at (ap (λ (x : Record). record_entry (meant x a.pool.now)) (sym c.in-StartSegmentAddress.is)) c.put_long.ensures

returns-5 : tie.Need-returns-in-ExtendedLinearAddress
unfolding record_entry numbered
returns-5 c =
    let a = c.args in
    put_as a.out.now a.at (ap (λ (x : Record). record_entry (meant x a.pool.now)) (sym c.in-ExtendedLinearAddress.is)) c.put_numbered-in-ExtendedLinearAddress.ensures

returns-6 : tie.Need-returns-in-StartLinearAddress
unfolding record_entry numbered
returns-6 c =
    let a = c.args in
    put_as a.out.now a.at (ap (λ (x : Record). record_entry (meant x a.pool.now)) (sym c.in-StartLinearAddress.is)) c.put_long-in-StartLinearAddress.ensures

pub put_record_spec : {M : Type 1} → statement M
put_record_spec =
    tie.close
    (tie.spec
    (λ c. search rules)
    add-end
    (λ c. search rules)
    (λ c. search rules)
    part-put-data-end
    put-data-requires
    (λ c. search rules)
    put-char-requires
    (λ c. search rules)
    put-numbered-requires
    (λ c. search rules)
    put-long-requires
    (λ c. search rules)
    put-numbered-requires-2
    (λ c. search rules)
    (λ c. search rules)
    (λ c. search rules)
    put-long-requires-2
    (λ c. search rules)
    returns
    (λ c. search rules)
    returns-2
    (λ c. search rules)
    returns-3
    (λ c. search rules)
    returns-4
    (λ c. search rules)
    returns-5
    (λ c. search rules)
    returns-6)
