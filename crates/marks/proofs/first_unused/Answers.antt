-- `marks::first_unused` meets its contract: the bits from the first unused place on are looked at.
-- Assumes nothing.
use Rattle.std.proofs.Common.{◌/◌, ◌%◌, ◌-◌, ◌<◌, sym, arith}
use Rattle.marks.specs.Marks.{row_length, byte_of, mark_at}
use Rattle.marks.proofs.Searches.{byte_says, none_left, bits_small, found_unused}
use Rattle.marks.proofs.UnusedBits.{unused_is, none_is}
use Rattle.marks.proofs.first_unused.Goals as goal

pub returns-then-places-eq0 : goal.returns-then-places-eq0
unfolding row_length
returns-then-places-eq0 c = record { answer = sym (none_is c.args.marks.now c.args.places (λ p l h. absurd (omega (arith, c.if-places-eq0.true)))) }

pub returns-then-bits-eq0 : goal.returns-then-bits-eq0
unfolding row_length
returns-then-bits-eq0 c =
    let places = c.args.places in
    let m = c.args.marks.now in
    record {
      answer = sym (none_is m places (λ p l h. none_left (mark_at m) places _ (byte_says m places _ c.bits_from-bits.ensures) c.if-bits-eq0.true p l (omega arith)));
    }

-- the bit found is one of the place's byte
in_byte : (c : goal.After-lowest) → c.lowest.result < 8 - c.args.places % 8
unfolding byte_of
in_byte c =
    let places = c.args.places in
    let m = c.args.marks.now in
    c.lowest.ensures.near (8 - places % 8) (bits_small (byte_of m places) places _ c.bits_from-bits.ensures (omega (arith, c.type_inv.marks (places / 8))))

pub overflow_add-result : goal.overflow_add-result
overflow_add-result c = record { fits = omega (arith, in_byte c, c.ranges.places.fits) }

pub returns : goal.returns
returns c =
    let places = c.args.places in
    let m = c.args.marks.now in
    record {
      answer = sym (unused_is m places _
          (found_unused m places _ c.lowest.result c.if-places-eq0.false (byte_says m places _ c.bits_from-bits.ensures) (in_byte c) c.lowest.ensures));
    }
