-- `marks::next` meets its contract: no place up to the byte is sought.
-- Assumes nothing.
use Rattle.std.proofs.Common.{◌≡◌, ℕ, ◌+◌, ◌*◌, ◌≤◌, length, ◌/◌, refl, inl, inr, arith}
use Rattle.marks.specs.Marks.{row_length}
use Rattle.marks.proofs.Below.{positive, split}
use Rattle.marks.proofs.Searches.{sought_at, seen_next, none_next, part_says, found, none_left, bits_small, further, whole_byte, whole_says, sought_outside, rest_passed}
use Rattle.marks.proofs.next.Goals as goal

pub returns-then-places-from : goal.returns-then-places-from
returns-then-places-from c = none_next c.args.marked c.args.marks.now c.args.places c.args.from c.if-places-from.true

pub lowest_place-requires : goal.lowest_place-requires
lowest_place-requires c = (positive _ c.if-bits-ne0.true, omega arith)

pub returns-then-bits-ne0 : goal.returns-then-bits-ne0
returns-then-bits-ne0 c =
    let a = c.args in
    seen_next a.marked a.marks.now a.places a.from _
    (found (sought_at a.marked a.marks.now) a.places a.from a.from _ _ (omega arith) (λ j l h. absurd (omega arith)) (part_says a.marked a.marks.now a.from _ _ c.byte_of.type_inv c.byte_of.ensures c.sought.ensures)
    (bits_small c.sought.result a.from _ refl c.sought.type_inv) c.lowest_place.ensures)

pub loop-at-init : goal.loop-at-init
loop-at-init c =
    let a = c.args in
    record {
      behind = omega arith;
      none = λ j l h. none_left (sought_at a.marked a.marks.now) a.from _ (part_says a.marked a.marks.now a.from _ _ c.byte_of.type_inv c.byte_of.ensures c.sought.ensures) c.if-bits-ne0.false j l (omega arith);
    }

pub overflow_mul-at : goal.overflow_mul-at
unfolding row_length
overflow_mul-at c = record { fits = omega (arith, c.row_length-bytes.ensures.answer, c.min-end.ensures, c.ranges.places.fits) }

pub lowest_place-requires-then-bits-ne0-2 : goal.lowest_place-requires-then-bits-ne0-2
unfolding row_length
lowest_place-requires-then-bits-ne0-2 c =
    (positive _ c.if-bits-ne0-2.true, omega (arith, c.row_length-bytes.ensures.answer, c.min-end.ensures))

pub returns-then-bits-ne0-2 : goal.returns-then-bits-ne0-2
returns-then-bits-ne0-2 c =
    let a = c.args in
    let l = c.loop-at in
    seen_next a.marked a.marks.now a.places a.from _
    (found (sought_at a.marked a.marks.now) a.places a.from (8 * l.at) _ _ l.invariant.behind l.invariant.none
    (whole_says a.marked a.marks.now l.at _ (c.type_inv.marks l.at).fits c.sought-bits.ensures)
    (bits_small c.sought-bits.result (8 * l.at) _ (whole_byte c.sought-bits.result l.at) c.sought-bits.type_inv) c.lowest_place-then-bits-ne0-2.ensures)

pub loop-at-preserved : goal.loop-at-preserved
loop-at-preserved c =
    let a = c.args in
    let l = c.loop-at in
    let says = whole_says a.marked a.marks.now l.at _ (c.type_inv.marks l.at).fits c.sought-bits.ensures in
    record {
      behind = omega arith;
      none =
          further (λ j. sought_at a.marked a.marks.now j ≡ 0) a.from (8 * l.at) (8 * (l.at + 1)) l.invariant.none
          (λ j k h. none_left (sought_at a.marked a.marks.now) (8 * l.at) _ says c.if-bits-ne0-2.false j k (omega arith));
    }

pub overflow_mul-result : goal.overflow_mul-result
unfolding row_length
overflow_mul-result c = record { fits = omega (arith, c.row_length-bytes.ensures.answer, c.ranges.places.fits) }

pub returns-then-end-bytes : goal.returns-then-end-bytes
unfolding row_length
returns-then-end-bytes c =
    let a = c.args in
    let l = c.loop-at in
    let end = c.min-end.result in
    let unmarked : (p : ℕ) → 8 * length a.marks.now ≤ p → sought_at a.marked a.marks.now p ≡ 1 = λ p h. sought_outside a.marked a.marks.now p c.if-not-marked.true h in
    let e : c.row_length-bytes.result ≡ (a.places + 7) / 8 = c.row_length-bytes.ensures.answer in
    seen_next a.marked a.marks.now a.places a.from (8 * end)
    (record {
      low = split (8 * length a.marks.now) a.from (λ h. absurd (omega (arith, l.invariant.none a.from (omega arith) (omega arith), unmarked a.from h))) (λ h. omega arith);
      high = omega (arith, e);
      none = λ j k h. l.invariant.none j k (omega arith);
      there = inr (unmarked (8 * end) (omega (arith, c.min-end.ensures)));
    })

pub returns-else-not-marked : goal.returns-else-not-marked
returns-else-not-marked c =
    let a = c.args in
    let l = c.loop-at in
    seen_next a.marked a.marks.now a.places a.from a.places
    (record {
      low = omega arith;
      high = omega arith;
      none = further (λ j. sought_at a.marked a.marks.now j ≡ 0) a.from (8 * l.at) a.places l.invariant.none
          (rest_passed a.marked a.marks.now a.places _ _ l.at c.row_length-bytes.ensures.answer c.min-end.ensures c.loop-at-test.false c.else-not-marked.either);
      there = inl refl;
    })
