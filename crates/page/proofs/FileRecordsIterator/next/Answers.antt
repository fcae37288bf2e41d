-- The end where no place is marked any more, a type 04 record where the upper bits are others, and else a piece.
use Rattle.std.proofs.Common.{length, sym, refl, ap, ◌∙◌, arith, rules, Some}
use Rattle.marks.specs.Marks.{flags}
use Rattle.marks.proofs.Rows.{flags_length}
use Rattle.page.specs.Walk.{from_place}
use Rattle.page.proofs.Marks.{next_flag}
use Rattle.page.proofs.Walking.{marked_there, changed, unchanged, at_the_end, at_other_bits, at_a_piece}
use Rattle.page.proofs.FileRecordsIterator.next.Goals as goal

pub returns-then-self-clause-steps : goal.returns-then-self-clause-steps
unfolding from_place
returns-then-self-clause-steps c = rw c.if-self.true (refl, refl)

pub returns-then-start-self-clause-steps : goal.returns-then-start-self-clause-steps
returns-then-start-self-clause-steps c =
    let w = c.args.self.now in
    let n = next_flag w.marks.now w.places w.place _ w.inside c.next_marked-start.ensures in
    rw c.if-self.false (at_the_end w.first (flags w.places w.marks.now) w.place _ w.latest n (c.if-start-self.true ∙ sym (flags_length w.places w.marks.now)))

pub returns-then-start-self-clause-goes : goal.returns-then-start-self-clause-goes
returns-then-start-self-clause-goes c =
    let fewer = ap length (returns-then-start-self-clause-steps c) in search rules

pub returns-then-changes-clause-steps : goal.returns-then-changes-clause-steps
returns-then-changes-clause-steps c =
    let w = c.args.self.now in
    let n = next_flag w.marks.now w.places w.place _ w.inside c.next_marked-start.ensures in
    let t = marked_there n (λ e. c.if-start-self.false (e ∙ flags_length w.places w.marks.now)) in
    rw c.if-self.false (at_other_bits w.first (flags w.places w.marks.now) w.place _ w.latest n t.0 t.1 (λ e. changed w.latest _ c.if-changes.ensures (e ∙ ap Some (omega arith))))

pub returns-then-changes-clause-goes : goal.returns-then-changes-clause-goes
returns-then-changes-clause-goes c =
    let fewer = ap length (returns-then-changes-clause-steps c) in search rules

pub invariant_of-self-2 : goal.invariant_of-self-2
invariant_of-self-2 c =
    let w = c.args.self.now in
    record { below = w.below; inside = omega (arith, c.piece_end-end.ensures.inside, flags_length w.places w.marks.now) }

pub returns-clause-steps : goal.returns-clause-steps
returns-clause-steps c =
    let w = c.args.self.now in
    let n = next_flag w.marks.now w.places w.place _ w.inside c.next_marked-start.ensures in
    let t = marked_there n (λ e. c.if-start-self.false (e ∙ flags_length w.places w.marks.now)) in
    rw c.if-self.false (at_a_piece w.first (flags w.places w.marks.now) w.place _ w.latest n t.0 t.1 (unchanged w.latest _ c.if-changes.ensures ∙ ap Some (omega arith)) c.piece_end-end.result c.piece_end-end.ensures)

pub returns-clause-goes : goal.returns-clause-goes
returns-clause-goes c =
    let fewer = ap length (returns-clause-steps c) in search rules
