-- The claims of `specs/Reasons.antt`, proved: a record is refused by the definition exactly with the fault that it has, and its line has one length;
-- so the writer's law on refusals and texts serves here too.
-- Assumes nothing.
use Rattle.std.proofs.Common.{◌≡◌, ℕ, ◌+◌, ◌^◌, ◌≤◌, ltb, leb, ◌↔◌, List, length, ap, ◌∙◌, subst, arith, ltb-false, le-ltb, le-leb, leb-false, leb-true}
use mathlib.Core.Option.{Option, none, some}
use borrow.Author.Tests.{lt-leb}
use Rattle.digits.proofs.Tests.{branch}
use Rattle.record.specs.Refusals.{Refusal}
use Rattle.writer.specs.Text.{place_behind, if_room}
use Rattle.writer.proofs.Reasons.{reason, one_answer}
use Rattle.srec.specs.declared.SRecord.{SRecord}
use Rattle.srec.specs.Types.{width, fits}
use Rattle.srec.specs.Format.{Width, type_0, type_1, type_2, type_3, type_5, type_7, type_8, type_9}
use Rattle.srec.specs.Written.{beyond, most_data}
use Rattle.srec.specs.Record.{digit_of}
use Rattle.srec.specs.Writer.{line_refusal, refusal_for, line, line_text}
use Rattle.srec.specs.Reasons.{RecordFault, outside, holds_none, too_long, too_wide, LineSize, WhyLine, Reasons, OneReason}
use Rattle.srec.proofs.Naming.{named_wide, wide_named, width_few, size_fits, fits_size, misfit, unfit}
use Rattle.srec.proofs.Measuring.{digit_named, line_length, fine}

-- what lies beyond an address's bytes is a power of 256
powers : {kind n : ℕ} → Width kind n → beyond n ≡ 256 ^ n
unfolding beyond
powers (type_0 e z) = rw z
powers (type_1 e z) = rw z
powers (type_2 e z) = rw z
powers (type_3 e z) = rw z
powers (type_5 e z) = rw z
powers (type_7 e z) = rw z
powers (type_8 e z) = rw z
powers (type_9 e z) = rw z

-- a record is refused exactly with its fault
record_exact : (size : ℕ) (x : SRecord) (f : Refusal) → RecordFault size x f ↔ (refusal_for x size ≡ some f)
unfolding line_refusal
record_exact size x f = (refuses_it, has_it)
  where
    refuses_it : {f : Refusal} → RecordFault size x f → refusal_for x size ≡ some f
    refuses_it (outside h) = rw (lt-leb (x.at + x.len) size h)
    refuses_it (holds_none h z) = rw (le-leb (x.at + x.len) size h, misfit (digit_of x.kind) x.len z)
    refuses_it (too_long n h z w l) =
        let e = (wide_named w).1 in
        let few = width_few (digit_of x.kind) in
        rw (le-leb (x.at + x.len) size h, size_fits z, lt-leb x.len (most_data (digit_of x.kind)) (omega arith))
    refuses_it (too_wide n h z w l a) =
        let e : width (digit_of x.kind) ≡ n = (wide_named w).1 in
        let p : beyond (width (digit_of x.kind)) ≡ 256 ^ n = ap beyond e ∙ powers w in
        let b : beyond (width (digit_of x.kind)) ≤ x.address = omega arith in
        rw (le-leb (x.at + x.len) size h, size_fits z, le-leb x.len (most_data (digit_of x.kind)) (omega arith), le-ltb x.address (beyond (width (digit_of x.kind))) b)

    has_it : refusal_for x size ≡ some f → RecordFault size x f
    has_it =
        let P : Option Refusal → Type 0 = λ o. o ≡ some f → RecordFault size x f in
        let k = digit_of x.kind in
        let w : Width k (width k) = named_wide k (digit_named x.kind) in
        let few = width_few k in
        branch P (leb (x.at + x.len) size) _ _
        (λ b. branch P (fits k x.len) _ _
        (λ c. branch P (leb x.len (most_data k)) _ _
        (λ d. branch P (ltb x.address (beyond (width k))) _ _
        (λ g e. let z : ◌≡◌ {A = ℕ} 0 1 = cc in absurd (omega arith))
        (λ g e.
        let l = leb-true x.len (most_data k) d in
        let a : 256 ^ width k ≤ x.address = subst (λ (m : ℕ). m ≤ x.address) (powers w) (ltb-false x.address (beyond (width k)) g) in
        subst (RecordFault size x) (cc) (too_wide (width k) (leb-true (x.at + x.len) size b) (fits_size k x.len c) w (omega arith) a)))
        (λ d e.
        let l = leb-false x.len (most_data k) d in
        subst (RecordFault size x) (cc) (too_long (width k) (leb-true (x.at + x.len) size b) (fits_size k x.len c) w (omega arith))))
        (λ c e. subst (RecordFault size x) (cc) (holds_none (leb-true (x.at + x.len) size b) (unfit k x.len c))))
        (λ b e. subst (RecordFault size x) (cc) (outside (leb-false (x.at + x.len) size b)))

line_size : (x : SRecord) (pool : List ℕ) → refusal_for x (length pool) ≡ none → LineSize x (length (line x pool))
line_size x pool e =
    let f = fine (digit_of x.kind) x.address x.at x.len (length pool) e in
    (width (digit_of x.kind), named_wide (digit_of x.kind) (digit_named x.kind), line_length x pool f.inside)

one_line_size : (x : SRecord) (n m : ℕ) → LineSize x n → LineSize x m → n ≡ m
one_line_size x n m (a, v, e) (b, w, f) = let p = (wide_named v).1 in let q = (wide_named w).1 in omega arith

pub line_reason : (x : SRecord) (pool : List ℕ) (room : ℕ) → WhyLine x (length pool) room (if_room (place_behind (line_text x pool) 0) room)
line_reason x pool room = reason _ (LineSize x) (refusal_for x (length pool)) (record_exact (length pool) x) 0 room (line x pool) (line_size x pool)

pub reasons : Reasons
reasons x pool out r out' h = rw h.answer (line_reason x pool (length out))

pub one_reason : OneReason
one_reason x size room = one_answer _ (LineSize x) (refusal_for x size) (record_exact size x) 0 room (one_line_size x)
