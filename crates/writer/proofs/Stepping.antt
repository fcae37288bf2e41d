-- Steps behind a survey: each text stands behind the one before it, or nothing is written at all.
-- Assumes nothing.
use Rattle.std.proofs.Common.{◌≡◌, ℕ, ◌+◌, ◌≤◌, Bool, true, false, leb, List, [], ◌∷◌, ◌++◌, length, sym, refl, ap, ◌∙◌, subst, inl, append-nil, append_assoc, arith, length-append, le-leb, leb-true}
use mathlib.Core.Option.{Option, none, some}
use Rattle.digits.specs.Common.{pasted}
use Rattle.std.specs.Prelude.{if◌then◌else◌}
use Rattle.record.specs.Refusals.{Refusal, output_full}
use Rattle.record.specs.declared.Record.{Record}
use Rattle.writer.specs.declared.WriterError.{WriterError}
use Rattle.writer.specs.Aliases.{Written}
use Rattle.writer.specs.Told.{wrote, refuses, told_written}
use Rattle.writer.specs.Text.{Text, chars, refused, unless, place_behind, if_room, Writes}
use Rattle.writer.specs.Line.{line_refusal, ended_line, WriteNext}
use Rattle.writer.specs.Object.{first_refusal, joined_lines, object, WriteObject}
use Rattle.writer.specs.Survey.{begun}
use Rattle.writer.specs.Claims.{Steps, no_step, then_step, ObjectWritten}
use Rattle.record.proofs.Choices.{or_else_both}
use Rattle.digits.proofs.Pasting.{pasted_none, pasted_length, pasted_on}
use Rattle.writer.proofs.Objects.{first_refusal_snoc, lines_snoc, parts}
use Rattle.writer.proofs.Surveying.{answered}
use Rattle.std.specs.Prelude.{Err, Ok}

-- ---- a refusal stays, and nothing is written

stuck_next : (w : Written) (r : Refusal) (x : Record) (pool out : List ℕ) (w' : Written) (out' : List ℕ)
    → told_written w ≡ refuses r → WriteNext w x pool out w' out' → (told_written w' ≡ refuses r) × (out' ≡ out)
stuck_next (Ok at) r x pool out w' out' e n = let z : ◌≡◌ {A = ℕ} 0 1 = cc in absurd (omega arith)
stuck_next (Err q) r x pool out w' out' e n = (n.answer ∙ e, n.left)

stuck : (pool out : List ℕ) (start : Written) (r : Refusal) {rs : List Record} {w : Written} {out' : List ℕ} → told_written start ≡ refuses r
    → Steps pool out start rs w out' → (told_written w ≡ refuses r) × (out' ≡ out)
stuck pool out start r e no_step = (e, refl)
stuck pool out start r e (then_step x {w} {w'} {out₁} out₂ v n q) =
    let b = stuck pool out start r e v in
    let p = stuck_next w r x pool out₁ w' out₂ b.0 n in
    (p.0, p.1 ∙ b.1)

-- it stays through whatever records follow
pub stays : (pool out : List ℕ) (start : Written) (qs : List Record) {rs all : List Record} {e : WriterError} {out' : List ℕ}
    → Steps pool out start rs (Err e) out' → all ≡ rs ++ qs → Steps pool out start all (Err e) out'
stays pool out start [] {rs} t q = rw (q, append-nil rs) t
stays pool out start (x ∷ qs) {rs} {all} {e} {out'} t q =
    stays pool out start qs (then_step x out' t (record { answer = refl; left = refl }) refl) (q ∙ sym (append_assoc rs (x ∷ []) qs))

-- ---- all is written

-- a text that fits was put at a place
there_next : (f : Option Refusal) (cs out : List ℕ) (at : ℕ) (w : Written) (out' : List ℕ) → f ≡ none → at + length cs ≤ length out
    → Writes (unless f cs) out at w out' → (told_written w ≡ wrote (at + length cs)) × (out' ≡ pasted out at cs)
there_next (some r) cs out at w out' t h n = let z : ◌≡◌ {A = ℕ} 0 1 = cc in absurd (omega arith)
there_next none cs out at w out' t h n =
    let e = le-leb (at + length cs) (length out) h in
    (rw e at n.answer, rw e at n.left)

step_on : (w : Written) (x : Record) (pool out : List ℕ) (at : ℕ) (w' : Written) (out' : List ℕ)
    → told_written w ≡ wrote at → line_refusal x (length pool) ≡ none → at + length (ended_line x pool) ≤ length out
    → WriteNext w x pool out w' out' → (told_written w' ≡ wrote (at + length (ended_line x pool))) × (out' ≡ pasted out at (ended_line x pool))
step_on (Ok k) x pool out at w' out' e t h n =
    let same : k ≡ at = cc in
    there_next (line_refusal x (length pool)) (ended_line x pool) out at w' out' t h (subst (λ (m : ℕ). WriteNext (Ok m) x pool out w' out') same n)
step_on (Err q) x pool out at w' out' e t h n = let z : ◌≡◌ {A = ℕ} 0 1 = cc in absurd (omega arith)

-- the records so far are written
abbrev Done : (rs : List Record) (pool out : List ℕ) (w : Written) (out' : List ℕ) → Type 0
Done rs pool out w out' = (told_written w ≡ wrote (length (joined_lines rs pool))) × (out' ≡ pasted out 0 (joined_lines rs pool))

done_more : (rs : List Record) (x : Record) (pool out : List ℕ) (w w' : Written) (out₁ out₂ : List ℕ)
    → Done rs pool out w out₁ → line_refusal x (length pool) ≡ none → length (joined_lines (rs ++ (x ∷ [])) pool) ≤ length out
    → WriteNext w x pool out₁ w' out₂ → Done (rs ++ (x ∷ [])) pool out w' out₂
done_more rs x pool out w w' out₁ out₂ d t h n =
    let cs = joined_lines rs pool in
    let ds = ended_line x pool in
    let l = lines_snoc rs x pool in
    let m : length (joined_lines (rs ++ (x ∷ [])) pool) ≡ length cs + length ds = ap length l ∙ length-append cs ds in
    let room : 0 + length cs ≤ length out = omega arith in
    let same : length out₁ ≡ length out = ap length d.1 ∙ pasted_length out 0 cs room in
    let s = step_on w x pool out₁ (length cs) w' out₂ d.0 t (omega arith) n in (
      s.0 ∙ ap wrote (sym m),
      s.1
          ∙ ap (λ (o : List ℕ). pasted o (length cs) ds) d.1
          ∙ pasted_on out 0 cs room ds (length cs) (omega arith)
          ∙ ap (pasted out 0) (sym l),
    )

gone : (pool out : List ℕ) (start : Written) {rs : List Record} {w : Written} {out' : List ℕ} → told_written start ≡ wrote 0
    → Steps pool out start rs w out' → first_refusal rs (length pool) ≡ none → length (joined_lines rs pool) ≤ length out → Done rs pool out w out'
unfolding joined_lines
gone pool out start e no_step f h = (e, sym (pasted_none out 0))
gone pool out start e (then_step {rs} {whole} x {w} {w'} {out₁} out₂ v n q) f h =
    let f' : first_refusal (rs ++ (x ∷ [])) (length pool) ≡ none = rw q at f in
    let h' : length (joined_lines (rs ++ (x ∷ [])) pool) ≤ length out = rw q at h in
    let p = or_else_both (first_refusal rs (length pool)) (line_refusal x (length pool)) (sym (first_refusal_snoc rs x (length pool)) ∙ f') in
    let m = ap length (lines_snoc rs x pool) ∙ length-append (joined_lines rs pool) (ended_line x pool) in
    rw q (done_more rs x pool out w w' out₁ out₂ (gone pool out start e v p.0 (omega arith)) p.1 h' n)

-- ---- the whole

pub object_written : ObjectWritten
object_written rs pool out s start w out' few small v b t =
    go (object rs pool) refl (b.answer ∙ ap begun (answered rs pool s (length out) few (inl small) v))
  where
    fits : (cs : List ℕ) → object rs pool ≡ chars cs → (c : Bool) → leb (0 + length cs) (length out) ≡ c
        → told_written start ≡ begun (if c then wrote (0 + length cs) else refuses output_full) → WriteObject rs pool out w out'
    fits cs e true l q =
        let p = parts rs pool cs e in
        let k = leb-true (0 + length cs) (length out) l in
        let n : length (joined_lines rs pool) ≡ length cs = ap length (sym p.lined) in
        let d = gone pool out start q t p.fine (omega arith) in
        let z : length (joined_lines rs pool) ≡ 0 + length cs = omega arith in
        rw e (record { answer = rw l (d.0 ∙ ap wrote z); left = rw l (d.1 ∙ ap (pasted out 0) (sym p.lined)) })
    fits cs e false l q =
        let d = stuck pool out start output_full q t in
        rw e (record { answer = rw l d.0; left = rw l d.1 })

    go : (x : Text) → object rs pool ≡ x → told_written start ≡ begun (if_room (place_behind x 0) (length out)) → WriteObject rs pool out w out'
    go (chars cs) e q = fits cs e (leb (0 + length cs) (length out)) refl q
    go (refused r) e q = let d = stuck pool out start r q t in rw e (record { answer = d.0; left = d.1 })
