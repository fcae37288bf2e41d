-- Each answer, from the text that is to be written: what the code's `return` has to show.
-- Assumes nothing.
use Rattle.std.proofs.Common.{◌≡◌, ℕ, ◌+◌, ◌≤◌, List, length, take, drop, sym, refl, ap, ◌∙◌, arith, take_at, le-leb}
use mathlib.Core.Option.{Option, none, some}
use borrow.Author.Tests.{lt-leb}
use Rattle.digits.specs.Common.{pasted}
use Rattle.record.specs.Refusals.{Refusal, output_full}
use Rattle.digits.proofs.Tests.{split}
use Rattle.writer.specs.Told.{ToldWritten, wrote, refuses, writer_refusal}
use Rattle.writer.specs.Text.{Text, chars, refused, unless, place_behind, Leaves}
use Rattle.writer.specs.Claims.{RefusalChangesNothing, RestUntouched}
use Rattle.digits.proofs.Pasting.{pasted_before, pasted_behind}

-- a text that was measured: it is there, and as long as the answer
pub there : (f : Option Refusal) (cs : List ℕ) (n : ℕ) → wrote n ≡ place_behind (unless f cs) 0 → (f ≡ none) × (n ≡ length cs)
there none cs n e = let z : n ≡ 0 + length cs = cc in (refl, omega arith)
there (some r) cs n e = let z : ◌≡◌ {A = ℕ} 0 1 = cc in absurd (omega arith)

module _ (f : Option Refusal) (cs out : List ℕ) (at : ℕ) (t : f ≡ none) where
  pub written_there : (n : ℕ) (out' : List ℕ) → at + length cs ≤ length out → n ≡ at + length cs → out' ≡ pasted out at cs → Leaves (unless f cs) out at (wrote n) out'
  written_there n out' h e p =
      rw t (record { answer = rw (le-leb (at + length cs) (length out) h) (ap wrote e); left = rw (le-leb (at + length cs) (length out) h) p })

-- ---- the output

-- a text that may fit: if it does, it is pasted, and if not, all is as it was
module _ (cs out : List ℕ) (at : ℕ) (t : ToldWritten) (out' : List ℕ) (w : Leaves (chars cs) out at t out') where
  either : {X : Type 0} → (at + length cs ≤ length out → t ≡ wrote (at + length cs) → out' ≡ pasted out at cs → X) → (t ≡ refuses output_full → out' ≡ out → X) → X
  either f g =
      split (at + length cs) (length out)
      (λ h. let e = le-leb (at + length cs) (length out) h in f h (rw e at w.answer) (rw e at w.left))
      (λ h. let e = lt-leb (at + length cs) (length out) h in g (rw e at w.answer) (rw e at w.left))

-- a refusal changes nothing
pub unchanged : (t : Text) (out : List ℕ) (at : ℕ) (r : Refusal) (out' : List ℕ) → Leaves t out at (refuses r) out' → out' ≡ out
unchanged (chars cs) out at r out' w =
    either cs out at (refuses r) out' w (λ h a l. let z : ◌≡◌ {A = ℕ} 0 1 = cc in absurd (omega arith)) (λ a l. l)
unchanged (refused f) out at r out' w = w.left

pub refusal_changes_nothing : RefusalChangesNothing
refusal_changes_nothing t out at e out' w = unchanged t out at (writer_refusal e) out' w

pub rest_untouched : RestUntouched
rest_untouched (chars cs) out at n out' w =
    either cs out at (wrote n) out' w
    (λ h a l. let e : n ≡ at + length cs = cc in (ap (take at) l ∙ pasted_before out at cs h, ap (drop n) l ∙ rw e (pasted_behind out at cs h)))
    (λ a l. let z : ◌≡◌ {A = ℕ} 0 1 = cc in absurd (omega arith))
rest_untouched (refused r) out at n out' w = let a = w.answer in let z : ◌≡◌ {A = ℕ} 0 1 = cc in absurd (omega arith)

-- a text that was written at the beginning is what stands there, and no longer than the output
pub stands_there : (t : Text) (out : List ℕ) (n : ℕ) (out' : List ℕ) → Leaves t out 0 (wrote n) out' → (t ≡ chars (take n out')) × (n ≤ length out)
stands_there (chars cs) out n out' w =
    either cs out 0 (wrote n) out' w
    (λ h a l.
    let e : n ≡ 0 + length cs = cc in
    (ap chars (sym (ap (take n) l ∙ take_at cs (drop (0 + length cs) out) n (omega arith))), omega arith))
    (λ a l. let z : ◌≡◌ {A = ℕ} 0 1 = cc in absurd (omega arith))
stands_there (refused r) out n out' w = let a = w.answer in let z : ◌≡◌ {A = ℕ} 0 1 = cc in absurd (omega arith)
