-- Bytes pasted into a buffer, one row behind the other: the buffer is split where they stand.
-- Assumes nothing.
use Rattle.std.proofs.Common.{◌≡◌, ℕ, suc, ◌+◌, ◌<◌, ◌≤◌, List, [], ◌∷◌, ◌++◌, length, take, drop, set, sym, refl, ap, ◌∙◌, ap₂, append_assoc, append-nil, add-zero, add-one, arith, length-append, length-drop, length-set, take-append-drop, length-take-le, drop-drop, take_at, drop_at}
use lib.Seq.{set_split, drop-append-add}
use Rattle.digits.specs.Common.{pasted}

pub pasted_none : (out : List ℕ) (at : ℕ) → pasted out at [] ≡ out
pasted_none out at = rw (append-nil, add-zero) (take-append-drop at out)

pub pasted_one : (out : List ℕ) (at a : ℕ) → at < length out → set out at a ≡ pasted out at (a ∷ [])
pasted_one out at a h = rw add-one (set_split out at a h ∙ sym (append_assoc (take at out) (a ∷ []) (drop (suc at) out)))

module _ (out : List ℕ) (at : ℕ) (xs : List ℕ) (room : at + length xs ≤ length out) where
  head : length (take at out ++ xs) ≡ at + length xs
  head = let t = length-take-le at out (omega arith) in let l = length-append (take at out) xs in omega arith

  pub pasted_length : length (pasted out at xs) ≡ length out
  pasted_length =
      let h = head in
      let d = length-drop (at + length xs) out in
      let l = length-append (take at out ++ xs) (drop (at + length xs) out) in
      omega arith

  pub pasted_before : take at (pasted out at xs) ≡ take at out
  pasted_before =
      ap (take at) (append_assoc (take at out) xs (drop (at + length xs) out))
      ∙ take_at (take at out) (xs ++ drop (at + length xs) out) at (length-take-le at out (omega arith))

  pub pasted_behind : drop (at + length xs) (pasted out at xs) ≡ drop (at + length xs) out
  pasted_behind = drop_at (take at out ++ xs) (drop (at + length xs) out) (at + length xs) head

  -- a row behind another
  pub pasted_on : (ys : List ℕ) (place : ℕ) → place ≡ at + length xs → pasted (pasted out at xs) place ys ≡ pasted out at (xs ++ ys)
  pasted_on ys place e =
      let D : List ℕ = drop (at + length xs) out in
      let n : at + length xs + length ys ≡ at + length (xs ++ ys) = let l = length-append xs ys in omega arith in
      let dropped : drop (place + length ys) (pasted out at xs) ≡ drop (at + length xs + length ys) out =
      ap (λ (k : ℕ). drop (k + length ys) (pasted out at xs)) (e ∙ sym head)
      ∙ drop-append-add (take at out ++ xs) D (length ys)
      ∙ drop-drop (length ys) (at + length xs) out in
      ap₂ (λ (p q : List ℕ). p ++ ys ++ q) (take_at (take at out ++ xs) D place (head ∙ sym e)) dropped
      ∙ ap₂ (λ (p : List ℕ) (k : ℕ). p ++ drop k out) (append_assoc (take at out) xs ys) n

  -- the same, of an output that was left so
  pub pasted_more : {out₁ out₂ : List ℕ} (ys : List ℕ) (place : ℕ) → out₁ ≡ pasted out at xs → place ≡ at + length xs → out₂ ≡ pasted out₁ place ys
      → out₂ ≡ pasted out at (xs ++ ys)
  pasted_more ys place p e q = q ∙ ap (λ (l : List ℕ). pasted l place ys) p ∙ pasted_on ys place e

  -- what was pasted is found again
  pub pasted_part : take (length xs) (drop at (pasted out at xs)) ≡ xs
  pasted_part =
      ap (λ (l : List ℕ). take (length xs) (drop at l)) (append_assoc (take at out) xs (drop (at + length xs) out))
      ∙ ap (take (length xs)) (drop_at (take at out) (xs ++ drop (at + length xs) out) at (length-take-le at out (omega arith)))
      ∙ take_at xs (drop (at + length xs) out) (length xs) refl

-- two stores, one after the other
pub pasted_two : (out : List ℕ) (at a b : ℕ) → at + 2 ≤ length out → set (set out at a) (at + 1) b ≡ pasted out at (a ∷ b ∷ [])
pasted_two out at a b h =
    pasted_more out at (a ∷ []) (omega arith) (b ∷ []) (at + 1) (pasted_one out at a (omega arith)) (omega arith)
    (pasted_one (set out at a) (at + 1) b (simp length-set (omega arith)))
