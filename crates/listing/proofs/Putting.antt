-- What is put behind what was put: characters that stand in an output one behind the other stand there as a whole.
-- Assumes nothing.
use Prim.Native.Nat.{ℕ, ◌+◌, ◌*◌, ◌≤◌, ◌<◌}
use mathlib.Core.Path.{◌≡◌, refl, sym, ◌∙◌, ap, subst}
use mathlib.Core.List.{List, [], ◌∷◌, ◌++◌}
use native.Mathlib.Omega.{arith}
use native.Mathlib.Nat.{add-zero}
use native.Mathlib.Numerals.{add-one}
use lib.ListN.{length, get_or, take, set, length-append}
use lib.Seq.{length-take-le, take-suc}
use Rattle.digits.specs.Spelling.{spelt}
use Rattle.digits.proofs.Spelt.{spelt_length, spelt_append}
use Rattle.digits.proofs.Pasting.{pasted_none, pasted_one, pasted_more}
use Rattle.listing.specs.Helpers.{Puts}

module _ (out : List ℕ) (at : ℕ) where
  pub put_none : Puts out at [] at out
  put_none = record { place = sym (add-zero at); left = sym (pasted_none out at) }

  pub put_one : (c : ℕ) → at < length out → Puts out at (c ∷ []) (at + 1) (set out at c)
  put_one c h = record { place = refl; left = pasted_one out at c h }

  pub put_then : {xs ys : List ℕ} {p q : ℕ} {out₁ out₂ : List ℕ} → at + length xs ≤ length out → Puts out at xs p out₁ → Puts out₁ p ys q out₂ → Puts out at (xs ++ ys) q out₂
  put_then {xs} {ys} {p} {q} {out₁} {out₂} h a b =
      record {
        place = omega (arith, length-append xs ys, a.place, b.place);
        left = pasted_more out at xs h ys p a.left a.place b.left;
      }

  -- the same characters, said otherwise
  pub put_as : {xs ys : List ℕ} {p : ℕ} {out₁ : List ℕ} → xs ≡ ys → Puts out at xs p out₁ → Puts out at ys p out₁
  put_as {p = p} {out₁ = out₁} e a = subst (λ (l : List ℕ). Puts out at l p out₁) e a

  -- a turn of `put_bytes`, and its end
  pub bytes_more : (s : List ℕ) (i p q : ℕ) (o o' : List ℕ) → i < length s → at + 2 * length s ≤ length out
      → Puts out at (spelt (take i s)) p o → Puts o p (spelt (get_or s i 0 ∷ [])) q o' → Puts out at (spelt (take (i + 1) s)) q o'
  bytes_more s i p q o o' h room a b =
      let n : length (spelt (take i s)) ≡ 2 * i = spelt_length (take i s) ∙ ap (λ (k : ℕ). 2 * k) (length-take-le i s (omega arith)) in
      let e : spelt (take i s) ++ spelt (get_or s i 0 ∷ []) ≡ spelt (take (i + 1) s) =
      sym (spelt_append (take i s) (get_or s i 0 ∷ [])) ∙ ap spelt (sym (take-suc s i 0 h) ∙ ap (λ (k : ℕ). take k s) (sym (add-one i))) in
      put_as e (put_then (omega arith) a b)

  pub bytes_place : (s : List ℕ) (i p : ℕ) (o : List ℕ) → i ≤ length s → Puts out at (spelt (take i s)) p o → p ≡ at + 2 * i
  bytes_place s i p o h a =
      let n : length (spelt (take i s)) ≡ 2 * i = spelt_length (take i s) ∙ ap (λ (k : ℕ). 2 * k) (length-take-le i s h) in
      omega (arith, a.place)
