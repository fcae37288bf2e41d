-- A byte's two digits, and the loop of `spell_all`: what holds at its head, that it holds at first and after a turn, and what it gives at its end.
-- Assumes nothing.
use Rattle.std.proofs.Common.{◌≡◌, ℕ, ◌+◌, ◌*◌, ◌/◌, ◌%◌, ◌<◌, ◌≤◌, List, [], ◌∷◌, ◌++◌, length, get_or, take, drop, set, sym, refl, ap, ◌∙◌, ap₂, add-one, arith, drop_of_length-le, length-take-le, take_all, take-suc}
use Rattle.checksum.specs.Checksum.{sum}
use Rattle.checksum.proofs.Laws.{sum_drop}
use Rattle.digits.specs.Common.{pasted}
use Rattle.digits.proofs.Spelt.{spelt_length, spelt_append}
use Rattle.digits.proofs.Pasting.{pasted_none, pasted_more, pasted_two}
use Rattle.digits.specs.Spelling.{Spelt, capital_digit, spelt}

-- two stores, of a byte's high digit and of its low digit
pub put_two : (out : List ℕ) (at byte high low : ℕ) → byte < 256 → at + 2 ≤ length out → high ≡ capital_digit (byte / 16 % 16) → low ≡ capital_digit (byte % 16)
    → set (set out at high) (at + 1) low ≡ pasted out at (spelt (byte ∷ []))
unfolding spelt
put_two out at byte high low small room h l =
    let e : byte / 16 % 16 ≡ byte / 16 = omega arith in
    pasted_two out at high low room ∙ ap₂ (λ (x y : ℕ). pasted out at (x ∷ y ∷ [])) (h ∙ ap capital_digit e) l

-- where it is, after i bytes
pub record Turn (bytes : List ℕ) (before : ℕ) (out : List ℕ) (out' : List ℕ) (total i : ℕ) : Type 0 where
  pub inside : i ≤ length bytes
  pub same : length out' ≡ length out
  pub small : total < 256
  pub summed : (total + sum (drop i bytes)) % 256 ≡ (before + sum bytes) % 256
  pub left : out' ≡ pasted out 0 (spelt (take i bytes))

module _ (bytes : List ℕ) (before : ℕ) (out : List ℕ) (room : 2 * length bytes ≤ length out) where
  pub turn_first : before < 256 → Turn bytes before out out before 0
  unfolding spelt
  turn_first small = record { inside = omega arith; same = refl; small = small; summed = refl; left = sym (pasted_none out 0) }

  pub turn_more : (out₁ : List ℕ) (total i total' : ℕ) (out₂ : List ℕ) → Turn bytes before out out₁ total i → i < length bytes
      → out₂ ≡ pasted out₁ (2 * i) (spelt (get_or bytes i 0 ∷ [])) → length out₂ ≡ length out₁ → total' ≡ (total + get_or bytes i 0) % 256
      → Turn bytes before out out₂ total' (i + 1)
  turn_more out₁ total i total' out₂ t h e l s =
      let byte = get_or bytes i 0 in
      let rest = sum_drop bytes i h in
      let before-this = t.summed in
      let n : length (spelt (take i bytes)) ≡ 2 * i = let a = spelt_length (take i bytes) in let b = length-take-le i bytes (omega arith) in omega arith in
      let more : spelt (take (i + 1) bytes) ≡ spelt (take i bytes) ++ spelt (byte ∷ []) =
      ap spelt (ap (λ (k : ℕ). take k bytes) (add-one i) ∙ take-suc bytes i 0 h) ∙ spelt_append (take i bytes) (byte ∷ []) in
      record {
        inside = omega arith;
        same = l ∙ t.same;
        small = omega arith;
        summed = omega arith;
        left = pasted_more out 0 (spelt (take i bytes)) (omega arith) (spelt (byte ∷ [])) (2 * i) t.left (omega arith) e ∙ ap (pasted out 0) (sym more);
      }

  pub turn_last : (out₁ : List ℕ) (total i : ℕ) → Turn bytes before out out₁ total i → length bytes ≤ i → Spelt bytes before out total out₁
  unfolding sum
  turn_last out₁ total i t h =
      let none : sum (drop i bytes) ≡ 0 = rw (drop_of_length-le bytes h) in
      let summed = t.summed in
      let small = t.small in
      record { sums = omega arith; left = t.left ∙ ap (λ (l : List ℕ). pasted out 0 (spelt l)) (take_all i bytes h) }
