-- The carry, as bytes come in: what it holds grows by what the definition pushes, and its front stays until it is full.
-- Assumes nothing.
use Rattle.std.proofs.Common.{◌≡◌, ℕ, suc, ◌+◌, ◌<◌, ◌≤◌, Bool, true, false, List, [], ◌∷◌, ◌++◌, length, get_or, take, set, sym, refl, ap, ◌∙◌, ap₂, add-one, arith, length-take-le, get_or-take, take-take, take-suc-set, eq-eqb, ne_eqb}
use lib.Seq.{take-set-le}
use Rattle.std.specs.Prelude.{if◌then◌else◌}
use Rattle.digits.specs.Digits.{is_digit}
use Rattle.digits.specs.Reading.{named}
use Rattle.chunks.specs.Begun.{Kept, Begun, push, with_CR, add}
use Rattle.chunks.specs.Next.{kept_in}
use Rattle.chunks.specs.Helpers.{held, Grown}
use Rattle.chunks.proofs.Brief.{push_more}

module _ (carry : List ℕ) (used skipped c : ℕ) (big : 522 ≤ length carry) where
  abbrev kept : Kept
  kept = kept_in carry used skipped

  pub stored : used < 522 → Grown carry used (push (kept_in carry used skipped) c) (used + 1) skipped (set carry used c)
  stored h =
      let n : length (take used carry) ≡ used = length-take-le used carry (omega arith) in
      let bytes : take (used + 1) (set carry used c) ≡ take used carry ++ (c ∷ []) = rw (add-one, take-suc-set carry used c (omega arith)) in
      record {
        holds = ap (λ (b : List ℕ). record { bytes = b; skipped = skipped }) bytes ∙ sym (push_more kept c (omega arith));
        within = omega arith;
        more = omega arith;
        earlier = λ _. take-set-le used carry used c (omega arith);
      }

  -- a full carry
  full_push : used ≡ 522 → (t : Bool) → is_digit (get_or carry 521 0) ≡ t
      → push (kept_in carry used skipped) c ≡ (if t then record { bytes = take 521 carry ++ (c ∷ []); skipped = named (suc skipped) } else kept_in carry used skipped)
  unfolding push
  full_push e t d =
      let n : length (take 522 carry) ≡ 522 = length-take-le 522 carry big in
      rw (e, n, get_or-take 522 carry 521 0 (omega arith), d, take-take 521 522 carry (omega arith))

  pub replaced : used ≡ 522 → is_digit (get_or carry 521 0) ≡ true → (n : ℕ) → n ≡ named (suc skipped)
      → Grown carry used (push (kept_in carry used skipped) c) used n (set carry 521 c)
  replaced e d n q =
      record {
        holds =
            ap₂ (λ (b : List ℕ) (k : ℕ). record { bytes = b; skipped = k }) (ap (λ (m : ℕ). take m (set carry 521 c)) e ∙ take-suc-set carry 521 c (omega arith)) q
            ∙ sym (full_push e true d);
        within = omega arith;
        more = omega arith;
        earlier = λ h. absurd (omega arith);
      }

  pub left_alone : used ≡ 522 → is_digit (get_or carry 521 0) ≡ false → Grown carry used (push (kept_in carry used skipped) c) used skipped carry
  left_alone e d = record { holds = sym (full_push e false d); within = omega arith; more = omega arith; earlier = λ h. refl }

pub same : (carry : List ℕ) (used skipped : ℕ) → used ≤ 522 → Grown carry used (kept_in carry used skipped) used skipped carry
same carry used skipped h = record { holds = refl; within = h; more = omega arith; earlier = λ _. refl }

pub no_CR : (carry : List ℕ) (used skipped : ℕ) → used ≤ 522 → Grown carry used (with_CR (held carry used skipped false)) used skipped carry
unfolding with_CR
no_CR carry used skipped h = same carry used skipped h

pub onward : (carry : List ℕ) (used : ℕ) (k₁ : Kept) (n₁ m₁ : ℕ) (carry₁ : List ℕ) (k₂ : Kept) (n₂ m₂ : ℕ) (carry₂ : List ℕ)
    → Grown carry used k₁ n₁ m₁ carry₁ → Grown carry₁ n₁ k₂ n₂ m₂ carry₂ → Grown carry used k₂ n₂ m₂ carry₂
onward carry used k₁ n₁ m₁ carry₁ k₂ n₂ m₂ carry₂ g h =
    record {
      holds = h.holds;
      within = h.within;
      more = omega (arith, g.more, h.more);
      earlier = λ b.
          sym (take-take used n₁ carry₂ g.more) ∙ ap (take used) (h.earlier b) ∙ take-take used n₁ carry₁ g.more ∙ g.earlier (omega (arith, h.more));
    }

-- one byte, CR or another
pub added_CR : (b : Begun) (c : ℕ) → c ≡ 13 → add b c ≡ record { kept = with_CR b; cr = true }
unfolding add
added_CR b c e = rw (eq-eqb c 13 e)

pub added : (b : Begun) (c : ℕ) → (c ≡ 13 → ⊥) → add b c ≡ record { kept = push (with_CR b) c; cr = false }
unfolding add
added b c e = rw (ne_eqb c 13 e)
