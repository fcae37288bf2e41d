-- What capital digits spell: their bytes again, two digits to a byte, and no other digits in capitals do.
-- Assumes nothing.
use Rattle.std.proofs.Common.{◌≡◌, ℕ, ◌+◌, ◌*◌, ◌/◌, ◌%◌, ◌<◌, ◌≤◌, ltb, List, [], ◌∷◌, ◌++◌, length, refl, ap, ◌∙◌, ap₂, inl, inr, arith, ltb-false, ltb-true, le-ltb, lt-ltb}
use Rattle.digits.specs.Common.{Every, Byte}
use Rattle.digits.specs.Hex.{Hex, decimal, capital, small, Spells, none, more}
use Rattle.digits.specs.Spelling.{capital_digit, spelt, Capital}
use Rattle.digits.proofs.Tests.{branch}
use Rattle.digits.proofs.Hex.{hex_small}

pub capital_hex : (x : ℕ) → x < 16 → Hex (capital_digit x) x
unfolding capital_digit
capital_hex x h =
    branch (λ (c : ℕ). Hex c x) (ltb x 10) (48 + x) (55 + x)
    (λ e. decimal refl (ltb-true x 10 e))
    (λ e. capital (omega arith) (ltb-false x 10 e) h)

pub spelt_spells : (bs : List ℕ) → Every Byte bs → Spells (spelt bs) bs
unfolding spelt
spelt_spells [] h = none
spelt_spells (b ∷ bs) (h, hs) =
    let e : b ≡ b / 16 * 16 + b % 16 = omega arith in
    more (capital_hex (b / 16) (omega arith)) (capital_hex (b % 16) (omega arith)) e (spelt_spells bs hs)

pub spelt_length : (bs : List ℕ) → length (spelt bs) ≡ 2 * length bs
unfolding spelt
spelt_length [] = refl
spelt_length (b ∷ bs) = let e = spelt_length bs in omega arith

pub spelt_append : (xs ys : List ℕ) → spelt (xs ++ ys) ≡ spelt xs ++ spelt ys
unfolding spelt
spelt_append [] ys = refl
spelt_append (x ∷ xs) ys = ap (λ (l : List ℕ). capital_digit (x / 16) ∷ capital_digit (x % 16) ∷ l) (spelt_append xs ys)

-- each digit is a capital one
pub capital_in_range : (x : ℕ) → x < 16 → Capital (capital_digit x)
unfolding capital_digit
capital_in_range x h =
    branch Capital (ltb x 10) (48 + x) (55 + x)
    (λ e. let l = ltb-true x 10 e in inl (omega arith, omega arith))
    (λ e. let l = ltb-false x 10 e in inr (omega arith, omega arith))

pub spelt_capitals : (bs : List ℕ) → Every Byte bs → Every Capital (spelt bs)
unfolding spelt
spelt_capitals [] h = tt
spelt_capitals (b ∷ bs) (h, hs) = (capital_in_range (b / 16) (omega arith), (capital_in_range (b % 16) (omega arith), spelt_capitals bs hs))

-- and a digit in capitals has no choice
pub capital_only : {c x : ℕ} → Hex c x → Capital c → c ≡ capital_digit x
unfolding capital_digit
capital_only {c} {x} (decimal e h) k = rw (lt-ltb x 10 h) e
capital_only {c} {x} (capital e l h) k = rw (le-ltb x 10 l) (omega arith)
capital_only (small e l h) (inl (low, high)) = absurd (omega arith)
capital_only (small e l h) (inr (low, high)) = absurd (omega arith)

pub spelt_only : {ds bs : List ℕ} → Spells ds bs → Every Capital ds → ds ≡ spelt bs
unfolding spelt
spelt_only none k = refl
spelt_only (more {a} {b} {x} {y} {byte} p q e s) (i, (j, k)) =
    let m = hex_small p in
    let n = hex_small q in
    let high : x ≡ byte / 16 = omega arith in
    let low : y ≡ byte % 16 = omega arith in
    ap₂ (λ (c : ℕ) (cs : List ℕ). c ∷ cs) (capital_only p i ∙ ap capital_digit high)
    (ap₂ (λ (c : ℕ) (cs : List ℕ). c ∷ cs) (capital_only q j ∙ ap capital_digit low) (spelt_only s k))

-- every character is a digit or a letter
pub plain_digit : (x : ℕ) → 48 ≤ capital_digit x
unfolding capital_digit
plain_digit x = branch (λ (c : ℕ). 48 ≤ c) (ltb x 10) (48 + x) (55 + x) (λ e. omega arith) (λ e. omega arith)

pub spelt_plain : (bs : List ℕ) → Every (λ c. 48 ≤ c) (spelt bs)
unfolding spelt
spelt_plain [] = tt
spelt_plain (b ∷ bs) = (plain_digit (b / 16), (plain_digit (b % 16), spelt_plain bs))
