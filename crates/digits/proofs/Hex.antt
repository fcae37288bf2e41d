-- Digits and bytes: the functions of `specs/Digits.antt` and the relations of `specs/Format.antt` agree, character by character.
-- Assumes nothing.
use Rattle.std.proofs.Common.{◌≡◌, ℕ, ◌-◌, ◌*◌, ◌%◌, ◌<◌, ◌≤◌, Bool, true, false, ◌&&◌, leb, ◌⊎◌, List, [], ◌∷◌, ◌++◌, length, sym, refl, ◌∙◌, ap₂, inl, inr, arith, ltb-true, lt-ltb, le-leb}
use borrow.Author.Tests.{lt-leb}
use Rattle.digits.specs.Common.{Every, Byte}
use Rattle.digits.specs.Digits.{between, digit, is_digit, all_digits, bytes}
use Rattle.digits.specs.Hex.{Hex, decimal, capital, small, Spells, none, more, IsHex}
use Rattle.digits.proofs.Tests.{split, both, and_false}

-- ---- one digit

module _ (low high c : ℕ) where
  inside : low ≤ c → c ≤ high → between low high c ≡ true
  unfolding between
  inside l h = rw (le-leb low c l, le-leb c high h)

  under : c < low → between low high c ≡ false
  unfolding between
  under l = rw (lt-leb low c l)

  over : high < c → between low high c ≡ false
  unfolding between
  over h = rw (lt-leb c high h) (and_false (leb low c))

pub hex_digit : {c x : ℕ} → Hex c x → digit c ≡ x
unfolding digit
hex_digit {c} {x} (decimal e h) =
    let z : c - 48 ≡ x = omega arith in
    rw (inside 48 57 c (omega arith) (omega arith)) z
hex_digit {c} {x} (capital e l h) =
    let z : c - 55 ≡ x = omega arith in
    rw (over 48 57 c (omega arith), inside 65 70 c (omega arith) (omega arith)) z
hex_digit {c} {x} (small e l h) =
    let z : c - 87 ≡ x = omega arith in
    rw (over 48 57 c (omega arith), over 65 70 c (omega arith), inside 97 102 c (omega arith) (omega arith)) z

pub hex_small : {c x : ℕ} → Hex c x → x < 16
hex_small (decimal e h) = omega arith
hex_small (capital e l h) = h
hex_small (small e l h) = h

-- a byte is a digit of the format, or its value is 16
pub hex_or_none : (c : ℕ) → Hex c (digit c) ⊎ (digit c ≡ 16)
unfolding digit
hex_or_none c =
    split 48 c
    (λ h1. split c 57
    (λ h2. let e : digit c ≡ c - 48 = rw (inside 48 57 c h1 h2) in inl (decimal (omega arith) (omega arith)))
    (λ h2. split 65 c
    (λ h3. split c 70
    (λ h4. let e : digit c ≡ c - 55 = rw (over 48 57 c h2, inside 65 70 c h3 h4) in inl (capital (omega arith) (omega arith) (omega arith)))
    (λ h4. split 97 c
    (λ h5. split c 102
    (λ h6. let e : digit c ≡ c - 87 = rw (over 48 57 c h2, over 65 70 c h4, inside 97 102 c h5 h6) in inl (small (omega arith) (omega arith) (omega arith)))
    (λ h6. inr (rw (over 48 57 c h2, over 65 70 c h4, over 97 102 c h6))))
    (λ h5. inr (rw (over 48 57 c h2, over 65 70 c h4, under 97 102 c h5)))))
    (λ h3. inr (rw (over 48 57 c h2, under 65 70 c h3, under 97 102 c (omega arith))))))
    (λ h1. inr (rw (under 48 57 c h1, under 65 70 c (omega arith), under 97 102 c (omega arith))))

pub digit_hex : (c : ℕ) → digit c < 16 → Hex c (digit c)
digit_hex c d = elim (hex_or_none c) [ inl h ↦ h | inr e ↦ absurd (omega arith) ]

pub is_hex : (c : ℕ) → is_digit c ≡ true → IsHex c
is_hex c e = (digit c, digit_hex c (ltb-true (digit c) 16 e))

pub hex_is : (c : ℕ) → IsHex c → is_digit c ≡ true
hex_is c (x, h) = let e = hex_digit h in let k = hex_small h in lt-ltb (digit c) 16 (omega arith)

pub not_hex : (c : ℕ) → is_digit c ≡ false → ¬ IsHex c
not_hex c e h = let z : true ≡ false = sym (hex_is c h) ∙ e in let w : ◌≡◌ {A = ℕ} 0 1 = cc in absurd (omega arith)

pub hex_not : (c : ℕ) → ¬ IsHex c → is_digit c ≡ false
hex_not c no-hex = go (is_digit c) refl
  where
    go : (b : Bool) → is_digit c ≡ b → is_digit c ≡ false
    go true e = absurd (no-hex (is_hex c e))
    go false e = e

-- ---- rows of digits

pub every_hex : (ds : List ℕ) → all_digits ds ≡ true → Every IsHex ds
unfolding all_digits
every_hex [] e = tt
every_hex (c ∷ ds) e = let p = both (is_digit c) (all_digits ds) e in (is_hex c p.0, every_hex ds p.1)

pub hex_every : (ds : List ℕ) → Every IsHex ds → all_digits ds ≡ true
unfolding all_digits
hex_every [] h = refl
hex_every (c ∷ ds) (h, hs) = rw (hex_is c h) (hex_every ds hs)

-- what spells bytes is digits, twice as many, and spells those that `bytes` computes
pub spells_digits : {ds bs : List ℕ} → Spells ds bs → all_digits ds ≡ true
unfolding all_digits
spells_digits none = refl
spells_digits (more {a} {b} {x} {y} p q e s) = rw (hex_is a (x, p), hex_is b (y, q)) (spells_digits s)

pub spells_bytes : {ds bs : List ℕ} → Spells ds bs → bytes ds ≡ bs
unfolding bytes
spells_bytes none = refl
spells_bytes (more {a} {b} {x} {y} p q e s) =
    let i = hex_digit p in
    let j = hex_digit q in
    ap₂ (λ (b : ℕ) (bs : List ℕ). b ∷ bs) (omega arith) (spells_bytes s)

pub spells_length : {ds bs : List ℕ} → Spells ds bs → length ds ≡ 2 * length bs
spells_length none = refl
spells_length (more p q e s) = let i = spells_length s in omega arith

-- the first byte that is spelt is below 256
pub first_small : {ds bs : List ℕ} {b : ℕ} → Spells ds (b ∷ bs) → b < 256
first_small (more p q e s) = let i = hex_small p in let j = hex_small q in omega arith

-- and so is the last
pub last_small : {ds : List ℕ} (bs : List ℕ) (b : ℕ) → Spells ds (bs ++ (b ∷ [])) → b < 256
last_small [] b s = first_small s
last_small (x ∷ bs) b (more p q e s) = last_small bs b s

-- and so is each
pub spells_small : {ds bs : List ℕ} → Spells ds bs → Every Byte bs
spells_small none = tt
spells_small (more p q e s) = let i = hex_small p in let j = hex_small q in (omega arith, spells_small s)

-- digits, even in number, spell what `bytes` computes
pub digits_spell : (ds : List ℕ) → all_digits ds ≡ true → length ds % 2 ≡ 0 → Spells ds (bytes ds)
unfolding all_digits bytes
digits_spell (a ∷ b ∷ cs) d h =
    let p = both (is_digit a) (is_digit b && all_digits cs) d in
    let q = both (is_digit b) (all_digits cs) p.1 in
    more (digit_hex a (ltb-true _ _ p.0)) (digit_hex b (ltb-true _ _ q.0)) refl (digits_spell cs q.1 (omega arith))
digits_spell (a ∷ []) d h = absurd (omega arith)
digits_spell [] d h = none
