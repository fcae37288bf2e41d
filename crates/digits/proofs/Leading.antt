-- How many digits lead a row, and the search for the first byte that is not a digit.
-- Assumes nothing.
use Rattle.std.proofs.Common.{◌≡◌, ℕ, zero, suc, ◌+◌, ◌<◌, ◌≤◌, Bool, true, false, ◌&&◌, List, [], ◌∷◌, ◌++◌, length, get_or, drop, sym, refl, ap, ◌∙◌, append-nil, add-one, arith, drop-cons, le-ltb, lt-ltb, le-leb}
use Rattle.std.specs.Prelude.{if◌then◌else◌, nat_le, cond, Option, None, Some}
use Rattle.std.specs.Option.{unwrap_or}
use Rattle.std.specs.List.{position, position_or_len}
use Rattle.std.proofs.lemmas.List.Sums.{prefix_len-le-length}
use borrow.Author.Tests.{lt-leb}
use Rattle.std.proofs.lemmas.List.Recursion.{is_position_or_len}
use Rattle.digits.specs.Digits.{digit, is_digit, all_digits, leading}
use Rattle.digits.proofs.Tests.{branch, both, split, and_false}

-- n digits lead up to a character that is none
pub record Leads (ds : List ℕ) (n : ℕ) : Type 0 where
  pub inside : n < length ds
  pub other : is_digit (get_or ds n 0) ≡ false
  pub earlier : (i : ℕ) → i < n → is_digit (get_or ds i 0) ≡ true

pub leads : (ds : List ℕ) → all_digits ds ≡ false → Leads ds (leading ds)
unfolding all_digits leading
leads [] e = let z : ◌≡◌ {A = ℕ} 0 1 = cc in absurd (omega arith)
leads (c ∷ ds) e = go (is_digit c) refl e (leads ds)
  where
    go : (b : Bool) → is_digit c ≡ b → b && all_digits ds ≡ false → (all_digits ds ≡ false → Leads ds (leading ds)) → Leads (c ∷ ds) (if b then suc (leading ds) else 0)
    go true t e later =
        let l = later e in
        record { inside = omega (arith, l.inside); other = l.other; earlier = earlier l }
      where
        earlier : Leads ds (leading ds) → (i : ℕ) → i < suc (leading ds) → is_digit (get_or (c ∷ ds) i 0) ≡ true
        earlier l zero h = t
        earlier l (suc i) h = l.earlier i (omega arith)
    go false t e later = record { inside = omega arith; other = t; earlier = λ i h. absurd (omega arith) }

-- one that is none is enough
pub bad_at : (ds : List ℕ) (i : ℕ) → i < length ds → is_digit (get_or ds i 0) ≡ false → all_digits ds ≡ false
unfolding all_digits
bad_at [] i h e = absurd (omega arith)
bad_at (c ∷ ds) zero h e = rw e
bad_at (c ∷ ds) (suc i) h e = rw (bad_at ds i (omega arith) e) (and_false (is_digit c))

-- ---- what leads two rows of characters, one behind the other

pub leading_on : (a b : List ℕ) → all_digits a ≡ true → leading (a ++ b) ≡ length a + leading b
unfolding all_digits leading
leading_on [] b e = omega arith
leading_on (c ∷ a) b e = let (h, t) = both (is_digit c) (all_digits a) e in rw h (ap suc (leading_on a b t) ∙ omega arith)

pub leading_all : (a : List ℕ) → all_digits a ≡ true → leading a ≡ length a
unfolding leading
leading_all a e = ap leading (sym (append-nil a)) ∙ leading_on a [] e ∙ omega arith

pub leading_in : (a b : List ℕ) → all_digits a ≡ false → leading (a ++ b) ≡ leading a
unfolding all_digits leading
leading_in [] b e = let z : ◌≡◌ {A = ℕ} 0 1 = cc in absurd (omega arith)
leading_in (c ∷ a) b e = go (is_digit c) e (leading_in a b)
  where
    go : (t : Bool) → t && all_digits a ≡ false → (all_digits a ≡ false → leading (a ++ b) ≡ leading a)
        → (if t then suc (leading (a ++ b)) else 0) ≡ (if t then suc (leading a) else 0)
    go true e later = ap suc (later e)
    go false e later = refl

-- ---- the search

module _ (l : List ℕ) (i : ℕ) where
  -- a digit is passed
  pub lead_more : i < length l → digit (get_or l i 0) < 16 → (i + 1) + leading (drop (i + 1) l) ≡ i + leading (drop i l)
  unfolding leading
  lead_more h d = rw (drop-cons l i 0 h, lt-ltb (digit (get_or l i 0)) 16 d, add-one i) (omega arith)

  -- a byte that is not a digit leads nothing
  pub lead_found : i < length l → 16 ≤ digit (get_or l i 0) → i + leading (drop i l) ≡ i
  unfolding leading
  lead_found h d = rw (drop-cons l i 0 h, le-ltb (digit (get_or l i 0)) 16 d) (omega arith)

-- whether a byte is not a digit
abbrev pub other : ℕ → Bool
other c = nat_le 16 (digit c)

-- the digits that lead are those before the first such byte
leading_is : (l : List ℕ) → leading l ≡ position_or_len other l
unfolding leading
leading_is = is_position_or_len leading other refl step
  where
    step : (c : ℕ) (l : List ℕ) → leading (c ∷ l) ≡ cond (other c) 0 (1 + leading l)
    step c l =
        split 16 (digit c) (λ h. rw (le-ltb (digit c) 16 h, le-leb 16 (digit c) h)) (λ h. rw (lt-ltb (digit c) 16 h, lt-leb 16 (digit c) h) (omega arith))

pub lead_position : (l : List ℕ) (o : Option ℕ) → o ≡ position other l → unwrap_or o (length l) ≡ leading l
lead_position l o e =
    let n = position_or_len other l in
    let most : n ≤ length l = prefix_len-le-length _ l in
    let same = leading_is l in
    let told = λ (o : Option ℕ). unwrap_or o (length l) in
    split (length l) n
    (λ h. let none : o ≡ None = e ∙ rw (le-ltb n (length l) h) in ap told none ∙ omega arith)
    (λ h. let some : o ≡ Some n = e ∙ rw (lt-ltb n (length l) h) in ap told some ∙ sym same)

-- no more lead than there are
pub leading_most : (l : List ℕ) → leading l ≤ length l
unfolding leading
leading_most [] = omega arith
leading_most (c ∷ l) = branch (λ (n : ℕ). n ≤ length (c ∷ l)) (is_digit c) (suc (leading l)) 0 (λ e. omega (arith, leading_most l)) (λ e. omega arith)

-- a search that ends inside has found one, and one that ends after the last has found none
pub found_other : (l : List ℕ) → leading l < length l → all_digits l ≡ false
found_other l h = go (all_digits l) refl
  where
    go : (t : Bool) → all_digits l ≡ t → all_digits l ≡ false
    go true e = absurd (omega (arith, leading_all l e))
    go false e = e

pub found_all : (l : List ℕ) → length l ≤ leading l → all_digits l ≡ true
found_all l g = go (all_digits l) refl
  where
    go : (t : Bool) → all_digits l ≡ t → all_digits l ≡ true
    go true e = e
    go false e = absurd (omega (arith, (leads l e).inside))
