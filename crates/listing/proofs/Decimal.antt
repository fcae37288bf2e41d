-- A number in decimal: its last digit behind those of a tenth of it, however many digits are allowed.
-- Assumes nothing.
use Prim.Native.Nat.{ℕ, zero, suc, ◌+◌, ◌*◌, ◌^◌, ◌/◌, ◌%◌, ◌≤◌, ◌<◌}
use mathlib.Core.Path.{◌≡◌, refl, ap}
use mathlib.Core.Bool.{Bool, true, false}
use mathlib.Core.List.{List, [], ◌∷◌, ◌++◌}
use native.Mathlib.Omega.{arith}
use native.Mathlib.Nat.{pow-succ'}
use lib.Dec.{ltb}
use lib.ListN.{length, length-append}
use borrow.Author.Tests.{lt-ltb, le-ltb, ltb-false}
use Rattle.std.specs.Prelude.{if◌then◌else◌}
use Rattle.digits.specs.Spelling.{capital_digit}
use Rattle.digits.proofs.Tests.{split}
use Rattle.listing.specs.Listing.{digits, decimal}

digits_enough : (a b n : ℕ) → n < a → n < b → digits a n ≡ digits b n
unfolding digits
digits_enough zero b n h k = absurd (omega arith)
digits_enough (suc a) zero n h k = absurd (omega arith)
digits_enough (suc a) (suc b) n h k = go (ltb n 10) refl (λ l. digits_enough a b (n / 10) (omega arith) (omega arith))
  where
    go : (t : Bool) → ltb n 10 ≡ t → (10 ≤ n → digits a (n / 10) ≡ digits b (n / 10))
        → (if t then capital_digit n ∷ [] else digits a (n / 10) ++ (capital_digit (n % 10) ∷ [])) ≡ (if t then capital_digit n ∷ [] else digits b (n / 10) ++ (capital_digit (n % 10) ∷ []))
    go true e f = refl
    go false e f = ap (λ (l : List ℕ). l ++ (capital_digit (n % 10) ∷ [])) (f (ltb-false n 10 e))

pub decimal_small : (n : ℕ) → n < 10 → decimal n ≡ capital_digit n ∷ []
unfolding decimal
decimal_small n h = rw (lt-ltb n 10 h)

pub decimal_more : (n : ℕ) → 10 ≤ n → decimal n ≡ decimal (n / 10) ++ (capital_digit (n % 10) ∷ [])
unfolding decimal
decimal_more n h = rw (le-ltb n 10 h) (ap (λ (l : List ℕ). l ++ (capital_digit (n % 10) ∷ [])) (digits_enough n (suc (n / 10)) (n / 10) (omega arith) (omega arith)))

-- ten times as large a number has one digit more
longer : (most k : ℕ) → ((n : ℕ) → n < most → length (decimal n) ≤ k) → 1 ≤ k → (n : ℕ) → n < 10 * most → length (decimal n) ≤ k + 1
longer most k f h n l =
    split 10 n
    (λ g.
    let e = length-append (decimal (n / 10)) (capital_digit (n % 10) ∷ []) in
    omega (arith, ap length (decimal_more n g), f (n / 10) (omega arith)))
    (λ g. omega (arith, ap length (decimal_small n g)))

-- a number below a power of ten has no more digits than its zeros
pub decimal_length : (k n : ℕ) → n < 10 ^ suc k → length (decimal n) ≤ suc k
decimal_length zero n h = omega (arith, ap length (decimal_small n h))
decimal_length (suc k) n h =
    omega (arith, longer (10 ^ suc k) (suc k) (decimal_length k) (omega arith) n (rw (pow-succ' 10 (suc k)) at h))
