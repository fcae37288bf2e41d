-- The listing as a whole: what `list` wrote is it, and three times the input's length and 32 are room enough. What is put at the beginning is written.
-- Assumes nothing.
use Prim.Native.Nat.{ℕ, ◌+◌, ◌*◌, ◌≤◌, ◌<◌}
use mathlib.Core.Path.{◌≡◌, refl, sym, ◌∙◌, ap}
use mathlib.Core.List.{List, [], ◌∷◌, ◌++◌}
use native.Mathlib.Omega.{arith}
use mathlib.Core.Bool.{Bool, true, false}
use lib.ListN.{length, drop, length-append}
use borrow.Author.Tests.{lt-ltb, le-ltb, le-leb, lt-leb, leb-true}
use Rattle.digits.specs.Common.{text}
use Rattle.std.specs.Prelude.{if◌then◌else◌}
use Rattle.digits.proofs.Tests.{split}
use Rattle.listing.specs.Aliases.{Listed}
use Rattle.listing.specs.Listing.{decimal, ended, heading, count_line, entries, answers, listing}
use Rattle.listing.specs.Listed.{wrote, no_room, told_listed, text_room, Writes, Lists}
use Rattle.listing.specs.Helpers.{Puts}
use Rattle.listing.specs.Claims.{Fits}
use Rattle.listing.proofs.Decimal.{decimal_length}
use Rattle.listing.proofs.Putting.{put_as}
use Rattle.listing.proofs.Sizes.{answers_most, answers_room}
use Rattle.std.specs.Prelude.{None, Some}

pub count_line_length : (count : ℕ) → length (count_line count) ≡ length (decimal count) + 9
count_line_length count = omega (arith, length-append (decimal count ++ text " answers") (10 ∷ []), length-append (decimal count) (text " answers"))

module _ (input : List ℕ) where
  pub listing_long : 65536 < length input → ended (text "input too long") ≡ listing input
  unfolding listing
  listing_long h = rw (lt-ltb 65536 (length input) h)

  pub listing_short : length input ≤ 65536 → (count : ℕ) → count ≡ length (answers input)
      → heading ++ entries (answers input) ++ count_line count ≡ listing input
  unfolding listing
  listing_short h count e = ap (λ (k : ℕ). heading ++ entries (answers input) ++ count_line k) e ∙ rw (le-ltb 65536 (length input) h)

  -- the count has at most five digits
  pub count_length : length input ≤ 65536 → (count : ℕ) → count ≡ length (answers input) → length (count_line count) ≤ 14
  count_length h count e = omega (arith, count_line_length count, decimal_length 4 count (omega (arith, answers_most input)))

pub fits : Fits
fits input =
    split (length input) 65536
    (λ h.
    let n : ℕ = length (answers input) in
    omega (arith, ap length (listing_short input h n refl), length-append (heading ++ entries (answers input)) (count_line n), length-append heading (entries (answers input)), count_length input h n refl, answers_room input))
    (λ h. omega (arith, ap length (listing_long input h)))

module _ (room' : Bool) (xs out : List ℕ) where
  pub writes_none : room' ≡ false → Writes room' xs out None out
  writes_none e = record { answer = rw e; left = rw e }

  pub writes_put : (r : ℕ) (out' : List ℕ) → room' ≡ true → Puts out 0 xs r out' → Writes room' xs out (Some r) out'
  writes_put r out' e p =
      let z : 0 + length xs ≡ length xs = omega arith in
      record { answer = rw e (ap wrote (p.place ∙ z)); left = rw e (p.left ∙ ap (λ (k : ℕ). xs ++ drop k out) z) }

module _ (input out : List ℕ) where
  pub lists_full : length out < 3 * length input + 32 → Lists input out None out
  lists_full h = writes_none (text_room (length input) (length out)) (listing input) out (lt-leb (3 * length input + 32) (length out) h)

  pub lists_wrote : (r : ℕ) (out' xs : List ℕ) → 3 * length input + 32 ≤ length out → xs ≡ listing input → Puts out 0 xs r out' → Lists input out (Some r) out'
  lists_wrote r out' xs h e p =
      writes_put (text_room (length input) (length out)) (listing input) out r out' (le-leb (3 * length input + 32) (length out) h) (put_as out 0 e p)

-- what was written lies within the output
pub wrote_inside : (input out : List ℕ) (r : Listed) (out' : List ℕ) (n : ℕ) → Lists input out r out' → r ≡ Some n → n ≤ length out
wrote_inside input out r out' n l e = go (text_room (length input) (length out)) refl (ap told_listed (sym e) ∙ l.answer)
  where
    go : (b : Bool) → text_room (length input) (length out) ≡ b → wrote n ≡ (if b then wrote (length (listing input)) else no_room) → n ≤ length out
    go true t q = let k : n ≡ length (listing input) = cc in omega (arith, fits input, leb-true (3 * length input + 32) (length out) t)
    go false t q = let z : ◌≡◌ {A = ℕ} 0 1 = cc in absurd (omega arith)
