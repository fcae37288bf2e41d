-- `listing::put_byte` meets its contract: the high digit, and the low one behind it.
-- Assumes nothing.
use Prim.Native.Nat.{ℕ, ◌/◌, ◌%◌, ◌<◌}
use mathlib.Core.Path.{◌≡◌, ◌∙◌, ap, ap₂}
use mathlib.Core.List.{[], ◌∷◌}
use native.Mathlib.Omega.{arith}
use Rattle.digits.specs.Spelling.{capital_digit, spelt}
use Rattle.listing.proofs.Putting.{put_then, put_as}
use borrow.Author.Rules.{rules}
use Rattle.listing.proofs.put_byte.Statement.{statement}
use Rattle.listing.proofs.put_byte.Tie as tie

returns : tie.Need-returns
unfolding spelt
returns c =
    let a = c.args in
    let s : a.b < 256 = search rules in
    let h : a.b / 16 % 16 ≡ a.b / 16 = omega arith in
    put_as a.out.now a.at (ap₂ (λ (x y : ℕ). x ∷ y ∷ []) (c.capital_digit.ensures.answer ∙ ap capital_digit h) c.capital_digit-2.ensures.answer)
    (put_then a.out.now a.at (omega (arith, c.requires)) c.put_char-low.ensures c.put_char.ensures)

pub put_byte_spec : {M : Type 1} → statement M
put_byte_spec =
    tie.close
    (tie.spec
    (λ c κs. search rules)
    (λ c κs. search rules)
    (λ c κs. search rules)
    (λ c κs. search rules)
    (λ c. search rules)
    returns)
