-- `listing::put_decimal` meets its contract: one digit, or the digits of a tenth of the number and the last one behind them.
-- Assumes nothing.
use Rattle.std.proofs.Common.{◌≡◌, ℕ, ◌/◌, ◌%◌, [], ◌∷◌, ◌++◌, length, sym, ◌∙◌, ap, arith, length-append}
use Rattle.digits.specs.Spelling.{capital_digit}
use Rattle.listing.specs.Listing.{decimal}
use Rattle.listing.proofs.Putting.{put_then, put_as}
use Rattle.listing.proofs.Decimal.{decimal_small, decimal_more}
use Rattle.listing.proofs.+put_decimal.Goals as goal

pub put_char-requires : goal.put_char-requires
put_char-requires t c = omega (arith, c.requires, ap length (decimal_small c.args.n c.if-n-lt10.true))

pub returns-then-n-lt10 : goal.returns-then-n-lt10
returns-then-n-lt10 t c =
    let a = c.args in
    let z : a.n % 16 ≡ a.n = omega (arith, c.if-n-lt10.true) in
    put_as a.out.now a.at (ap (λ (x : ℕ). x ∷ []) (c.capital_digit.ensures.answer ∙ ap capital_digit z) ∙ sym (decimal_small a.n c.if-n-lt10.true)) c.put_char.ensures

pub put_decimal-last-requires : goal.put_decimal-last-requires
put_decimal-last-requires t c =
    let a = c.args in
    let l = ap length (decimal_more a.n c.if-n-lt10.false) in
    let m = length-append (decimal (a.n / 10)) (capital_digit (a.n % 10) ∷ []) in
    (omega (arith, c.decreases, c.if-n-lt10.false), omega (arith, c.requires))

pub put_char-requires-2 : goal.put_char-requires-2
put_char-requires-2 t c =
    let a = c.args in
    let l = ap length (decimal_more a.n c.if-n-lt10.false) in
    let m = length-append (decimal (a.n / 10)) (capital_digit (a.n % 10) ∷ []) in
    omega (arith, c.requires, c.put_decimal-last.ensures.place, c.put_decimal-last.auto)

pub returns : goal.returns
returns t c =
    let a = c.args in
    let l = ap length (decimal_more a.n c.if-n-lt10.false) in
    let m = length-append (decimal (a.n / 10)) (capital_digit (a.n % 10) ∷ []) in
    let z : a.n % 10 % 16 ≡ a.n % 10 = omega arith in
    put_as a.out.now a.at (ap (λ (x : ℕ). decimal (a.n / 10) ++ (x ∷ [])) (c.capital_digit-2.ensures.answer ∙ ap capital_digit z) ∙ sym (decimal_more a.n c.if-n-lt10.false))
    (put_then a.out.now a.at (omega (arith, c.requires)) c.put_decimal-last.ensures c.put_char-2.ensures)
