-- `reader::digits_or` meets its contract: a search that ends inside the line has found a byte that is no digit.
-- Assumes nothing.
use Rattle.std.proofs.Common.{◌≡◌, suc, ◌+◌, ◌-◌, length, take, drop, ap, ◌∙◌, arith, length-drop}
use Rattle.digits.specs.Digits.{leading}
use Rattle.digits.specs.Reading.{named}
use Rattle.digits.proofs.Leading.{found_other, found_all}
use Rattle.digits.proofs.Parts.{rest_is}
use Rattle.reader.specs.declared.ReaderError.TheVariants.{ContainsInvalidCharacters}
use Rattle.reader.proofs.digits_or.Goals as goal

pub returns-then-good-line : goal.returns-then-good-line
returns-then-good-line c =
    let l = c.args.line.now in
    let f : c.first_other-good.result ≡ leading (take (length l - 1) (drop 1 l)) = c.first_other-good.ensures.answer in
    let e = f ∙ ap leading (rest_is l 1) in
    let g : c.first_other-good.result + 1 ≡ suc (leading (drop 1 l)) = omega arith in
    rw (found_other (drop 1 l) (omega (arith, length-drop 1 l, c.if-good-line.true)))
    (ap ContainsInvalidCharacters (c.name_place.ensures.answer ∙ ap named g))

pub returns : goal.returns
returns c =
    let l = c.args.line.now in
    let f : c.first_other-good.result ≡ leading (take (length l - 1) (drop 1 l)) = c.first_other-good.ensures.answer in
    let e = f ∙ ap leading (rest_is l 1) in
    rw (found_all (drop 1 l) (omega (arith, length-drop 1 l, c.if-good-line.false)))
