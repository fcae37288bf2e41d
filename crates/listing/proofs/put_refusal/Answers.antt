-- `listing::put_refusal` meets its contract: each part after the one before it.
-- Assumes nothing.
use Rattle.std.proofs.Common.{◌≡◌, ℕ, List, ◌++◌, length, sym, ◌∙◌, ap, ap₂, arith}
use Rattle.digits.specs.Common.{text}
use Rattle.reader.specs.declared.ReaderError.{ReaderError}
use Rattle.reader.specs.declared.Figures.{Figures}
use Rattle.reader.specs.Told.{refusal_of, FiguresOf}
use Rattle.listing.specs.Listing.{decimal, values_shown}
use Rattle.listing.specs.Helpers.{values_put}
use Rattle.listing.proofs.Putting.{put_then, put_as}
use Rattle.listing.proofs.Entry.{refusal_length, refusal_is, values_so}
use Rattle.listing.proofs.put_refusal.Goals as goal

-- what is printed of its figures' values
values_of : (e : ReaderError) {f : Figures} → FiguresOf e f → values_put f.values ≡ values_shown (refusal_of e)
values_of e x = ap values_put x.values_are ∙ values_so e

pub put_text-number-requires : goal.put_text-number-requires
put_text-number-requires c = omega (arith, refusal_length (refusal_of c.args.e))

pub put_decimal-values-requires : goal.put_decimal-values-requires
put_decimal-values-requires c =
    let n = ap (λ (k : ℕ). length (decimal k)) (c.from.ensures ∙ c.figures-figures.ensures.number_is) in
    omega (arith, refusal_length (refusal_of c.args.e))

pub put_values-requires : goal.put_values-requires
put_values-requires c =
    let f = c.figures-figures.ensures in
    let n = ap (λ (k : ℕ). length (decimal k)) (c.from.ensures ∙ f.number_is) in
    let v = ap length (values_of c.args.e f) in
    omega (arith, refusal_length (refusal_of c.args.e))

pub returns : goal.returns
returns c =
    let a = c.args in
    let r = refusal_of a.e in
    let f = c.figures-figures.ensures in
    let is = c.from.ensures ∙ f.number_is in
    let n = ap (λ (k : ℕ). length (decimal k)) is in
    let l = refusal_length r in
    put_as a.out.now a.at (ap₂ (λ (k : ℕ) (vs : List ℕ). text "! " ++ decimal k ++ vs) is (values_of a.e f) ∙ sym (refusal_is r))
    (put_then a.out.now a.at (omega arith) (put_then a.out.now a.at (omega arith) c.put_text-number.ensures c.put_decimal-values.ensures) c.put_values.ensures)
