-- The claim of `specs/Claims.antt`, proved.
-- Assumes nothing.
use Rattle.std.proofs.Common.{length, sym, ◌∙◌, arith}
use native.Mathlib.Decide.{dec_le}
use Rattle.copying.specs.Claims.{CopyUnique}

pub copy_unique : CopyUnique
copy_unique source target r r' t t' x y =
    elim (dec_le (length source) (length target)) [
      | yes h ↦ let (a, b) = x.all h in let (c, d) = y.all h in (a ∙ sym c, b ∙ sym d)
      | no h ↦ let (a, b) = x.none (omega arith) in let (c, d) = y.none (omega arith) in (a ∙ sym c, b ∙ sym d)
    ]
