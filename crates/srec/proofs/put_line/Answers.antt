-- `srec::put_line` meets its contract: S and type, count, address, data and checksum, one after the other.
-- Assumes nothing.
use Rattle.std.proofs.Common.{◌≡◌, ℕ, ◌-◌, List, length, take, drop, refl, ap, ◌∙◌, arith}
use Rattle.digits.proofs.Parts.{rest_is}
use Rattle.record.specs.Written.{four_bytes}
use Rattle.srec.specs.Types.{width}
use Rattle.srec.specs.Record.{digit_of}
use Rattle.srec.specs.Written.{in_bytes}
use Rattle.srec.proofs.Lines.{four_are, line_put}
use Rattle.srec.proofs.put_line.Goals as goal

pub returns : goal.returns
returns c =
    let a = c.args in
    let d = digit_of a.kind in
    let w = c.width-w in
    let skip = 4 - w.result in
    let four : List ℕ = c.to_be_bytes-bytes.result in
    let place : List ℕ = take (4 - skip) (drop skip four) in
    let four_is : four ≡ four_bytes a.address = c.to_be_bytes-bytes.ensures ∙ four_are a.address c.ranges.address.fits in
    let size : length four ≡ 4 = ap length four_is in
    let e : place ≡ in_bytes (width d) a.address =
    rw size at (rest_is four skip) ∙ ap (drop skip) four_is ∙ ap (λ (n : ℕ). drop (4 - n) (four_bytes a.address)) w.ensures.0 in
    line_put d a.address a.payload.now a.out.now place c.requires e
    w.result (length a.payload.now) _ c.put-first.result c.put-second.result c.put-sum.result c.put.result
    w.ensures.0 refl (omega arith) (rw c.digit.ensures.answer at c.put-first.ensures) c.put-second.ensures c.put-sum.ensures c.put.ensures
