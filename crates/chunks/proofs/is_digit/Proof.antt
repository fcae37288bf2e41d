-- `chunks::is_digit` meets its contract: a digit is what has a value under 16.
-- Assumes nothing.
use Rattle.std.proofs.Common.{ℕ, ltb, ap, rules}
use Rattle.chunks.proofs.is_digit.Statement.{statement}
use Rattle.chunks.proofs.is_digit.Tie as tie

returns : tie.Need-returns
returns c = ap (λ (v : ℕ). ltb v 16) c.digit_value.ensures.answer

pub is_digit_spec : {M : Type 1} → statement M
is_digit_spec = tie.close (tie.spec (λ c κs. search rules) returns)
