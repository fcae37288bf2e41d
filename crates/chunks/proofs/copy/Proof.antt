-- `chunks::copy` meets its contract: what is copied to the start of the carry's rest stands at its place.
-- Assumes nothing.
use Rattle.std.proofs.Common.{ℕ, ◌+◌, ◌-◌, List, ◌++◌, length, take, drop, sym, ap, ◌∙◌, rules}
use lib.Seq.{take-length}
use Rattle.digits.proofs.Parts.{rest_copied}
use Rattle.chunks.proofs.copy.Statement.{statement}
use Rattle.chunks.proofs.copy.Tie as tie

returns : tie.Need-returns
returns c =
    let a = c.args in
    let carry : List ℕ = a.carry.now in
    let line : List ℕ = a.line.now in
    ap (λ (l : List ℕ). take a.used carry ++ (l ++ drop (length carry - a.used) (drop a.used carry))) (c.copy.ensures.all (search rules)).1
    ∙ rest_copied carry a.used line ∙ ap (λ (l : List ℕ). take a.used carry ++ l ++ drop (a.used + length line) carry) (sym (take-length line))

pub copy_spec : {M : Type 1} → statement M
copy_spec = tie.close (tie.spec (λ c. search rules) (λ c. search rules) (λ c. search rules) (λ c κs. search rules) (λ c. search rules) returns)
