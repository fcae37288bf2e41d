-- `chunks::shown` meets its contract: each kind of place is a part of one buffer.
-- Assumes nothing.
use Rattle.std.proofs.Common.{rules}
use Rattle.chunks.proofs.shown.Statement.{statement}
use Rattle.chunks.proofs.shown.Tie as tie

returns : tie.Need-returns-in-InChunk
returns c = rw c.in-InChunk.is c.part.ensures

returns-2 : tie.Need-returns-in-InCarry
returns-2 c = rw c.in-InCarry.is c.part-in-InCarry.ensures

returns-3 : tie.Need-returns-in-Nowhere
returns-3 c = rw c.in-Nowhere.is c.part-in-Nowhere.ensures

pub shown_spec : {M : Type 1} → statement M
shown_spec =
    tie.close
    (tie.spec
    (λ c. search rules)
    (λ c κs. search rules)
    (λ c. search rules)
    (λ c κs. search rules)
    (λ c. search rules)
    (λ c κs. search rules)
    returns
    returns-2
    returns-3)
