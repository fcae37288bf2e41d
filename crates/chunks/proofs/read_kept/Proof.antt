-- `chunks::read_kept` meets its contract: the bytes are read, and what is told of them is moved.
-- Assumes nothing.
use Rattle.std.proofs.Common.{rules}
use Rattle.chunks.proofs.Moved.{reads_line}
use Rattle.chunks.proofs.read_kept.Statement.{statement}
use Rattle.chunks.proofs.read_kept.Tie as tie

returns : tie.Need-returns
returns c =
    let a = c.args in
    let q = c.read_record in
    reads_line (record { bytes = a.bytes.now; skipped = a.skipped }) a.pool.now a.at q.result c.answer_in_line.result q.new.pool c.requires q.ensures c.answer_in_line.ensures

pub read_kept_spec : {M : Type 1} → statement M
read_kept_spec = tie.close (tie.spec (λ c κs. search rules) (λ c κs. search rules) (λ c. search rules) returns)
