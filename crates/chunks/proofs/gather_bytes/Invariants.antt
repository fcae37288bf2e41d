-- `chunks::gather_bytes`: the search with what was held at first is the search from here with what is held now.
-- Assumes nothing.
use Rattle.chunks.specs.Helpers.{held}
use Rattle.chunks.proofs.Pass.{Passing}
use Rattle.chunks.proofs.gather_bytes.Given as goal

abbrev pub invariant-loop-i : goal.invariant-loop-i
invariant-loop-i l = Passing l.chunk l.position l.initial.carry l.fn.used (held l.initial.carry l.fn.used l.fn.skipped l.fn.cr) l.i l.n l.k l.w l.carry
