-- `chunks::add` meets its contract: a CR waits, any other byte is pushed behind the CR that waited.
-- Assumes nothing.
use Rattle.std.proofs.Common.{refl, rules}
use Rattle.chunks.specs.Begun.{with_CR, push}
use Rattle.chunks.specs.Helpers.{held}
use Rattle.chunks.proofs.Carry.{onward, added_CR, added}
use Rattle.chunks.proofs.add.Statement.{statement}
use Rattle.chunks.proofs.add.Tie as tie

returns : tie.Need-returns-then-is_cr
returns c =
    let a = c.args in
    rw (added_CR (held a.carry.now a.used a.skipped a.cr) a.c c.if-is_cr.true) (c.with_cr-n.ensures, refl)

returns-2 : tie.Need-returns
returns-2 c =
    let a = c.args in
    let w = c.with_cr-n in
    let p = c.push-m in
    rw (added (held a.carry.now a.used a.skipped a.cr) a.c c.if-is_cr.false) (
      onward a.carry.now a.used (with_CR (held a.carry.now a.used a.skipped a.cr)) w.result.used w.result.skipped w.new.carry
          (push (with_CR (held a.carry.now a.used a.skipped a.cr)) a.c) p.result.used p.result.skipped p.new.carry w.ensures (rw (← w.ensures.holds) p.ensures),
      refl,
    )

pub add_spec : {M : Type 1} → statement M
add_spec =
    tie.close (tie.spec (λ c κs. search rules) (λ c. search rules) returns (λ c κs. search rules) (λ c. search rules) returns-2)
