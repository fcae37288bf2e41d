-- `chunks::fresh` meets its contract: what is left of the chunk has no LF and goes into the carry, or a line is found where it lies.
-- Assumes nothing.
use Rattle.std.proofs.Common.{subst, arith, rules}
use Rattle.chunks.specs.declared.Cut.{Cut}
use Rattle.chunks.specs.Helpers.{CutAt, WholeLine, OpenLine}
use Rattle.chunks.proofs.Paths.{fresh_open, fresh_line}
use Rattle.chunks.proofs.fresh.Statement.{statement}
use Rattle.chunks.proofs.fresh.Tie as tie

opened : (c : tie.In-Open)
    → let a = c.args in
    OpenLine a.chunk.now a.position a.empties c.in-Open.from c.in-Open.n
opened c =
    let a = c.args in
    subst (λ (x : Cut). CutAt a.chunk.now a.position a.empties x) c.in-Open.is c.find.ensures

whole : (c : tie.In-Whole)
    → let a = c.args in
    WholeLine a.chunk.now a.position a.empties c.in-Whole.from c.in-Whole.len c.in-Whole.next c.in-Whole.n
whole c =
    let a = c.args in
    subst (λ (x : Cut). CutAt a.chunk.now a.position a.empties x) c.in-Whole.is c.find.ensures

gather-requires : tie.Need-gather-g-requires
gather-requires c κs = ((opened c.before).inside, omega arith, c.requires.1)

returns : tie.Need-returns-in-Open
returns c =
    let a = c.args in
    let g = c.gather-g in
    fresh_open a.s a.chunk.now a.position a.empties c.in-Open.from c.in-Open.n a.carry.now
    g.result.position g.result.used g.result.skipped g.result.cr c.used_up.result g.new.carry (opened c.before.before.before.before.before) g.ensures.0
    (omega (arith, g.ensures.1.within, g.auto.carry, c.requires)) c.used_up.ensures

returns-2 : tie.Need-returns-in-Whole
returns-2 c =
    let a = c.args in
    fresh_line a.s a.chunk.now a.position a.empties c.in-Whole.from c.in-Whole.len c.in-Whole.next c.in-Whole.n c.found.result a.carry.now (whole c.before) c.found.ensures

pub fresh_spec : {M : Type 1} → statement M
fresh_spec =
    tie.close
    (tie.spec
    (λ c κs. search rules)
    (λ c. search rules)
    gather-requires
    (λ c κs. search rules)
    (λ c. search rules)
    (λ c κs. search rules)
    (λ c. search rules)
    returns
    returns-2)
