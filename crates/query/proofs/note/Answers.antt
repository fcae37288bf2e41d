-- `query::note` meets its contract: the byte at the index, if the record is long enough.
-- Assumes nothing.
use Rattle.std.proofs.Common.{◌≡◌, sym, refl, ◌∙◌, arith}
use Rattle.std.specs.Prelude.{None, Some}
use Rattle.query.specs.Aliases.{Found}
use Rattle.query.proofs.Index.{noted_there, noted_elsewhere}
use Rattle.query.proofs.note.Goals as goal

pub returns-in-Some : goal.returns-in-Some
returns-in-Some c =
    let a = c.args in
    noted_there a.pool.now a.offset a.at a.len a.aim a.found c.requires c.in-Some.i c.in-Some.ensures _ c.if-i-len.true refl

pub returns-in_default : goal.returns-in_default
returns-in_default c =
    let a = c.args in
    noted_elsewhere a.pool.now a.offset a.at a.len a.aim a.found c.requires c.index_of.result c.index_of.ensures (λ i h e. let same : ◌≡◌ {A = Found} (Some c.in-Some.i) (Some i) = sym c.in-Some.is ∙ e in let j : c.in-Some.i ≡ i = cc in omega arith)

pub returns-in_default-2 : goal.returns-in_default-2
returns-in_default-2 c =
    let a = c.args in
    noted_elsewhere a.pool.now a.offset a.at a.len a.aim a.found c.requires c.index_of.result c.index_of.ensures (λ i h e. let none : ◌≡◌ {A = Found} None (Some i) = sym c.in_default.is ∙ e in cc)
