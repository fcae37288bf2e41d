-- `chunks::Chunks::finish` meets its contract: the last line is read in the carry and settled, and any other reply is handed on.
-- Assumes nothing.
use Rattle.std.proofs.Common.{◌≡◌, refl, inl, inr}
use Rattle.chunks.specs.declared.LineReply.TheVariants.{CarryTooSmall}
use Rattle.chunks.proofs.FirstTests.{last_other}
use Rattle.chunks.proofs.Reading.{finish_reads}
use Rattle.chunks.proofs.Chunks.finish.Goals as goal

pub returns-in-InCarry : goal.returns-in-InCarry
returns-in-InCarry c =
    let a = c.args in
    let l = c.last_line-step in
    let q = c.read_kept-answer in
    finish_reads a.self a.carry.now a.pool.now a.at l.result c.settle.result l.new.carry q.new.pool l.ensures
    (rw c.in-InCarry.is (q.result, q.ensures, c.settle.ensures))

pub returns-in-Done : goal.returns-in-Done
returns-in-Done c =
    let a = c.args in
    let l = c.last_line-step in
    finish_reads a.self a.carry.now a.pool.now a.at l.result c.plain.result l.new.carry a.pool.now l.ensures
    (rw c.in-Done.is (c.plain.ensures, refl))

pub returns-in-CarryTooSmall : goal.returns-in-CarryTooSmall
returns-in-CarryTooSmall c =
    let a = c.args in
    let l = c.last_line-step in
    let small : l.result.reply ≡ CarryTooSmall =
    elim c.in-CarryTooSmall.is [
      | inl e ↦ e
      | inr other ↦ last_other a.self a.carry.now l.result l.new.carry l.ensures
          (λ n k e. elim other [ inl o ↦ cc | inr o ↦ cc ]) (λ e. elim other [ inl o ↦ cc | inr o ↦ cc ])
    ] in
    finish_reads a.self a.carry.now a.pool.now a.at l.result c.plain-in-CarryTooSmall.result l.new.carry a.pool.now l.ensures
    (rw small (c.plain-in-CarryTooSmall.ensures, refl))
