-- `window::first_outside` meets its contract: from window to window, up to an address in none.
-- Assumes nothing.
use Rattle.std.proofs.Common.{arith}
use Rattle.window.specs.Table.{inside_of}
use Rattle.window.proofs.Tests.{outside_none, outside_at}
use Rattle.window.proofs.Finding.{all_more}
use Rattle.window.proofs.first_outside.Goals as goal

pub returns-then-room-eq0 : goal.returns-then-room-eq0
returns-then-room-eq0 c =
    let s = c.args in
    let l = c.loop-i in
    outside_at (inside_of s.owner s.rows.now) s.address s.len l.i c.loop-i-test.true l.invariant (c.room_at-room.ensures.none_there c.if-room-eq0.true)

pub loop-i-preserved : goal.loop-i-preserved
loop-i-preserved c =
    let s = c.args in
    let l = c.loop-i in
    let r = c.room_at-room in
    λ k h. all_more s.owner s.rows.now s.address l.i r.result l.invariant r.ensures k (omega (arith, c.saturating_add-i.ensures))

pub returns : goal.returns
returns c =
    let s = c.args in
    outside_none (inside_of s.owner s.rows.now) s.address s.len (λ k h. c.loop-i.invariant k (omega (arith, c.loop-i-test.false)))
