-- `pass_blank`: what is left is passed from where the loop stands.
-- Assumes nothing.
use Rattle.std.proofs.Common.{◌≡◌, ℕ, length, sym, ap, ◌∙◌, arith}
use Rattle.listen.proofs.Blanks.{stands_next, stands_there, stands_last}
use Rattle.listen.proofs.pass_blank.Goals as goal

pub returns-then-not-is_blank : goal.returns-then-not-is_blank
returns-then-not-is_blank c =
    let a = c.args in
    let l = c.loop-at in
    stands_there a.chunk.now a.cr l.waits l.at c.loop-at-test.true l.invariant (sym c.is_blank.ensures ∙ c.if-not-is_blank.true)

pub loop-at-preserved : goal.loop-at-preserved
loop-at-preserved c =
    let a = c.args in
    let l = c.loop-at in
    stands_next a.chunk.now a.cr l.waits l.at c.loop-at-test.true l.invariant (sym c.is_blank.ensures ∙ c.if-not-is_blank.false)

pub returns : goal.returns
returns c =
    let a = c.args in
    let l = c.loop-at in
    let whole : length a.chunk.now ≡ l.at = omega arith in
    ap (λ (n : ℕ). record { at = n; cr = l.waits }) whole ∙ stands_last a.chunk.now a.cr l.waits l.at c.loop-at-test.false l.invariant
