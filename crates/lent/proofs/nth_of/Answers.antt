-- `lent::nth_of` meets its contract: each ask leaves what the others come to as it was, and the last is what they came to.
-- Assumes nothing.
use Rattle.std.proofs.Common.{◌≡◌, ℕ, ◌-◌, List, Bor, ap, ap₂, ◌∙◌, subst, arith}
use Rattle.reader.specs.declared.State.{State}
use Rattle.reader.specs.Text.{Outcome, Meets}
use Rattle.lent.specs.Lent.{asked}
use Rattle.lent.proofs.Turns.{goes_on, the_last}
use Rattle.lent.proofs.nth_of.Goals as goal

pub loop-init : goal.loop-init
loop-init c =
    let a = c.args in
    let r = c.new_with_options-reader in
    let all : a.n - 0 ≡ a.n = omega arith in
    ap (λ (n : ℕ). asked n r.result.state r.result.text.now a.pool.now a.at) all
    ∙ ap₂ (λ (s : State) (t : Bor (List ℕ)). asked a.n s t.now a.pool.now a.at) r.ensures.stands r.ensures.holds

pub loop-preserved : goal.loop-preserved
loop-preserved c = goes_on c.next.ensures c.args.n c.loop.counter c.loop-test.true ∙ c.loop.invariant

pub returns : goal.returns
returns c =
    let last = c.next-reply in
    let m =
    subst (λ (o : Outcome). Meets o (record { reply = last.result; state = last.new.self.state }) last.new.pool) c.loop.invariant
    (the_last last.ensures c.args.n c.loop.counter c.loop-test.false) in
    record { answer = m.answer; state = m.state; left = m.left }
