-- The difference that wraps is how far the count moved forward.
use Rattle.std.proofs.Common.{sym, subst, arith, rules}
use Rattle.light.specs.Aliases.{Count}
use Rattle.light.specs.declared.Color.TheVariants.{First, Green, Stale, Restarted}
use Rattle.light.specs.Helpers.{Compared}
use Rattle.light.proofs.Telling.{compared_first, compared_stale, compared_green, compared_restarted}
use Rattle.light.proofs.compare.Goals as goal

pub returns-in_default : goal.returns-in_default
returns-in_default c =
    let a = c.args in
    subst (λ (k : Count). Compared k a.count First) (sym c.in_default.is) (compared_first a.count)

pub returns-then-forward-eq0 : goal.returns-then-forward-eq0
returns-then-forward-eq0 c =
    let a = c.args in
    subst (λ (k : Count). Compared k a.count Stale) (sym c.in-Some.is) (compared_stale _ a.count (search rules) c.if-forward-eq0.true)

pub returns-then-forward-le-MOST_FORWARD : goal.returns-then-forward-le-MOST_FORWARD
returns-then-forward-le-MOST_FORWARD c =
    let a = c.args in
    subst (λ (k : Count). Compared k a.count Green) (sym c.in-Some.is) (compared_green _ a.count (search rules) c.if-forward-eq0.false (omega (arith, c.if-forward-le-MOST_FORWARD.true)))

pub returns-else-forward-le-MOST_FORWARD : goal.returns-else-forward-le-MOST_FORWARD
returns-else-forward-le-MOST_FORWARD c =
    let a = c.args in
    subst (λ (k : Count). Compared k a.count Restarted) (sym c.in-Some.is) (compared_restarted _ a.count (search rules) (omega (arith, c.if-forward-le-MOST_FORWARD.false)))
