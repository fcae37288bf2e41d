-- `writer::longer` meets its contract: by the cases of the definition.
-- Assumes nothing.
use Rattle.std.proofs.Common.{ℕ, ◌+◌, ap, ◌∙◌}
use Rattle.std.proofs.lemmas.Result.{err_from_is_err_and}
use Rattle.writer.specs.Told.{wrote}
use Rattle.writer.specs.Survey.{cap, longer}
use Rattle.writer.proofs.Surveying.{cap_twice, cap_min}
use Rattle.writer.proofs.longer.Goals as goal

pub returns-in_err-n : goal.returns-in_err-n
unfolding longer
returns-in_err-n c =
    let p = err_from_is_err_and c.from_residual.result c.from_residual.ensures.1 in
    rw (p.1, p.2, c.in_err-n.was)

pub returns-in_err-m : goal.returns-in_err-m
unfolding longer
returns-in_err-m c =
    let p = err_from_is_err_and c.from_residual-in_err-m.result c.from_residual-in_err-m.ensures.1 in
    rw (p.1, p.2, c.in_ok-n.was, c.in_err-m.was)

pub returns : goal.returns
unfolding longer
returns c =
    let n = c.in_ok-n.n in
    let m = c.in_ok-m.m in
    rw (c.in_ok-n.was, c.in_ok-m.was)
    (ap wrote
    (c.saturating_add-2.ensures
    ∙ cap_min (n + c.saturating_add.result)
    ∙ ap (λ (k : ℕ). cap (n + k)) (c.saturating_add.ensures ∙ cap_min (m + 1))
    ∙ cap_twice n (m + 1)))
