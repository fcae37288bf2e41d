-- The bytes are two runs, and the first of them outside is the first run's or the second's.
-- Assumes nothing.
use Rattle.std.proofs.Common.{◌≡◌, ℕ, true, false, refl, sym, ◌∙◌, true≢false, arith, rules, Some, None, is_some}
use Rattle.window.specs.Aliases.{Reach}
use Rattle.window.specs.Table.{inside_of}
use Rattle.window.proofs.Spread.{code_whole, code_low, code_high, code_inside}
use Rattle.srecload.specs.Placing.{s_address}
use Rattle.srecload.proofs.Runs.{few, runs, from_address, from_zero}
use Rattle.srecload.proofs.survey.Goals as goal
use Rattle.srecload.proofs.survey.Goals.{then-run-len-via-then-run-len, then-run-len-via-else-run-len+then-is_some}

pub overflow_add-result : goal.overflow_add-result
overflow_add-result c = omega (arith, c.in_ok-i.ensures.among c.in_ok-i.i refl)

-- a byte of the first run is outside
reached : (r : Reach) → is_some r ≡ true → (i : ℕ) × (r ≡ Some i)
reached (Some i) e = (i, refl)
reached None e = absurd (true≢false (sym e))

not_reached : (r : Reach) → is_some r ≡ false → r ≡ None
not_reached (Some i) e = absurd (true≢false e)
not_reached None e = refl

pub returns-then-run-len : goal.returns-then-run-len
returns-then-run-len c =
    let a = c.args in
    let k = c.first_run-run in
    let f = few a.address a.len (search rules) c.requires k.result k.ensures in
    let r = runs a.address a.len (search rules) c.requires k.result k.ensures in
    let from = from_address a.address a.len (search rules) c.requires k.result k.ensures in
    let at = s_address a.address in
    let inside = inside_of a.owner a.rows.now in
    let low = c.first_outside-low in
    elim c.then-run-len.branch [
      | then-run-len-via-then-run-len w ↦ code_whole at a.len inside k.result f r a.address from w.if-run-len.true low.result (rw w.if-run-len.true at low.ensures)
      | then-run-len-via-else-run-len+then-is_some w ↦
          let (i, e) = reached low.result (sym w.is_some.ensures ∙ w.if-is_some.true) in
          rw e (code_low at a.len inside k.result f r a.address from low.result low.ensures i e)
    ]

pub returns-in_err-i : goal.returns-in_err-i
returns-in_err-i c =
    let a = c.args in
    let k = c.first_run-run in
    let low = c.first_outside-low in
    rw c.from_residual.ensures (code_inside (s_address a.address) a.len (inside_of a.owner a.rows.now) k.result
    (few a.address a.len (search rules) c.requires k.result k.ensures) (runs a.address a.len (search rules) c.requires k.result k.ensures)
    a.address (from_address a.address a.len (search rules) c.requires k.result k.ensures) low.result low.ensures (not_reached low.result (sym c.is_some.ensures ∙ c.if-is_some.false))
    0 (from_zero a.address a.len (search rules) c.requires k.result k.ensures (omega (arith, k.ensures, c.if-run-len.false))) c.first_outside.result c.first_outside.ensures c.in_err-i.was)

pub returns : goal.returns
returns c =
    let a = c.args in
    let k = c.first_run-run in
    let low = c.first_outside-low in
    code_high (s_address a.address) a.len (inside_of a.owner a.rows.now) k.result
    (few a.address a.len (search rules) c.requires k.result k.ensures) (runs a.address a.len (search rules) c.requires k.result k.ensures)
    a.address (from_address a.address a.len (search rules) c.requires k.result k.ensures) low.result low.ensures (not_reached low.result (sym c.is_some.ensures ∙ c.if-is_some.false))
    0 (from_zero a.address a.len (search rules) c.requires k.result k.ensures (omega (arith, k.ensures, c.if-run-len.false))) c.first_outside.result c.first_outside.ensures c.in_ok-i.i c.in_ok-i.was
