-- `srec::measure` meets its contract: a law of `proofs/Measuring.antt` for each answer.
-- Assumes nothing.
use Rattle.std.proofs.Common.{ℕ, ltb, sym, ap, ◌∙◌, arith}
use Rattle.writer.specs.Told.{wrote}
use Rattle.srec.specs.Written.{beyond}
use Rattle.srec.proofs.Measuring.{outside, misfit, too_long, too_wide, fits_line}
use Rattle.srec.proofs.measure.Goals as goal
use Rattle.srec.proofs.measure.Goals.{then-len-pool-via-then-len-pool, then-len-pool-via-else-len-pool+then-record-pool}

pub returns-then-len-pool : goal.returns-then-len-pool
returns-then-len-pool c =
    let r = c.args.«record» in
    outside r c.args.pool.now
    (elim c.then-len-pool.branch [ then-len-pool-via-then-len-pool w ↦ omega arith | then-len-pool-via-else-len-pool+then-record-pool w ↦ omega arith ])

pub returns-then-not-may_hold : goal.returns-then-not-may_hold
returns-then-not-may_hold c = misfit c.args.«record» c.args.pool.now (omega arith) (sym c.may_hold.ensures ∙ c.if-not-may_hold.true)

pub returns-then-len-w : goal.returns-then-len-w
returns-then-len-w c =
    let w = c.width-w.ensures in
    too_long c.args.«record» c.args.pool.now (omega arith) (sym c.may_hold.ensures ∙ c.if-not-may_hold.false) (omega arith)

pub returns-then-not-fits_in : goal.returns-then-not-fits_in
returns-then-not-fits_in c =
    let r = c.args.«record» in
    let w = c.width-w.ensures in
    too_wide r c.args.pool.now (omega arith) (sym c.may_hold.ensures ∙ c.if-not-may_hold.false) (omega arith)
    (ap (λ (n : ℕ). ltb r.address (beyond n)) (sym w.0) ∙ sym c.fits_in.ensures ∙ c.if-not-fits_in.true)

pub returns : goal.returns
returns c =
    let r = c.args.«record» in
    let w = c.width-w.ensures in
    ap wrote (omega arith)
    ∙ fits_line r c.args.pool.now (omega arith) (sym c.may_hold.ensures ∙ c.if-not-may_hold.false) (omega arith)
    (ap (λ (n : ℕ). ltb r.address (beyond n)) (sym w.0) ∙ sym c.fits_in.ensures ∙ c.if-not-fits_in.false)
