-- The bytes are stored as one run, or as two if the record passes the last address.
-- Assumes nothing.
use Rattle.std.proofs.Common.{length, sym, arith, length-take-le, rules}
use Rattle.window.specs.Table.{site_of}
use Rattle.window.proofs.Spread.{stored_once, stored_twice}
use Rattle.window.proofs.Through.{put_through_site}
use Rattle.srecload.specs.Placing.{s_address}
use Rattle.srecload.proofs.Runs.{few, runs, from_address, from_zero}
use Rattle.srecload.proofs.put.Goals as goal

pub slice_bounds-put_run-end : goal.slice_bounds-put_run-end
slice_bounds-put_run-end c = sym (length-take-le c.first_run-run.result c.args.bytes.now (omega (arith, c.first_run-run.ensures)))

pub returns-then-run-bytes : goal.returns-then-run-bytes
returns-then-run-bytes c =
    let a = c.args in
    let rows = a.rows.now in
    let n = length a.bytes.now in
    let k = c.first_run-run in
    let p = c.put_run in
    stored_twice (s_address a.address) (site_of a.owner rows) a.bytes.now a.page.now a.marks.now k.result
    (few a.address n (search rules) c.requires.0 k.result k.ensures) (runs a.address n (search rules) c.requires.0 k.result k.ensures)
    a.address (from_address a.address n (search rules) c.requires.0 k.result k.ensures) _ _ (put_through_site a.owner rows a.address _ a.page.now a.marks.now _ _ c.requires.1 p.ensures)
    0 (from_zero a.address n (search rules) c.requires.0 k.result k.ensures c.if-run-bytes.true) _ _
    (put_through_site a.owner rows 0 _ _ _ _ _ (rw p.auto.page c.requires.1) c.put_run-then-run-bytes.ensures)

pub returns-else-run-bytes : goal.returns-else-run-bytes
returns-else-run-bytes c =
    let a = c.args in
    let rows = a.rows.now in
    let n = length a.bytes.now in
    let k = c.first_run-run in
    stored_once (s_address a.address) (site_of a.owner rows) a.bytes.now a.page.now a.marks.now k.result
    (few a.address n (search rules) c.requires.0 k.result k.ensures) (runs a.address n (search rules) c.requires.0 k.result k.ensures)
    a.address (from_address a.address n (search rules) c.requires.0 k.result k.ensures)
    _ _ (put_through_site a.owner rows a.address _ a.page.now a.marks.now _ _ c.requires.1 c.put_run.ensures) (omega (arith, c.if-run-bytes.false))
