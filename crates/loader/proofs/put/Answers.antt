-- The bytes are stored as one run, or as two if the record passes the end of its segment.
-- Assumes nothing.
use Rattle.std.proofs.Common.{length, sym, arith, length-take-le, rules}
use Rattle.window.specs.Table.{site_of}
use Rattle.window.proofs.Spread.{stored_once, stored_twice}
use Rattle.window.proofs.Through.{put_through_site}
use Rattle.intel.specs.Placing.{byte_address}
use Rattle.loader.specs.Helpers.{based}
use Rattle.loader.proofs.Runs.{few, runs}
use Rattle.loader.proofs.put.Goals as goal

pub slice_bounds-put_run-end : goal.slice_bounds-put_run-end
slice_bounds-put_run-end c = sym (length-take-le c.first_run-run.result c.args.bytes.now (omega (arith, c.first_run-run.ensures)))

pub returns-then-run-bytes : goal.returns-then-run-bytes
returns-then-run-bytes c =
    let a = c.args in
    let k = c.first_run-run in
    let rows = a.rows.now in
    let p = c.put_run in
    let q = c.put_run-then-run-bytes in
    stored_twice (byte_address (based a.base) a.offset) (site_of a.owner rows) a.bytes.now a.page.now a.marks.now k.result
    (few a.base a.offset (length a.bytes.now) (search rules) c.requires.0 k.result k.ensures) (runs a.base a.offset (length a.bytes.now) (search rules) c.requires.0 k.result k.ensures)
    c.byte_address.result c.byte_address.ensures _ _ (put_through_site a.owner rows _ _ _ _ _ _ c.requires.1 p.ensures)
    c.byte_address-then-run-bytes.result c.byte_address-then-run-bytes.ensures _ _ (put_through_site a.owner rows _ _ _ _ _ _ (rw p.auto.page c.requires.1) q.ensures)

pub returns-else-run-bytes : goal.returns-else-run-bytes
returns-else-run-bytes c =
    let a = c.args in
    let k = c.first_run-run in
    let rows = a.rows.now in
    stored_once (byte_address (based a.base) a.offset) (site_of a.owner rows) a.bytes.now a.page.now a.marks.now k.result
    (few a.base a.offset (length a.bytes.now) (search rules) c.requires.0 k.result k.ensures) (runs a.base a.offset (length a.bytes.now) (search rules) c.requires.0 k.result k.ensures)
    c.byte_address.result c.byte_address.ensures _ _ (put_through_site a.owner rows _ _ _ _ _ _ c.requires.1 c.put_run.ensures) (omega (arith, c.if-run-bytes.false))
