-- A data record is put, any other leaves page and marks as they are.
-- Assumes nothing.
use Rattle.window.specs.Table.{site_of}
use Rattle.loader.specs.Helpers.{based}
use Rattle.loader.proofs.Meeting.{idle, painted_data}
use Rattle.loader.proofs.write_record.Goals as goal

pub returns-in-Data : goal.returns-in-Data
returns-in-Data c =
    let a = c.args in
    let d = c.in-Data in
    painted_data (site_of a.owner a.rows.now) (based a.base) a.given a.pool.now a.page.now a.marks.now d.offset d.at d.len _ _ d.is c.put.ensures

pub returns-in_default : goal.returns-in_default
returns-in_default c =
    let a = c.args in idle (site_of a.owner a.rows.now) (based a.base) a.given a.pool.now a.page.now a.marks.now c.in_default.not-Data
