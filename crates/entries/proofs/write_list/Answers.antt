-- `entries::write_list` meets its contract: the survey and the steps make an object.
-- Assumes nothing.
use Rattle.std.proofs.Common.{List, arith}
use Rattle.record.specs.declared.Record.{Record}
use Rattle.writer.specs.Told.{told_written}
use Rattle.writer.specs.Object.{object}
use Rattle.writer.proofs.Stepping.{object_written}
use Rattle.entries.specs.Entry.{records_of}
use Rattle.entries.proofs.Listing.{listed_length}
use Rattle.entries.proofs.Attempts.{made}
use Rattle.entries.proofs.write_list.Goals as goal

pub returns : goal.returns
returns c =
    let list = c.args.list.now in
    let pool = c.args.pool.now in
    let whole = c.in_ok-survey_list.ensures in
    let rs = whole.listed.records in
    let b = c.begin-start in
    let w = c.write_each in
    made (λ (qs : List Record). object qs pool) (records_of list) c.args.out.now rs (told_written w.result) w.new.out whole.listed.read
    (object_written rs pool c.args.out.now c.in_ok-survey_list.field-0 b.result w.result w.new.out
    (omega (arith, listed_length list rs whole.listed.read)) (omega arith)
    whole.surveys b.ensures (w.ensures rs whole.listed.read))
