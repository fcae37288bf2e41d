-- `reader::State::next` meets its contract: "done" at once, "done" where no line is left, or the next line read and settled.
-- Assumes nothing.
use Rattle.std.proofs.Common.{refl}
use Rattle.reader.proofs.Reading.{next_finished, next_none, next_read}
use Rattle.reader.proofs.State.next.Goals as goal

pub returns-then-self : goal.returns-then-self
returns-then-self c = let a = c.args in next_finished a.self a.text.now a.pool.now a.at c.if-self.true

pub returns-in_default : goal.returns-in_default
returns-in_default c =
    let a = c.args in
    let none = c.in_default.ensures in
    next_none a.self a.text.now a.pool.now a.at none.0 c.if-self.false none.1 c.at_end.result c.at_end.ensures

pub returns : goal.returns
returns c =
    let a = c.args in
    let r = c.read_record-answer in
    let spot = c.in-Some.spot in
    next_read a.self a.text.now a.pool.now a.at spot.line.now spot.next spot.empties
    c.if-self.false c.in-Some.ensures r.result r.new.pool r.ensures
    _ refl c.settle.result c.settle.ensures
