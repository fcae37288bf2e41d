-- `reader::special` meets its contract: a law of `proofs/Payload.antt` for each type.
-- Assumes nothing.
use Rattle.std.proofs.Common.{sym, arith}
use Rattle.record.specs.Line.{size}
use Rattle.reader.proofs.Payload.{special_end, special_segment, special_linear, special_start, special_long, special_misfit}
use Rattle.reader.proofs.special.Goals as goal

pub returns-in-1 : goal.returns-in-1
returns-in-1 c = let a = c.args in special_end a.kind a.buf.now (omega arith) a.n c.in-1.is c.if-n-eq-END_OF_FILE.true

pub returns-in-2 : goal.returns-in-2
returns-in-2 c =
    let a = c.args in
    let w = c.from_be_bytes-first in
    special_segment a.kind a.buf.now (omega arith) w.result w.ensures a.n c.in-2.is c.if-n-eq-EXTENDED_SEGMENT_ADDRESS.true

pub returns-in-3 : goal.returns-in-3
returns-in-3 c =
    let a = c.args in
    let w = c.from_be_bytes-first in
    let v = c.from_be_bytes-second in
    special_start a.kind a.buf.now (omega arith) w.result w.ensures v.result v.ensures a.n c.in-3.is c.if-n-eq-START_SEGMENT_ADDRESS.true

pub returns-in-4 : goal.returns-in-4
returns-in-4 c =
    let a = c.args in
    let w = c.from_be_bytes-first in
    special_linear a.kind a.buf.now (omega arith) w.result w.ensures a.n c.in-4.is c.if-n-eq-EXTENDED_LINEAR_ADDRESS.true

pub returns-in-5 : goal.returns-in-5
returns-in-5 c =
    let a = c.args in
    let w = c.from_be_bytes-first in
    let v = c.from_be_bytes-second in
    special_long a.kind a.buf.now (omega arith) w.result w.ensures v.result v.ensures c.from_be_bytes.result a.n (omega arith) c.in-5.is c.if-n-eq-START_LINEAR_ADDRESS.true

pub returns-in_default : goal.returns-in_default
unfolding size
returns-in_default c =
    let a = c.args in
    special_misfit a.kind a.buf.now (omega arith) a.n (omega arith) (rw c.in-1.is (λ e. c.if-n-eq-END_OF_FILE.false (sym e)))

pub returns-in_default-2 : goal.returns-in_default-2
unfolding size
returns-in_default-2 c =
    let a = c.args in
    special_misfit a.kind a.buf.now (omega arith) a.n (omega arith) (rw c.in-2.is (λ e. c.if-n-eq-EXTENDED_SEGMENT_ADDRESS.false (sym e)))

pub returns-in_default-3 : goal.returns-in_default-3
unfolding size
returns-in_default-3 c =
    let a = c.args in
    special_misfit a.kind a.buf.now (omega arith) a.n (omega arith) (rw c.in-3.is (λ e. c.if-n-eq-START_SEGMENT_ADDRESS.false (sym e)))

pub returns-in_default-4 : goal.returns-in_default-4
unfolding size
returns-in_default-4 c =
    let a = c.args in
    special_misfit a.kind a.buf.now (omega arith) a.n (omega arith) (rw c.in-4.is (λ e. c.if-n-eq-EXTENDED_LINEAR_ADDRESS.false (sym e)))

pub returns-in_default-5 : goal.returns-in_default-5
unfolding size
returns-in_default-5 c =
    let a = c.args in
    special_misfit a.kind a.buf.now (omega arith) a.n (omega arith) (rw c.in-5.is (λ e. c.if-n-eq-START_LINEAR_ADDRESS.false (sym e)))
