-- `entries::write_srecord` meets its contract: numbers that are an S-record are written as its line.
-- Assumes nothing.
use Rattle.std.proofs.Common.{ap}
use mathlib.Core.Option.{map}
use Rattle.srec.specs.declared.SType.{SType}
use Rattle.srec.specs.declared.SRecord.{SRecord}
use Rattle.srec.specs.Writer.{told_swritten, line_text}
use Rattle.entries.specs.Entry.{srecord_of}
use Rattle.entries.proofs.Types.{is_kind, is_nothing}
use Rattle.entries.proofs.Attempts.{not_given, made}
use Rattle.entries.proofs.write_srecord.Goals as goal

pub returns-in_err-type_of : goal.returns-in_err-type_of
returns-in_err-type_of c =
    let s = c.args in
    rw c.from_residual.ensures
    (not_given (λ (x : SRecord). line_text x s.pool.now) (srecord_of s.kind s.address s.at s.len) s.out.now
    (ap (map (λ (t : SType). record { kind = t; address = s.address; at = s.at; len = s.len })) (is_nothing s.kind c.in_err-type_of.ensures)))

pub returns : goal.returns
returns c =
    let s = c.args in
    let w = c.to_srecord_string in
    let t = c.in_ok-type_of.field-0 in
    made (λ (x : SRecord). line_text x s.pool.now) (srecord_of s.kind s.address s.at s.len) s.out.now
    (record { kind = t; address = s.address; at = s.at; len = s.len }) (told_swritten w.result) w.new.out
    (ap (map (λ (t : SType). record { kind = t; address = s.address; at = s.at; len = s.len })) (is_kind s.kind t c.in_ok-type_of.ensures)) w.ensures
