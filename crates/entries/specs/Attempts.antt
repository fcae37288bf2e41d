-- What comes of an attempt to write a record in numbers, or a list of records in bytes: the contracts of `write_record`, `write_srecord` and
-- `write_list`.
-- Assumes nothing.
use Rattle.std.specs.Prelude.{ℕ, ◌≡◌, List, length}
use Rattle.std.proofs.Math.Option.{Option, none, some, map}
use Rattle.record.specs.declared.Record.{Record}
use Rattle.writer.specs.Told.{ToldWritten, told_written}
use Rattle.writer.specs.Text.{Text, place_behind, if_room, put_at}
use Rattle.writer.specs.Line.{line_text}
use Rattle.writer.specs.Object.{object}
use Rattle.srec.specs.declared.SRecord.{SRecord}
use Rattle.srec.specs.Writer as srec
use Rattle.entries.specs.Aliases.{Attempt}
use Rattle.entries.specs.Aliases.{SAttempt}
use Rattle.entries.specs.Entry.{record_of, srecord_of, records_of}
use Rattle.std.specs.Prelude.{None, Some}

-- what is answered for a text that is to be written from the output's start on; there is none where what was given is not a record
abbrev pub told_of : Option Text → (room : ℕ) → Option ToldWritten
told_of none room = none
told_of (some t) room = some (if_room (place_behind t 0) room)

-- the output with that text, if it has the room
abbrev pub output_with : Option Text → (out : List ℕ) → List ℕ
output_with none out = out
output_with (some t) out = put_at t out 0

-- what an attempt tells
abbrev pub told_attempt : Attempt → Option ToldWritten
told_attempt (Some answer) = some (told_written answer)
told_attempt None = none

abbrev pub told_sattempt : SAttempt → Option ToldWritten
told_sattempt (Some answer) = some (srec.told_swritten answer)
told_sattempt None = none

-- a text, if there is one, was written: what an attempt tells, and the output after it
pub record Attempts (t : Option Text) (out : List ℕ) (told : Option ToldWritten) (out' : List ℕ) : Type 0 where
  pub answer : told ≡ told_of t (length out)
  pub left : out' ≡ output_with t out

-- the text of a record in numbers, of an S-record in numbers, and of a list of records in bytes
abbrev pub record_text : (kind number second at len : ℕ) (pool : List ℕ) → Option Text
record_text kind number second at len pool = map (λ (x : Record). line_text x pool) (record_of kind number second at len)

abbrev pub srecord_text : (kind address at len : ℕ) (pool : List ℕ) → Option Text
srecord_text kind address at len pool = map (λ (x : SRecord). srec.line_text x pool) (srecord_of kind address at len)

abbrev pub list_text : (list pool : List ℕ) → Option Text
list_text list pool = map (λ (rs : List Record). object rs pool) (records_of list)

abbrev pub WriteRecord : (kind number second at len : ℕ) (pool out : List ℕ) → Attempt → (out' : List ℕ) → Type 0
WriteRecord kind number second at len pool out r out' = Attempts (record_text kind number second at len pool) out (told_attempt r) out'

abbrev pub WriteSRecord : (kind address at len : ℕ) (pool out : List ℕ) → SAttempt → (out' : List ℕ) → Type 0
WriteSRecord kind address at len pool out r out' = Attempts (srecord_text kind address at len pool) out (told_sattempt r) out'

abbrev pub WriteList : (list pool out : List ℕ) → Attempt → (out' : List ℕ) → Type 0
WriteList list pool out r out' = Attempts (list_text list pool) out (told_attempt r) out'
