-- The survey of an object: what each call makes of it.
-- Assumes nothing.
use Rattle.std.specs.Prelude.{◌≡◌, ℕ, ◌+◌, false, List, nat_le, nat_lt}
use Rattle.std.specs.Prelude.{if◌then◌else◌}
use Rattle.record.specs.Refusals.{missing_end_of_file_record, multiple_end_of_file_records}
use Rattle.record.specs.declared.Record.{Record}
use Rattle.writer.specs.Aliases.{Written}
use Rattle.writer.specs.declared.Survey.{Survey}
use Rattle.writer.specs.Told.{ToldWritten, wrote, refuses, told_written}
use Rattle.writer.specs.Text.{place_behind, if_room}
use Rattle.writer.specs.Line.{line_text}
use Rattle.writer.specs.Object.{is_end}

-- the largest number of a `usize`, and a number that stays there
abbrev pub most : ℕ
most = 18446744073709551615

unfoldable pub cap : ℕ → ℕ
cap n = if nat_le n most then n else most

-- the length so far with one more line and its LF, or the first refusal
unfoldable pub longer : (done line : ToldWritten) → ToldWritten
unfolding cap
longer (wrote n) (wrote m) = wrote (cap (n + (m + 1)))
longer (wrote n) (refuses r) = refuses r
longer (refuses r) line = refuses r

-- the contract of `Survey::new`
pub record SurveyNew (r : Survey) : Type 0 where
  pub ends : r.ends ≡ 0
  pub ended : r.ended ≡ false
  pub total : told_written r.total ≡ wrote 0

-- the contract of `Survey::add`
pub record SurveyAdd (s : Survey) (record' : Record) (pool : List ℕ) (r : Survey) : Type 0 where
  pub ends : r.ends ≡ (if is_end record' then cap (s.ends + 1) else s.ends)
  pub ended : r.ended ≡ is_end record'
  pub total : told_written r.total ≡ longer (told_written s.total) (place_behind (line_text record' pool) 0)

-- what a survey comes to, if an output has this much room
abbrev pub surveyed : Survey → (room : ℕ) → ToldWritten
surveyed s room =
    if s.ended
    then (if nat_lt 1 s.ends then refuses (multiple_end_of_file_records s.ends) else if_room (told_written s.total) room)
    else refuses missing_end_of_file_record

-- the contract of `Survey::answer`
pub record SurveyAnswer (s : Survey) (room : ℕ) (r : Written) : Type 0 where
  pub answer : told_written r ≡ surveyed s room

-- where a writer begins, which writes all or nothing
abbrev pub begun : ToldWritten → ToldWritten
begun (wrote place) = wrote 0
begun (refuses r) = refuses r

-- the contract of `Survey::begin`
pub record SurveyBegin (s : Survey) (room : ℕ) (r : Written) : Type 0 where
  pub answer : told_written r ≡ begun (surveyed s room)
