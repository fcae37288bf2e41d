-- What the helpers of the writer of a list ask of and promise each other.
-- Assumes nothing.
use Rattle.std.specs.Prelude.{ℕ, ◌≡◌, List}
use Rattle.std.proofs.Math.Option.{none, some}
use Rattle.record.specs.declared.Record.{Record}
use Rattle.writer.specs.Aliases.{Written}
use Rattle.writer.specs.declared.Survey.{Survey}
use Rattle.writer.specs.Claims.{Surveys, Steps}
use Rattle.entries.specs.Aliases.{ListSurvey}
use Rattle.entries.specs.Entry.{records_of}
use Rattle.std.specs.Prelude.{None, Some}

-- bytes that are a list of records
pub record IsList (bytes : List ℕ) : Type 0 where
  pub records : List Record
  pub read : records_of bytes ≡ some records

-- a survey of the bytes' records
pub record ListSurveyWhole (bytes pool : List ℕ) (s : Survey) : Type 0 where
  pub listed : IsList bytes
  pub surveys : Surveys pool listed.records s

abbrev pub ListSurveyAs : (bytes pool : List ℕ) → ListSurvey → Type 0
ListSurveyAs bytes pool (Some s) = ListSurveyWhole bytes pool s
ListSurveyAs bytes pool None = records_of bytes ≡ none

-- the bytes' records were written one by one
abbrev pub Stepped : (bytes pool out : List ℕ) (start r : Written) (out' : List ℕ) → Type 0
Stepped bytes pool out start r out' = (rs : List Record) → records_of bytes ≡ some rs → Steps pool out start rs r out'
