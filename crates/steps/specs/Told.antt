-- What a load's answer in code tells, in document 01's numbers. The claims are proved in `proofs/Told.antt`.
-- Assumes nothing.
use Rattle.std.specs.Prelude.{◌≡◌, ℕ, Bool, true, false}
use Rattle.std.proofs.Math.Option.{Option, none, some}
use Rattle.record.specs.Refusals.{Refusal, missing_end_of_file_record, bad_window, outside_window, count_mismatch, start_conflict, bad_table}
use Rattle.reader.specs.Told.{refusal_of}
use Rattle.steps.specs.declared.LoaderError.{LoaderError}
use Rattle.steps.specs.declared.LoaderError.TheVariants.{Line, MissingEndOfFileRecord, BadWindow, OutsideWindow, CountMismatch, StartConflict, BadTable}
use Rattle.steps.specs.Aliases.{Loading}
use Rattle.steps.specs.Aliases.{Stated as CodeStart}
use Rattle.steps.specs.declared.Start.TheVariants.{Segment, Linear}
use Rattle.steps.specs.declared.Tally.{Tally as CodeTally}
use Rattle.steps.specs.declared.Refused.{Refused}
use Rattle.steps.specs.Steps.{Start, cs_with_ip, linear_address, Tally, Verdict, accepted, refused, differ}
use Rattle.std.specs.Prelude.{None, Ok, Some}
use Rattle.std.specs.Prelude.{Err}

abbrev pub loader_refusal : LoaderError → Refusal
loader_refusal (Line e) = refusal_of e
loader_refusal MissingEndOfFileRecord = missing_end_of_file_record
loader_refusal BadWindow = bad_window
loader_refusal (OutsideWindow address) = outside_window address
loader_refusal (CountMismatch stated seen) = count_mismatch stated seen
loader_refusal StartConflict = start_conflict
loader_refusal BadTable = bad_table

abbrev pub told_start : CodeStart → Option Start
told_start None = none
told_start (Some (Segment cs ip)) = some (cs_with_ip cs ip)
told_start (Some (Linear address)) = some (linear_address address)

abbrev pub tallied : CodeTally → Tally
tallied t = record { records = t.records; start = told_start t.start }

abbrev pub told_loading : Loading → Verdict
told_loading (Ok tally) = accepted (tallied tally)
told_loading (Err z) = refused (loader_refusal z.why) z.line

-- is it an acceptance?
abbrev pub is_accepted : Loading → Bool
is_accepted (Ok tally) = true
is_accepted (Err z) = false

-- the contract of `is_accepted`
pub record IsAccepted (l : Loading) (r : Bool) : Type 0 where
  pub answer : r ≡ is_accepted l

abbrev pub IsAcceptedUnique : Type 0
IsAcceptedUnique = (l : Loading) (r r' : Bool) → IsAccepted l r → IsAccepted l r' → r ≡ r'

-- the contract of `differs_from`
pub record DiffersFrom (s first : CodeStart) (r : Bool) : Type 0 where
  pub answer : r ≡ differ (told_start first) (told_start s)

abbrev pub DiffersFromUnique : Type 0
DiffersFromUnique = (s first : CodeStart) (r r' : Bool) → DiffersFrom s first r → DiffersFrom s first r' → r ≡ r'

-- what is told says which answer it was
abbrev pub ToldApart : Type 0
ToldApart = (a b : Loading) → told_loading a ≡ told_loading b → a ≡ b

-- the contract of `LoaderError::at`
pub record RefusedAt (why : LoaderError) (line : ℕ) (r : Refused) : Type 0 where
  pub answer : r ≡ record { why = why; line = line }

abbrev pub AtUnique : Type 0
AtUnique = (why : LoaderError) (line : ℕ) (r r' : Refused) → RefusedAt why line r → RefusedAt why line r' → r ≡ r'
