-- The claims of `specs/Claims.antt` beyond demand 3, proved: the walk of `intel` gives each answer its reason, and a reason its number.
-- Assumes nothing.
use Rattle.std.proofs.Common.{◌≡◌, ℕ, [], length, refl, ap, arith}
use Rattle.record.specs.Refusals.{number_of, contains_invalid_characters, missing_end_of_file_record, bad_window, bad_table}
use Rattle.digits.specs.Digits.{number_after}
use Rattle.record.specs.Line.{judge}
use Rattle.digits.specs.Reading.{named}
use Rattle.record.specs.Meaning.{meaning}
use Rattle.reader.specs.Lines.{lines}
use Rattle.reader.specs.Claims.{Offends}
use Rattle.steps.specs.Steps.{nothing_yet, Verdict, refused, stated}
use Rattle.steps.specs.Source as source
use Rattle.window.specs.Reasons.{bad_one, no_end, at_line}
use Rattle.window.specs.Window.{within}
use Rattle.window.specs.Claims.{Window}
use Rattle.window.specs.Table.{inside_of, BadTable}
use Rattle.window.proofs.Reasons.{load_reasons, table_reasons, why_among}
use Rattle.intel.specs.Placing.{intel, intel_by}
use Rattle.window.specs.Load.{stopping_by_window, load_window}
use Rattle.intel.specs.Lines.{in_force, data_records, account, line_refusals}
use Rattle.loader.specs.Claims.{Why, Reasons, ReasonsByTable, LoadNamesTheOffender, TotalByTable, Total, Examples}
use Rattle.intel.proofs.Reasons.{counted_none, walked}
use Rattle.intel.proofs.Claims.{lines_give, named_by}

pub examples : Examples
unfolding load_window stopping_by_window source.steps_of stated intel_by judge meaning number_after
examples = record { sixth_place = refl; unused_bits = refl; below_it = refl; same_twice = refl; two_kinds = refl; two_segments = refl; wraps = refl }

-- ---- reasons

pub reasons : Reasons
unfolding source.steps_of in_force data_records intel_by
reasons = load_reasons intel account (λ inside text. walked inside (lines text) 1 [] nothing_yet counted_none)

pub reasons_by_table : ReasonsByTable
unfolding source.steps_of in_force data_records intel_by
reasons_by_table = table_reasons intel account (λ inside text. walked inside (lines text) 1 [] nothing_yet counted_none)

-- ---- totality

pub total : Total
total text first page marks = why_among intel account line_refusals lines_give text (Window first page marks) (¬ Window first page marks) bad_window (within first (length page)) (reasons text first page marks)

pub total_by_table : TotalByTable
total_by_table owner rows text pool marks =
    let Bad = BadTable owner (length pool) (length marks) rows in why_among intel account line_refusals lines_give text (¬ Bad) Bad bad_table (inside_of owner rows) (reasons_by_table owner rows text pool marks)

-- ---- the offender

pub load_names_the_offender : LoadNamesTheOffender
load_names_the_offender text first page marks r n e two = go (reasons text first page marks) e
  where
    go : {v : Verdict} → Why text first page marks v → v ≡ refused r n → (place : ℕ) × Offends text n place × (r ≡ contains_invalid_characters (named place))
    go (bad_one w) q = let is : bad_window ≡ r = cc in absurd (omega (arith, ap number_of is))
    go (no_end w all) q = let is : missing_end_of_file_record ≡ r = cc in absurd (omega (arith, ap number_of is))
    go (at_line k v w d) q = named_by d q two
