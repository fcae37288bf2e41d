-- The examples, by computation.
-- Assumes nothing.
use mathlib.Core.Path.{refl}
use Rattle.digits.specs.Digits.{number_after}
use Rattle.record.specs.Written.{written}
use Rattle.record.specs.Line.{judge}
use Rattle.record.specs.Meaning.{meaning}
use Rattle.steps.specs.Steps.{stated}
use Rattle.steps.specs.Source.{steps_of}
use Rattle.intel.specs.Placing.{intel_by}
use Rattle.salvage.specs.Salvage.{clean, removed}
use Rattle.salvage.specs.Claims.{Limits, Examples}

pub examples : Examples
unfolding clean removed written number_after judge meaning
examples =
    record {
      nothing_clean = refl;
      nothing_removed = refl;
      banner_clean = refl;
      banner_removed = refl;
      again_clean = refl;
      again_removed = refl;
      added_clean = refl;
      added_removed = refl;
      start_clean = refl;
      start_removed = refl;
      rewritten_clean = refl;
      rewritten_removed = refl;
    }

pub limits : Limits
unfolding steps_of stated intel_by clean removed written number_after judge meaning
limits =
    record {
      older_kept = refl;
      older_stated = refl;
      tail_kept = refl;
      tail_removed = refl;
      tail_stated = refl;
      emptied_kept = refl;
      emptied_removed = refl;
      emptied_stated = refl;
      lost_kept = refl;
      lost_removed = refl;
      cancelled_kept = refl;
      cancelled_removed = refl;
    }
