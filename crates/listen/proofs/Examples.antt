-- The examples, by computation.
-- Assumes nothing.
use mathlib.Core.Path.{refl}
use Rattle.record.specs.Line.{judge}
use Rattle.record.specs.Meaning.{meaning}
use Rattle.steps.specs.Taken.{at_line}
use Rattle.intel.specs.Placing.{intel_by}
use Rattle.listen.specs.Listen.{listen, listen_on}
use Rattle.listen.specs.Examples.{Examples}

pub examples : Examples
unfolding listen listen_on at_line intel_by judge meaning
examples =
    record {
      own_end = refl;
      either = refl;
      found = refl;
      no_beginning = refl;
      one_lost = refl;
      next_found = refl;
      tail_skipped = refl;
      dump_found = refl;
      not_counted = refl;
      counted = refl;
      after_garbage = refl;
      broken_off = refl;
    }
