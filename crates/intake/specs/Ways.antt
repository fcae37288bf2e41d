-- How a text is taken, by its kind and by whether it is passed over: the source that says what a line does, how the code's base and tally stand for where
-- a load stands, and what of them stays.
-- Assumes nothing.
use Rattle.std.specs.Prelude.{◌≡◌, Bool, true, false, List}
use Rattle.std.proofs.Math.Option.{none}
use Rattle.steps.specs.declared.Tally.{Tally as CodeTally}
use Rattle.steps.specs.Steps.{Placement, nothing_yet}
use Rattle.steps.specs.Source.{Source}
use Rattle.steps.specs.Taken.{Standing}
use Rattle.steps.specs.Told.{tallied}
use Rattle.intel.specs.Placing.{Base, intel}
use Rattle.loader.specs.declared.Base.{Base as CodeBase}
use Rattle.loader.specs.Helpers.{based}
use Rattle.srecload.specs.Placing.{s_records}
use Rattle.intake.specs.declared.Kind.{Kind}
use Rattle.intake.specs.declared.Kind.TheVariants.{Hex, SRecords}
use Rattle.intake.specs.Past.{past}
use Rattle.std.specs.Prelude.{None}

-- ---- where a load stands in the code's numbers

-- how the code's base and tally stand for where a load stands
abbrev pub StandingBy : (S : Type 0) → Type 0
StandingBy S = CodeBase → CodeTally → (stated : List Placement) → Standing S

abbrev pub hex_standing : StandingBy Base
hex_standing base tally ps = record { state = based base; tally = tallied tally; stated = ps }

abbrev pub s_standing : StandingBy Unit
s_standing base tally ps = record { state = tt; tally = record { records = tally.records; start = none }; stated = ps }

-- a tail has met nothing, whatever the tally holds
abbrev pub tail_standing : StandingBy Unit
tail_standing base tally ps = record { state = tt; tally = nothing_yet; stated = ps }

-- ---- ways

-- a source, and how base and tally stand for where a load of it stands; what of both `stays` as it was before a line, and what was met as it is `held`
-- between two chunks
pub record Way : Type 1 where
  pub State : Type 0
  pub source : Source State
  pub standing : StandingBy State
  pub stays : (base : CodeBase) (tally : CodeTally) (base' : CodeBase) (tally' : CodeTally) → Type 0
  pub held : CodeTally → CodeTally

abbrev pub hex_way : Way
hex_way = record { State = Base; source = intel; standing = hex_standing; stays = λ base tally base' tally'. Unit; held = λ tally. tally }

-- S-records keep the base, and state no start before their end
abbrev pub s_way : Way
s_way =
    record {
      State = Unit;
      source = s_records;
      standing = s_standing;
      stays = λ base tally base' tally'. base' ≡ base;
      held = λ tally. record { records = tally.records; start = None };
    }

-- a tail keeps both
abbrev pub tail_way : {S : Type 0} → Source S → Way
tail_way src =
    record {
      State = Unit;
      source = past src;
      standing = tail_standing;
      stays = λ base tally base' tally'. (base' ≡ base) × (tally' ≡ tally);
      held = λ tally. tally;
    }

-- the way of a text of this kind, or of a tail of one
abbrev pub way_of : Kind → (tail : Bool) → Way
way_of Hex false = hex_way
way_of SRecords false = s_way
way_of Hex true = tail_way intel
way_of SRecords true = tail_way s_records
