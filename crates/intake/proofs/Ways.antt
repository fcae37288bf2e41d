-- What all ways have in common, and that the four of the code have it.
-- Assumes nothing.
use Rattle.std.proofs.Common.{◌≡◌, ℕ, Bool, true, false, List, ◌++◌, sym, refl, ap, ◌∙◌}
use Rattle.steps.specs.declared.Tally.{Tally as CodeTally}
use Rattle.steps.specs.Steps.{Placement}
use Rattle.steps.specs.Source.{Source}
use Rattle.steps.specs.Taken.{Standing}
use Rattle.intel.specs.Placing.{Base, intel}
use Rattle.loader.specs.declared.Base.{Base as CodeBase}
use Rattle.loader.proofs.Taking.{based_once, tallied_once}
use Rattle.srecload.specs.Placing.{s_records}
use Rattle.intake.specs.declared.Kind.{Kind}
use Rattle.intake.specs.declared.Kind.TheVariants.{Hex, SRecords}
use Rattle.intake.specs.Past.{past}
use Rattle.intake.specs.Ways.{Way, hex_way, s_way, tail_way, way_of}
use Rattle.intake.specs.Helpers.{KeptSo}
use Rattle.intake.specs.Claims.{EveryWay}
use Rattle.intake.proofs.Brief.{intel_briefly, s_records_briefly}
use Rattle.intake.proofs.Counting.{intel_counts_one, s_records_counts_one}
use Rattle.intake.proofs.Past.{past_briefly, past_counts_one}
use Rattle.intake.proofs.InLine.{intel_kept_so, s_records_kept_so, past_intel_kept_so, past_s_records_kept_so}
use Rattle.std.specs.Prelude.{None}

pub record Lawful (way : Way) : Type 0 where
  -- a line is taken by what is kept of it
  pub kept : KeptSo way.source
  -- a standing has stated what it is told, and nothing else depends on that
  pub plain : (base : CodeBase) (tally : CodeTally) (qs ps : List Placement)
      → let st = way.standing base tally ps in way.standing base tally (qs ++ ps) ≡ record { state = st.state; tally = st.tally; stated = qs ++ st.stated }
  pub states : (base : CodeBase) (tally : CodeTally) (ps : List Placement) → (way.standing base tally ps).stated ≡ ps
  -- what stays, stays from line to line
  pub still : (base : CodeBase) (tally : CodeTally) → way.stays base tally base tally
  pub again : (base : CodeBase) (tally : CodeTally) (base' : CodeBase) (tally' : CodeTally) (base'' : CodeBase) (tally'' : CodeTally)
      → way.stays base tally base' tally' → way.stays base' tally' base'' tally'' → way.stays base tally base'' tally''
  -- a tally as a state holds it stands for the same
  pub held_stands : (base : CodeBase) (tally : CodeTally) (ps : List Placement) → way.standing base tally ps ≡ way.standing base (way.held tally) ps
  pub held_stays : (base : CodeBase) (tally : CodeTally) (base' : CodeBase) (tally' : CodeTally) → way.stays base tally base' tally' → way.stays base tally base' (way.held tally')
  pub held_once : (tally : CodeTally) → way.held (way.held tally) ≡ way.held tally
  -- and with what stays it is known by where the load stands
  pub known : (base : CodeBase) (tally : CodeTally) (b : CodeBase) (t : CodeTally) (b' : CodeBase) (t' : CodeTally) (ps ps' : List Placement)
      → way.stays base tally b t × (way.held t ≡ t) → way.stays base tally b' t' × (way.held t' ≡ t') → way.standing b t ps ≡ way.standing b' t' ps'
      → (b ≡ b') × (t ≡ t') × (ps ≡ ps')

hex_lawful : Lawful hex_way
hex_lawful =
    record {
      kept = intel_kept_so;
      plain = λ base tally qs ps. refl;
      states = λ base tally ps. refl;
      still = λ base tally. tt;
      again = λ base tally base' tally' base'' tally'' x y. tt;
      held_stands = λ base tally ps. refl;
      held_stays = λ base tally base' tally' x. tt;
      held_once = λ tally. refl;
      known = λ base tally b t b' t' ps ps' x y e. (
        based_once b b' (ap (λ (z : Standing Base). z.state) e),
        tallied_once t t' (ap (λ (z : Standing Base). z.tally) e),
        ap (λ (z : Standing Base). z.stated) e,
      );
    }

s_lawful : Lawful s_way
s_lawful =
    record {
      kept = s_records_kept_so;
      plain = λ base tally qs ps. refl;
      states = λ base tally ps. refl;
      still = λ base tally. refl;
      again = λ base tally base' tally' base'' tally'' x y. y ∙ x;
      held_stands = λ base tally ps. refl;
      held_stays = λ base tally base' tally' x. x;
      held_once = λ tally. refl;
      known = λ base tally b t b' t' ps ps' (x, h) (y, g) e. (
        x ∙ sym y,
        sym h ∙ ap (λ (n : ℕ). record { records = n; start = None }) (ap (λ (z : Standing Unit). z.tally.records) e) ∙ g,
        ap (λ (z : Standing Unit). z.stated) e,
      );
    }

tail_lawful : {S : Type 0} (src : Source S) → KeptSo (past src) → Lawful (tail_way src)
tail_lawful src kept =
    record {
      kept = kept;
      plain = λ base tally qs ps. refl;
      states = λ base tally ps. refl;
      still = λ base tally. (refl, refl);
      again = λ base tally base' tally' base'' tally'' x y. (y.0 ∙ x.0, y.1 ∙ x.1);
      held_stands = λ base tally ps. refl;
      held_stays = λ base tally base' tally' x. x;
      held_once = λ tally. refl;
      known = λ base tally b t b' t' ps ps' x y e. (x.0.0 ∙ sym y.0.0, x.0.1 ∙ sym y.0.1, ap (λ (z : Standing Unit). z.stated) e);
    }

pub lawful : (kind : Kind) (tail : Bool) → Lawful (way_of kind tail)
lawful Hex false = hex_lawful
lawful SRecords false = s_lawful
lawful Hex true = tail_lawful intel past_intel_kept_so
lawful SRecords true = tail_lawful s_records past_s_records_kept_so

pub every_way : EveryWay
every_way Hex false = (intel_briefly, intel_counts_one)
every_way SRecords false = (s_records_briefly, s_records_counts_one)
every_way Hex true = (past_briefly Base intel intel_briefly, past_counts_one Base intel)
every_way SRecords true = (past_briefly Unit s_records s_records_briefly, past_counts_one Unit s_records)
