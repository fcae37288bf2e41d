-- A chunk that is fed: what its bytes come to from a state on is what is to come where the walk stands, and what the walk comes to is the reply.
-- Assumes nothing.
use Rattle.std.proofs.Common.{◌≡◌, ℕ, ◌≤◌, Bool, true, false, ltb, List, [], length, take, sym, refl, ap, ◌∙◌, subst, ap₂, arith}
use Rattle.std.specs.Prelude.{if◌then◌else◌}
use Rattle.chunks.specs.Next.{too_small}
use Rattle.chunks.proofs.FirstTests.{big_enough}
use Rattle.steps.specs.Aliases.{Loading}
use Rattle.steps.specs.Steps.{Placement}
use Rattle.steps.specs.Source.{Source}
use Rattle.steps.specs.Taken.{Standing}
use Rattle.steps.specs.Told.{told_loading}
use Rattle.window.specs.Window.{unfit, within}
use Rattle.intake.specs.declared.Intake.{Intake}
use Rattle.intake.specs.declared.Reply.{Reply}
use Rattle.intake.specs.declared.Reply.TheVariants.{WantsMore, Decided, CarryTooSmall}
use Rattle.intake.specs.declared.Walk.{Walk}
use Rattle.intake.specs.Machine.{wants_more, takes, fed}
use Rattle.intake.specs.Ways.{StandingBy, way_of}
use Rattle.intake.specs.Helpers.{count_of, UnderWay, to_come, StoppedAt, CameThrough, AllSo, walk_of, paused}
use Rattle.intake.specs.Intake.{begun_in, spoilt, fed_on, Wants, Decides, FeedsSo, Feeds}
use Rattle.intake.proofs.Ways.{lawful}

-- ---- the tests on a state are the reader's

module _ (s : Intake) (carry : List ℕ) where
  pub same_tests : spoilt s carry ≡ too_small (walk_of s).reader carry
  unfolding too_small
  same_tests = refl

  pub sound : 522 ≤ length carry → s.used ≤ 522 → spoilt s carry ≡ false
  sound big few = same_tests ∙ big_enough (walk_of s).reader carry big few

  pub stands_under_way : spoilt s carry ≡ false → UnderWay (walk_of s).reader carry
  stands_under_way h = record { big_enough = sym same_tests ∙ h; going = refl }

-- ---- what a walk comes to

-- none is left out of what nothing is left out of
left_out_once : (few : Bool) (n : ℕ) → (if few then 0 else n) ≡ (if few then 0 else (if few then 0 else n))
left_out_once true n = refl
left_out_once false n = refl

module _ {S : Type 0} (src : Source S) (standing : StandingBy S) (first : ℕ) (s : Intake) (chunk carry stage stated : List ℕ) where
  stands_there : fed_on src standing (within first (length stage)) s chunk carry ≡ to_come src standing (within first (length stage)) (walk_of s) chunk carry []
  stands_there = ap (λ (n : ℕ). fed (takes src (within first (length stage))) n (standing s.base s.tally []) (begun_in s carry) chunk) (omega arith)

  wants : (w : Walk) (carry' stage' stated' : List ℕ)
      → ((ps : List Placement) → standing w.base w.tally ps ≡ standing w.base ((way_of s.kind s.tail).held w.tally) ps)
      → length carry' ≡ length carry → CameThrough src standing first (walk_of s) chunk carry stage stated w carry' stage' stated'
      → Wants src standing first s chunk carry stage stated (paused s.kind s.tail w) carry' stage' stated'
  wants w carry' stage' stated' met size x =
      let out = left_out_once (ltb w.reader.used 522) w.reader.skipped in
      record {
        placements = x.stated;
        comes_to = stands_there ∙ x.comes_to []
            ∙ ap₂ (λ (st : Standing S) (n : ℕ). wants_more (count_of w.reader) st (record { kept = record { bytes = take w.reader.used carry'; skipped = n }; cr = w.reader.cr })) (met x.stated) out;
        kind_is = refl;
        tail_is = refl;
        skipped_is = out;
        used_fits = x.fits;
        carry_size = size;
        paints = x.paints;
      }

  decides : (l : Loading) (used : ℕ) (stage' stated' : List ℕ) → StoppedAt src standing first (walk_of s) chunk carry stage stated (told_loading l) used stage' stated'
      → Decides src standing first s chunk carry stage stated l used stage' stated'
  decides l used stage' stated' x =
      record { line = x.line; placements = x.stated; comes_to = stands_there ∙ x.comes_to []; used_fits = x.inside; paints = x.paints }

-- ---- the reply

module _ (s : Intake) (chunk carry : List ℕ) (first : ℕ) (stage stated : List ℕ) where
  module _ (e : spoilt s carry ≡ false) (u : unfit first (length stage) (length stated) ≡ false) (carry' stage' stated' : List ℕ) where
    feeds_so : (r : Reply) → FeedsSo (way_of s.kind s.tail) first s chunk carry stage stated r carry' stage' stated' → Feeds s chunk carry first stage stated r carry' stage' stated'
    feeds_so r f =
        record {
          small = λ b. let z : ◌≡◌ {A = ℕ} 0 1 = cc in absurd (omega arith);
          bad_window = λ _ b. let z : ◌≡◌ {A = ℕ} 0 1 = cc in absurd (omega arith);
          feeds = λ _ _. f;
        }

    pub feeds_all : length carry' ≡ length carry → (r : Reply) → AllSo s.kind s.tail first (walk_of s) chunk carry stage stated r carry' stage' stated'
        → Feeds s chunk carry first stage stated r carry' stage' stated'
    feeds_all size (WantsMore s') x =
        let way = way_of s.kind s.tail in
        let law = lawful s.kind s.tail in
        let w = x.end in
        subst (λ (y : Intake). Feeds s chunk carry first stage stated (WantsMore y) carry' stage' stated') (sym x.answer)
        (feeds_so (WantsMore (paused s.kind s.tail w)) (
          wants way.source way.standing first s chunk carry stage stated w carry' stage' stated' (law.held_stands w.base w.tally) size x.came,
          (law.held_stays s.base s.tally w.base w.tally x.stays, law.held_once w.tally),
        ))
    feeds_all size (Decided l used) x =
        let way = way_of s.kind s.tail in
        feeds_so (Decided l used) (decides way.source way.standing first s chunk carry stage stated l used stage' stated' x, tt)
    feeds_all size CarryTooSmall x = absurd x
