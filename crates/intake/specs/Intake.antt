-- The contract of `feed`: what a load that is fed returns and leaves, for every state, chunk, carry and staging.
-- Assumes nothing.
use Rattle.std.specs.Prelude.{◌≡◌, ℕ, ◌%◌, ◌^◌, ◌≤◌, Bool, true, false, ◌||◌, List, [], length, take, drop, nat_lt}
use Rattle.std.specs.Prelude.{if◌then◌else◌}
use Rattle.chunks.specs.Begun.{Begun}
use Rattle.steps.specs.declared.LoaderError.TheVariants.{BadWindow}
use Rattle.steps.specs.Aliases.{Loading}
use Rattle.steps.specs.Steps.{Placement}
use Rattle.steps.specs.Source.{Source}
use Rattle.steps.specs.Told.{told_loading}
use Rattle.window.specs.Window.{unfit, within, window}
use Rattle.window.specs.Promises.{Painted}
use Rattle.loader.specs.declared.Base.TheVariants.{Segment}
use Rattle.intake.specs.declared.Kind.{Kind}
use Rattle.intake.specs.declared.Intake.{Intake}
use Rattle.intake.specs.declared.Reply.{Reply}
use Rattle.intake.specs.declared.Reply.TheVariants.{WantsMore, Decided, CarryTooSmall}
use Rattle.intake.specs.Machine.{takes, Fed, wants_more, decided, fed}
use Rattle.intake.specs.Ways.{StandingBy, Way, way_of}
use Rattle.std.specs.Prelude.{None}
use Rattle.steps.specs.Aliases.{refuse}

-- ---- a state

-- before the first line of a text, or of a tail
abbrev pub fresh : Kind → (tail : Bool) → Intake
fresh kind tail =
    record { kind = kind; tail = tail; line = 0; used = 0; skipped = 0; cr = false; base = Segment 0; tally = record { records = 0; start = None } }

-- at the beginning of a text
abbrev pub new_intake : Kind → Intake
new_intake kind = fresh kind false

-- where a tail begins: everything through the next end record is passed over
abbrev pub new_tail : Kind → Intake
new_tail kind = fresh kind true

-- how many digits were left out: none of a line of which fewer than 522 bytes are used
abbrev pub left_out : Intake → ℕ
left_out s = if nat_lt s.used 522 then 0 else s.skipped

-- the line that a state and its carry hold
abbrev pub begun_in : Intake → (carry : List ℕ) → Begun
begun_in s carry = record { kept = record { bytes = take s.used carry; skipped = left_out s }; cr = s.cr }

-- 18, before all else: a carry under 522 bytes, or a state that counts more than 522 used
abbrev pub spoilt : Intake → (carry : List ℕ) → Bool
spoilt s carry = nat_lt (length carry) 522 || nat_lt 522 s.used

-- ---- a chunk

-- what the bytes of a chunk come to, from a state on
abbrev pub fed_on : {S : Type 0} → Source S → StandingBy S → (inside : ℕ → Bool) → Intake → (chunk carry : List ℕ) → Fed S
fed_on src standing inside s chunk carry = fed (takes src inside) (s.line % 2 ^ 64) (standing s.base s.tally []) (begun_in s carry) chunk

-- more is wanted: the state says where the load stands then, and the carry holds the line that is begun
pub record Wants {S : Type 0} (src : Source S) (standing : StandingBy S) (first : ℕ) (s : Intake) (chunk carry stage stated : List ℕ) (s' : Intake) (carry' stage' stated' : List ℕ) : Type 0 where
  pub placements : List Placement
  pub comes_to : fed_on src standing (within first (length stage)) s chunk carry ≡ wants_more s'.line (standing s'.base s'.tally placements) (begun_in s' carry')
  pub kind_is : s'.kind ≡ s.kind
  pub tail_is : s'.tail ≡ s.tail
  pub skipped_is : s'.skipped ≡ left_out s'
  pub used_fits : s'.used ≤ 522
  pub carry_size : length carry' ≡ length carry
  pub paints : Painted (window first (length stage)) placements stage stated stage' stated'

-- a line has decided: what is left of the chunk is what follows the bytes that were used
pub record Decides {S : Type 0} (src : Source S) (standing : StandingBy S) (first : ℕ) (s : Intake) (chunk carry stage stated : List ℕ) (l : Loading) (used : ℕ) (stage' stated' : List ℕ) : Type 0 where
  pub line : ℕ
  pub placements : List Placement
  pub comes_to : fed_on src standing (within first (length stage)) s chunk carry ≡ decided line (told_loading l) placements (drop used chunk)
  pub used_fits : used ≤ length chunk
  pub paints : Painted (window first (length stage)) placements stage stated stage' stated'

abbrev pub FeedsBy : {S : Type 0} → Source S → StandingBy S → (first : ℕ) (s : Intake) (chunk carry stage stated : List ℕ) → Reply → (carry' stage' stated' : List ℕ) → Type 0
FeedsBy src standing first s chunk carry stage stated (WantsMore s') carry' stage' stated' = Wants src standing first s chunk carry stage stated s' carry' stage' stated'
FeedsBy src standing first s chunk carry stage stated (Decided l used) carry' stage' stated' = Decides src standing first s chunk carry stage stated l used stage' stated'
FeedsBy src standing first s chunk carry stage stated CarryTooSmall carry' stage' stated' = ⊥

-- of base and tally stays what the way says, and the tally is one that a state holds
abbrev pub Unmoved : Way → Intake → Reply → Type 0
Unmoved way s (WantsMore s') = way.stays s.base s.tally s'.base s'.tally × (way.held s'.tally ≡ s'.tally)
Unmoved way s (Decided l used) = Unit
Unmoved way s CarryTooSmall = Unit

abbrev pub FeedsSo : Way → (first : ℕ) (s : Intake) (chunk carry stage stated : List ℕ) → Reply → (carry' stage' stated' : List ℕ) → Type 0
FeedsSo way first s chunk carry stage stated r carry' stage' stated' =
    FeedsBy way.source way.standing first s chunk carry stage stated r carry' stage' stated' × Unmoved way s r

-- the contract of `feed`
pub record Feeds (s : Intake) (chunk carry : List ℕ) (first : ℕ) (stage stated : List ℕ) (r : Reply) (carry' stage' stated' : List ℕ) : Type 0 where
  pub small : spoilt s carry ≡ true → (r ≡ CarryTooSmall) × (carry' ≡ carry) × (stage' ≡ stage) × (stated' ≡ stated)
  pub bad_window : spoilt s carry ≡ false → unfit first (length stage) (length stated) ≡ true
      → (r ≡ Decided (refuse BadWindow 0) 0) × (carry' ≡ carry) × (stage' ≡ stage) × (stated' ≡ stated)
  pub feeds : spoilt s carry ≡ false → unfit first (length stage) (length stated) ≡ false → FeedsSo (way_of s.kind s.tail) first s chunk carry stage stated r carry' stage' stated'
