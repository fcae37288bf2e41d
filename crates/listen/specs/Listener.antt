-- The contracts of a listener: what a chunk, a pause and a commit come to, for every listener, carry, staging and page. What is fed to a load is what
-- the load makes of it (`Feeds` and `Finishes` of `intake`); here stands which load, of which bytes, and where listening stands then.
-- Assumes nothing.
use Rattle.std.specs.Prelude.{ℕ, suc, ◌+◌, ◌≡◌, Bool, true, false, not, ◌&&◌, ◌||◌, List, [], ◌∷◌, eqb, ltb, length, drop, replicate}
use Rattle.std.specs.Prelude.{if◌then◌else◌}
use Rattle.reader.specs.Lines.{LF, CR}
use Rattle.steps.specs.declared.LoaderError.TheVariants.{BadWindow}
use Rattle.steps.specs.Aliases.{Loading}
use Rattle.window.specs.Window.{unfit}
use Rattle.commit.specs.Commit.{Commit}
use Rattle.intake.specs.declared.Kind.{Kind}
use Rattle.intake.specs.declared.Intake.{Intake}
use Rattle.intake.specs.declared.Reply.{Reply}
use Rattle.intake.specs.declared.Reply.TheVariants as reply
use Rattle.intake.specs.Aliases.{Ending}
use Rattle.intake.specs.Intake.{new_intake, new_tail, Feeds}
use Rattle.intake.specs.Ending.{Finishes}
use Rattle.listen.specs.declared.Listener.{Listener}
use Rattle.listen.specs.declared.Listener.TheVariants.{Front, Within, Ready}
use Rattle.listen.specs.declared.Said.{Said}
use Rattle.listen.specs.declared.Said.TheVariants.{WantsMore, Decided, Passed, Quiet, CarryTooSmall}
use Rattle.listen.specs.declared.Step.{Step}
use Rattle.listen.specs.Aliases.{Committed}
use Rattle.listen.specs.declared.CommitError.TheVariants as committed
use Rattle.listen.specs.declared.Blank.{Blank}
use Rattle.std.specs.Prelude.{Err, None, Ok, Some}
use Rattle.steps.specs.Aliases.{refuse}

-- at a known beginning, or at an unknown place
abbrev pub begins : Kind → (known : Bool) → Listener
begins kind known = if known then Front kind false else Within (new_tail kind)

pub record Begins (kind : Kind) (known : Bool) (r : Listener) : Type 0 where
  pub answer : r ≡ begins kind known

-- ---- empty lines before a dump

-- one byte more
abbrev pub further : Blank → Blank
further b = record { at = suc b.at; cr = b.cr }

-- is a byte one of an empty line? An LF ends one, and a CR waits for the byte after it, unless one waits already
abbrev pub is_blank : (byte : ℕ) → (cr : Bool) → Bool
is_blank c cr = eqb c LF || (eqb c CR && not cr)

-- how many bytes are passed, and whether a CR waits after them. Any other byte begins a dump, with the CR that waits before it
unfoldable pub blanks : (cr : Bool) → (bytes : List ℕ) → Blank
blanks cr [] = record { at = 0; cr = cr }
blanks cr (c ∷ bytes) = if is_blank c cr then further (blanks (eqb c CR) bytes) else record { at = 0; cr = cr }

-- ---- where listening stands, and what is said

abbrev pub step : Said → (used : ℕ) → Listener → Step
step said used l = record { said = said; used = used; listener = l }

-- after a dump of this kind: one that is accepted is ready, and what follows a refused one is passed over
abbrev pub after : Kind → Loading → Listener
after kind (Ok t) = Ready kind
after kind (Err z) = Within (new_tail kind)

-- after the end of one: what follows is a known beginning
abbrev pub after_end : Kind → Loading → Listener
after_end kind (Ok t) = Ready kind
after_end kind (Err z) = Front kind false

-- a load has decided: it was passing over, and the end record has come, or a dump is decided
abbrev pub decided_by : (tail : Bool) → Kind → Loading → (used : ℕ) → Step
decided_by true kind (Ok t) used = step Passed used (Front kind false)
decided_by true kind (Err z) used = step (Decided (refuse z.why z.line)) used (after kind (refuse z.why z.line))
decided_by false kind l used = step (Decided l) used (after kind l)

-- by what a load replied to a chunk: so many bytes were passed before it, and the whole has so many
abbrev pub step_by : Intake → (before whole : ℕ) → Reply → Step
step_by s before whole (reply.WantsMore s') = step WantsMore whole (Within s')
step_by s before whole (reply.Decided l used) = decided_by s.tail s.kind l (before + used)
step_by s before whole reply.CarryTooSmall = step CarryTooSmall 0 (Within s)

-- ---- a chunk

-- a load was fed these bytes
pub record FedTo (s : Intake) (before whole : ℕ) (bytes carry : List ℕ) (first : ℕ) (stage stated : List ℕ) (r : Step) (carry' stage' stated' : List ℕ) : Type 0 where
  pub reply : Reply
  pub feeds : Feeds s bytes carry first stage stated reply carry' stage' stated'
  pub answer : r ≡ step_by s before whole reply

-- a new load, with the CR that waits
abbrev pub begun : Kind → (cr : Bool) → Intake
begun kind cr =
    let s = new_intake kind in
    record { kind = s.kind; tail = s.tail; line = s.line; used = s.used; skipped = s.skipped; cr = cr; base = s.base; tally = s.tally }

-- where a text begins: empty lines are passed, and at the first byte of a dump a new load begins, with no place stated
pub record FromFront (kind : Kind) (cr : Bool) (chunk carry : List ℕ) (first : ℕ) (stage stated : List ℕ) (r : Step) (carry' stage' stated' : List ℕ) : Type 0 where
  pub empty : eqb (blanks cr chunk).at (length chunk) ≡ true
      → (r ≡ step WantsMore (length chunk) (Front kind (blanks cr chunk).cr)) × (carry' ≡ carry) × (stage' ≡ stage) × (stated' ≡ stated)
  pub dump : eqb (blanks cr chunk).at (length chunk) ≡ false
      → FedTo (begun kind (blanks cr chunk).cr) (blanks cr chunk).at (length chunk) (drop (blanks cr chunk).at chunk) carry first stage (replicate (length stated) 0) r carry' stage' stated'

abbrev pub HearsSo : Listener → (chunk carry : List ℕ) (first : ℕ) (stage stated : List ℕ) (r : Step) (carry' stage' stated' : List ℕ) → Type 0
HearsSo (Front kind cr) chunk carry first stage stated r carry' stage' stated' = FromFront kind cr chunk carry first stage stated r carry' stage' stated'
HearsSo (Within s) chunk carry first stage stated r carry' stage' stated' = FedTo s 0 (length chunk) chunk carry first stage stated r carry' stage' stated'
HearsSo (Ready kind) chunk carry first stage stated r carry' stage' stated' = FromFront kind false chunk carry first stage stated r carry' stage' stated'

-- 18, before all else: a carry of so many bytes is under 522, or the load counts more than 522 used
abbrev pub too_small : Listener → (carry : ℕ) → Bool
too_small (Front kind cr) carry = ltb carry 522
too_small (Within s) carry = ltb carry 522 || ltb 522 s.used
too_small (Ready kind) carry = ltb carry 522

-- nothing was read: listening stands where it stood, and no byte changed
pub record Unread (l : Listener) (said : Said) (carry stage stated : List ℕ) (r : Step) (carry' stage' stated' : List ℕ) : Type 0 where
  pub answer : r ≡ step said 0 l
  pub carry_is : carry' ≡ carry
  pub stage_is : stage' ≡ stage
  pub stated_is : stated' ≡ stated

-- 18, then 16, then what is wanted
pub record Tested (too_small : Bool) (l : Listener) (carry : List ℕ) (first : ℕ) (stage stated : List ℕ) (r : Step) (carry' stage' stated' : List ℕ) (Wanted : Type 0) : Type 0 where
  pub small : too_small ≡ true → Unread l CarryTooSmall carry stage stated r carry' stage' stated'
  pub bad_window : too_small ≡ false → unfit first (length stage) (length stated) ≡ true
      → Unread l (Decided (refuse BadWindow 0)) carry stage stated r carry' stage' stated'
  pub else_so : too_small ≡ false → unfit first (length stage) (length stated) ≡ false → Wanted

-- the contract of `feed`
abbrev pub Hears : Listener → (chunk carry : List ℕ) (first : ℕ) (stage stated : List ℕ) (r : Step) (carry' stage' stated' : List ℕ) → Type 0
Hears l chunk carry first stage stated r carry' stage' stated' =
    Tested (too_small l (length carry)) l carry first stage stated r carry' stage' stated' (HearsSo l chunk carry first stage stated r carry' stage' stated')

-- ---- a pause

-- by how a load ended
abbrev pub end_by : Intake → Ending → Step
end_by s (Some l) = step (Decided l) 0 (after_end s.kind l)
end_by s None = step CarryTooSmall 0 (Within s)

-- a dump ends here; a tail is dropped
pub record PausesWithin (s : Intake) (carry : List ℕ) (first : ℕ) (stage stated : List ℕ) (r : Step) (carry' stage' stated' : List ℕ) : Type 0 where
  pub tail : s.tail ≡ true → (r ≡ step Quiet 0 (Front s.kind false)) × (carry' ≡ carry) × (stage' ≡ stage) × (stated' ≡ stated)
  pub dump : s.tail ≡ false
      → (e : Ending) × Finishes s carry first stage stated e carry' stage' stated' × (r ≡ end_by s e)

abbrev pub PausesSo : Listener → (carry : List ℕ) (first : ℕ) (stage stated : List ℕ) (r : Step) (carry' stage' stated' : List ℕ) → Type 0
PausesSo (Front kind cr) carry first stage stated r carry' stage' stated' = Unread (Front kind false) Quiet carry stage stated r carry' stage' stated'
PausesSo (Within s) carry first stage stated r carry' stage' stated' = PausesWithin s carry first stage stated r carry' stage' stated'
PausesSo (Ready kind) carry first stage stated r carry' stage' stated' = Unread (Ready kind) Quiet carry stage stated r carry' stage' stated'

-- the contract of `pause`
abbrev pub Pauses : Listener → (carry : List ℕ) (first : ℕ) (stage stated : List ℕ) (r : Step) (carry' stage' stated' : List ℕ) → Type 0
Pauses l carry first stage stated r carry' stage' stated' =
    Tested (too_small l (length carry)) l carry first stage stated r carry' stage' stated' (PausesSo l carry first stage stated r carry' stage' stated')

-- ---- a commit

-- by whether the sizes fit
abbrev pub commit_by : Kind → (fits : Bool) → Committed
commit_by kind fits = if fits then Ok (Front kind false) else (Err committed.BadWindow)

-- nothing is ready
pub record IsNotReady (page marks : List ℕ) (r : Committed) (page' marks' : List ℕ) : Type 0 where
  pub answer : r ≡ (Err committed.NotReady)
  pub page_is : page' ≡ page
  pub marks_are : marks' ≡ marks

-- what was staged is committed
pub record ReadySo (kind : Kind) (stage stated page marks : List ℕ) (r : Committed) (page' marks' : List ℕ) : Type 0 where
  pub fits : Bool
  pub commits : Commit stage stated page marks fits page' marks'
  pub answer : r ≡ commit_by kind fits

-- the contract of `commit`
abbrev pub Commits : Listener → (stage stated page marks : List ℕ) (r : Committed) (page' marks' : List ℕ) → Type 0
Commits (Front kind cr) stage stated page marks r page' marks' = IsNotReady page marks r page' marks'
Commits (Within s) stage stated page marks r page' marks' = IsNotReady page marks r page' marks'
Commits (Ready kind) stage stated page marks r page' marks' = ReadySo kind stage stated page marks r page' marks'
