-- What the private functions of the query promise each other.
-- Assumes nothing.
use Rattle.std.specs.declared.ops.ControlFlow.TheVariants.{Break, Continue}
use Rattle.std.specs.Prelude.{◌≡◌, ℕ, ◌+◌, ◌%◌, ◌^◌, ◌<◌, ◌≤◌, ◌↔◌, List, length, take, drop}
use Rattle.std.proofs.Math.Option.{Option, none, some}
use Rattle.digits.specs.Common.{or_else}
use Rattle.record.specs.Record.{meant}
use Rattle.record.specs.declared.Record.{Record}
use Rattle.reader.specs.declared.State.{State}
use Rattle.reader.specs.Text.{new_state, default_options}
use Rattle.reader.specs.Along.{unread}
use Rattle.steps.specs.Aliases.{Stated as CodeStart}
use Rattle.steps.specs.Steps.{Start}
use Rattle.steps.specs.Sites.{last_at}
use Rattle.steps.specs.Told.{told_start}
use Rattle.intel.specs.Placing.{Base, from_segment, from_linear, byte_address, placed}
use Rattle.intel.specs.Records.{UnderWay}
use Rattle.query.specs.declared.Aim.{Aim}
use Rattle.query.specs.declared.Aim.TheVariants.{Segment, Linear}
use Rattle.query.specs.Aliases.{Found, CodeTurn}
use Rattle.query.specs.declared.Walk.{Walk}
use Rattle.query.specs.Along.{Known, nothing_known, Turn, goes_on, answers, at_start, at_record, asked_along}
use Rattle.query.specs.Ask.{told_asked}
use Rattle.std.specs.Prelude.{None, Some}

-- ---- one record

-- an address as seen from a base: the distance, added to the base, wraps to the address. A segment ends within 2^32
abbrev pub Aims : Base → (address : ℕ) → Aim → Type 0
Aims (from_segment base) address (Segment distance) = ((distance + base) % 2 ^ 32 ≡ address) × (base + 65536 ≤ 2 ^ 32)
Aims (from_segment base) address (Linear distance) = ⊥
Aims (from_linear base) address (Segment distance) = ⊥
Aims (from_linear base) address (Linear distance) = (distance + base) % 2 ^ 32 ≡ address

-- a byte i below 65,536 lies at the address exactly if it is the one that is named
pub record IndexOf (aim : Aim) (offset : ℕ) (r : Found) : Type 0 where
  pub solves : (base : Base) (address : ℕ) → Aims base address aim → (i : ℕ) → i < 65536 → (byte_address base offset i ≡ address) ↔ (r ≡ Some i)

abbrev pub told_found : Found → Option ℕ
told_found None = none
told_found (Some byte) = some byte

-- the byte that is known after a data record
pub record Noted (pool : List ℕ) (offset at len : ℕ) (aim : Aim) (before r : Found) : Type 0 where
  pub byte_is : (base : Base) (address : ℕ) → Aims base address aim
      → told_found r ≡ or_else (last_at address (placed base offset 0 (take len (drop at pool)))) (told_found before)

-- ---- a walk

-- what a walk knows
pub record Knows (address : ℕ) (w : Walk) (k : Known) : Type 0 where
  pub aims : Aims k.base address w.aim
  pub start_is : told_start w.start ≡ k.start
  pub byte_is : told_found w.found ≡ k.byte

-- at the beginning of a text
pub record Begun (address : ℕ) (w : Walk) : Type 0 where
  pub state_is : w.state ≡ new_state default_options
  pub knows : Knows address w nothing_known

-- a turn of the code is one of the definition: the walk goes on from where it stands, or this is the answer
abbrev pub Comes : (address : ℕ) (s : State) → CodeTurn → Turn → Type 0
Comes address s (Continue w') (goes_on k') = (w'.state ≡ s) × Knows address w' k'
Comes address s (Continue w') (answers a) = ⊥
Comes address s (Break a') (goes_on k') = ⊥
Comes address s (Break a') (answers a) = told_asked a' ≡ a

pub record MeetsStart (w : Walk) (stated : CodeStart) (t : CodeTurn) : Type 0 where
  pub comes_to : (address : ℕ) (k : Known) → Knows address w k → (s : Start) → told_start stated ≡ some s → Comes address w.state t (at_start w.state.line k s)

pub record Meets (address : ℕ) (pool : List ℕ) (w : Walk) (x : Record) (t : CodeTurn) : Type 0 where
  pub comes_to : (k : Known) → Knows address w k → Comes address w.state t (at_record address w.state.line k (meant x pool))

-- a line was read: from what is known after it the answer is the same, and less is left
pub record Onward (address : ℕ) (text : List ℕ) (w : Walk) (k : Known) (w' : Walk) : Type 0 where
  pub known : Known
  pub knows : Knows address w' known
  pub under_way : UnderWay text w'.state
  pub same : asked_along address known (unread w'.state text) ≡ asked_along address k (unread w.state text)
  pub less : length (unread w'.state text) < length (unread w.state text)

-- or the answer is returned
abbrev pub Answered : (address : ℕ) (text : List ℕ) (w : Walk) (k : Known) → CodeTurn → Type 0
Answered address text w k (Continue w') = Onward address text w k w'
Answered address text w k (Break a) = told_asked a ≡ asked_along address k (unread w.state text)

pub record Judged (address : ℕ) (text : List ℕ) (w : Walk) (t : CodeTurn) : Type 0 where
  pub answer : (k : Known) → Knows address w k → Answered address text w k t
