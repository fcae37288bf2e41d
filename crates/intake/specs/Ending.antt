-- The contracts of `begin`, `begin_tail` and `finish`: how a load and a tail begin, and what the end of a text comes to, for every state, carry and staging.
-- Assumes nothing.
use Rattle.std.specs.Prelude.{◌≡◌, ℕ, ◌%◌, ◌^◌, Bool, true, false, List, [], length, replicate}
use Rattle.steps.specs.declared.LoaderError.TheVariants.{MissingEndOfFileRecord, BadWindow}
use Rattle.steps.specs.Aliases.{Loading}
use Rattle.steps.specs.Source.{Source}
use Rattle.steps.specs.Taken.{Went}
use Rattle.steps.specs.Told.{told_loading}
use Rattle.window.specs.Window.{unfit, within, window}
use Rattle.window.specs.Promises.{Painted}
use Rattle.intake.specs.declared.Kind.{Kind}
use Rattle.intake.specs.declared.Intake.{Intake}
use Rattle.intake.specs.declared.Turn.{Turn}
use Rattle.intake.specs.declared.Turn.TheVariants as turn
use Rattle.intake.specs.Aliases.{Ending}
use Rattle.intake.specs.Machine.{takes, ended, ended_by, stated_by}
use Rattle.intake.specs.Ways.{StandingBy, Way, way_of}
use Rattle.intake.specs.Intake.{new_intake, new_tail, begun_in, spoilt}
use Rattle.std.specs.Prelude.{None, Some}
use Rattle.steps.specs.Aliases.{refuse}

-- the contract of `begin`: no place is stated
pub record Begins (kind : Kind) (stated : List ℕ) (r : Intake) (stated' : List ℕ) : Type 0 where
  pub answer : r ≡ new_intake kind
  pub clears : stated' ≡ replicate (length stated) 0

-- the contract of `begin_tail`
pub record BeginsTail (kind : Kind) (r : Intake) : Type 0 where
  pub answer : r ≡ new_tail kind

-- ---- the end

-- the answer where the text ends after a line that came to this turn
abbrev pub answers : Turn → Loading
answers (turn.On base tally) = refuse MissingEndOfFileRecord 0
answers (turn.Stop l) = l

-- what the end of the text comes to, from a state on
abbrev pub ended_on : {S : Type 0} → Source S → StandingBy S → (inside : ℕ → Bool) → Intake → (carry : List ℕ) → Went S
ended_on src standing inside s carry = ended (takes src inside) (s.line % 2 ^ 64) (standing s.base s.tally []) (begun_in s carry)

-- the answer, and what is staged: the line that is begun is the last
pub record Ends {S : Type 0} (src : Source S) (standing : StandingBy S) (first : ℕ) (s : Intake) (carry stage stated : List ℕ) (l : Loading) (stage' stated' : List ℕ) : Type 0 where
  pub answer : told_loading l ≡ ended_by (ended_on src standing (within first (length stage)) s carry)
  pub paints : Painted (window first (length stage)) (stated_by (ended_on src standing (within first (length stage)) s carry)) stage stated stage' stated'

abbrev pub EndsSo : Way → (first : ℕ) (s : Intake) (carry stage stated : List ℕ) → Loading → (stage' stated' : List ℕ) → Type 0
EndsSo way first s carry stage stated l stage' stated' = Ends way.source way.standing first s carry stage stated l stage' stated'

abbrev pub EndedSo : (first : ℕ) (s : Intake) (carry stage stated : List ℕ) → Ending → (stage' stated' : List ℕ) → Type 0
EndedSo first s carry stage stated (Some l) stage' stated' = EndsSo (way_of s.kind s.tail) first s carry stage stated l stage' stated'
EndedSo first s carry stage stated None stage' stated' = ⊥

-- the contract of `finish`; past the first two tests the carry may hold anything
pub record Finishes (s : Intake) (carry : List ℕ) (first : ℕ) (stage stated : List ℕ) (r : Ending) (carry' stage' stated' : List ℕ) : Type 0 where
  pub small : spoilt s carry ≡ true → (r ≡ None) × (carry' ≡ carry) × (stage' ≡ stage) × (stated' ≡ stated)
  pub bad_window : spoilt s carry ≡ false → unfit first (length stage) (length stated) ≡ true
      → (r ≡ Some (refuse BadWindow 0)) × (carry' ≡ carry) × (stage' ≡ stage) × (stated' ≡ stated)
  pub ends : spoilt s carry ≡ false → unfit first (length stage) (length stated) ≡ false → EndedSo first s carry stage stated r stage' stated'
