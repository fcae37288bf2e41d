-- The contracts of a listener's private functions.
-- Assumes nothing.
use Rattle.std.specs.Prelude.{ℕ, ◌+◌, ◌≤◌, ◌≡◌, Bool, List, length, replicate}
use Rattle.intake.specs.declared.Kind.{Kind}
use Rattle.intake.specs.declared.Intake.{Intake}
use Rattle.intake.specs.declared.Reply.{Reply}
use Rattle.intake.specs.declared.Reply.TheVariants.{WantsMore, Decided, CarryTooSmall}
use Rattle.listen.specs.Listener.{begun}

-- a decision after so many bytes of a chunk: with those before them they are at most the whole
abbrev pub Fits : (before whole : ℕ) → Reply → Type 0
Fits before whole (WantsMore s) = Unit
Fits before whole (Decided l used) = before + used ≤ whole
Fits before whole CarryTooSmall = Unit

-- a new load, with the CR that waits and no place stated
pub record Starts (kind : Kind) (cr : Bool) (stated : List ℕ) (r : Intake) (stated' : List ℕ) : Type 0 where
  pub answer : r ≡ begun kind cr
  pub clears : stated' ≡ replicate (length stated) 0
