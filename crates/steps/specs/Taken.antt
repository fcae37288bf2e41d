-- A load, line by line: where it stands between two lines, and what a line comes to. For every source of steps.
-- Assumes nothing.
use Rattle.std.specs.Prelude.{ℕ, Bool, List, [], ◌∷◌, ◌++◌}
use Rattle.steps.specs.Steps.{Placement, Action, places, starts, counts, finishes, fails, Tally, nothing_yet, Verdict, Turn, turn}
use Rattle.steps.specs.Steps as steps
use Rattle.steps.specs.Source.{Source}

-- where a load stands between two lines: the state that is in force, the tally, and what was stated so far, in order
pub record Standing (S : Type 0) : Type 0 where
  pub state : S
  pub tally : Tally
  pub stated : List Placement

-- at the beginning of a text
abbrev pub at_first : {S : Type 0} → Source S → Standing S
at_first src = record { state = src.beginning; tally = nothing_yet; stated = [] }

-- after a line the load goes on, or the line has decided; then what was stated before it stays as it is
pub data Went (S : Type 0) : Type 0 where
  on : Standing S → Went S
  stopped : Verdict → (stated : List Placement) → Went S

-- what an action places
abbrev pub placed_by : Action → List Placement
placed_by (places what) = what
placed_by (starts s) = []
placed_by (counts n) = []
placed_by finishes = []
placed_by (fails r) = []

-- what comes of a turn: the later actions, with a tally, or the end of the load
abbrev pub onward : {S : Type 0} → Turn → (stated : List Placement) → (Tally → Went S) → Went S
onward (steps.on t) ps later = later t
onward (steps.stop v) ps later = stopped v ps

-- the actions of line n, one after the other, with the state that is in force after the line
unfoldable pub acted : {S : Type 0} → (inside : ℕ → Bool) (n : ℕ) → S → Tally → (stated : List Placement) → List Action → Went S
unfolding turn
acted inside n s t ps [] = on (record { state = s; tally = t; stated = ps })
acted inside n s t ps (a ∷ more) = onward (turn inside t n a) ps (λ t'. acted inside n s t' (ps ++ placed_by a) more)

-- a line that has ended, with its number
unfoldable pub at_line : {S : Type 0} → Source S → (inside : ℕ → Bool) (n : ℕ) → Standing S → (line : List ℕ) → Went S
unfolding acted
at_line src inside n st line = acted inside n (src.next st.state line) st.tally st.stated (src.act st.state line)
