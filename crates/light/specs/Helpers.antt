-- What the private functions of the light promise each other.
-- Assumes nothing.
use Rattle.std.specs.Prelude.{◌≡◌, ℕ, ◌<◌, Bool, List, length}
use Rattle.marks.specs.Marks.{Marked}
use Rattle.steps.specs.Aliases.{Loading}
use Rattle.steps.specs.Steps.{Tally, accepted}
use Rattle.steps.specs.Told.{told_loading}
use Rattle.light.specs.declared.Color.{Color as CodeColor}
use Rattle.light.specs.Aliases.{Count}
use Rattle.light.specs.declared.Light.{Light}
use Rattle.light.specs.declared.Dumped.{Dumped}
use Rattle.light.specs.Colors.{Outcome, uncounted, counted, compared, color}
use Rattle.light.specs.Light.{told_color, told_count, count_in, said_in, light_after}
use Rattle.light.specs.After.{goes_with}
use Rattle.std.specs.Prelude.{None, Some}

-- the color of a count, by the one that was known
pub record Compared (known : Count) (count : ℕ) (r : CodeColor) : Type 0 where
  pub color_is : told_color r ≡ compared (told_count known) count

-- a place that is marked lies in the page
abbrev pub MarkedInside : (page marks : List ℕ) → Type 0
MarkedInside page marks = (i : ℕ) → Marked marks i → i < length page

-- a count of the code, as an outcome
abbrev pub told_in : Count → Outcome
told_in None = uncounted
told_in (Some n) = counted n

pub record Counts (page marks : List ℕ) (high low : ℕ) (r : Count) : Type 0 where
  pub count_is : told_in r ≡ count_in high low page marks

-- if the load was accepted, a place that is marked lies in the page
abbrev pub Held : Loading → (page marks : List ℕ) → Type 0
Held answer page marks = (t : Tally) → told_loading answer ≡ accepted t → MarkedInside page marks

-- what a load comes to
pub record Tells (l : Light) (answer : Loading) (page marks : List ℕ) (r : Dumped) : Type 0 where
  pub color_is : told_color r.color ≡ color (told_count l.known) (said_in l.high l.low (told_loading answer) page marks)
  pub answer_is : r.answer ≡ answer
  pub light_is : r.light ≡ light_after l (said_in l.high l.low (told_loading answer) page marks)

-- do the marks of so many places go with the answer?
pub record GoesWith (answer : Loading) (places : ℕ) (marks : List ℕ) (r : Bool) : Type 0 where
  pub answer_is : r ≡ goes_with (told_loading answer) places marks
