-- A light, its colors and its count in numbers, as C has them.
-- Assumes nothing.
use Rattle.std.specs.Prelude.{ℕ, ◌≡◌, leb}
use Rattle.std.proofs.Math.Option.{Option, none, some}
use Rattle.std.specs.Prelude.{if◌then◌else◌}
use Rattle.record.specs.Refusals.{bad_place}
use Rattle.light.specs.declared.Color.{Color as CodeColor}
use Rattle.light.specs.Aliases.{Count}
use Rattle.light.specs.declared.Light.{Light}
use Rattle.light.specs.Aliases.{Made}
use Rattle.light.specs.Colors.{Color, broken, no_count, first_seen, green, stale, restarted}
use Rattle.light.specs.Light.{told_color, told_count}
use Rattle.codes.specs.Codes.{OK, refused_with}
use Rattle.std.specs.Prelude.{None, Some}

-- IHEX_COLOR_BROKEN, and so on: 0 is not green
abbrev pub color_number : Color → ℕ
color_number broken = 0
color_number no_count = 1
color_number first_seen = 2
color_number green = 3
color_number stale = 4
color_number restarted = 5

abbrev pub GREEN : ℕ
GREEN = color_number green

abbrev pub BROKEN : ℕ
BROKEN = color_number broken

-- IHEX_COUNT_UNKNOWN: no count is known
abbrev pub COUNT_UNKNOWN : ℕ
COUNT_UNKNOWN = 65536

abbrev pub count_number : Option ℕ → ℕ
count_number none = COUNT_UNKNOWN
count_number (some count) = count

-- the count that a number stands for
abbrev pub count_from : ℕ → Count
count_from n = if leb COUNT_UNKNOWN n then None else Some n

-- the light that stands in numbers
abbrev pub light_of : (first length high low known : ℕ) → Light
light_of first length high low known = record { first = first; length = length; high = high; low = low; known = count_from known }

-- what is returned for refusal 24: IHEX_REFUSED + IHEX_BAD_PLACE
abbrev pub BAD_PLACE : ℕ
BAD_PLACE = (refused_with bad_place).code

-- what setting up a light returns
abbrev pub making : Made → ℕ
making (Some l) = OK
making None = BAD_PLACE

-- the contracts of `color_number`, `count_number`, `light_from` and `code_made`
pub record ColorNumber (color : CodeColor) (r : ℕ) : Type 0 where
  pub answer : r ≡ color_number (told_color color)

pub record CountNumber (known : Count) (r : ℕ) : Type 0 where
  pub answer : r ≡ count_number (told_count known)

pub record LightFrom (first length high low known : ℕ) (r : Light) : Type 0 where
  pub answer : r ≡ light_of first length high low known

pub record CodeMade (m : Made) (r : ℕ) : Type 0 where
  pub answer : r ≡ making m
