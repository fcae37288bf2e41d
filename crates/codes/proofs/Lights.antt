-- A color and a light are what their numbers say.
-- Assumes nothing.
use Prim.Native.Nat.{ℕ, ◌<◌}
use mathlib.Core.Path.{◌≡◌, refl, sym, ap, ◌∙◌}
use mathlib.Core.Option.{some}
use lib.Dec.{eqb}
use borrow.Author.Tests.{lt-leb}
use Rattle.std.specs.Prelude.{if◌then◌else◌}
use Rattle.light.specs.Aliases.{Count}
use Rattle.light.specs.Colors.{Color, broken, no_count, first_seen, green, stale, restarted}
use Rattle.light.specs.Light.{told_count}
use Rattle.codes.specs.Lights.{color_number, count_number, count_from}
use Rattle.codes.specs.Claims.{ColorReturns, LightReturns}
use Rattle.std.specs.Prelude.{None, Some}

-- the color of a number
abbrev color_at : ℕ → Color
color_at n =
    if eqb n 0 then broken else if eqb n 1 then no_count else if eqb n 2 then first_seen else
    if eqb n 3 then green else if eqb n 4 then stale else restarted

back : (c : Color) → color_at (color_number c) ≡ c
back broken = refl
back no_count = refl
back first_seen = refl
back green = refl
back stale = refl
back restarted = refl

pub color_returns : ColorReturns
color_returns c c' e = sym (back c) ∙ ap color_at e ∙ back c'

-- a number is a count where it has 16 bits
pub count_returns : (k : Count) → ((n : ℕ) → told_count k ≡ some n → n < 65536) → count_from (count_number (told_count k)) ≡ k
count_returns None h = refl
count_returns (Some n) h = rw (lt-leb 65536 n (h n refl))

pub light_returns : LightReturns
light_returns l h = ap (λ (k : Count). record { first = l.first; length = l.length; high = l.high; low = l.low; known = k }) (count_returns l.known h)
