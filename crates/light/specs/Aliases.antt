-- What a light holds and what setting it up returns, by name.
-- Assumes nothing.
use Rattle.std.specs.Prelude.{ℕ, Option}
use Rattle.light.specs.declared.Light.{Light}

-- a count, if one is known
abbrev pub Count : Type 0
Count = Option ℕ

-- a light; none where a place of the count is not in the page
abbrev pub Made : Type 0
Made = Option Light
