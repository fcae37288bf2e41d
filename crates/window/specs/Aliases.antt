-- What a search in the windows returns, by name.
-- Assumes nothing.
use Rattle.std.specs.Prelude.{ℕ, Option}

-- the number of the first byte that lies outside, counted from 0, if one does
abbrev pub Reach : Type 0
Reach = Option ℕ
