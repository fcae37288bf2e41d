-- What the functions of this crate return, by name.
-- Assumes nothing.
use Rattle.std.specs.Prelude.{ℕ, Option}

-- the place of an unused bit that is set, if one is
abbrev pub Unused : Type 0
Unused = Option ℕ
