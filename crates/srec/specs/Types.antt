-- The types of S-records by their digits: which are named, how many bytes their address has, and which of them hold data.
-- Assumes nothing.
use Rattle.std.specs.Prelude.{ℕ, Bool, false, ◌||◌, ◌==◌, nat_le, nat_lt}
use Rattle.std.specs.Prelude.{if◌then◌else◌}

-- S0, S1, S2, S3, S5, S7, S8, S9
unfoldable pub is_named : (kind : ℕ) → Bool
is_named kind =
    if kind == 4 then false else
    if kind == 6 then false else
    nat_le kind 9

-- how many bytes the address of a named type has
unfoldable pub width : (kind : ℕ) → ℕ
width kind =
    if kind == 2 then 3 else
    if kind == 8 then 3 else
    if kind == 3 then 4 else
    if kind == 7 then 4 else
    2

-- a header and data; S5 and the ends hold none
abbrev pub holds_data : (kind : ℕ) → Bool
holds_data kind = nat_lt kind 4

-- a record of the type may have n bytes of data
abbrev pub fits : (kind n : ℕ) → Bool
fits kind n = holds_data kind || n == 0
