-- What a listing returns, by name.
-- Assumes nothing.
use Rattle.std.specs.Prelude.{ℕ, Option}

-- how many characters were written; none where the output may be too small
abbrev pub Listed : Type 0
Listed = Option ℕ
