-- What the lines of a written object say, read with both stops on: its records, each on a line of its own.
-- Assumes nothing.
use Rattle.std.specs.Prelude.{ℕ, suc, ◌≡◌, List, [], ◌∷◌}
use Rattle.digits.specs.Common.{Every, Byte}
use Rattle.record.specs.declared.Record.{Record}
use Rattle.record.specs.Record.{meant}
use Rattle.record.specs.Line.{Said, says}
use Rattle.record.specs.Meaning.{Meaning}
use Rattle.record.specs.Written.{kind_of, address_of, payload_of}
use Rattle.reader.specs.Row.{Numbered, on, row}
use Rattle.reader.specs.Text.{default_options}
use Rattle.writer.specs.Text.{chars}
use Rattle.writer.specs.Object.{object}
use Rattle.writer.specs.Claims.{InRange}

-- what a record's line says
abbrev pub said_of : Meaning → Said
said_of m = says (kind_of m) (address_of m) (payload_of m)

-- what the lines of these records say, numbered from n on
unfoldable pub spoken : ℕ → List Record → (pool : List ℕ) → List Numbered
spoken n [] pool = []
spoken n (r ∷ rs) pool = on n (said_of (meant r pool)) ∷ spoken (suc n) rs pool

-- the reader's row over an object's text is its records, each on a line of its own
abbrev pub SpokenRow : Type 0
SpokenRow =
    (rs : List Record) (pool cs : List ℕ) → Every InRange rs → Every Byte pool → object rs pool ≡ chars cs
    → row default_options cs ≡ spoken 1 rs pool
