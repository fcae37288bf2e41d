-- The exit status that the program says of a text.
-- Assumes nothing.
use Rattle.std.specs.Prelude.{ℕ, Bool, List}
use Rattle.std.specs.Prelude.{if◌then◌else◌}
use Rattle.listing.specs.Status.{text_status}

-- that of the listing, or 2 where the output could not be written
abbrev pub said_status : (input : List ℕ) (written : Bool) → ℕ
said_status input written = if written then text_status input else 2
