-- Small texts of Intel HEX, line by line, and what is said of them. Each is proved in `proofs/Examples.antt`.
-- Assumes nothing.
use Rattle.std.specs.Prelude.{ℕ, ◌≡◌, Bool, true, List, [], ◌∷◌}
use Rattle.std.proofs.Math.Option.{none}
use Rattle.digits.specs.Common.{text}
use Rattle.record.specs.Refusals.{missing_start_code, checksum_mismatch, missing_end_of_file_record}
use Rattle.steps.specs.Steps.{accepted, refused}
use Rattle.intel.specs.Placing.{Base, intel}
use Rattle.listen.specs.Listen.{front, skipping, Saying, said, Listened, listen, listen_on}

-- every address is inside
abbrev anywhere : ℕ → Bool
anywhere address = true

-- garbage; the byte 1 at address 0; a base of 0; the end; and an end with a wrong checksum
abbrev x : List ℕ
x = text "x"

abbrev one : List ℕ
one = text ":0100000001FE"

abbrev base : List ℕ
base = text ":020000040000FA"

abbrev end : List ℕ
end = text ":00000001FF"

abbrev damaged_end : List ℕ
damaged_end = text ":00000001FE"

-- what lines come to from a known beginning, and from an unknown place
abbrev from_front : List (List ℕ) → Listened Base
from_front ls = listen intel anywhere front ls

abbrev from_unknown : List (List ℕ) → Listened Base
from_unknown ls = listen intel anywhere skipping ls

-- a dump of that one byte is ready; a first line that is garbage is refused
abbrev ready : Saying
ready = said (accepted (record { records = 1; start = none })) (record { address = 0; byte = 1 } ∷ [])

abbrev not_ready : Saying
not_ready = said (refused missing_start_code 1) []

-- these are said, and the next line begins a dump
abbrev then_front : List Saying → Listened Base
then_front ss = record { says = ss; mode = front }

pub record Examples : Type 0 where
  -- the refused dump's own end record is no dump of nothing
  pub own_end : from_front (x ∷ end ∷ []) ≡ then_front (not_ready ∷ [])
  -- garbage before a whole dump, or a dump with a damaged first line: no byte tells which, so it is skipped
  pub either : from_front (x ∷ one ∷ end ∷ []) ≡ then_front (not_ready ∷ [])
  -- after an end record a good dump is found
  pub found : from_front (x ∷ end ∷ one ∷ end ∷ []) ≡ then_front (not_ready ∷ ready ∷ [])
  -- a base is no beginning
  pub no_beginning : from_front (x ∷ base ∷ one ∷ end ∷ []) ≡ then_front (not_ready ∷ [])
  -- a damaged end record costs the dump after it, and no later one
  pub one_lost : from_front (one ∷ damaged_end ∷ one ∷ end ∷ []) ≡ then_front (said (refused (checksum_mismatch 255 254) 2) [] ∷ [])
  pub next_found : from_front (one ∷ damaged_end ∷ one ∷ end ∷ one ∷ end ∷ []) ≡ then_front (said (refused (checksum_mismatch 255 254) 2) [] ∷ ready ∷ [])
  -- where listening begins at an unknown place, a tail is skipped
  pub tail_skipped : from_unknown (one ∷ end ∷ []) ≡ then_front []
  pub dump_found : from_unknown (one ∷ end ∷ one ∷ end ∷ []) ≡ then_front (ready ∷ [])
  -- empty lines before a dump are not counted, and those within it are
  pub not_counted : from_front ([] ∷ [] ∷ x ∷ []) ≡ record { says = not_ready ∷ []; mode = skipping }
  pub counted : from_front (one ∷ [] ∷ x ∷ []) ≡ record { says = said (refused missing_start_code 3) [] ∷ []; mode = skipping }
  -- a pause is a known beginning: after skipping, and after a dump that breaks off there
  pub after_garbage : listen_on intel anywhere front ((x ∷ []) ∷ (one ∷ end ∷ []) ∷ []) ≡ then_front (not_ready ∷ ready ∷ [])
  pub broken_off : listen_on intel anywhere front ((one ∷ []) ∷ (one ∷ end ∷ []) ∷ []) ≡ then_front (said (refused missing_end_of_file_record 0) [] ∷ ready ∷ [])
