-- `listing::put_bytes`: the bytes before the index are put.
-- Assumes nothing.
use Rattle.std.proofs.Common.{◌≡◌, length, take}
use Rattle.digits.specs.Spelling.{spelt}
use Rattle.listing.specs.Helpers.{Puts}
use Rattle.listing.proofs.put_bytes.Given as goal

abbrev pub invariant-loop-b : goal.invariant-loop-b
invariant-loop-b l = record { size : length l.out ≡ length l.initial.out; puts : Puts l.initial.out l.at (spelt (take l.b-index l.s)) l.place l.out }
