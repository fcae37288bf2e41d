-- What the loop keeps: the sum so far, with the bytes left, is the whole sum modulo 256.
use Rattle.std.proofs.Common.{◌≡◌, ◌+◌, ◌%◌, drop}
use Rattle.checksum.specs.Checksum
use Rattle.checksum.proofs.checksum.Given as goal

abbrev pub invariant-loop-byte : goal.invariant-loop-byte
invariant-loop-byte l = (l.sum + Checksum.sum (drop l.byte-index l.bytes)) % 256 ≡ Checksum.sum l.bytes % 256
