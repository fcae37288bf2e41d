-- The bytes of a data record are at most two runs: up to the end of its segment, and from there on.
-- Assumes nothing.
use Rattle.std.proofs.Common.{◌≡◌, ℕ, ◌-◌, ◌<◌, ◌≤◌, min, arith}
use Rattle.window.proofs.Spread.{Runs}
use Rattle.loader.specs.declared.Base.{Base as CodeBase}
use Rattle.loader.specs.declared.Base.TheVariants.{Segment, Linear}
use Rattle.intel.specs.Placing.{byte_address}
use Rattle.loader.specs.Helpers.{based}

two_runs : (base : CodeBase) (offset len : ℕ) → offset < 65536 → len ≤ 255 → Runs (byte_address (based base) offset) (min len (65536 - offset)) len
unfolding byte_address
two_runs (Segment number) offset len o l = record { low = λ i h. omega arith; high = λ i h. omega arith }
two_runs (Linear number) offset len o l = record { low = λ i h. omega arith; high = λ i h. omega arith }

module _ (base : CodeBase) (offset len : ℕ) (o : offset < 65536) (l : len ≤ 255) (k : ℕ) (is-k : k ≡ min len (65536 - offset)) where
  pub few : k ≤ len
  few = omega arith

  pub runs : Runs (byte_address (based base) offset) k len
  runs = rw is-k (two_runs base offset len o l)
