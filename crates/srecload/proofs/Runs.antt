-- The bytes of a data record are at most two runs: up to the last address, and from address 0 on.
-- Assumes nothing.
use Rattle.std.proofs.Common.{◌≡◌, ℕ, ◌-◌, ◌^◌, ◌<◌, ◌≤◌, min, arith}
use Rattle.window.proofs.Spread.{Runs}
use Rattle.srecload.specs.Placing.{s_address}

module _ (address len : ℕ) (a : address < 2 ^ 32) (l : len ≤ 252) (k : ℕ) (is-k : k ≡ min len (2 ^ 32 - address)) where
  pub few : k ≤ len
  few = omega arith

  pub runs : Runs (s_address address) k len
  unfolding s_address
  runs = record { low = λ i h. omega arith; high = λ i h. omega arith }

  -- the first run begins at the address, and the second, if there is one, at 0
  pub from_address : address ≡ s_address address 0
  unfolding s_address
  from_address = omega arith

  pub from_zero : k < len → 0 ≡ s_address address k
  unfolding s_address
  from_zero h = omega arith
