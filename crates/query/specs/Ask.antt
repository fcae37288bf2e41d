-- One byte of a text of Intel HEX: the contract of `ask`. Document 02, wish 13.
-- Assumes nothing.
use Rattle.std.specs.Prelude.{◌≡◌, ℕ, List}
use Rattle.steps.specs.Ask.{Asked, states, not_stated, refuses}
use Rattle.steps.specs.Ask as steps
use Rattle.steps.specs.Told.{loader_refusal}
use Rattle.intel.specs.Placing.{intel}
use Rattle.query.specs.Aliases.{Asked as CodeAsked}
use Rattle.std.specs.Prelude.{None, Ok, Some}
use Rattle.std.specs.Prelude.{Err}

-- the byte that the last data record before the end record states at the address, that none does, or the refusal with its line
abbrev pub ask : (text : List ℕ) (address : ℕ) → Asked
ask text address = steps.ask intel address text

-- an answer of the code, in document 01's numbers
abbrev pub told_asked : CodeAsked → Asked
told_asked (Ok (Some byte)) = states byte
told_asked (Ok None) = not_stated
told_asked (Err z) = refuses (loader_refusal z.why) z.line

-- the contract of `ask`
pub record Ask (text : List ℕ) (address : ℕ) (r : CodeAsked) : Type 0 where
  pub answer : told_asked r ≡ ask text address
