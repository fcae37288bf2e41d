-- A row of calls of the text reader, and what they are given.
-- Assumes nothing.
use Rattle.std.specs.Prelude.{◌≡◌, ℕ, false, List, [], ◌∷◌, length}
use Rattle.digits.specs.Common.{Every}
use Rattle.std.specs.Prelude.{if◌then◌else◌}
use Rattle.reader.specs.declared.ReaderOptions.{ReaderOptions}
use Rattle.reader.specs.declared.State.{State}
use Rattle.reader.specs.declared.Replied.{Replied}
use Rattle.reader.specs.Told.{Told, done}
use Rattle.reader.specs.Answer.{answered, poured}
use Rattle.reader.specs.Row.{Numbered, on}
use Rattle.reader.specs.Text.{told_reply, is_full, ends_row, Next}

-- what a call brings
pub record Call : Type 0 where
  pub pool : List ℕ
  pub at : ℕ

-- what it is given: what is told, what the pool holds then, and the number of the line that was answered last
pub record Given : Type 0 where
  pub told : Told
  pub pool : List ℕ
  pub line : ℕ

-- no call is told PoolFull
abbrev pub NeverFull : List Given → Type 0
NeverFull givens = Every (λ (g : Given). is_full g.told ≡ false) givens

-- calls that start in a state: all that is known of each is its contract
pub data Calls (text : List ℕ) : State → List Call → List Given → Type 0 where
  no_more : {s : State} → Calls text s [] []
  one_more : {s : State} {call : Call} {calls : List Call} {givens : List Given} (r : Replied) (pool' : List ℕ)
      → Next s text call.pool call.at r pool' → Calls text r.state calls givens
      → Calls text s (call ∷ calls) (record { told = told_reply r.reply; pool = pool'; line = r.state.line } ∷ givens)

-- what is given where nothing is left to read
abbrev pub given_done : (last : ℕ) → Call → Given
given_done last call = record { told = done; pool = call.pool; line = last }

-- and where this is said on line n
abbrev pub given_for : Numbered → Call → Given
given_for (on n said) call = record { told = answered said (length call.pool) call.at; pool = poured said call.pool call.at; line = n }

-- the givens of calls that have this to read, with `last` the line answered last: PoolFull leaves its line to the next call
unfoldable pub replies : ReaderOptions → (last : ℕ) → List Numbered → List Call → List Given
unfolding is_full ends_row answered poured
replies options last left [] = []
replies options last [] (call ∷ calls) = given_done last call ∷ replies options last [] calls
replies options last (on n said ∷ left) (call ∷ calls) =
    let t = answered said (length call.pool) call.at in
    if is_full t
    then record { told = t; pool = call.pool; line = last } ∷ replies options last (on n said ∷ left) calls
    else given_for (on n said) call ∷ replies options n (if ends_row options t then [] else left) calls

-- one call a saying, and "done" for ever behind the last
unfoldable pub one_by_one : (last : ℕ) → List Numbered → List Call → List Given
unfolding answered poured
one_by_one last left [] = []
one_by_one last [] (call ∷ calls) = given_done last call ∷ one_by_one last [] calls
one_by_one last (on n said ∷ left) (call ∷ calls) = given_for (on n said) call ∷ one_by_one n left calls
