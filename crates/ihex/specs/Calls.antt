-- A row of calls of `ihex_next`, and what they return, in numbers.
-- Assumes nothing.
use Rattle.std.specs.Prelude.{ℕ, ◌≡◌, ◌↔◌, List, [], ◌∷◌}
use Rattle.reader.specs.Calls.{Call, Given, Calls}
use Rattle.codes.specs.Codes.{value, reading}
use Rattle.codes.specs.States.{state_of}
use Rattle.ihex.specs.Entries.{IhexNext}

-- what a call of a reader returns and leaves: its code and values, the number of the line that was answered last, and what the pool holds
pub record Returned : Type 0 where
  pub code : ℕ
  pub a : ℕ
  pub b : ℕ
  pub c : ℕ
  pub line : ℕ
  pub pool : List ℕ

-- what a call is given, in numbers
abbrev pub in_numbers : Given → Returned
in_numbers g =
    let m = reading g.told in record { code = m.code; a = value m 0; b = value m 1; c = value m 2; line = g.line; pool = g.pool }

abbrev pub all_in_numbers : List Given → List Returned
all_in_numbers [] = []
all_in_numbers (g ∷ gs) = in_numbers g ∷ all_in_numbers gs

-- calls of `ihex_next` from three numbers on: each is handed the position, line and flags that the call before it left, and all that is
-- known of each is its contract
pub data IhexCalls (text : List ℕ) : (position line flags : ℕ) → List Call → List Returned → Type 0 where
  no_more : {position line flags : ℕ} → IhexCalls text position line flags [] []
  one_more : {position line flags : ℕ} {call : Call} {calls : List Call} {returns : List Returned} (r position' line' flags' a b c : ℕ) (pool' : List ℕ)
      → IhexNext (state_of position line flags) text call.pool call.at r position' line' flags' a b c pool'
      → IhexCalls text position' line' flags' calls returns
      → IhexCalls text position line flags (call ∷ calls) (record { code = r; a = a; b = b; c = c; line = line'; pool = pool' } ∷ returns)

-- calls of `ihex_next` return, in numbers, what the text reader's calls are given from the state in those numbers, and nothing else
abbrev pub IhexCallsAsCalls : Type 0
IhexCallsAsCalls =
    (text : List ℕ) (position line flags : ℕ) (calls : List Call) (returns : List Returned)
    → IhexCalls text position line flags calls returns
    ↔ ((givens : List Given) × Calls text (state_of position line flags) calls givens × (returns ≡ all_in_numbers givens))
