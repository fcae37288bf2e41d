-- What is claimed of `ihex_next`, call after call, and of the pool that it and `ihex_read_record` are lent.
-- Assumes nothing.
use Rattle.std.specs.Prelude.{ℕ, ◌+◌, ◌^◌, ◌≤◌, ◌<◌, ◌≡◌, ◌≢◌, true, false, List, length, drop}
use Rattle.std.proofs.Math.Option.{some}
use Rattle.digits.specs.Common.{Every}
use Rattle.reader.specs.declared.ReaderOptions.{ReaderOptions}
use Rattle.reader.specs.declared.State.{State}
use Rattle.reader.specs.Lines.{lines, through, a_line, next_line}
use Rattle.reader.specs.Row.{sayings, stopped, row}
use Rattle.reader.specs.Text.{new_state}
use Rattle.reader.specs.Calls.{Call, replies, one_by_one}
use Rattle.codes.specs.Codes.{DONE, POOL_FULL}
use Rattle.codes.specs.States.{state_of, flags_of}
use Rattle.codes.specs.Claims.{ThreeFlagsRead}
use Rattle.ihex.specs.Entries.{IhexReadRecord, IhexNext}
use Rattle.ihex.specs.Calls.{Returned, all_in_numbers, IhexCalls}

-- ---- calls from the beginning of a text

-- calls from position 0, line 0 and the stops as flags
abbrev pub FromTheBeginning : ReaderOptions → (text : List ℕ) → List Call → List Returned → Type 0
FromTheBeginning options text calls returns = IhexCalls text 0 0 (flags_of (new_state options)) calls returns

-- no call returns IHEX_POOL_FULL
abbrev pub NoneFull : List Returned → Type 0
NoneFull returns = Every (λ (g : Returned). g.code ≢ POOL_FULL) returns

-- they return what the lines of the text say, in order, each with its line's number
abbrev pub IhexRows : Type 0
IhexRows =
    (options : ReaderOptions) (text : List ℕ) → length text < 2 ^ 64
    → (calls : List Call) (returns : List Returned) → FromTheBeginning options text calls returns
    → returns ≡ all_in_numbers (replies options 0 (sayings 1 (lines text)) calls)

-- where none returns IHEX_POOL_FULL: the row over the lines up to the stop that is set, and then IHEX_DONE for ever
abbrev pub IhexInOrder : Type 0
IhexInOrder =
    (options : ReaderOptions) (text : List ℕ) → length text < 2 ^ 64
    → (calls : List Call) (returns : List Returned) → NoneFull returns → FromTheBeginning options text calls returns
    → returns ≡ all_in_numbers (one_by_one 0 (row options text) calls)

-- and room for IHEX_MAX_PAYLOAD bytes in the pool is enough for that, from any state
abbrev pub IhexRoomIsEnough : Type 0
IhexRoomIsEnough =
    (text : List ℕ) (position line flags : ℕ) (calls : List Call) (returns : List Returned) → Every (λ (c : Call). c.at + 255 ≤ length c.pool) calls
    → IhexCalls text position line flags calls returns → NoneFull returns

-- text after the LF of the line that sets a stop changes nothing that is returned, and no pool
abbrev pub IhexNothingAfter : Type 0
IhexNothingAfter =
    (options : ReaderOptions) (k : ℕ) (text₁ text₂ head : List ℕ) → length text₁ < 2 ^ 64 → length text₂ < 2 ^ 64
    → through k text₁ ≡ some head → through k text₂ ≡ some head → stopped options (sayings 1 (lines head)) ≡ true
    → (calls : List Call) (returns₁ returns₂ : List Returned)
    → FromTheBeginning options text₁ calls returns₁ → FromTheBeginning options text₂ calls returns₂ → returns₁ ≡ returns₂

-- ---- one call

-- it reads the next line that has a byte as `ihex_read_record` does
abbrev pub IhexNextAsReadRecord : Type 0
IhexNextAsReadRecord =
    (s : State) (text pool : List ℕ) (at r i l f a b c : ℕ) (pool' : List ℕ) → IhexNext s text pool at r i l f a b c pool'
    → s.finished ≡ false → (empties : ℕ) (line left : List ℕ) → next_line 0 (drop s.position text) ≡ a_line empties line left
    → IhexReadRecord line pool at r a b c pool'

-- after IHEX_DONE each call returns IHEX_DONE, whatever the text, and changes neither the state nor the pool
abbrev pub IhexDoneStays : Type 0
IhexDoneStays =
    (s : State) (text pool : List ℕ) (at i l f a b c : ℕ) (pool' : List ℕ) → IhexNext s text pool at DONE i l f a b c pool'
    → (text₂ pool₂ : List ℕ) (at₂ r₂ i₂ l₂ f₂ a₂ b₂ c₂ : ℕ) (pool₂' : List ℕ) → IhexNext (state_of i l f) text₂ pool₂ at₂ r₂ i₂ l₂ f₂ a₂ b₂ c₂ pool₂'
    → (r₂ ≡ DONE) × ((i₂ ≡ i) × (l₂ ≡ l) × (f₂ ≡ f)) × (pool₂' ≡ pool₂)

-- after IHEX_POOL_FULL position, line and the three flags are as they were
abbrev pub IhexFullKeeps : Type 0
IhexFullKeeps =
    (position line flags : ℕ) (text pool : List ℕ) (at i l f a b c : ℕ) (pool' : List ℕ)
    → IhexNext (state_of position line flags) text pool at POOL_FULL i l f a b c pool'
    → (i ≡ position) × (l ≡ line) × (state_of i l f ≡ state_of position line flags)

-- of the flags only the first three bits are read, and the others are 0 at exit
pub record FlagsOfThree : Type 0 where
  pub others_not_read : ThreeFlagsRead
  pub others_zero : (s : State) (text pool : List ℕ) (at r i l f a b c : ℕ) (pool' : List ℕ) → IhexNext s text pool at r i l f a b c pool' → f < 8

-- only a data record changes the pool: no refusal does, and no other record
abbrev pub IhexReadRecordKeeps : Type 0
IhexReadRecordKeeps =
    (line pool : List ℕ) (at r a b c : ℕ) (pool' : List ℕ) → IhexReadRecord line pool at r a b c pool' → r ≢ 0 → pool' ≡ pool

abbrev pub IhexNextKeeps : Type 0
IhexNextKeeps =
    (s : State) (text pool : List ℕ) (at r i l f a b c : ℕ) (pool' : List ℕ) → IhexNext s text pool at r i l f a b c pool' → r ≢ 0 → pool' ≡ pool
