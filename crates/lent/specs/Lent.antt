-- The two lent forms called with values: the contracts of `first_record` and `nth_of`, and what is claimed. `next_of` has the contract of `State::next`, and `object_of` that of `create_object_file_representation`, of the first n records.
-- Assumes nothing.
use Rattle.std.specs.Prelude.{ℕ, zero, suc, ◌^◌, ◌<◌, ◌≡◌, ◌↔◌, List, [], ◌∷◌, length}
use Rattle.reader.specs.declared.ReaderOptions.{ReaderOptions}
use Rattle.reader.specs.declared.State.{State}
use Rattle.reader.specs.Aliases.{Reply}
use Rattle.reader.specs.declared.Replied.{Replied}
use Rattle.reader.specs.Lines.{lines}
use Rattle.reader.specs.Row.{sayings}
use Rattle.reader.specs.Text.{told_reply, default_options, new_state, Outcome, outcome}
use Rattle.reader.specs.Calls.{Call, Given, replies}
use Rattle.reader.specs.Claims.{NextUnique}
use Rattle.writer.specs.Claims.{CreateObjectFileRepresentationUnique}

-- ---- contracts

-- of `first_record`
pub record FirstRecord (text pool : List ℕ) (at : ℕ) (r : Reply) (pool' : List ℕ) : Type 0 where
  pub answer : told_reply r ≡ (outcome (new_state default_options) text pool at).told
  pub left : pool' ≡ (outcome (new_state default_options) text pool at).pool

-- the ask after n others: each goes on where the one before it stopped, with the pool as that one left it
unfoldable pub asked : (n : ℕ) → State → (text pool : List ℕ) (at : ℕ) → Outcome
unfolding outcome
asked zero s text pool at = outcome s text pool at
asked (suc n) s text pool at = let o = outcome s text pool at in asked n o.state text o.pool at

-- of `nth_of`
pub record NthOf (options : ReaderOptions) (text pool : List ℕ) (at n : ℕ) (r : Replied) (pool' : List ℕ) : Type 0 where
  pub answer : told_reply r.reply ≡ (asked n (new_state options) text pool at).told
  pub state : r.state ≡ (asked n (new_state options) text pool at).state
  pub left : pool' ≡ (asked n (new_state options) text pool at).pool

-- ---- the text's row

-- `first_record` tells what the first line that has a byte says, or "done"
abbrev pub FirstRecordSays : Type 0
FirstRecordSays =
    (text pool : List ℕ) (at : ℕ) → length text < 2 ^ 64 → (r : Reply) (pool' : List ℕ) → FirstRecord text pool at r pool'
    → (line : ℕ) × (replies default_options 0 (sayings 1 (lines text)) (record { pool = pool; at = at } ∷ []) ≡ record { told = told_reply r; pool = pool'; line = line } ∷ [])

-- n calls and one more, each with the pool as the call before it left it, and what the last of them is given
pub data InTurn (at : ℕ) : (n : ℕ) (pool : List ℕ) → List Call → List Given → (last : Given) → Type 0 where
  the_last : {pool : List ℕ} {last : Given} → InTurn at 0 pool (record { pool = pool; at = at } ∷ []) (last ∷ []) last
  one_before : {n : ℕ} {pool : List ℕ} {calls : List Call} {givens : List Given} {last : Given} (first : Given)
      → InTurn at n first.pool calls givens last → InTurn at (suc n) pool (record { pool = pool; at = at } ∷ calls) (first ∷ givens) last

-- `nth_of` returns what the last of n + 1 such calls is given by the lines of the text, and nothing else
abbrev pub NthOfSays : Type 0
NthOfSays =
    (options : ReaderOptions) (text pool : List ℕ) (at n : ℕ) → length text < 2 ^ 64 → (r : Replied) (pool' : List ℕ) → NthOf options text pool at n r pool'
    → (last : Given) → ((calls : List Call) × InTurn at n pool calls (replies options 0 (sayings 1 (lines text)) calls) last)
    ↔ (last ≡ record { told = told_reply r.reply; pool = pool'; line = r.state.line })

-- ---- one outcome each

abbrev pub FirstRecordUnique : Type 0
FirstRecordUnique =
    (text pool : List ℕ) (at : ℕ) (r₁ r₂ : Reply) (p₁ p₂ : List ℕ)
    → FirstRecord text pool at r₁ p₁ → FirstRecord text pool at r₂ p₂ → (r₁ ≡ r₂) × (p₁ ≡ p₂)

abbrev pub NextOfUnique : Type 0
NextOfUnique = NextUnique

abbrev pub NthOfUnique : Type 0
NthOfUnique =
    (options : ReaderOptions) (text pool : List ℕ) (at n : ℕ) (r₁ r₂ : Replied) (p₁ p₂ : List ℕ)
    → NthOf options text pool at n r₁ p₁ → NthOf options text pool at n r₂ p₂ → (r₁ ≡ r₂) × (p₁ ≡ p₂)

abbrev pub ObjectOfUnique : Type 0
ObjectOfUnique = CreateObjectFileRepresentationUnique
