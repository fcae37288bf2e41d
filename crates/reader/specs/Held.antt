-- The reader that holds its text: what its calls answer and leave, in the by-value reader's terms, and the row of its answers.
-- Assumes nothing.
use Rattle.std.specs.Prelude.{◌≡◌, ℕ, ◌^◌, ◌<◌, ◌↔◌, List, [], ◌∷◌, length}
use Rattle.std.specs.Borrow.{Bor}
use Rattle.reader.specs.declared.ReaderOptions.{ReaderOptions}
use Rattle.reader.specs.Aliases.{Reply}
use Rattle.reader.specs.declared.Reader.{Reader}
use Rattle.reader.specs.Lines.{lines}
use Rattle.reader.specs.Row.{sayings, row}
use Rattle.reader.specs.Text.{told_reply, new_state, Outcome, outcome}
use Rattle.reader.specs.Calls.{Call, Given, NeverFull, Calls, replies, one_by_one}

-- ---- contracts

-- of `Reader::new` and `Reader::new_with_options`: the very text that was lent, at its beginning
pub record Opened (text : Bor (List ℕ)) (options : ReaderOptions) (r : Reader) : Type 0 where
  pub holds : r.text ≡ text
  pub stands : r.state ≡ new_state options

-- what a call of the by-value reader makes of a reader, with the text that it holds
abbrev pub held : Reader → (pool : List ℕ) (at : ℕ) → Outcome
held h pool at = outcome h.state h.text.now pool at

-- of `Reader::next`: the answer, where the reader stands then, the text that it still holds, and the pool
pub record Asked (h : Reader) (pool : List ℕ) (at : ℕ) (r : Reply) (h' : Reader) (pool' : List ℕ) : Type 0 where
  pub answer : told_reply r ≡ (held h pool at).told
  pub stands : h'.state ≡ (held h pool at).state
  pub holds : h'.text ≡ h.text
  pub left : pool' ≡ (held h pool at).pool

-- ---- rows

-- calls of `Reader::next`, one after the other: all that is known of each is its contract
pub data Asks : Reader → List Call → List Given → Type 0 where
  asked_out : {h : Reader} → Asks h [] []
  asked : {h : Reader} {call : Call} {calls : List Call} {givens : List Given} (r : Reply) (h' : Reader) (pool' : List ℕ)
      → Asked h call.pool call.at r h' pool' → Asks h' calls givens
      → Asks h (call ∷ calls) (record { told = told_reply r; pool = pool'; line = h'.state.line } ∷ givens)

-- a reader that holds its text is given what the by-value reader is given with that text, and nothing else
abbrev pub HeldAsByValue : Type 0
HeldAsByValue = (h : Reader) (calls : List Call) (givens : List Given) → Asks h calls givens ↔ Calls h.text.now h.state calls givens

-- so a reader that was opened is given what the lines of its text say, in order
abbrev pub HeldRows : Type 0
HeldRows =
    (options : ReaderOptions) (text : Bor (List ℕ)) → length text.now < 2 ^ 64
    → (h : Reader) → Opened text options h → (calls : List Call) (givens : List Given) → Asks h calls givens
    → givens ≡ replies options 0 (sayings 1 (lines text.now)) calls

-- and where no call is told PoolFull: the row over its text, and then "done" for ever
abbrev pub HeldInOrder : Type 0
HeldInOrder =
    (options : ReaderOptions) (text : Bor (List ℕ)) → length text.now < 2 ^ 64
    → (h : Reader) → Opened text options h → (calls : List Call) (givens : List Given) → NeverFull givens
    → Asks h calls givens → givens ≡ one_by_one 0 (row options text.now) calls

-- ---- one outcome each

abbrev pub ReaderNewUnique : Type 0
ReaderNewUnique = (text : Bor (List ℕ)) (options : ReaderOptions) (r r' : Reader) → Opened text options r → Opened text options r' → r ≡ r'

abbrev pub ReaderNextUnique : Type 0
ReaderNextUnique =
    (h : Reader) (pool : List ℕ) (at : ℕ) (r₁ r₂ : Reply) (h₁ h₂ : Reader) (p₁ p₂ : List ℕ)
    → Asked h pool at r₁ h₁ p₁ → Asked h pool at r₂ h₂ p₂ → (r₁ ≡ r₂) × (h₁ ≡ h₂) × (p₁ ≡ p₂)
