-- What is claimed of `ihex_ask`, in its numbers: document 02, wish 13. Each claim is proved in `proofs/Asks.antt`.
-- Assumes nothing.
use Rattle.std.specs.Prelude.{ℕ, ◌+◌, ◌<◌, ◌≡◌, ◌≢◌, ◌⊎◌, true, List, [], ◌∷◌, length, get_or}
use Rattle.std.proofs.Math.Option.{some}
use Rattle.marks.specs.Marks.{mark_at}
use Rattle.reader.specs.Lines.{through}
use Rattle.steps.specs.Steps.{nothing_yet, Verdict, by, decision}
use Rattle.steps.specs.Account.{one_of}
use Rattle.steps.specs.Ask.{anywhere, Asked}
use Rattle.window.specs.Claims.{Window}
use Rattle.window.specs.Table.{site_of}
use Rattle.intel.specs.Placing.{steps_of}
use Rattle.query.specs.Claims.{Why}
use Rattle.entries.specs.Entry.{rows_of}
use Rattle.table.specs.Claims.{BadBytes}
use Rattle.codes.specs.Codes.{OK, NOT_STATED, LoadNumbers, AskNumbers, ask_numbers}
use Rattle.ihex.specs.Entries.{IhexLoad, IhexLoadTable, asked_in, IhexAsk}

-- ---- what is returned

-- a byte, with every other number 0; NOT_STATED, with every other number 0; or IHEX_REFUSED and one of these numbers
pub data Returned (r : AskNumbers) : Type 0 where
  a_byte : (byte : ℕ) → r ≡ asked_in OK 0 byte 0 → Returned r
  no_byte : r ≡ asked_in NOT_STATED 0 0 0 → Returned r
  a_refusal : (n : ℕ) → one_of (1 ∷ 2 ∷ 3 ∷ 4 ∷ 5 ∷ 6 ∷ 7 ∷ 8 ∷ 9 ∷ 13 ∷ 21 ∷ []) n ≡ true → r.code ≡ 256 + n → Returned r

abbrev pub IhexAskReturns : Type 0
IhexAskReturns = (text : List ℕ) (address : ℕ) (r : AskNumbers) → IhexAsk text address r → Returned r

-- it has a reason in the text's lines, and nothing else has one
pub record Reasoned (text : List ℕ) (address : ℕ) (r : AskNumbers) : Type 0 where
  pub answer : Asked
  pub why : Why text address answer
  pub told : r ≡ ask_numbers answer
  pub only : (a : Asked) → Why text address a → a ≡ answer

abbrev pub IhexAskReasons : Type 0
IhexAskReasons = (text : List ℕ) (address : ℕ) (r : AskNumbers) → IhexAsk text address r → Reasoned text address r

-- what follows the LF of the line that decides changes nothing
abbrev pub IhexAskNothingAfter : Type 0
IhexAskNothingAfter =
    (text₁ text₂ : List ℕ) (line : ℕ) (v : Verdict) → decision anywhere nothing_yet (steps_of text₁) ≡ some (by line v)
    → (head : List ℕ) → through line text₁ ≡ some head → through line text₂ ≡ some head
    → (address : ℕ) (r₁ r₂ : AskNumbers) → IhexAsk text₁ address r₁ → IhexAsk text₂ address r₂ → r₁ ≡ r₂

-- no second numbers meet the contract
abbrev pub IhexAskUnique : Type 0
IhexAskUnique = (text : List ℕ) (address : ℕ) (r r' : AskNumbers) → IhexAsk text address r → IhexAsk text address r' → r ≡ r'

-- ---- beside a load

-- what is returned, and a place after a load: it is marked and holds the byte that is returned; or it is not marked, keeps the byte that it had, and
-- NOT_STATED is returned
pub data Agrees (r : AskNumbers) (old mark byte : ℕ) : Type 0 where
  both_state : mark ≡ 1 → r ≡ asked_in OK 0 byte 0 → Agrees r old mark byte
  none_states : mark ≡ 0 → byte ≡ old → r ≡ asked_in NOT_STATED 0 0 0 → Agrees r old mark byte

-- of each text that `ihex_load` accepts, in every window, at every place
abbrev pub IhexAskAgrees : Type 0
IhexAskAgrees =
    (text : List ℕ) (first : ℕ) (page marks : List ℕ) (l : LoadNumbers) (p m : List ℕ) → IhexLoad text first page marks l p m → l.code ≡ OK
    → (i : ℕ) → i < length page → (r : AskNumbers) → IhexAsk text (first + i) r → Agrees r (get_or page i 0) (mark_at m i) (get_or p i 0)

-- and that `ihex_load_table` accepts, at every place of the owner's windows
abbrev pub IhexAskAgreesByTable : Type 0
IhexAskAgreesByTable =
    (text : List ℕ) (owner : ℕ) (table pool marks : List ℕ) (l : LoadNumbers) (p m : List ℕ) → IhexLoadTable text owner table pool marks l p m → l.code ≡ OK
    → (i address : ℕ) → i < length pool → site_of owner (rows_of table) i ≡ some address
    → (r : AskNumbers) → IhexAsk text address r → Agrees r (get_or pool i 0) (mark_at m i) (get_or p i 0)

-- a load's answer and that of a byte: both accept the text; both refuse it, with the same code, line and values; or the load is refused with 17
pub data Alike (l : LoadNumbers) (r : AskNumbers) : Type 0 where
  both_accept : l.code ≡ OK → (r.code ≡ OK) ⊎ (r.code ≡ NOT_STATED) → Alike l r
  both_refuse : l.code ≢ OK → r ≡ asked_in l.code l.line l.a l.b → Alike l r
  outside_only : l.code ≡ 256 + 17 → Alike l r

-- so it is in every good window, at every address
abbrev pub IhexAskAsLoad : Type 0
IhexAskAsLoad =
    (text : List ℕ) (first : ℕ) (page marks : List ℕ) (l : LoadNumbers) (p m : List ℕ) → Window first page marks → IhexLoad text first page marks l p m
    → (address : ℕ) (r : AskNumbers) → IhexAsk text address r → Alike l r

-- and through every good table
abbrev pub IhexAskAsLoadTable : Type 0
IhexAskAsLoadTable =
    (text : List ℕ) (owner : ℕ) (table pool marks : List ℕ) (l : LoadNumbers) (p m : List ℕ) → ¬ BadBytes owner table (length pool) (length marks)
    → IhexLoadTable text owner table pool marks l p m → (address : ℕ) (r : AskNumbers) → IhexAsk text address r → Alike l r
