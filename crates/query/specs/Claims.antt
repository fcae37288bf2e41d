-- What is claimed of a byte that is asked: why it is answered so, that nothing else meets the contract, that the text is read once, and that nothing
-- after the line that decides counts. Each claim is proved in `proofs/Claims.antt` or `proofs/Along.antt`. That the answers agree with a load stands
-- where loads are known: for every source and room in `steps`, for a window and a table in `window`, and of the C entry points in `ihex`.
-- Assumes nothing.
use Rattle.std.specs.Prelude.{◌≡◌, ℕ, true, List, [], ◌∷◌, ◌++◌}
use Rattle.std.proofs.Math.Option.{some}
use Rattle.digits.specs.Common.{text}
use Rattle.digits.specs.Reading.{named}
use Rattle.record.specs.Refusals.{Refusal, number_of, missing_start_code, contains_invalid_characters, checksum_mismatch, missing_end_of_file_record, start_conflict}
use Rattle.reader.specs.Lines.{LF, lines, through}
use Rattle.reader.specs.Row.{row}
use Rattle.reader.specs.Text.{default_options}
use Rattle.reader.specs.Claims.{Offends}
use Rattle.steps.specs.Steps.{Tally, nothing_yet, Verdict, accepted, refused, by, decision}
use Rattle.steps.specs.Account.{AllPass, Decided, one_of}
use Rattle.steps.specs.Ask.{anywhere, Asked, states, not_stated, refuses}
use Rattle.intel.specs.Placing.{steps_of, placements}
use Rattle.intel.specs.Lines.{account}
use Rattle.intel.specs.Sums.{Puts, LastPut}
use Rattle.query.specs.Aliases.{Asked as CodeAsked}
use Rattle.query.specs.Along.{nothing_known, asked_along}
use Rattle.query.specs.Ask.{ask, Ask}

-- ---- why, said of the text's lines

-- what these lines put at the address, by Intel's sums: a last byte, or none
pub data PutsLast (ahead : List (List ℕ)) (address : ℕ) : Asked → Type 0 where
  this_byte : (byte : ℕ) → LastPut ahead address byte → PutsLast ahead address (states byte)
  no_byte : ((n dri byte : ℕ) → ¬ Puts ahead n dri address byte) → PutsLast ahead address not_stated

-- line n of a text decides it, with every address inside: each line before it passes
abbrev pub AtLine : (text : List ℕ) (n : ℕ) → Verdict → Type 0
AtLine text n v = Decided (account anywhere) (lines text) (placements text) n v

-- a reason for an answer: no line decides; a line is refused, or states another start; or the end record comes, and the lines before it have this
-- byte at the address, or none
pub data Why (text : List ℕ) (address : ℕ) : Asked → Type 0 where
  no_end : AllPass (account anywhere) [] (lines text) → Why text address (refuses missing_end_of_file_record 0)
  bad_line : (n : ℕ) (r : Refusal) (line : ℕ) → AtLine text n (refused r line) → Why text address (refuses r line)
  at_end : (n : ℕ) (t : Tally) (d : AtLine text n (accepted t)) (a : Asked) → PutsLast d.ahead address a → Why text address a

-- each answer has one
abbrev pub Reasons : Type 0
Reasons = (text : List ℕ) (address : ℕ) → Why text address (ask text address)

-- and no other answer has one
abbrev pub OneReason : Type 0
OneReason = (text : List ℕ) (address : ℕ) (a a' : Asked) → Why text address a → Why text address a' → a ≡ a'

-- a refusal has one of these numbers: not 16, and not 17
abbrev pub Among : (numbers : List ℕ) → Asked → Type 0
Among numbers (states byte) = Unit
Among numbers not_stated = Unit
Among numbers (refuses r line) = one_of numbers (number_of r) ≡ true

abbrev pub Total : Type 0
Total = (text : List ℕ) (address : ℕ) → Among (1 ∷ 2 ∷ 3 ∷ 4 ∷ 5 ∷ 6 ∷ 7 ∷ 8 ∷ 9 ∷ 13 ∷ 21 ∷ []) (ask text address)

-- a text that is refused with 2 is refused at a line that has an offender, and the first one's place there is named
abbrev pub AskNamesTheOffender : Type 0
AskNamesTheOffender =
    (text : List ℕ) (address : ℕ) (r : Refusal) (n : ℕ) → ask text address ≡ refuses r n → number_of r ≡ 2
    → (place : ℕ) × Offends text n place × (r ≡ contains_invalid_characters (named place))

-- whether a text is refused, and how, does not depend on the address
abbrev pub RefusedEverywhere : Type 0
RefusedEverywhere = (text : List ℕ) (address address' : ℕ) (r : Refusal) (n : ℕ) → ask text address ≡ refuses r n → ask text address' ≡ refuses r n

-- ---- once

-- the answer comes of one walk over what the text reader says with both stops on
abbrev pub AskByRow : Type 0
AskByRow = (text : List ℕ) (address : ℕ) → ask text address ≡ asked_along address nothing_known (row default_options text)

-- ---- what follows

-- two texts that are the same through the LF of the line that decides the first: what follows changes no answer
abbrev pub NothingAfter : Type 0
NothingAfter =
    (text₁ text₂ : List ℕ) (line : ℕ) (v : Verdict) → decision anywhere nothing_yet (steps_of text₁) ≡ some (by line v)
    → (head : List ℕ) → through line text₁ ≡ some head → through line text₂ ≡ some head
    → (address : ℕ) → ask text₁ address ≡ ask text₂ address

-- ---- the contract

-- no second answer meets it
abbrev pub AskUnique : Type 0
AskUnique = (text : List ℕ) (address : ℕ) (r r' : CodeAsked) → Ask text address r → Ask text address r' → r ≡ r'

-- ---- examples

-- 11 at address 0; 22 there; the end; a line that is not a record
abbrev pub D : List ℕ
D = text ":0100000011EE"

abbrev pub D' : List ℕ
D' = text ":0100000022DD"

abbrev pub E : List ℕ
E = text ":00000001FF"

-- a record that goes on after the offset FFFF
abbrev pub beyond : List ℕ
beyond = text ":02FFFF00AABB9B"

-- under the last linear base
abbrev pub last_linear : List ℕ
last_linear = text ":02000004FFFFFC"

-- two starts
abbrev pub X : List ℕ
X = text ":04000005000000CD2A"

abbrev pub X' : List ℕ
X' = text ":04000005000000CE29"

pub record Examples : Type 0 where
  pub found : ask (D ++ (LF ∷ E)) 0 ≡ states 0x11
  pub elsewhere : ask (D ++ (LF ∷ E)) 5 ≡ not_stated
  -- a loader with a window at 5 would refuse line 1 with 17
  pub no_window : ask (D ++ (LF ∷ text ":00000001FE")) 5 ≡ refuses (checksum_mismatch 0xFF 0xFE) 2
  -- a byte that was found is not returned if the text is refused later
  pub found_then_refused : ask (D ++ (LF ∷ text "x" ++ (LF ∷ E))) 0 ≡ refuses missing_start_code 2
  pub found_without_end : ask D 0 ≡ refuses missing_end_of_file_record 0
  pub last_wins : ask (D ++ (LF ∷ D' ++ (LF ∷ E))) 0 ≡ states 0x22
  -- what follows the end record is not read
  pub after_the_end : ask (D ++ (LF ∷ E ++ (LF ∷ D' ++ (LF ∷ E)))) 0 ≡ states 0x11
  -- in a segment the offset wraps
  pub wraps : ask (beyond ++ (LF ∷ E)) 0 ≡ states 0xBB
  pub no_further : ask (beyond ++ (LF ∷ E)) 0x10000 ≡ not_stated
  -- under a linear base the address does
  pub at_the_top : ask (last_linear ++ (LF ∷ beyond ++ (LF ∷ E))) 0xFFFFFFFF ≡ states 0xAA
  pub from_the_top : ask (last_linear ++ (LF ∷ beyond ++ (LF ∷ E))) 0 ≡ states 0xBB
  pub two_starts : ask (D ++ (LF ∷ X ++ (LF ∷ X ++ (LF ∷ X')))) 0 ≡ refuses start_conflict 4
