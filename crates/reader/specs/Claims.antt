-- What is claimed of the readers beyond their contracts, and proved in `proofs/Claims.antt`, `proofs/Texts.antt`, `proofs/Naming.antt` and `proofs/Stays.antt`.
-- Assumes nothing.
use Rattle.std.specs.Prelude.{◌≡◌, ℕ, suc, ◌+◌, ◌^◌, ◌<◌, ◌≤◌, Bool, true, ◌↔◌, List, [], ◌∷◌, ◌++◌, length}
use Prim.Native.String.{String}
use Rattle.std.proofs.Math.Option.{some}
use mathlib.Core.List.{Memᴰ}
use Rattle.std.specs.Borrow.{Bor}
use Rattle.digits.specs.Common.{Every, text}
use Rattle.record.specs.Refusals.{Refusal, refusal, number_of, contains_invalid_characters, pool_full}
use Rattle.record.specs.Line.{Said, wrong, judge}
use Rattle.digits.specs.Reading.{named}
use Rattle.record.specs.Faults.{FirstOffender}
use Rattle.record.specs.Written.{rewritten}
use Rattle.record.specs.declared.Record.{Record}
use Rattle.reader.specs.Aliases.{Answer}
use Rattle.reader.specs.declared.ReaderError.{ReaderError}
use Rattle.reader.specs.declared.Figures.{Figures}
use Rattle.reader.specs.declared.ReaderError.TheVariants.{ContainsInvalidCharacters}
use Rattle.reader.specs.declared.ReaderOptions.{ReaderOptions}
use Rattle.reader.specs.declared.State.{State}
use Rattle.reader.specs.declared.Replied.{Replied}
use Rattle.reader.specs.Told.{Told, gives, refuses, done, told, FiguresOf}
use Rattle.reader.specs.Answer.{ReadRecord, answered}
use Rattle.reader.specs.Lines.{Joins, lines, through}
use Rattle.reader.specs.Row.{Numbered, on, line_number, sayings, stopped, row}
use Rattle.reader.specs.Text.{FirstLine, new_state, outcome, Next, Default, Ends, New, Number, IsPoolFull}
use Rattle.reader.specs.Calls.{Call, Given, NeverFull, Calls, replies, one_by_one}
use Rattle.std.specs.Prelude.{Err}

-- ---- one line

-- a line, and what is told of it, whatever the pool's length and the position
pub record Row : Type 0 where
  pub line : String
  pub answer : Told

-- the lines marked P in document 01
abbrev pub marked_P : List Row
marked_P =
    (record { line = ""; answer = refuses (refusal 1 []) }) ∷
    (record { line = ":"; answer = refuses (refusal 3 []) }) ∷
    (record { line = ":G"; answer = refuses (refusal 2 (1 ∷ [])) }) ∷
    (record { line = ":0100000"; answer = refuses (refusal 3 []) }) ∷
    (record { line = ":00000001FF0"; answer = refuses (refusal 5 []) }) ∷
    (record { line = ":00000001FE"; answer = refuses (refusal 6 (0xFF ∷ 0xFE ∷ [])) }) ∷
    (record { line = ":01000000FF"; answer = refuses (refusal 7 []) }) ∷
    (record { line = ":01000006F9"; answer = refuses (refusal 7 []) }) ∷
    (record { line = ":00000006FA"; answer = refuses (refusal 8 (6 ∷ [])) }) ∷
    (record { line = ":0100000100FE"; answer = refuses (refusal 9 []) }) ∷
    (record { line = ":00123401B9"; answer = gives 1 [] }) ∷
    (record { line = ":020000021200EA"; answer = gives 2 (0x1200 ∷ []) }) ∷
    (record { line = ":02000004FFFFFC"; answer = gives 4 (0xFFFF ∷ []) }) ∷
    (record { line = ":04000005000000CD2A"; answer = gives 5 (0xCD ∷ []) }) ∷ []

-- each line of the table is answered so, and the eleventh is rewritten with the address 0000
pub record Examples : Type 0 where
  pub answers : Every (λ (row : Row). (n at : ℕ) → answered (judge (text row.line)) n at ≡ row.answer) marked_P
  pub again : rewritten (judge (text ":00123401B9")) ≡ some (text ":00000001FF")

-- what is told says which answer it was
abbrev pub ToldApart : Type 0
ToldApart = (a b : Answer) → told a ≡ told b → a ≡ b

-- no second answer, and no second pool, meets the contract
abbrev pub ReadRecordUnique : Type 0
ReadRecordUnique =
    (line pool : List ℕ) (at : ℕ) (r r' : Answer) (p p' : List ℕ)
    → ReadRecord line pool at r p → ReadRecord line pool at r' p' → (r ≡ r') × (p ≡ p')

-- ContainsInvalidCharacters is answered exactly to a line that has an offender, and names the first one's place; the pool is as it was
abbrev pub AnswersTheOffender : Type 0
AnswersTheOffender =
    (line pool : List ℕ) (at p : ℕ) (pool' : List ℕ)
    → ReadRecord line pool at (Err (ContainsInvalidCharacters p)) pool' ↔ ((place : ℕ) × FirstOffender line place × (p ≡ named place) × (pool' ≡ pool))

-- ---- lines

-- the lines and their ends, one behind the other, are the text; and no other lines are
abbrev pub LinesJoin : Type 0
LinesJoin = (text : List ℕ) (ls : List (List ℕ)) → Joins text ls ↔ (ls ≡ lines text)

abbrev pub FirstLineUnique : Type 0
FirstLineUnique =
    (text line line' : Bor (List ℕ)) (behind behind' : ℕ) → FirstLine text line behind → FirstLine text line' behind'
    → (line.ref_ptr ≡ line'.ref_ptr) × (line.now ≡ line'.now) × (behind ≡ behind')

-- ---- texts

-- calls from the text's beginning are given what its lines say, in order, each with its line's number
abbrev pub Rows : Type 0
Rows =
    (options : ReaderOptions) (text : List ℕ) → length text < 2 ^ 64
    → (calls : List Call) (givens : List Given) → Calls text (new_state options) calls givens
    → givens ≡ replies options 0 (sayings 1 (lines text)) calls

-- where no call is told PoolFull: the reader's row over the text, and then "done" for ever
abbrev pub InOrder : Type 0
InOrder =
    (options : ReaderOptions) (text : List ℕ) → length text < 2 ^ 64
    → (calls : List Call) (givens : List Given) → NeverFull givens
    → Calls text (new_state options) calls givens
    → givens ≡ one_by_one 0 (row options text) calls

-- room for the longest payload is enough, in any state
abbrev pub RoomIsEnough : Type 0
RoomIsEnough =
    (text : List ℕ) (s : State) (calls : List Call) (givens : List Given) → Every (λ (c : Call). c.at + 255 ≤ length c.pool) calls
    → Calls text s calls givens → NeverFull givens

-- no more answers than lines
abbrev pub Bounded : Type 0
Bounded = (options : ReaderOptions) (text : List ℕ) → length (row options text) ≤ length (lines text)

-- each saying is that of the line with its number, and lines that have a byte have one each
abbrev pub NumbersAreLines : Type 0
NumbersAreLines =
    (text : List ℕ) (n : ℕ) (said : Said)
    → Memᴰ (on n said) (sayings 1 (lines text))
    ↔ ((c : ℕ) × (line : List ℕ) × (before : List (List ℕ)) × (after : List (List ℕ))
    × (lines text ≡ before ++ ((c ∷ line) ∷ after)) × (n ≡ suc (length before)) × (said ≡ judge (c ∷ line)))

-- the first offender of a text's n-th line stands at the place
pub record Offends (text : List ℕ) (n place : ℕ) : Type 0 where
  pub line : List ℕ
  pub before : List (List ℕ)
  pub after : List (List ℕ)
  pub stands : lines text ≡ before ++ (line ∷ after)
  pub number : n ≡ suc (length before)
  pub first : FirstOffender line place

-- what is said on line n is refusal 2 exactly where that line has an offender, and it names the first one's place there
abbrev pub SaysTheOffender : Type 0
SaysTheOffender =
    (text : List ℕ) (n : ℕ) (r : Refusal)
    → (Memᴰ (on n (wrong r)) (sayings 1 (lines text)) × (number_of r ≡ 2)) ↔ ((place : ℕ) × Offends text n place × (r ≡ contains_invalid_characters (named place)))

-- ---- calls from any state

-- once "done", always "done", whatever the text
abbrev pub DoneStays : Type 0
DoneStays =
    (s : State) (text pool : List ℕ) (at : ℕ) → (outcome s text pool at).told ≡ done
    → (text' pool' : List ℕ) (at' : ℕ) → outcome (outcome s text pool at).state text' pool' at' ≡ record { told = done; state = (outcome s text pool at).state; pool = pool' }

-- a position behind the text's end
abbrev pub DoneBehind : Type 0
DoneBehind = (s : State) (text pool : List ℕ) (at : ℕ) → length text ≤ s.position → (outcome s text pool at).told ≡ done

-- PoolFull changes nothing
abbrev pub FullKeeps : Type 0
FullKeeps =
    (s : State) (text pool : List ℕ) (at : ℕ) → (outcome s text pool at).told ≡ refuses pool_full
    → ((outcome s text pool at).state ≡ s) × ((outcome s text pool at).pool ≡ pool)

-- ---- what no answer depends on

-- old bytes of the pool
abbrev pub PoolBlind : Type 0
PoolBlind =
    (s : State) (text pool₁ pool₂ : List ℕ) (at : ℕ) → length pool₁ ≡ length pool₂
    → ((outcome s text pool₁ at).told ≡ (outcome s text pool₂ at).told) × ((outcome s text pool₁ at).state ≡ (outcome s text pool₂ at).state)

-- two texts that are the same through the LF of line k say the same up to line k
pub record Shared (k : ℕ) (text₁ text₂ : List ℕ) : Type 0 where
  pub both : List Numbered
  pub rest₁ : List Numbered
  pub rest₂ : List Numbered
  pub first : sayings 1 (lines text₁) ≡ both ++ rest₁
  pub second : sayings 1 (lines text₂) ≡ both ++ rest₂
  pub through_k : Every (λ (x : Numbered). line_number x ≤ k) both
  pub behind₁ : Every (λ (x : Numbered). k < line_number x) rest₁
  pub behind₂ : Every (λ (x : Numbered). k < line_number x) rest₂

abbrev pub SameThrough : Type 0
SameThrough =
    (k : ℕ) (text₁ text₂ head : List ℕ) → through k text₁ ≡ some head → through k text₂ ≡ some head → Shared k text₁ text₂

-- once a stop is set, the text behind the LF of the line that set it
abbrev pub NothingBehind : Type 0
NothingBehind =
    (options : ReaderOptions) (k : ℕ) (text₁ text₂ head : List ℕ) → through k text₁ ≡ some head → through k text₂ ≡ some head
    → stopped options (sayings 1 (lines head)) ≡ true → row options text₁ ≡ row options text₂

-- ---- one outcome each

abbrev pub NextUnique : Type 0
NextUnique =
    (s : State) (text pool : List ℕ) (at : ℕ) (r r' : Replied) (p p' : List ℕ)
    → Next s text pool at r p → Next s text pool at r' p' → (r ≡ r') × (p ≡ p')

abbrev pub DefaultUnique : Type 0
DefaultUnique = (r r' : ReaderOptions) → Default r → Default r' → r ≡ r'

abbrev pub EndsUnique : Type 0
EndsUnique = (options : ReaderOptions) (given : Record) (r r' : Bool) → Ends options given r → Ends options given r' → r ≡ r'

abbrev pub NewUnique : Type 0
NewUnique = (options : ReaderOptions) (r r' : State) → New options r → New options r' → r ≡ r'

abbrev pub NumberUnique : Type 0
NumberUnique = (e : ReaderError) (r r' : ℕ) → Number e r → Number e r' → r ≡ r'

abbrev pub FiguresUnique : Type 0
FiguresUnique = (e : ReaderError) (r r' : Figures) → FiguresOf e r → FiguresOf e r' → r ≡ r'

abbrev pub IsPoolFullUnique : Type 0
IsPoolFullUnique = (e : ReaderError) (r r' : Bool) → IsPoolFull e r → IsPoolFull e r' → r ≡ r'
