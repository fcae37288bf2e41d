-- What is claimed of `ihex_load_table`, `ihex_load_srecords_table` and `ihex_check_table`, in their numbers: document 02, wish 12. Each is said once for
-- a load of any source, and then of both. Each claim is proved in `proofs/Tables.antt`.
-- Assumes nothing.
use Rattle.std.specs.Prelude.{ℕ, ◌+◌, ◌%◌, ◌≤◌, ◌<◌, ◌≡◌, ◌≢◌, ◌↔◌, ◌⊎◌, Bool, true, List, [], ◌∷◌, eqb, length, get_or}
use Rattle.std.proofs.Math.Option.{some}
use Rattle.std.specs.Prelude.{if◌then◌else◌}
use Rattle.marks.specs.Marks.{mark_at, Marked}
use Rattle.reader.specs.Lines.{through}
use Rattle.steps.specs.Steps.{Verdict, by, stated}
use Rattle.steps.specs.Source.{Source, steps_of}
use Rattle.steps.specs.Sites.{Shown, Owed}
use Rattle.steps.specs.Account.{Account, one_of}
use Rattle.window.specs.Table.{IsOwner, row, site_of}
use Rattle.window.specs.Tables.{stopping_by_table, Cabinet, SameFor}
use Rattle.window.specs.Reasons.{WhyTable}
use Rattle.intel.specs.Placing.{intel}
use Rattle.intel.specs.Lines.{account, line_refusals}
use Rattle.srecload.specs.Placing.{s_records}
use Rattle.srecload.specs.Claims.{account as s-account, line_refusals as s-line-refusals}
use Rattle.entries.specs.Entry.{WINDOW_SIZE, rows_of}
use Rattle.table.specs.Claims.{BadBytes}
use Rattle.codes.specs.Codes.{OK, BAD_TABLE, LoadNumbers}
use Rattle.ihex.specs.Entries.{IhexLoadBy, IhexLoadTableBy, IhexCheckTable}
use Rattle.ihex.specs.Loads.{Reasoned, StartTold, SStartTold}

-- ---- what is refused

-- `ihex_check_table` returns 0 or 23, and 23 exactly where loads through the table are refused with it, for the one owner or the other
abbrev pub IhexCheckTableExactly : Type 0
IhexCheckTableExactly =
    (table : List ℕ) (pool marks r : ℕ) → IhexCheckTable table pool marks r
    → ((r ≡ OK) ⊎ (r ≡ BAD_TABLE)) × ((owner : ℕ) → IsOwner owner → (r ≡ BAD_TABLE) ↔ BadBytes owner table pool marks)

-- bytes whose number is not a multiple of 24: 23 at line 0, and nothing changes
abbrev pub TableTorn : {S : Type 0} → Source S → Type 0
TableTorn src =
    (text : List ℕ) (owner : ℕ) (table pool marks : List ℕ) (r : LoadNumbers) (p m : List ℕ) → IhexLoadTableBy src text owner table pool marks r p m → length table % WINDOW_SIZE ≢ 0
    → (r.code ≡ BAD_TABLE) × (r.line ≡ 0) × (p ≡ pool) × (m ≡ marks)

abbrev pub IhexLoadTableTorn : Type 0
IhexLoadTableTorn = TableTorn intel

abbrev pub IhexLoadSrecordsTableTorn : Type 0
IhexLoadSrecordsTableTorn = TableTorn s_records

-- 23 exactly where the table or the call is refused, and then with line 0
abbrev pub TableRefusedExactly : {S : Type 0} → Source S → Type 0
TableRefusedExactly src =
    (text : List ℕ) (owner : ℕ) (table pool marks : List ℕ) (r : LoadNumbers) (p m : List ℕ) → IhexLoadTableBy src text owner table pool marks r p m
    → ((r.code ≡ BAD_TABLE) ↔ BadBytes owner table (length pool) (length marks)) × (r.code ≡ BAD_TABLE → r.line ≡ 0)

abbrev pub IhexLoadTableRefusedExactly : Type 0
IhexLoadTableRefusedExactly = TableRefusedExactly intel

abbrev pub IhexLoadSrecordsTableRefusedExactly : Type 0
IhexLoadSrecordsTableRefusedExactly = TableRefusedExactly s_records

-- what is returned is 0, or IHEX_REFUSED and one of these numbers: there is no 16
abbrev pub TableReturns : {S : Type 0} → Source S → (numbers : List ℕ) → Type 0
TableReturns src numbers =
    (text : List ℕ) (owner : ℕ) (table pool marks : List ℕ) (r : LoadNumbers) (p m : List ℕ) → IhexLoadTableBy src text owner table pool marks r p m
    → (r.code ≡ OK) ⊎ ((n : ℕ) × (one_of numbers n ≡ true) × (r.code ≡ 256 + n))

abbrev pub IhexLoadTableReturns : Type 0
IhexLoadTableReturns = TableReturns intel (13 ∷ 23 ∷ line_refusals)

abbrev pub IhexLoadSrecordsTableReturns : Type 0
IhexLoadSrecordsTableReturns = TableReturns s_records (13 ∷ 23 ∷ s-line-refusals)

-- of any other bytes, what is returned has a reason, and nothing else has one: 23 exactly where a limit is broken, and else as in the lines
abbrev pub TableReasoned : {S : Type 0} → Source S → (account : (inside : ℕ → Bool) → Account) → Type 0
TableReasoned src account =
    (text : List ℕ) (owner : ℕ) (table pool marks : List ℕ) (r : LoadNumbers) (p m : List ℕ) → IhexLoadTableBy src text owner table pool marks r p m → length table % WINDOW_SIZE ≡ 0
    → Reasoned (WhyTable src account owner (rows_of table) text pool marks) r

abbrev pub IhexLoadTableReasons : Type 0
IhexLoadTableReasons = TableReasoned intel account

abbrev pub IhexLoadSrecordsTableReasons : Type 0
IhexLoadSrecordsTableReasons = TableReasoned s_records s-account

-- a refusal changes no byte of pool or marks
abbrev pub TableKeeps : {S : Type 0} → Source S → Type 0
TableKeeps src =
    (text : List ℕ) (owner : ℕ) (table pool marks : List ℕ) (r : LoadNumbers) (p m : List ℕ) → IhexLoadTableBy src text owner table pool marks r p m → r.code ≢ OK
    → (p ≡ pool) × (m ≡ marks)

abbrev pub IhexLoadTableKeeps : Type 0
IhexLoadTableKeeps = TableKeeps intel

abbrev pub IhexLoadSrecordsTableKeeps : Type 0
IhexLoadSrecordsTableKeeps = TableKeeps s_records

-- ---- the start

-- with IHEX_OK the start is told as by the loads into a page, and with a refusal there is none
abbrev pub IhexLoadTableStart : Type 0
IhexLoadTableStart =
    (text : List ℕ) (owner : ℕ) (table pool marks : List ℕ) (r : LoadNumbers) (p m : List ℕ) → IhexLoadTableBy intel text owner table pool marks r p m → r.code ≡ OK → StartTold text r

abbrev pub IhexLoadSrecordsTableStart : Type 0
IhexLoadSrecordsTableStart =
    (text : List ℕ) (owner : ℕ) (table pool marks : List ℕ) (r : LoadNumbers) (p m : List ℕ) → IhexLoadTableBy s_records text owner table pool marks r p m → r.code ≡ OK → SStartTold text r

abbrev pub TableRefusedNoStart : {S : Type 0} → Source S → Type 0
TableRefusedNoStart src =
    (text : List ℕ) (owner : ℕ) (table pool marks : List ℕ) (r : LoadNumbers) (p m : List ℕ) → IhexLoadTableBy src text owner table pool marks r p m → r.code ≢ OK → r.start ≡ 0

abbrev pub IhexLoadTableRefusedNoStart : Type 0
IhexLoadTableRefusedNoStart = TableRefusedNoStart intel

abbrev pub IhexLoadSrecordsTableRefusedNoStart : Type 0
IhexLoadSrecordsTableRefusedNoStart = TableRefusedNoStart s_records

-- ---- demand 3, for one owner

-- of a load that returns IHEX_OK, at each place of the pool: a place of one of the owner's windows is marked exactly where a data record before the end
-- record states its address, and holds there what the last such record states; any other place keeps its byte and its mark
abbrev pub TableStores : {S : Type 0} → Source S → Type 0
TableStores src =
    (text : List ℕ) (owner : ℕ) (table pool marks : List ℕ) (r : LoadNumbers) (p m : List ℕ) → IhexLoadTableBy src text owner table pool marks r p m → r.code ≡ OK
    → (i : ℕ) → i < length pool → Owed (site_of owner (rows_of table) i) (stated (steps_of src text)) (get_or pool i 0) (mark_at marks i) (mark_at m i) (get_or p i 0)

abbrev pub IhexLoadTableWhatIsStored : Type 0
IhexLoadTableWhatIsStored = TableStores intel

abbrev pub IhexLoadSrecordsTableWhatIsStored : Type 0
IhexLoadSrecordsTableWhatIsStored = TableStores s_records

-- the bits after the pool stay, whatever is returned
abbrev pub TableLeavesUnused : {S : Type 0} → Source S → Type 0
TableLeavesUnused src =
    (text : List ℕ) (owner : ℕ) (table pool marks : List ℕ) (r : LoadNumbers) (p m : List ℕ) → IhexLoadTableBy src text owner table pool marks r p m
    → (i : ℕ) → length pool ≤ i → mark_at m i ≡ mark_at marks i

abbrev pub IhexLoadTableUnusedStay : Type 0
IhexLoadTableUnusedStay = TableLeavesUnused intel

abbrev pub IhexLoadSrecordsTableUnusedStay : Type 0
IhexLoadSrecordsTableUnusedStay = TableLeavesUnused s_records

-- of two texts that are the same through the LF of the line at which the first load stops, with one table: the same is returned; and if it is IHEX_OK, at the
-- owner's places the marks are the same, and the bytes that are marked
abbrev pub TableHearsNoMore : {S : Type 0} → Source S → Type 0
TableHearsNoMore src =
    (text₁ text₂ : List ℕ) (owner : ℕ) (table pool₁ marks₁ pool₂ marks₂ : List ℕ)
    → length pool₁ ≡ length pool₂ → length marks₁ ≡ length marks₂
    → (line : ℕ) (v : Verdict) → stopping_by_table src owner (rows_of table) text₁ pool₁ marks₁ ≡ some (by line v)
    → (head : List ℕ) → through line text₁ ≡ some head → through line text₂ ≡ some head
    → (r₁ : LoadNumbers) (p₁ m₁ : List ℕ) (r₂ : LoadNumbers) (p₂ m₂ : List ℕ)
    → IhexLoadTableBy src text₁ owner table pool₁ marks₁ r₁ p₁ m₁ → IhexLoadTableBy src text₂ owner table pool₂ marks₂ r₂ p₂ m₂
    → (r₁ ≡ r₂)
    × (r₁.code ≡ OK → (i : ℕ) → i < length pool₁ → Shown (site_of owner (rows_of table)) i → (mark_at m₁ i ≡ mark_at m₂ i) × (Marked m₁ i → get_or p₁ i 0 ≡ get_or p₂ i 0))

abbrev pub IhexLoadTableNonInterference : Type 0
IhexLoadTableNonInterference = TableHearsNoMore intel

abbrev pub IhexLoadSrecordsTableNonInterference : Type 0
IhexLoadSrecordsTableNonInterference = TableHearsNoMore s_records

-- ---- isolation

-- a call of one of the two: by which owner, and with which text
pub data Called : Type 0 where
  with_intel : (owner : ℕ) (text : List ℕ) → Called
  with_s_records : (owner : ℕ) (text : List ℕ) → Called

abbrev pub caller : Called → ℕ
caller (with_intel owner text) = owner
caller (with_s_records owner text) = owner

-- what is known of a call is its contract
abbrev pub MeetsItsContract : (table pool marks : List ℕ) → Called → (r : LoadNumbers) (pool' marks' : List ℕ) → Type 0
MeetsItsContract table pool marks (with_intel owner text) r pool' marks' = IhexLoadTableBy intel text owner table pool marks r pool' marks'
MeetsItsContract table pool marks (with_s_records owner text) r pool' marks' = IhexLoadTableBy s_records text owner table pool marks r pool' marks'

-- calls one after the other with one table, each upon the pool and the marks that the call before it left: what they return, and what is left at the end
pub data TableCalls (table : List ℕ) : Cabinet → List Called → List LoadNumbers → Cabinet → Type 0 where
  no_more : {b : Cabinet} → TableCalls table b [] [] b
  one_more : {b b'' : Cabinet} {call : Called} {calls : List Called} {returns : List LoadNumbers} (r : LoadNumbers) (pool' marks' : List ℕ)
      → MeetsItsContract table b.pool b.marks call r pool' marks'
      → TableCalls table (record { pool = pool'; marks = marks' }) calls returns b''
      → TableCalls table b (call ∷ calls) (r ∷ returns) b''

-- one owner's calls, and what they return
abbrev pub calls_of : (me : ℕ) → List Called → List Called
calls_of me [] = []
calls_of me (call ∷ calls) = if eqb (caller call) me then call ∷ calls_of me calls else calls_of me calls

abbrev pub returns_to : (me : ℕ) → List Called → List LoadNumbers → List LoadNumbers
returns_to me [] returns = []
returns_to me (call ∷ calls) [] = []
returns_to me (call ∷ calls) (r ∷ returns) = if eqb (caller call) me then r ∷ returns_to me calls returns else returns_to me calls returns

-- Two rows of calls with one table, good or bad, in which this owner makes the same calls: whatever the others load, and wherever their calls stand among
-- its own, what is returned to this owner is the same, and so is what is left in its windows, if it was the same there before.
abbrev pub IhexOwnersIsolated : Type 0
IhexOwnersIsolated =
    (me : ℕ) (table : List ℕ) (calls₁ calls₂ : List Called) → calls_of me calls₁ ≡ calls_of me calls₂
    → (b₁ b₂ b₁' b₂' : Cabinet) (returns₁ returns₂ : List LoadNumbers)
    → length b₁.pool ≡ length b₂.pool → length b₁.marks ≡ length b₂.marks → SameFor me (rows_of table) b₁ b₂
    → TableCalls table b₁ calls₁ returns₁ b₁' → TableCalls table b₂ calls₂ returns₂ b₂'
    → (returns_to me calls₁ returns₁ ≡ returns_to me calls₂ returns₂) × SameFor me (rows_of table) b₁' b₂'

-- ---- one window

-- a table that is not refused, with one window of the owner's, which fills the pool from place 0 on, loads as `ihex_load` and `ihex_load_srecords` do: the same is
-- returned, and pool and marks are the same, the bits after the pool aside
abbrev pub TableOfOne : {S : Type 0} → Source S → Type 0
TableOfOne src =
    (text : List ℕ) (owner first : ℕ) (table pool marks : List ℕ) → ¬ BadBytes owner table (length pool) (length marks) → rows_of table ≡ row owner first (length pool) 0 ∷ []
    → (r : LoadNumbers) (p m : List ℕ) (r' : LoadNumbers) (p' m' : List ℕ)
    → IhexLoadTableBy src text owner table pool marks r p m → IhexLoadBy src text first pool marks r' p' m'
    → (r ≡ r') × (p ≡ p') × ((i : ℕ) → i < length pool → mark_at m i ≡ mark_at m' i)

abbrev pub IhexLoadTableOfOne : Type 0
IhexLoadTableOfOne = TableOfOne intel

abbrev pub IhexLoadSrecordsTableOfOne : Type 0
IhexLoadSrecordsTableOfOne = TableOfOne s_records

-- ---- no second answer meets a contract

abbrev pub OneTableLoad : {S : Type 0} → Source S → Type 0
OneTableLoad src =
    (text : List ℕ) (owner : ℕ) (table pool marks : List ℕ) (r r' : LoadNumbers) (p p' m m' : List ℕ)
    → IhexLoadTableBy src text owner table pool marks r p m → IhexLoadTableBy src text owner table pool marks r' p' m' → (r ≡ r') × (p ≡ p') × (m ≡ m')

abbrev pub IhexLoadTableUnique : Type 0
IhexLoadTableUnique = OneTableLoad intel

abbrev pub IhexLoadSrecordsTableUnique : Type 0
IhexLoadSrecordsTableUnique = OneTableLoad s_records

abbrev pub IhexCheckTableUnique : Type 0
IhexCheckTableUnique = (table : List ℕ) (pool marks r r' : ℕ) → IhexCheckTable table pool marks r → IhexCheckTable table pool marks r' → r ≡ r'
