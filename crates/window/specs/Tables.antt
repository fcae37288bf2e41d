-- A text loaded for one owner through a window table, whatever source reads it, into a pool with packed marks: document 02, wish 12. Each claim is
-- proved in `proofs/Tables.antt`.
-- Assumes nothing.
use Rattle.std.specs.Prelude.{◌≡◌, ℕ, ◌≤◌, ◌<◌, true, false, List, [], ◌∷◌, eqb, length, get_or}
use Rattle.std.proofs.Math.Option.{Option, some}
use Rattle.std.specs.Prelude.{if◌then◌else◌}
use Rattle.record.specs.Refusals.{Refusal}
use Rattle.reader.specs.Lines.{through}
use Rattle.marks.specs.Marks.{mark_at, Marked, bits}
use Rattle.steps.specs.Aliases.{Loading}
use Rattle.steps.specs.Steps.{Step, Tally, Verdict, accepted, refused, Decision, by, stated}
use Rattle.steps.specs.Source.{Source, steps_of}
use Rattle.steps.specs.Sites.{Loaded, Shown, Owed, stopping_by, stopping_in, load_steps}
use Rattle.steps.specs.Packed.{row_after, repacked}
use Rattle.steps.specs.Owners.{Event, load_by, loads_of}
use Rattle.steps.specs.Told.{told_loading}
use Rattle.window.specs.Window.{unfit}
use Rattle.window.specs.Load.{load_window}
use Rattle.window.specs.declared.Row.{Row}
use Rattle.window.specs.Table.{is_owner, site_of, owned}

-- where and how a text stops the load: before the first line if the table is refused, else at the first line that decides, if one does
unfoldable pub stopping_by_table : {S : Type 0} → Source S → (owner : ℕ) → List Row → (text pool marks : List ℕ) → Option Decision
unfolding stopping_by owned steps_of
stopping_by_table src owner rows text pool marks = stopping_in (owned owner (length pool) (length marks) rows) (steps_of src text)

-- a load of steps. Every bit of the marks is a place: those after the pool show no address, so they stay
unfoldable pub load_rows : (owner : ℕ) → List Row → List Step → (pool marks : List ℕ) → Loaded
unfolding load_steps owned row_after bits
load_rows owner rows steps pool marks = repacked marks (load_steps (owned owner (length pool) (length marks) rows) steps pool (bits marks))

-- a load of a text
unfoldable pub load_table : {S : Type 0} → Source S → (owner : ℕ) → List Row → (text pool marks : List ℕ) → Loaded
unfolding load_rows steps_of
load_table src owner rows text pool marks = load_rows owner rows (steps_of src text) pool marks

-- the contract of a function that loads a text of this source
pub record LoadTable {S : Type 0} (src : Source S) (owner : ℕ) (rows : List Row) (text pool₀ marks₀ : List ℕ) (r : Loading) (pool' marks' : List ℕ) : Type 0 where
  pub answer : told_loading r ≡ (load_table src owner rows text pool₀ marks₀).answer
  pub pool : pool' ≡ (load_table src owner rows text pool₀ marks₀).page
  pub marks : marks' ≡ (load_table src owner rows text pool₀ marks₀).marks

-- ---- demand 3, for one owner

-- two loads agree: in their answers and, if those accept, at the owner's places in the marks and in the bytes that are marked
pub record AlikeFor (owner : ℕ) (rows : List Row) (size : ℕ) (l₁ l₂ : Loaded) : Type 0 where
  pub answers : l₁.answer ≡ l₂.answer
  pub marks : (t : Tally) → l₁.answer ≡ accepted t → (i : ℕ) → i < size → Shown (site_of owner rows) i → mark_at l₁.marks i ≡ mark_at l₂.marks i
  pub bytes : (t : Tally) → l₁.answer ≡ accepted t → (i : ℕ) → i < size → Shown (site_of owner rows) i → Marked l₁.marks i → get_or l₁.page i 0 ≡ get_or l₂.page i 0

-- text after the line at which the load stops, and old contents of pool and marks, change nothing
abbrev pub TableNonInterference : Type 1
TableNonInterference =
    (S : Type 0) (src : Source S) (owner : ℕ) (rows : List Row) (text₁ text₂ pool₁ marks₁ pool₂ marks₂ : List ℕ)
    → length pool₁ ≡ length pool₂ → length marks₁ ≡ length marks₂
    → (line : ℕ) (v : Verdict) → stopping_by_table src owner rows text₁ pool₁ marks₁ ≡ some (by line v)
    → (head : List ℕ) → through line text₁ ≡ some head → through line text₂ ≡ some head
    → AlikeFor owner rows (length pool₁) (load_table src owner rows text₁ pool₁ marks₁) (load_table src owner rows text₂ pool₂ marks₂)

-- of an accepted load, at each place: one of the owner's is marked exactly when a record before the end states its address, and holds the last byte stated
-- there; any other place keeps its byte and its mark
abbrev pub TableWhatIsStored : Type 1
TableWhatIsStored =
    (S : Type 0) (src : Source S) (owner : ℕ) (rows : List Row) (text pool marks : List ℕ) (tally : Tally)
    → let l = load_table src owner rows text pool marks in
    l.answer ≡ accepted tally → (i : ℕ) → i < length pool
    → Owed (site_of owner rows i) (stated (steps_of src text)) (get_or pool i 0) (mark_at marks i) (mark_at l.marks i) (get_or l.page i 0)

-- bits after the pool stay
abbrev pub TableUnusedStay : Type 1
TableUnusedStay =
    (S : Type 0) (src : Source S) (owner : ℕ) (rows : List Row) (text pool marks : List ℕ)
    → (i : ℕ) → length pool ≤ i → mark_at (load_table src owner rows text pool marks).marks i ≡ mark_at marks i

abbrev pub TableRefusalChangesNothing : Type 1
TableRefusalChangesNothing =
    (S : Type 0) (src : Source S) (owner : ℕ) (rows : List Row) (text pool marks : List ℕ) (r : Refusal) (line : ℕ)
    → let l = load_table src owner rows text pool marks in l.answer ≡ refused r line → (l.page ≡ pool) × (l.marks ≡ marks)

abbrev pub TableSizesKept : Type 1
TableSizesKept =
    (S : Type 0) (src : Source S) (owner : ℕ) (rows : List Row) (text pool marks : List ℕ)
    → let l = load_table src owner rows text pool marks in (length l.page ≡ length pool) × (length l.marks ≡ length marks)

-- no second answer, and no second pool or marks, meets the contract
abbrev pub LoadTableUnique : Type 1
LoadTableUnique =
    (S : Type 0) (src : Source S) (owner : ℕ) (rows : List Row) (text pool marks : List ℕ) (r r' : Loading) (p p' m m' : List ℕ)
    → LoadTable src owner rows text pool marks r p m → LoadTable src owner rows text pool marks r' p' m' → (r ≡ r') × (p ≡ p') × (m ≡ m')

-- a table with one window, which is the owner's and fills the pool, loads as that window does. Unused bits stay, where the one-window load makes them 0
abbrev pub TableAsWindow : Type 1
TableAsWindow =
    (S : Type 0) (src : Source S) (owner first : ℕ) (text pool marks : List ℕ) → is_owner owner ≡ true → unfit first (length pool) (length marks) ≡ false
    → let t = load_table src owner (record { owner = owner; first = first; size = length pool; place = 0 } ∷ []) text pool marks in
    let w = load_window src text first pool marks in
    (t.answer ≡ w.answer) × (t.page ≡ w.page) × ((i : ℕ) → i < length pool → mark_at t.marks i ≡ mark_at w.marks i)

-- ---- isolation

-- pool and marks as they stand
pub record Cabinet : Type 0 where
  pub pool : List ℕ
  pub marks : List ℕ

-- what loads by owners, one after the other, leave
unfoldable pub cabinet_after : List Row → List Event → Cabinet → Cabinet
unfolding load_rows
cabinet_after rows [] b = b
cabinet_after rows (load_by owner steps ∷ events) b =
    let l = load_rows owner rows steps b.pool b.marks in cabinet_after rows events (record { pool = l.page; marks = l.marks })

-- the answers to one owner's loads
unfoldable pub answers_for : (me : ℕ) → List Row → List Event → Cabinet → List Verdict
unfolding load_rows
answers_for me rows [] b = []
answers_for me rows (load_by owner steps ∷ events) b =
    let l = load_rows owner rows steps b.pool b.marks in
    let later = answers_for me rows events (record { pool = l.page; marks = l.marks }) in
    if eqb owner me then l.answer ∷ later else later

-- two cabinets hold the same in an owner's windows
pub record SameFor (owner : ℕ) (rows : List Row) (b₁ b₂ : Cabinet) : Type 0 where
  pub bytes : (i : ℕ) → Shown (site_of owner rows) i → get_or b₁.pool i 0 ≡ get_or b₂.pool i 0
  pub marks : (i : ℕ) → Shown (site_of owner rows) i → mark_at b₁.marks i ≡ mark_at b₂.marks i

-- For a fixed table: whatever loads the others make, and wherever these stand among this owner's loads, this owner's answers and what is in its windows
-- follow from its own loads alone.
abbrev pub TableIsolation : Type 0
TableIsolation =
    (me : ℕ) (rows : List Row) (events₁ events₂ : List Event) → loads_of me events₁ ≡ loads_of me events₂
    → (b₁ b₂ : Cabinet) → length b₁.pool ≡ length b₂.pool → length b₁.marks ≡ length b₂.marks → SameFor me rows b₁ b₂
    → (answers_for me rows events₁ b₁ ≡ answers_for me rows events₂ b₂) × SameFor me rows (cabinet_after rows events₁ b₁) (cabinet_after rows events₂ b₂)
