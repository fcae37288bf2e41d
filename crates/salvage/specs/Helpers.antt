-- What the private functions of the crate promise each other.
-- Assumes nothing.
use Rattle.std.specs.Prelude.{ℕ, suc, ◌+◌, ◌*◌, ◌-◌, ◌≤◌, ◌<◌, ◌≡◌, Bool, false, List, [], ◌∷◌, ◌++◌, ltb, length, Option, None, Some}
use Rattle.std.specs.Prelude.{if◌then◌else◌}
use Rattle.digits.specs.Common.{pasted}
use Rattle.record.specs.Meaning.{Meaning, end_of_file}
use Rattle.record.specs.Record.{meant}
use Rattle.record.specs.Written.{line_of}
use Rattle.record.specs.declared.Record.{Record}
use Rattle.reader.specs.declared.State.{State}
use Rattle.reader.specs.Row.{is_end, through_stop}
use Rattle.reader.specs.Lines.{LF}
use Rattle.reader.specs.Along.{unread, Countable}
use Rattle.intel.specs.Records.{LiesIn}
use Rattle.salvage.specs.declared.Entry.{Entry as CodeEntry}
use Rattle.salvage.specs.declared.Walk.{Walk}
use Rattle.salvage.specs.declared.Turn.{Turn}
use Rattle.salvage.specs.declared.Turn.TheVariants.{Keeps, Drops, Ends, Missing}
use Rattle.salvage.specs.declared.Spare.{Spare}
use Rattle.salvage.specs.Salvage.{Reason, base_unknown, kept, dropped, fate_of, still_known, Sorted, sorted, past_refusals, records, entry, end_added, entries, clean, removed}
use Rattle.salvage.specs.Told.{reason_number, reason_value, ENTRY, entry_bytes, list_bytes}

-- ---- one line

-- an entry in code has the numbers of an entry
pub record Tells (e : CodeEntry) (line : ℕ) (why : Reason) : Type 0 where
  pub line_is : e.line ≡ line
  pub why_is : e.why ≡ reason_number why
  pub a_is : e.a ≡ reason_value why 0
  pub b_is : e.b ≡ reason_value why 1

-- what a record that was read comes to, by its meaning. The state stands after its line
abbrev pub Sorts : (state : State) (known : Bool) (x : Record) (m : Meaning) → Turn → Type 0
Sorts state known x m (Keeps r w) = (r ≡ x) × (fate_of known m ≡ kept m) × (is_end m ≡ false) × (w ≡ record { state = state; known = still_known known m })
Sorts state known x m (Drops e w) = Tells e state.line base_unknown × (fate_of known m ≡ dropped base_unknown) × (is_end m ≡ false) × (w ≡ record { state = state; known = still_known known m })
Sorts state known x m Ends = m ≡ end_of_file
Sorts state known x m Missing = ⊥

-- so it is, wherever the record's payload lies
abbrev pub SortsRecord : (state : State) (known : Bool) (x : Record) → Turn → Type 0
SortsRecord state known x t = (pool : List ℕ) → Sorts state known x (meant x pool) t

-- ---- a walk along a text

-- what becomes of the lines that a walk has still before it
abbrev pub left : Walk → (text : List ℕ) → List Sorted
left w text = sorted w.known (through_stop past_refusals (unread w.state text))

-- a walk along a text that was begun at its beginning
pub record UnderWay (text : List ℕ) (w : Walk) : Type 0 where
  pub options : w.state.options ≡ past_refusals
  pub countable : Countable w.state text

-- the walk goes on, with less left to be said
pub record Onward (text : List ℕ) (w w' : Walk) : Type 0 where
  pub under_way : UnderWay text w'
  pub less : length (unread w'.state text) < length (unread w.state text)

-- a record was kept, with its payload in the pool
pub record KeptOn (text : List ℕ) (w : Walk) (pool : List ℕ) (x : Record) (w' : Walk) : Type 0 where
  pub onward : Onward text w w'
  pub lies : LiesIn x pool
  pub saved : records (left w text) ≡ meant x pool ∷ records (left w' text)
  pub listed : entries (left w text) ≡ entries (left w' text)

-- a line was dropped
pub record DroppedOn (text : List ℕ) (w : Walk) (e : CodeEntry) (w' : Walk) : Type 0 where
  pub onward : Onward text w w'
  pub line : ℕ
  pub why : Reason
  pub tells : Tells e line why
  pub saved : records (left w text) ≡ records (left w' text)
  pub listed : entries (left w text) ≡ entry line why ∷ entries (left w' text)

-- what the next line comes to, with this pool after it
abbrev pub SortsNext : (text : List ℕ) (w : Walk) (pool : List ℕ) → Turn → Type 0
SortsNext text w pool (Keeps x w') = KeptOn text w pool x w'
SortsNext text w pool (Drops e w') = DroppedOn text w e w'
SortsNext text w pool Ends = (records (left w text) ≡ end_of_file ∷ []) × (entries (left w text) ≡ [])
SortsNext text w pool Missing = (records (left w text) ≡ end_of_file ∷ []) × (entries (left w text) ≡ end_added ∷ [])

-- ---- the first pass

-- what is left of so much, if it is not too little
abbrev pub left_of : (have used : ℕ) → Option ℕ
left_of have used = if ltb have used then None else Some (have - used)

-- what is left of it after n more are taken
abbrev pub less : (left : Option ℕ) (n : ℕ) → Option ℕ
less None n = None
less (Some left) n = if ltb left n then None else Some (left - n)

-- what is left of so much room and so many places after a text of this length and so many entries
abbrev pub spare_after : (space places used listed : ℕ) → Spare
spare_after space places used listed = record { space = left_of space used; places = left_of places listed }

-- a line of n characters with its LF, whatever was used before
abbrev pub WithLine : Spare → (n : ℕ) → Spare → Type 0
WithLine r n r' = (space places used listed : ℕ) → r ≡ spare_after space places used listed → r' ≡ spare_after space places (used + suc n) listed

-- an entry
abbrev pub WithEntry : Spare → Spare → Type 0
WithEntry r r' = (space places used listed : ℕ) → r ≡ spare_after space places used listed → r' ≡ spare_after space places used (suc listed)

-- the line of a record, wherever its payload lies
abbrev pub LineLength : Record → (n : ℕ) → Type 0
LineLength x n = (pool : List ℕ) → LiesIn x pool → n ≡ length (line_of (meant x pool))

-- all of a text
abbrev pub Surveyed : (text : List ℕ) (space places : ℕ) → Spare → Type 0
Surveyed text space places r = r ≡ spare_after space places (length (clean text)) (length (removed text))

-- ---- the second pass

-- the line of a record with its LF, where its payload lies in the pool and the output has the room
pub record PutLine (x : Record) (pool out : List ℕ) (at r : ℕ) (out' : List ℕ) : Type 0 where
  pub place : LiesIn x pool → at + suc (length (line_of (meant x pool))) ≤ length out → r ≡ at + suc (length (line_of (meant x pool)))
  pub left : LiesIn x pool → at + suc (length (line_of (meant x pool))) ≤ length out → out' ≡ pasted out at (line_of (meant x pool) ++ (LF ∷ []))

-- an entry at its place
abbrev pub PutEntry : CodeEntry → (list : List ℕ) (place : ℕ) (list' : List ℕ) → Type 0
PutEntry e list place list' = (line : ℕ) (why : Reason) → Tells e line why → list' ≡ pasted list (ENTRY * place) (entry_bytes (entry line why))

-- clean file and list have room
pub record Fits (text out list : List ℕ) : Type 0 where
  pub output : length (clean text) ≤ length out
  pub entries : ENTRY * length (removed text) ≤ length list

-- both were written
pub record WroteAll (text out list out' list' : List ℕ) : Type 0 where
  pub output : out' ≡ pasted out 0 (clean text)
  pub entries : list' ≡ pasted list 0 (list_bytes (removed text))
