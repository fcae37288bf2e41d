-- What is saved of a noisy capture, and what is listed as removed: document 02, request 11.
-- Assumes nothing.
use Rattle.std.specs.Prelude.{ℕ, Bool, true, false, List, [], ◌∷◌, ◌++◌, ltb, length}
use Rattle.std.proofs.Math.Option.{Option, none, some}
use Rattle.std.specs.Prelude.{if◌then◌else◌}
use Rattle.record.specs.Refusals.{Refusal, missing_end_of_file_record, output_full, list_full}
use Rattle.record.specs.Line.{Said, says, wrong}
use Rattle.record.specs.Meaning.{Meaning, data_at, end_of_file, extended_segment, start_segment, extended_linear, start_linear, meaning}
use Rattle.record.specs.Written.{line_of}
use Rattle.reader.specs.declared.ReaderOptions.{ReaderOptions}
use Rattle.reader.specs.Lines.{LF}
use Rattle.reader.specs.Row.{Numbered, on, is_end, row}

-- ---- one line

-- why a line is not in the clean file: it is refused, or it is a data record whose base is unknown
pub data Reason : Type 0 where
  refused : Refusal → Reason
  base_unknown : Reason

-- what becomes of a line: its record goes into the clean file, or the line is dropped
pub data Fate : Type 0 where
  kept : Meaning → Fate
  dropped : Reason → Fate

-- a record is kept, but for data while the base is unknown
unfoldable pub fate_of : (known : Bool) → Meaning → Fate
fate_of known (data_at offset bytes) = if known then kept (data_at offset bytes) else dropped base_unknown
fate_of known end_of_file = kept end_of_file
fate_of known (extended_segment number) = kept (extended_segment number)
fate_of known (start_segment cs ip) = kept (start_segment cs ip)
fate_of known (extended_linear number) = kept (extended_linear number)
fate_of known (start_linear number) = kept (start_linear number)

-- a refused line is dropped
unfoldable pub fate : (known : Bool) → Said → Fate
unfolding fate_of meaning
fate known (says kind address payload) = fate_of known (meaning kind address payload)
fate known (wrong r) = dropped (refused r)

-- is the base known after a record? Type 02 or 04 makes it known
unfoldable pub still_known : (known : Bool) → Meaning → Bool
still_known known (data_at offset bytes) = known
still_known known end_of_file = known
still_known known (extended_segment number) = true
still_known known (start_segment cs ip) = known
still_known known (extended_linear number) = true
still_known known (start_linear number) = known

-- a refused line may stand for one of those: it makes the base unknown
unfoldable pub known_behind : (known : Bool) → Said → Bool
unfolding still_known meaning
known_behind known (says kind address payload) = still_known known (meaning kind address payload)
known_behind known (wrong r) = false

-- ---- a text

-- what becomes of a line, with its number
pub data Sorted : Type 0 where
  of : (line : ℕ) (what : Fate) → Sorted

unfoldable pub sorted : (known : Bool) → List Numbered → List Sorted
unfolding fate known_behind
sorted known [] = []
sorted known (on n said ∷ row) = of n (fate known said) ∷ sorted (known_behind known said) row

-- reading goes on past refused lines and ends at the first end record
abbrev pub past_refusals : ReaderOptions
past_refusals = record { stop_after_first_error = false; stop_after_eof = true }

-- what becomes of each line of a text, through its first end record. The base is known at the beginning
unfoldable pub fates : List ℕ → List Sorted
unfolding sorted row
fates text = sorted true (row past_refusals text)

-- the records that are kept, through the end record. Where there is none, one is added
unfoldable pub records : List Sorted → List Meaning
unfolding is_end
records [] = end_of_file ∷ []
records (of n (kept m) ∷ later) = m ∷ (if is_end m then [] else records later)
records (of n (dropped why) ∷ later) = records later

-- an entry of the list of what was removed
pub data Entry : Type 0 where
  entry : (line : ℕ) (why : Reason) → Entry

-- an added end record is listed as refusal 13, MissingEndOfFileRecord, with line 0
abbrev pub end_added : Entry
end_added = entry 0 (refused missing_end_of_file_record)

-- the lines that are dropped, in order. An added end record comes last
unfoldable pub entries : List Sorted → List Entry
unfolding is_end
entries [] = end_added ∷ []
entries (of n (kept m) ∷ later) = if is_end m then [] else entries later
entries (of n (dropped why) ∷ later) = entry n why ∷ entries later

-- the lines of records as the writer writes them, each with its LF
unfoldable pub text_of : List Meaning → List ℕ
text_of [] = []
text_of (m ∷ ms) = line_of m ++ (LF ∷ text_of ms)

-- the records that a text leaves
unfoldable pub saved : List ℕ → List Meaning
unfolding records fates
saved text = records (fates text)

-- the clean file of a text
unfoldable pub clean : List ℕ → List ℕ
unfolding text_of saved
clean text = text_of (saved text)

-- and the list of what was removed
unfoldable pub removed : List ℕ → List Entry
unfolding entries fates
removed text = entries (fates text)

-- ---- refusals

-- why this much room for the clean file, or a list of this many entries, is not enough: refusal 15, OutputFull, before refusal 22, ListFull
unfoldable pub refusal_for : (text : List ℕ) (room places : ℕ) → Option Refusal
unfolding clean removed
refusal_for text room places =
    if ltb room (length (clean text)) then some output_full else
    if ltb places (length (removed text)) then some list_full else
    none
