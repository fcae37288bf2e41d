-- What a salvage returns and leaves: the answer, the output and the list, whose entries are numbers in bytes.
-- Assumes nothing.
use Rattle.std.specs.Prelude.{ℕ, zero, suc, ◌+◌, ◌*◌, ◌/◌, ◌%◌, ◌^◌, ◌≤◌, ◌<◌, ◌≡◌, ◌⊎◌, length, take, drop, get_or}
use Rattle.std.proofs.Math.Option.{Option, none, some}
use mathlib.Core.List.{List, [], ◌∷◌, ◌++◌, Memᴰ}
use Rattle.digits.specs.Common.{pasted}
use Rattle.record.specs.Refusals.{Refusal, refusal, output_full, list_full}
use Rattle.salvage.specs.declared.SalvageError.{SalvageError}
use Rattle.salvage.specs.declared.SalvageError.TheVariants.{OutputFull, ListFull}
use Rattle.salvage.specs.Aliases.{Salvaged}
use Rattle.salvage.specs.Salvage.{Reason, refused, base_unknown, Entry, entry, end_added, clean, removed, refusal_for}
use Rattle.std.specs.Prelude.{Err, Ok}

-- ---- the list in bytes

-- a number in so many bytes, low byte first
unfoldable pub low_first : (size n : ℕ) → List ℕ
low_first zero n = []
low_first (suc size) n = n % 256 ∷ low_first size (n / 256)

-- the number of a reason: that of the refusal, or 0 where the base is unknown
abbrev pub reason_number : Reason → ℕ
reason_number (refused (refusal number values)) = number
reason_number base_unknown = 0

-- its values, 0 where there is none
abbrev pub reason_value : Reason → (i : ℕ) → ℕ
reason_value (refused (refusal number values)) i = get_or values i 0
reason_value base_unknown i = 0

-- an entry has 16 bytes: the reason's number (4), its two values (2 each), and the line (8)
abbrev pub ENTRY : ℕ
ENTRY = 16

unfoldable pub entry_bytes : Entry → List ℕ
unfolding low_first
entry_bytes (entry line why) = low_first 4 (reason_number why) ++ low_first 2 (reason_value why 0) ++ low_first 2 (reason_value why 1) ++ low_first 8 line

unfoldable pub list_bytes : List Entry → List ℕ
unfolding entry_bytes
list_bytes [] = []
list_bytes (e ∷ es) = entry_bytes e ++ list_bytes es

-- ---- the answer

pub data ToldSalvage : Type 0 where
  saves : (length entries : ℕ) → ToldSalvage
  refuses : Refusal → ToldSalvage

abbrev pub salvage_refusal : SalvageError → Refusal
salvage_refusal OutputFull = output_full
salvage_refusal ListFull = list_full

abbrev pub told_salvage : Salvaged → ToldSalvage
told_salvage (Ok saved) = saves saved.length saved.entries
told_salvage (Err e) = refuses (salvage_refusal e)

-- how many whole entries a list has room for
abbrev pub places_in : (list : List ℕ) → ℕ
places_in list = length list / ENTRY

-- what a text is answered: both lengths, or the refusal
abbrev pub answered_by : Option Refusal → (text : List ℕ) → ToldSalvage
answered_by none text = saves (length (clean text)) (length (removed text))
answered_by (some r) text = refuses r

-- the output and the list after that: the clean file and the entries at their fronts, or no byte changed
abbrev pub output_by : Option Refusal → (text out : List ℕ) → List ℕ
output_by none text out = pasted out 0 (clean text)
output_by (some r) text out = out

abbrev pub list_by : Option Refusal → (text list : List ℕ) → List ℕ
list_by none text list = pasted list 0 (list_bytes (removed text))
list_by (some r) text list = list

-- the contract of `salvage`
pub record Salvages (text out list : List ℕ) (r : Salvaged) (out' list' : List ℕ) : Type 0 where
  pub answer : told_salvage r ≡ answered_by (refusal_for text (length out) (places_in list)) text
  pub output : out' ≡ output_by (refusal_for text (length out) (places_in list)) text out
  pub entries : list' ≡ list_by (refusal_for text (length out) (places_in list)) text list

-- ---- what is claimed of it, and proved in `proofs/Told.antt`

-- no second answer, and no second content of output or list, meets the contract
abbrev pub SalvageUnique : Type 0
SalvageUnique =
    (text out list : List ℕ) (r r' : Salvaged) (o o' l l' : List ℕ) → Salvages text out list r o l → Salvages text out list r' o' l'
    → (r ≡ r') × (o ≡ o') × (l ≡ l')

-- no two answers tell the same
abbrev pub ToldApart : Type 0
ToldApart = (a b : Salvaged) → told_salvage a ≡ told_salvage b → a ≡ b

-- why a salvage is answered so: the output is too short; it is not, and the list is; or both have room
pub data Why (text : List ℕ) (room places : ℕ) : ToldSalvage → Type 0 where
  output_short : room < length (clean text) → Why text room places (refuses output_full)
  list_short : length (clean text) ≤ room → places < length (removed text) → Why text room places (refuses list_full)
  both_fit : length (clean text) ≤ room → length (removed text) ≤ places → Why text room places (saves (length (clean text)) (length (removed text)))

-- each answer has a reason, and no other answer has one
abbrev pub Reasons : Type 0
Reasons = (text : List ℕ) (room places : ℕ) → Why text room places (answered_by (refusal_for text room places) text)

abbrev pub OneReason : Type 0
OneReason = (text : List ℕ) (room places : ℕ) (t t' : ToldSalvage) → Why text room places t → Why text room places t' → t ≡ t'

-- the number that bytes are, low byte first
unfoldable pub number_in : List ℕ → ℕ
number_in [] = 0
number_in (b ∷ bytes) = b + 256 * number_in bytes

-- the numbers of an entry: 0 or 1 to 9, on a line of the text, or those of an added end. All fit their bytes
abbrev pub EntriesFit : Type 0
EntriesFit =
    (text : List ℕ) (line : ℕ) (why : Reason) → Memᴰ (entry line why) (removed text)
    → (((reason_number why ≤ 9) × (1 ≤ line)) ⊎ (entry line why ≡ end_added))
    × (reason_value why 0 < 65536) × (reason_value why 1 < 65536) × (line ≤ length text)

pub record ReadFrom (bytes : List ℕ) (line : ℕ) (why : Reason) : Type 0 where
  pub why_is : number_in (take 4 bytes) ≡ reason_number why
  pub a_is : number_in (take 2 (drop 4 bytes)) ≡ reason_value why 0
  pub b_is : number_in (take 2 (drop 6 bytes)) ≡ reason_value why 1
  pub line_is : number_in (take 8 (drop 8 bytes)) ≡ line

abbrev pub EntryReadsBack : Type 0
EntryReadsBack =
    (line : ℕ) (why : Reason) → reason_number why < 2 ^ 32 → reason_value why 0 < 65536 → reason_value why 1 < 65536 → line < 2 ^ 64
    → ReadFrom (entry_bytes (entry line why)) line why

-- so the bytes of an entry tell its line and its reason: no two entries of lists have the same bytes
abbrev pub EntriesApart : Type 0
EntriesApart =
    (text text' : List ℕ) (e e' : Entry) → length text < 2 ^ 64 → length text' < 2 ^ 64
    → Memᴰ e (removed text) → Memᴰ e' (removed text') → entry_bytes e ≡ entry_bytes e' → e ≡ e'

-- they stand one after the other
abbrev pub EntriesInOrder : Type 0
EntriesInOrder =
    (before after : List Entry) (e : Entry) → take ENTRY (drop (ENTRY * length before) (list_bytes (before ++ (e ∷ after)))) ≡ entry_bytes e
