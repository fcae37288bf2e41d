-- What is claimed of `ihex_salvage`, in its numbers. Each claim is proved in `proofs/Salvage.antt`.
-- Assumes nothing.
use Rattle.std.specs.Prelude.{ℕ, ◌+◌, ◌*◌, ◌≤◌, ◌≡◌, ◌≢◌, length, take, drop}
use mathlib.Core.List.{List, [], ◌∷◌, ◌++◌, Memᴰ}
use Rattle.record.specs.Meaning.{Meaning}
use Rattle.record.specs.Written.{line_of}
use Rattle.reader.specs.Lines.{lines}
use Rattle.steps.specs.Steps.{Placement}
use Rattle.intel.specs.Placing.{placements}
use Rattle.salvage.specs.Salvage.{Reason, Entry, entry, clean, removed}
use Rattle.salvage.specs.Fates.{Says, Reached}
use Rattle.salvage.specs.Bytes.{NothingBehind}
use Rattle.salvage.specs.Claims.{with_a_byte, Rising}
use Rattle.salvage.specs.Standing.{Stands, DiffersInRefused, Undamaged, Among}
use Rattle.salvage.specs.Told.{ToldSalvage, places_in, list_bytes, Why}
use Rattle.codes.specs.Codes.{OK, REFUSED, value, LoadNumbers, salvaging}
use Rattle.ihex.specs.Entries.{IhexLoad, IhexSalvage}

-- no second answer, and no second content of output or list, meets the contract
abbrev pub IhexSalvageUnique : Type 0
IhexSalvageUnique =
    (text out list : List ℕ) (r a b : ℕ) (o l : List ℕ) (r' a' b' : ℕ) (o' l' : List ℕ)
    → IhexSalvage text out list r a b o l → IhexSalvage text out list r' a' b' o' l'
    → ((r ≡ r') × (a ≡ a') × (b ≡ b')) × (o ≡ o') × (l ≡ l')

-- what is returned has a reason, and nothing else has one
pub record SalvageReasoned (Because : ToldSalvage → Type 0) (r a b : ℕ) : Type 0 where
  pub told : ToldSalvage
  pub why : Because told
  pub code_is : r ≡ (salvaging told).code
  pub a_is : a ≡ value (salvaging told) 0
  pub b_is : b ≡ value (salvaging told) 1
  pub only : (t : ToldSalvage) → Because t → t ≡ told

abbrev pub IhexSalvageReasons : Type 0
IhexSalvageReasons =
    (text out list : List ℕ) (r a b : ℕ) (o l : List ℕ) → IhexSalvage text out list r a b o l → SalvageReasoned (Why text (length out) (places_in list)) r a b

-- where IHEX_OK is returned: a is the length of the clean file, which stands at the front of the output, and b how many entries stand at the front
-- of the list; no byte after either changes
pub record SavedBoth (text out list : List ℕ) (a b : ℕ) (o l : List ℕ) : Type 0 where
  pub length_is : a ≡ length (clean text)
  pub file : take a o ≡ clean text
  pub count_is : b ≡ length (removed text)
  pub entries : take (16 * b) l ≡ list_bytes (removed text)
  pub output_after : drop a o ≡ drop a out
  pub list_after : drop (16 * b) l ≡ drop (16 * b) list

abbrev pub IhexSalvageSaves : Type 0
IhexSalvageSaves =
    (text out list : List ℕ) (a b : ℕ) (o l : List ℕ) → IhexSalvage text out list OK a b o l → SavedBoth text out list a b o l

-- a refusal changes no byte of output or list
abbrev pub IhexSalvageKeeps : Type 0
IhexSalvageKeeps =
    (text out list : List ℕ) (r a b : ℕ) (o l : List ℕ) → IhexSalvage text out list r a b o l → r ≢ OK → (o ≡ out) × (l ≡ list)

-- an output of 13 bytes more than the text, and a list of an entry for each line that has a byte and one more, are enough
abbrev pub IhexSalvageRoom : Type 0
IhexSalvageRoom =
    (text out list : List ℕ) (r a b : ℕ) (o l : List ℕ) → IhexSalvage text out list r a b o l
    → length text + 13 ≤ length out → 16 * (with_a_byte text + 1) ≤ length list → r ≡ OK

-- document 02's theorem, and more: if the capture stands for an undamaged text, each byte that the file states is stated there, at that address, before
-- the end record, and in the same order
abbrev pub IhexSalvageIsStated : Type 0
IhexSalvageIsStated =
    (text undamaged out list : List ℕ) (a b : ℕ) (o l : List ℕ) → IhexSalvage text out list OK a b o l
    → Stands (lines text) (lines undamaged) → Undamaged undamaged → Among (placements (take a o)) (placements undamaged)

-- the document's own form
abbrev pub IhexSalvageAsAsked : Type 0
IhexSalvageAsAsked =
    (text undamaged out list : List ℕ) (a b : ℕ) (o l : List ℕ) → IhexSalvage text out list OK a b o l
    → DiffersInRefused (lines text) (lines undamaged) → Undamaged undamaged
    → (p : Placement) → Memᴰ p (placements (take a o)) → Memᴰ p (placements undamaged)

-- so it is where the capture is an undamaged text that is cut off after any byte
abbrev pub IhexSalvageCutOff : Type 0
IhexSalvageCutOff =
    (text more out list : List ℕ) (a b : ℕ) (o l : List ℕ) → IhexSalvage text out list OK a b o l
    → Undamaged (text ++ more) → Among (placements (take a o)) (placements (text ++ more))

-- and where one byte of it was changed, lost or added, if only empty lines follow its end record
abbrev pub IhexSalvageOneByteOff : Type 0
IhexSalvageOneByteOff =
    (before old new after out list : List ℕ) (a b : ℕ) (o l : List ℕ) → length old ≤ 1 → length new ≤ 1
    → IhexSalvage (before ++ (new ++ after)) out list OK a b o l
    → let undamaged = before ++ (old ++ after) in
    Undamaged undamaged → NothingBehind (lines undamaged) → Among (placements (take a o)) (placements undamaged)

-- a line is in the file, as its record is written, or in the list
pub data KeptOrListed (n : ℕ) (line file entries : List ℕ) : Type 0 where
  in_the_file : (m : Meaning) → Says line m → Memᴰ (line_of m) (lines file) → KeptOrListed n line file entries
  in_the_list : (es : List Entry) (why : Reason) → entries ≡ list_bytes es → Memᴰ (entry n why) es → KeptOrListed n line file entries

-- nothing is lost in silence: each line with a byte, through the first end record, is one of those
abbrev pub IhexSalvageNothingLost : Type 0
IhexSalvageNothingLost =
    (text out list : List ℕ) (a b : ℕ) (o l : List ℕ) → IhexSalvage text out list OK a b o l
    → (n : ℕ) (ahead : List (List ℕ)) (line : List ℕ) → Reached (lines text) n ahead line → line ≢ [] → KeptOrListed n line (take a o) (take (16 * b) l)

-- line numbers ascend in the list, except that an added end, which comes last, has number 0
abbrev pub IhexSalvageListRises : Type 0
IhexSalvageListRises =
    (text out list : List ℕ) (a b : ℕ) (o l : List ℕ) → IhexSalvage text out list OK a b o l
    → (es : List Entry) × (length es ≡ b) × (take (16 * b) l ≡ list_bytes es) × Rising 0 es

-- the file, loaded into any window, is accepted, or refused with 16 for the window, with 17 for a byte outside, or with 21 for a start that differs
abbrev pub IhexSalvageLoads : Type 0
IhexSalvageLoads =
    (text out list : List ℕ) (a b : ℕ) (o l : List ℕ) → IhexSalvage text out list OK a b o l
    → (first : ℕ) (page marks : List ℕ) (r : LoadNumbers) (p m : List ℕ) → IhexLoad (take a o) first page marks r p m
    → Memᴰ r.code (OK ∷ (REFUSED + 16) ∷ (REFUSED + 17) ∷ (REFUSED + 21) ∷ [])

-- salvaged again, the file is returned as it is, with no entry
abbrev pub IhexSalvageAgain : Type 0
IhexSalvageAgain =
    (text out list : List ℕ) (a b : ℕ) (o l : List ℕ) → IhexSalvage text out list OK a b o l
    → (out₂ list₂ : List ℕ) (r₂ a₂ b₂ : ℕ) (o₂ l₂ : List ℕ) → IhexSalvage (take a o) out₂ list₂ r₂ a₂ b₂ o₂ l₂ → a ≤ length out₂
    → (r₂ ≡ OK) × (a₂ ≡ a) × (b₂ ≡ 0) × (take a₂ o₂ ≡ take a o) × (l₂ ≡ list₂)
