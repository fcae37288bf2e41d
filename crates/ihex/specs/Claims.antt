-- What is claimed of the entry points beyond their contracts, and proved in `proofs/Claims.antt` and `proofs/Pages.antt`.
-- Assumes nothing.
use Rattle.std.specs.Prelude.{ℕ, ◌≡◌, List, [], length, take}
use Rattle.std.proofs.Math.Option.{Option, none, some}
use Rattle.checksum.specs.Claims.{ChecksumUnique}
use Rattle.marks.specs.Marks.{flags}
use Rattle.marks.specs.Claims.{Bytes}
use Rattle.digits.specs.Common.{Every, Byte}
use Rattle.record.specs.Line.{judge}
use Rattle.reader.specs.declared.State.{State}
use Rattle.reader.specs.Told.{Told}
use Rattle.reader.specs.Answer.{answered, poured}
use Rattle.writer.specs.Text.{Text}
use Rattle.chunks.specs.declared.Chunks.{Chunks}
use Rattle.chunks.specs.declared.Place.{Place}
use Rattle.chunks.specs.Next.{Outcome, next_outcome, finish_outcome}
use Rattle.srec.specs.Line as s-line
use Rattle.srec.specs.Answer as s-answer
use Rattle.steps.specs.Steps.{accepted}
use Rattle.steps.specs.Source.{Source}
use Rattle.intel.specs.Placing.{intel}
use Rattle.srecload.specs.Placing.{s_records}
use Rattle.entries.specs.Attempts.{record_text, srecord_text, list_text}
use Rattle.page.specs.Pieces.{pieces}
use Rattle.page.specs.File.{page_text}
use Rattle.page.specs.Claims.{Restores}
use Rattle.codes.specs.Codes.{LoadNumbers, load_numbers}
use Rattle.ihex.specs.Entries.{ReadLine, IhexNext, ChunkRead, IhexShown, WroteText, IhexLoadBy, IhexLoad, IhexPageFileLength, IhexWritePage}

-- ---- no second answer meets a contract

abbrev pub IhexChecksumUnique : Type 0
IhexChecksumUnique = ChecksumUnique

-- of one line
abbrev pub OneReadLine : Told → (pool : List ℕ) → Type 0
OneReadLine t pool =
    (r a b c : ℕ) (p : List ℕ) (r' a' b' c' : ℕ) (p' : List ℕ) → ReadLine t pool r a b c p → ReadLine t pool r' a' b' c' p'
    → ((r ≡ r') × (a ≡ a') × (b ≡ b') × (c ≡ c')) × (p ≡ p')

abbrev pub IhexReadRecordUnique : Type 0
IhexReadRecordUnique = (line pool : List ℕ) (at : ℕ) → OneReadLine (answered (judge line) (length pool) at) (poured (judge line) pool at)

abbrev pub IhexReadSrecordUnique : Type 0
IhexReadSrecordUnique =
    (line pool : List ℕ) (at : ℕ) → OneReadLine (s-answer.answered (s-line.judge line) (length pool) at) (s-answer.poured (s-line.judge line) pool at)

abbrev pub IhexNextUnique : Type 0
IhexNextUnique =
    (s : State) (text pool : List ℕ) (at r i l f a b c : ℕ) (p : List ℕ) (r' i' l' f' a' b' c' : ℕ) (p' : List ℕ)
    → IhexNext s text pool at r i l f a b c p → IhexNext s text pool at r' i' l' f' a' b' c' p'
    → ((r ≡ r') × (a ≡ a') × (b ≡ b') × (c ≡ c')) × ((i ≡ i') × (l ≡ l') × (f ≡ f')) × (p ≡ p')

-- an outcome of a reader of chunks fixes all but the carry's bytes behind `carried`
abbrev pub OneChunkRead : Outcome → (chunk : List ℕ) → Type 0
OneChunkRead x chunk =
    (r i l e u m f w o n a b c : ℕ) (k p : List ℕ) (r' i' l' e' u' m' f' w' o' n' a' b' c' : ℕ) (k' p' : List ℕ)
    → ChunkRead x chunk r i l e u m f w o n a b c k p → ChunkRead x chunk r' i' l' e' u' m' f' w' o' n' a' b' c' k' p'
    → ((r ≡ r') × (a ≡ a') × (b ≡ b') × (c ≡ c')) × ((i ≡ i') × (l ≡ l') × (e ≡ e') × (u ≡ u') × (m ≡ m') × (f ≡ f')) × ((w ≡ w') × (o ≡ o') × (n ≡ n'))
    × (take (length x.carried) k ≡ take (length x.carried) k') × (p ≡ p')

abbrev pub IhexNextChunkUnique : Type 0
IhexNextChunkUnique = (s : Chunks) (chunk carry pool : List ℕ) (at : ℕ) → OneChunkRead (next_outcome s chunk carry pool at) chunk

abbrev pub IhexFinishUnique : Type 0
IhexFinishUnique = (s : Chunks) (carry pool : List ℕ) (at : ℕ) → OneChunkRead (finish_outcome s carry pool at) []

abbrev pub IhexShownUnique : Type 0
IhexShownUnique =
    (p : Place) (chunk carry : List ℕ) (start r start' r' : ℕ) → IhexShown p chunk carry start r → IhexShown p chunk carry start' r'
    → (start ≡ start') × (r ≡ r')

-- of a text that is to be written
abbrev pub OneWroteText : Option Text → (out : List ℕ) → Type 0
OneWroteText t out = (r v : ℕ) (o : List ℕ) (r' v' : ℕ) (o' : List ℕ) → WroteText t out r v o → WroteText t out r' v' o' → (r ≡ r') × (v ≡ v') × (o ≡ o')

abbrev pub IhexToRecordStringUnique : Type 0
IhexToRecordStringUnique = (kind number second at len : ℕ) (pool out : List ℕ) → OneWroteText (record_text kind number second at len pool) out

abbrev pub IhexToSrecordStringUnique : Type 0
IhexToSrecordStringUnique = (kind address at len : ℕ) (pool out : List ℕ) → OneWroteText (srecord_text kind address at len pool) out

abbrev pub IhexCreateObjectFileRepresentationUnique : Type 0
IhexCreateObjectFileRepresentationUnique = (list pool out : List ℕ) → OneWroteText (list_text list pool) out

-- of a load of any source
abbrev pub OneLoad : {S : Type 0} → Source S → Type 0
OneLoad src =
    (text : List ℕ) (first : ℕ) (page marks : List ℕ) (r : LoadNumbers) (p m : List ℕ) (r' : LoadNumbers) (p' m' : List ℕ)
    → IhexLoadBy src text first page marks r p m → IhexLoadBy src text first page marks r' p' m' → (r ≡ r') × (p ≡ p') × (m ≡ m')

abbrev pub IhexLoadUnique : Type 0
IhexLoadUnique = OneLoad intel

abbrev pub IhexLoadSrecordsUnique : Type 0
IhexLoadSrecordsUnique = OneLoad s_records

abbrev pub IhexPageFileLengthUnique : Type 0
IhexPageFileLengthUnique =
    (first : ℕ) (page marks : List ℕ) (r v r' v' : ℕ) → IhexPageFileLength first page marks r v → IhexPageFileLength first page marks r' v' → (r ≡ r') × (v ≡ v')

abbrev pub IhexWritePageUnique : Type 0
IhexWritePageUnique = (first : ℕ) (page marks out : List ℕ) → OneWroteText (some (page_text first page marks)) out

-- ---- a page

-- what `ihex_write_page` wrote, loaded by `ihex_load` into the same window, whatever that held: accepted with all its data records and no start, with
-- the same marks and the same bytes at them; every other place keeps its byte
abbrev pub PageLoadsBack : Type 0
PageLoadsBack =
    (first : ℕ) (page marks out : List ℕ) (n : ℕ) (out' old-page old-marks : List ℕ) (r : LoadNumbers) (page' marks' : List ℕ)
    → Every Byte page → Bytes marks → length old-page ≡ length page → length old-marks ≡ length marks
    → IhexWritePage first page marks out 0 n out' → IhexLoad (take n out') first old-page old-marks r page' marks'
    → let k = length (pieces first 0 none (flags (length page) marks)) in
    let answer = accepted (record { records = k; start = none }) in
    (r ≡ load_numbers answer) × Restores page marks old-page (record { answer = answer; page = page'; marks = marks' })
