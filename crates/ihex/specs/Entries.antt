-- The contracts of the C entry points: what their numbers and buffers hold at exit, by what the library's own functions answer.
-- Assumes nothing.
use Rattle.std.specs.Prelude.{ℕ, ◌+◌, ◌≤◌, ◌≡◌, not, ◌||◌, List, [], leb, length, take, drop}
use Rattle.std.proofs.Math.Option.{Option, some}
use Rattle.std.specs.Prelude.{if◌then◌else◌}
use Rattle.record.specs.Line.{judge}
use Rattle.reader.specs.declared.State.{State}
use Rattle.reader.specs.Told.{Told}
use Rattle.reader.specs.Answer.{answered, poured}
use Rattle.reader.specs.Text.{outcome}
use Rattle.writer.specs.Text.{Text, place_behind}
use Rattle.chunks.specs.declared.Chunks.{Chunks}
use Rattle.chunks.specs.declared.ChunkStep.{ChunkStep}
use Rattle.chunks.specs.declared.Place.{Place}
use Rattle.chunks.specs.declared.Place.TheVariants.{Nowhere, InChunk, InCarry}
use Rattle.chunks.specs.Next.{word_of, Outcome, at_place, next_outcome, finish_outcome}
use Rattle.srec.specs.Line as s-line
use Rattle.srec.specs.Answer as s-answer
use Rattle.steps.specs.Aliases.{Loading}
use Rattle.steps.specs.Told.{told_loading}
use Rattle.steps.specs.Source.{Source}
use Rattle.window.specs.Table.{fits}
use Rattle.table.specs.Load.{torn, load_bytes}
use Rattle.entries.specs.Entry.{rows_of}
use Rattle.window.specs.Load.{load_window}
use Rattle.intel.specs.Placing.{intel}
use Rattle.srecload.specs.Placing.{s_records}
use Rattle.page.specs.File.{page_text}
use Rattle.salvage.specs.Salvage.{refusal_for}
use Rattle.salvage.specs.Told.{places_in, answered_by, output_by, list_by}
use Rattle.entries.specs.Attempts.{told_of, output_with, record_text, srecord_text, list_text}
use Rattle.query.specs.Ask.{ask}
use Rattle.light.specs.declared.Light.{Light}
use Rattle.light.specs.declared.Dumped.{Dumped}
use Rattle.light.specs.Colors.{color, known_after}
use Rattle.light.specs.Light.{told_color, told_count, made_of, load_for, outcome as said_of}
use Rattle.codes.specs.Lights.{color_number, count_number, making, COUNT_UNKNOWN}
use Rattle.codes.specs.Codes.{OK, BAD_TABLE, value, Numbers, LoadNumbers, AskNumbers, reading, reading_chunk, writing, load_numbers, ask_numbers, salvaging}
use Rattle.codes.specs.States.{flags_of, chunk_flags_of, Spotted, place_of}

-- what is returned for one line, in numbers, and the pool after it
pub record ReadLine (t : Told) (pool : List ℕ) (r a b c : ℕ) (pool' : List ℕ) : Type 0 where
  pub answer : Numbers (reading t) r a b c
  pub left : pool' ≡ pool

abbrev pub IhexReadRecord : (line pool : List ℕ) (at r a b c : ℕ) (pool' : List ℕ) → Type 0
IhexReadRecord line pool at r a b c pool' = ReadLine (answered (judge line) (length pool) at) (poured (judge line) pool at) r a b c pool'

abbrev pub IhexReadSrecord : (line pool : List ℕ) (at r a b c : ℕ) (pool' : List ℕ) → Type 0
IhexReadSrecord line pool at r a b c pool' =
    ReadLine (s-answer.answered (s-line.judge line) (length pool) at) (s-answer.poured (s-line.judge line) pool at) r a b c pool'

pub record IhexNext (s : State) (text pool : List ℕ) (at r position line flags a b c : ℕ) (pool' : List ℕ) : Type 0 where
  pub answer : Numbers (reading (outcome s text pool at).told) r a b c
  pub position_is : position ≡ (outcome s text pool at).state.position
  pub line_is : line ≡ (outcome s text pool at).state.line
  pub flags_is : flags ≡ flags_of (outcome s text pool at).state
  pub left : pool' ≡ (outcome s text pool at).pool

-- where a reader of chunks stands, and where the line lies that gave a record, in numbers
pub record Stands (s : Chunks) (p : Place) (position line empties used skipped flags lies from len : ℕ) : Type 0 where
  pub position_is : position ≡ s.position
  pub line_is : line ≡ s.line
  pub empties_is : empties ≡ s.empties
  pub used_is : used ≡ s.used
  pub skipped_is : skipped ≡ s.skipped
  pub flags_is : flags ≡ chunk_flags_of s
  pub spot : Spotted p lies from len

-- an outcome of a reader of chunks, in numbers and bytes: the carry's bytes behind `carried` are anything
pub record ChunkRead (o : Outcome) (chunk : List ℕ) (r position line empties used skipped flags lies from len a b c : ℕ) (carry' pool' : List ℕ) : Type 0 where
  pub answer : Numbers (reading_chunk o.word) r a b c
  pub stands : Stands o.state o.lies position line empties used skipped flags lies from len
  pub shows : at_place (place_of lies from len) chunk carry' ≡ o.shows
  pub carry : take (length o.carried) carry' ≡ o.carried
  pub left : pool' ≡ o.pool

abbrev pub IhexNextChunk : (s : Chunks) (chunk carry pool : List ℕ) (at r position line empties used skipped flags lies from len a b c : ℕ) (carry' pool' : List ℕ) → Type 0
IhexNextChunk s chunk carry pool at r position line empties used skipped flags lies from len a b c carry' pool' =
    ChunkRead (next_outcome s chunk carry pool at) chunk r position line empties used skipped flags lies from len a b c carry' pool'

abbrev pub IhexFinish : (s : Chunks) (carry pool : List ℕ) (at r position line empties used skipped flags lies from len a b c : ℕ) (carry' pool' : List ℕ) → Type 0
IhexFinish s carry pool at r position line empties used skipped flags lies from len a b c carry' pool' =
    ChunkRead (finish_outcome s carry pool at) [] r position line empties used skipped flags lies from len a b c carry' pool'

-- a step of a reader of chunks, in numbers
pub record TellStep (step : ChunkStep) (r position line empties used skipped flags lies from len a b c : ℕ) : Type 0 where
  pub answer : Numbers (reading_chunk (word_of step.reply)) r a b c
  pub stands : Stands step.state step.lies position line empties used skipped flags lies from len

-- the buffer that a place names
abbrev pub buffer_of : Place → (chunk carry : List ℕ) → List ℕ
buffer_of Nowhere chunk carry = []
buffer_of (InChunk from len) chunk carry = chunk
buffer_of (InCarry len) chunk carry = carry

-- where a place begins there: at the front where the buffer ends before it
abbrev pub start_of : Place → (chunk : List ℕ) → ℕ
start_of Nowhere chunk = 0
start_of (InChunk from len) chunk = if leb from (length chunk) then from else 0
start_of (InCarry len) chunk = 0

-- the bytes at a place are its buffer's own, r of them from `start` on
pub record IhexShown (p : Place) (chunk carry : List ℕ) (start r : ℕ) : Type 0 where
  pub start_is : start ≡ start_of p chunk
  pub len_is : r ≡ length (at_place p chunk carry)
  pub inside : start + r ≤ length (buffer_of p chunk carry)
  pub holds : take r (drop start (buffer_of p chunk carry)) ≡ at_place p chunk carry

-- a text, if there is one, was written: an answer in two numbers, and the output
pub record WroteText (t : Option Text) (out : List ℕ) (r v : ℕ) (out' : List ℕ) : Type 0 where
  pub code_is : r ≡ (writing (told_of t (length out))).code
  pub value_is : v ≡ value (writing (told_of t (length out))) 0
  pub left : out' ≡ output_with t out

abbrev pub IhexToRecordString : (kind number second at len : ℕ) (pool out : List ℕ) (r v : ℕ) (out' : List ℕ) → Type 0
IhexToRecordString kind number second at len pool out r v out' =
    WroteText (record_text kind number second at len pool) out r v out'

abbrev pub IhexToSrecordString : (kind address at len : ℕ) (pool out : List ℕ) (r v : ℕ) (out' : List ℕ) → Type 0
IhexToSrecordString kind address at len pool out r v out' =
    WroteText (srecord_text kind address at len pool) out r v out'

abbrev pub IhexCreateObjectFileRepresentation : (list pool out : List ℕ) (r v : ℕ) (out' : List ℕ) → Type 0
IhexCreateObjectFileRepresentation list pool out r v out' =
    WroteText (list_text list pool) out r v out'

-- what a load returned, in six numbers: the code, and what line, start, a, b and c hold
abbrev pub six : (r line start a b c : ℕ) → LoadNumbers
six r line start a b c = record { code = r; line = line; start = start; a = a; b = b; c = c }

-- a text of any source was loaded: what was returned, and the page and the marks after it
pub record IhexLoadBy {S : Type 0} (src : Source S) (text : List ℕ) (first : ℕ) (page marks : List ℕ) (r : LoadNumbers) (page' marks' : List ℕ) : Type 0 where
  pub numbers : r ≡ load_numbers (load_window src text first page marks).answer
  pub page_is : page' ≡ (load_window src text first page marks).page
  pub marks_is : marks' ≡ (load_window src text first page marks).marks

-- the contract of `tell_load`
pub record TellLoad (answer : Loading) (r : LoadNumbers) : Type 0 where
  pub numbers : r ≡ load_numbers (told_loading answer)

-- a load for one owner through a table in bytes
pub record IhexLoadTableBy {S : Type 0} (src : Source S) (text : List ℕ) (owner : ℕ) (table pool marks : List ℕ) (r : LoadNumbers) (pool' marks' : List ℕ) : Type 0 where
  pub numbers : r ≡ load_numbers (load_bytes src text owner table pool marks).answer
  pub pool_is : pool' ≡ (load_bytes src text owner table pool marks).page
  pub marks_is : marks' ≡ (load_bytes src text owner table pool marks).marks

abbrev pub IhexLoadTable : (text : List ℕ) (owner : ℕ) (table pool marks : List ℕ) (r : LoadNumbers) (pool' marks' : List ℕ) → Type 0
IhexLoadTable text owner table pool marks r pool' marks' = IhexLoadTableBy intel text owner table pool marks r pool' marks'

abbrev pub IhexLoadSrecordsTable : (text : List ℕ) (owner : ℕ) (table pool marks : List ℕ) (r : LoadNumbers) (pool' marks' : List ℕ) → Type 0
IhexLoadSrecordsTable text owner table pool marks r pool' marks' = IhexLoadTableBy s_records text owner table pool marks r pool' marks'

-- 23 for a table that every load refuses
pub record IhexCheckTable (table : List ℕ) (pool marks r : ℕ) : Type 0 where
  pub answer : r ≡ (if torn table || not (fits 1 pool marks (rows_of table)) then BAD_TABLE else OK)

abbrev pub IhexLoad : (text : List ℕ) (first : ℕ) (page marks : List ℕ) (r : LoadNumbers) (page' marks' : List ℕ) → Type 0
IhexLoad text first page marks r page' marks' = IhexLoadBy intel text first page marks r page' marks'

abbrev pub IhexLoadSrecords : (text : List ℕ) (first : ℕ) (page marks : List ℕ) (r : LoadNumbers) (page' marks' : List ℕ) → Type 0
IhexLoadSrecords text first page marks r page' marks' = IhexLoadBy s_records text first page marks r page' marks'

-- what can be saved of a text was saved: an answer in three numbers, and the output and the list after it
pub record IhexSalvage (text out list : List ℕ) (r a b : ℕ) (out' list' : List ℕ) : Type 0 where
  pub code_is : r ≡ (salvaging (answered_by (refusal_for text (length out) (places_in list)) text)).code
  pub a_is : a ≡ value (salvaging (answered_by (refusal_for text (length out) (places_in list)) text)) 0
  pub b_is : b ≡ value (salvaging (answered_by (refusal_for text (length out) (places_in list)) text)) 1
  pub output_is : out' ≡ output_by (refusal_for text (length out) (places_in list)) text out
  pub list_is : list' ≡ list_by (refusal_for text (length out) (places_in list)) text list

-- how long the file of a page is: an answer in two numbers
pub record IhexPageFileLength (first : ℕ) (page marks : List ℕ) (r v : ℕ) : Type 0 where
  pub code_is : r ≡ (writing (some (place_behind (page_text first page marks) 0))).code
  pub value_is : v ≡ value (writing (some (place_behind (page_text first page marks) 0))) 0

abbrev pub IhexWritePage : (first : ℕ) (page marks out : List ℕ) (r v : ℕ) (out' : List ℕ) → Type 0
IhexWritePage first page marks out r v out' = WroteText (some (page_text first page marks)) out r v out'

-- what is returned of a byte that was asked, in four numbers: the code, and what line, a and b hold
abbrev pub asked_in : (r line a b : ℕ) → AskNumbers
asked_in r line a b = record { code = r; line = line; a = a; b = b }

-- a byte was asked
pub record IhexAsk (text : List ℕ) (address : ℕ) (r : AskNumbers) : Type 0 where
  pub numbers : r ≡ ask_numbers (ask text address)

-- a light was set up: what was returned, and the count that is known
pub record IhexSetUpLight (first length high low r known : ℕ) : Type 0 where
  pub answer : r ≡ making (made_of first length high low)
  pub known_is : known ≡ COUNT_UNKNOWN

-- what a dump returned, in numbers: what its load returned, the color, and the count that is known after it
pub record LightNumbers : Type 0 where
  pub load : LoadNumbers
  pub color : ℕ
  pub known : ℕ

abbrev pub lit : (load : LoadNumbers) (color known : ℕ) → LightNumbers
lit load color known = record { load = load; color = color; known = known }

-- the contract of `tell_light`
pub record TellLight (d : Dumped) (r : LightNumbers) : Type 0 where
  pub numbers : r.load ≡ load_numbers (told_loading d.answer)
  pub color_is : r.color ≡ color_number (told_color d.color)
  pub known_is : r.known ≡ count_number (told_count d.light.known)

-- a dump of any source, with this light: what was returned, and the page and the marks after it
pub record IhexLightBy {S : Type 0} (src : Source S) (text : List ℕ) (l : Light) (page marks : List ℕ) (r : LightNumbers) (page' marks' : List ℕ) : Type 0 where
  pub numbers : r.load ≡ load_numbers (load_for src l text page marks).answer
  pub color_is : r.color ≡ color_number (color (told_count l.known) (said_of src l text page marks))
  pub known_is : r.known ≡ count_number (known_after (told_count l.known) (said_of src l text page marks))
  pub page_is : page' ≡ (load_for src l text page marks).page
  pub marks_is : marks' ≡ (load_for src l text page marks).marks

abbrev pub IhexLight : (text : List ℕ) (l : Light) (page marks : List ℕ) (r : LightNumbers) (page' marks' : List ℕ) → Type 0
IhexLight text l page marks r page' marks' = IhexLightBy intel text l page marks r page' marks'

abbrev pub IhexLightSrecords : (text : List ℕ) (l : Light) (page marks : List ℕ) (r : LightNumbers) (page' marks' : List ℕ) → Type 0
IhexLightSrecords text l page marks r page' marks' = IhexLightBy s_records text l page marks r page' marks'
