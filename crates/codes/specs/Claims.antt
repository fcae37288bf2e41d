-- What is claimed of answers, states and places in numbers, and proved in `proofs/`.
-- Assumes nothing.
use Rattle.std.specs.Prelude.{ℕ, ◌%◌, ◌<◌, ◌≡◌, Bool}
use Rattle.std.proofs.Math.Option.{Option, some}
use Rattle.reader.specs.Aliases.{Answer}
use Rattle.reader.specs.Aliases.{Reply}
use Rattle.reader.specs.declared.State.{State}
use Rattle.reader.specs.Told.{told}
use Rattle.reader.specs.Text.{told_reply}
use Rattle.srec.specs.Aliases.{SAnswer}
use Rattle.srec.specs.Answer.{told_sanswer}
use Rattle.entries.specs.Aliases.{Attempt}
use Rattle.entries.specs.Aliases.{SAttempt}
use Rattle.entries.specs.Attempts.{told_attempt, told_sattempt}
use Rattle.chunks.specs.declared.ChunkReply.{ChunkReply}
use Rattle.chunks.specs.declared.Chunks.{Chunks}
use Rattle.chunks.specs.declared.Place.{Place}
use Rattle.chunks.specs.Next.{word_of}
use Rattle.steps.specs.Aliases.{Loading}
use Rattle.steps.specs.Steps.{Start}
use Rattle.steps.specs.Told.{told_loading}
use Rattle.page.specs.Aliases.{Paged}
use Rattle.page.specs.Told.{told_page}
use Rattle.salvage.specs.Aliases.{Salvaged}
use Rattle.salvage.specs.Told.{told_salvage}
use Rattle.query.specs.Aliases.{Asked}
use Rattle.query.specs.Ask.{told_asked}
use Rattle.light.specs.declared.Color.{Color as CodeColor}
use Rattle.light.specs.Aliases.{Count}
use Rattle.light.specs.declared.Light.{Light}
use Rattle.light.specs.Aliases.{Made}
use Rattle.light.specs.Colors.{Color}
use Rattle.light.specs.Light.{told_count}
use Rattle.listen.specs.Aliases.{Committed}
use Rattle.listen.specs.declared.Listener.{Listener}
use Rattle.listen.specs.declared.Said.{Said}
use Rattle.codes.specs.declared.Coded.{Coded}
use Rattle.codes.specs.declared.Spot.{Spot}
use Rattle.codes.specs.declared.Stand.{Stand}
use Rattle.codes.specs.Codes.{Message, CodedAs, reading, reading_chunk, writing, loading, salvaging, asking, LineAt, AskedLine, start_values, kind_of_start, StartKind, CodeTable}
use Rattle.codes.specs.Lights.{color_number, count_number, light_of, ColorNumber, CountNumber, LightFrom, CodeMade}
use Rattle.codes.specs.Listeners.{listener_of, ListenerFrom, StandOf, CodeSaid, SaidLine, SaidStart, CodeCommitted, AnswerFrom}
use Rattle.codes.specs.States.{state_of, flags_of, chunks_of, chunk_flags_of, lies_of, from_of, len_of, place_of, StateFrom, FlagsFrom, ChunksFrom, ChunkFlagsFrom, SpotAs, PlaceFrom}

-- ---- no second answer meets a contract

-- an answer of this type has one coding
abbrev pub OneCoding : (A : Type 0) → (A → Message) → Type 0
OneCoding A message-of = (x : A) (r r' : Coded) → CodedAs (message-of x) r → CodedAs (message-of x) r' → r ≡ r'

abbrev pub CodeAnswerUnique : Type 0
CodeAnswerUnique = OneCoding Answer (λ x. reading (told x))

abbrev pub CodeSanswerUnique : Type 0
CodeSanswerUnique = OneCoding SAnswer (λ x. reading (told_sanswer x))

abbrev pub CodeReplyUnique : Type 0
CodeReplyUnique = OneCoding Reply (λ x. reading (told_reply x))

abbrev pub CodeChunkReplyUnique : Type 0
CodeChunkReplyUnique = OneCoding ChunkReply (λ x. reading_chunk (word_of x))

abbrev pub CodeAttemptUnique : Type 0
CodeAttemptUnique = OneCoding Attempt (λ x. writing (told_attempt x))

abbrev pub CodeSattemptUnique : Type 0
CodeSattemptUnique = OneCoding SAttempt (λ x. writing (told_sattempt x))

abbrev pub CodeLoadingUnique : Type 0
CodeLoadingUnique = OneCoding Loading (λ x. loading (told_loading x))

abbrev pub CodePagedUnique : Type 0
CodePagedUnique = OneCoding Paged (λ x. writing (some (told_page x)))

abbrev pub CodeSalvagedUnique : Type 0
CodeSalvagedUnique = OneCoding Salvaged (λ x. salvaging (told_salvage x))

abbrev pub CodeAskedUnique : Type 0
CodeAskedUnique = OneCoding Asked (λ x. asking (told_asked x))

abbrev pub AskedLineUnique : Type 0
AskedLineUnique = (x : Asked) (r r' : ℕ) → AskedLine (told_asked x) r → AskedLine (told_asked x) r' → r ≡ r'

abbrev pub LineAtUnique : Type 0
LineAtUnique = (x : Loading) (r r' : ℕ) → LineAt (told_loading x) r → LineAt (told_loading x) r' → r ≡ r'

abbrev pub StartKindUnique : Type 0
StartKindUnique = (x : Loading) (r r' : ℕ) → StartKind (told_loading x) r → StartKind (told_loading x) r' → r ≡ r'

abbrev pub CodeTableUnique : Type 0
CodeTableUnique = (bad : Bool) (r r' : ℕ) → CodeTable bad r → CodeTable bad r' → r ≡ r'

abbrev pub StateFromUnique : Type 0
StateFromUnique = (position line flags : ℕ) (r r' : State) → StateFrom position line flags r → StateFrom position line flags r' → r ≡ r'

abbrev pub FlagsFromUnique : Type 0
FlagsFromUnique = (s : State) (r r' : ℕ) → FlagsFrom s r → FlagsFrom s r' → r ≡ r'

abbrev pub ChunksFromUnique : Type 0
ChunksFromUnique =
    (position line empties used skipped flags : ℕ) (r r' : Chunks)
    → ChunksFrom position line empties used skipped flags r → ChunksFrom position line empties used skipped flags r' → r ≡ r'

abbrev pub ChunkFlagsFromUnique : Type 0
ChunkFlagsFromUnique = (s : Chunks) (r r' : ℕ) → ChunkFlagsFrom s r → ChunkFlagsFrom s r' → r ≡ r'

abbrev pub SpotOfUnique : Type 0
SpotOfUnique = (p : Place) (r r' : Spot) → SpotAs p r → SpotAs p r' → r ≡ r'

abbrev pub PlaceFromUnique : Type 0
PlaceFromUnique = (lies from len : ℕ) (r r' : Place) → PlaceFrom lies from len r → PlaceFrom lies from len r' → r ≡ r'

abbrev pub ColorNumberUnique : Type 0
ColorNumberUnique = (c : CodeColor) (r r' : ℕ) → ColorNumber c r → ColorNumber c r' → r ≡ r'

abbrev pub CountNumberUnique : Type 0
CountNumberUnique = (k : Count) (r r' : ℕ) → CountNumber k r → CountNumber k r' → r ≡ r'

abbrev pub LightFromUnique : Type 0
LightFromUnique =
    (first length high low known : ℕ) (r r' : Light) → LightFrom first length high low known r → LightFrom first length high low known r' → r ≡ r'

abbrev pub CodeMadeUnique : Type 0
CodeMadeUnique = (m : Made) (r r' : ℕ) → CodeMade m r → CodeMade m r' → r ≡ r'

abbrev pub ListenerFromUnique : Type 0
ListenerFromUnique =
    (flags skipped base begin lines used records : ℕ) (r r' : Listener)
    → ListenerFrom flags skipped base begin lines used records r → ListenerFrom flags skipped base begin lines used records r' → r ≡ r'

abbrev pub StandOfUnique : Type 0
StandOfUnique = (l : Listener) (r r' : Stand) → StandOf l r → StandOf l r' → r ≡ r'

abbrev pub CodeSaidUnique : Type 0
CodeSaidUnique = (x : Said) (r r' : Coded) → CodeSaid x r → CodeSaid x r' → r ≡ r'

abbrev pub SaidLineUnique : Type 0
SaidLineUnique = (x : Said) (r r' : ℕ) → SaidLine x r → SaidLine x r' → r ≡ r'

abbrev pub SaidStartUnique : Type 0
SaidStartUnique = (x : Said) (r r' : ℕ) → SaidStart x r → SaidStart x r' → r ≡ r'

abbrev pub CodeCommittedUnique : Type 0
CodeCommittedUnique = (c : Committed) (r r' : ℕ) → CodeCommitted c r → CodeCommitted c r' → r ≡ r'

abbrev pub AnswerFromUnique : Type 0
AnswerFromUnique = (code : ℕ) (r r' : Loading) → AnswerFrom code r → AnswerFrom code r' → r ≡ r'

-- ---- a color and a light are what their numbers say

abbrev pub ColorReturns : Type 0
ColorReturns = (c c' : Color) → color_number c ≡ color_number c' → c ≡ c'

-- a count has 16 bits
abbrev pub LightReturns : Type 0
LightReturns =
    (l : Light) → ((n : ℕ) → told_count l.known ≡ some n → n < 65536)
    → light_of l.first l.length l.high l.low (count_number (told_count l.known)) ≡ l

-- ---- a start is what its numbers say

abbrev pub StartReturns : Type 0
StartReturns = (s s' : Option Start) → kind_of_start s ≡ kind_of_start s' → start_values s ≡ start_values s' → s ≡ s'

-- ---- a state and a place are what their numbers say: nothing is lost from one call to the next

abbrev pub TextStateReturns : Type 0
TextStateReturns = (s : State) → state_of s.position s.line (flags_of s) ≡ s

abbrev pub StateReturns : Type 0
StateReturns = (s : Chunks) → chunks_of s.position s.line s.empties s.used s.skipped (chunk_flags_of s) ≡ s

abbrev pub PlaceReturns : Type 0
PlaceReturns = (p : Place) → place_of (lies_of p) (from_of p) (len_of p) ≡ p

-- of the flags only the first three bits are read, of those of a reader of chunks the first four, and of those of a listener the first seven
abbrev pub ThreeFlagsRead : Type 0
ThreeFlagsRead = (position line flags : ℕ) → state_of position line flags ≡ state_of position line (flags % 8)

abbrev pub FourFlagsRead : Type 0
FourFlagsRead =
    (position line empties used skipped flags : ℕ) → chunks_of position line empties used skipped flags ≡ chunks_of position line empties used skipped (flags % 16)

abbrev pub SevenFlagsRead : Type 0
SevenFlagsRead =
    (flags skipped base begin lines used records : ℕ)
    → listener_of (flags % 128) skipped base begin lines used records ≡ listener_of flags skipped base begin lines used records
