-- A caller's calls of the chunk reader, chunk after chunk, and what they are given: the row over the lines of the joined chunks.
-- Assumes nothing.
use Rattle.std.specs.Prelude.{◌≡◌, ℕ, suc, ◌%◌, ◌^◌, List, [], ◌∷◌, ◌++◌, length, take}
use Rattle.std.proofs.Math.Option.{Option, none, some, map}
use Rattle.std.specs.Prelude.{if◌then◌else◌}
use Rattle.record.specs.Line.{judge}
use Rattle.reader.specs.declared.ReaderOptions.{ReaderOptions}
use Rattle.reader.specs.Answer.{answered}
use Rattle.reader.specs.Row.{on}
use Rattle.reader.specs.Text.{is_full, ends_row}
use Rattle.reader.specs.Calls.{Call, Given, given_done, given_for}
use Rattle.chunks.specs.declared.Chunks.{Chunks}
use Rattle.chunks.specs.declared.ChunkStep.{ChunkStep}
use Rattle.chunks.specs.Next.{Word, tells, used_up, word_of, is_record, at_place, Outcome, next_outcome, finish_outcome, Meets}

unfoldable pub joined : List (List ℕ) → List ℕ
joined [] = []
joined (chunk ∷ chunks) = chunk ++ joined chunks

-- what a call is given, and the line that can be shown then
pub record Seen : Type 0 where
  pub given : Given
  pub shown : List ℕ

-- what a call lets its caller see: nothing new where the chunk is used up
abbrev pub seen_with : Word → (pool : List ℕ) (line : ℕ) (shown : List ℕ) → Option Seen
seen_with (tells t) pool line shown = some (record { given = record { told = t; pool = pool; line = line }; shown = shown })
seen_with used_up pool line shown = none

abbrev pub seen_of : Outcome → Option Seen
seen_of o = seen_with o.word o.pool o.state.line o.shows

-- ---- calls, whoever makes them

-- What a caller has after a call: a note of what it saw, none where the chunk is used up, and the state and the carry that it hands on.
pub record Heard (A : Type 0) : Type 0 where
  pub note : Option A
  pub state : Chunks
  pub carry : List ℕ

-- Calls from a state, with the notes that they give: of `next` at the first chunk until it is used up, then at the one after it, and of
-- `finish` where there is none. All that is known of a call with the outcome o is `Known o chunk h`, and that a lent slice keeps its
-- length. Nobody else writes to the carry.
pub data FedBy {A : Type 0} (Known : Outcome → (chunk : List ℕ) → Heard A → Type 0) : (s : Chunks) (carry : List ℕ) (chunks : List (List ℕ)) → List Call → List A → Type 0 where
  no_more : {s : Chunks} {carry : List ℕ} {chunks : List (List ℕ)} → FedBy Known s carry chunks [] []
  told_next : {s : Chunks} {carry chunk : List ℕ} {chunks : List (List ℕ)} {call : Call} {calls : List Call} {a : A} {notes : List A} (h : Heard A)
      → Known (next_outcome s chunk carry call.pool call.at) chunk h → length h.carry ≡ length carry → h.note ≡ some a
      → FedBy Known h.state h.carry (chunk ∷ chunks) calls notes → FedBy Known s carry (chunk ∷ chunks) (call ∷ calls) (a ∷ notes)
  next_chunk : {s : Chunks} {carry chunk : List ℕ} {chunks : List (List ℕ)} {call : Call} {calls : List Call} {notes : List A} (h : Heard A)
      → Known (next_outcome s chunk carry call.pool call.at) chunk h → length h.carry ≡ length carry → h.note ≡ none
      → FedBy Known h.state h.carry chunks (call ∷ calls) notes → FedBy Known s carry (chunk ∷ chunks) (call ∷ calls) notes
  told_last : {s : Chunks} {carry : List ℕ} {call : Call} {calls : List Call} {a : A} {notes : List A} (h : Heard A)
      → Known (finish_outcome s carry call.pool call.at) [] h → length h.carry ≡ length carry → h.note ≡ some a
      → FedBy Known h.state h.carry [] calls notes → FedBy Known s carry [] (call ∷ calls) (a ∷ notes)

-- What each caller's contract comes to: its note is what the outcome lets it see, as it says it, and it hands on the outcome's state
-- and a carry that begins as the outcome says.
pub record Hears {A : Type 0} (say : Seen → A) (o : Outcome) (h : Heard A) : Type 0 where
  pub note_is : h.note ≡ map say (seen_of o)
  pub state_is : h.state ≡ o.state
  pub begins : take (length o.carried) h.carry ≡ o.carried

abbrev pub Projects : {A : Type 0} (say : Seen → A) (Known : Outcome → (chunk : List ℕ) → Heard A → Type 0) → Type 0
Projects {A} say Known =
    ((s : Chunks) (chunk carry pool : List ℕ) (at : ℕ) (h : Heard A) → Known (next_outcome s chunk carry pool at) chunk h → Hears say (next_outcome s chunk carry pool at) h)
    × ((s : Chunks) (carry pool : List ℕ) (at : ℕ) (h : Heard A) → Known (finish_outcome s carry pool at) [] h → Hears say (finish_outcome s carry pool at) h)

-- A call of `Chunks::next` or `Chunks::finish`: all that is known of it is its contract, `NextChunk` or `Finish`.
pub record Stepped (o : Outcome) (chunk : List ℕ) (h : Heard Seen) : Type 0 where
  pub step : ChunkStep
  pub pool : List ℕ
  pub meets : Meets o chunk step h.carry pool
  pub note_is : h.note ≡ seen_with (word_of step.reply) pool step.state.line (at_place step.lies chunk h.carry)
  pub state_is : h.state ≡ step.state

abbrev pub Fed : (s : Chunks) (carry : List ℕ) (chunks : List (List ℕ)) → List Call → List Seen → Type 0
Fed s carry chunks calls seen = FedBy Stepped s carry chunks calls seen

-- ---- the row

-- a line and its number
pub data Nth : Type 0 where
  nth : (number : ℕ) (line : List ℕ) → Nth

-- the lines that have a byte, numbered from n on, in machine numbers
unfoldable pub numbered : ℕ → List (List ℕ) → List Nth
numbered n [] = []
numbered n ([] ∷ ls) = numbered (suc n) ls
numbered n ((c ∷ line) ∷ ls) = nth (n % 2 ^ 64) (c ∷ line) ∷ numbered (suc n) ls

-- what a call is given for a line, and what is shown of it: a line that gave a record
abbrev pub seen_for : Nth → Call → Seen
seen_for (nth n line) call =
    record {
      given = given_for (on n (judge line)) call;
      shown = if is_record (answered (judge line) (length call.pool) call.at) then line else [];
    }

-- what calls are given that have these lines to read, with `last` the line answered last: `replies` of the text reader, and the lines shown
unfoldable pub showing : ReaderOptions → (last : ℕ) → List Nth → List Call → List Seen
unfolding is_full ends_row is_record
showing options last left [] = []
showing options last [] (call ∷ calls) = record { given = given_done last call; shown = [] } ∷ showing options last [] calls
showing options last (nth n line ∷ left) (call ∷ calls) =
    let t = answered (judge line) (length call.pool) call.at in
    if is_full t
    then record { given = record { told = t; pool = call.pool; line = last }; shown = [] } ∷ showing options last (nth n line ∷ left) calls
    else seen_for (nth n line) call ∷ showing options n (if ends_row options t then [] else left) calls
