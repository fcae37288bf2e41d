-- Which line `ihex_next_chunk` and `ihex_finish` answer, when a chunk is used up, and where the line lies, in their numbers. What a first and
-- a last line are is said in `specs/First.antt` of `chunks`.
-- Assumes nothing.
use Rattle.std.specs.Prelude.{ℕ, suc, ◌≤◌, ◌<◌, ◌≡◌, ◌≢◌, ◌↔◌, List, [], length}
use Rattle.record.specs.Line.{judge}
use Rattle.reader.specs.Answer.{answered}
use Rattle.chunks.specs.declared.Chunks.{Chunks}
use Rattle.chunks.specs.declared.Place.{Place}
use Rattle.chunks.specs.declared.Place.TheVariants.{Nowhere}
use Rattle.chunks.specs.Next.{at_place, next_outcome, finish_outcome}
use Rattle.chunks.specs.First.{NoLine, FirstLine, LastLine, Asking}
use Rattle.codes.specs.Codes.{DONE, USED_UP, POOL_FULL, Numbers, reading}
use Rattle.ihex.specs.Rows.{Back, ReadBack, place_back}

-- what came back is the answer to a line, with a pool of `size` bytes and a position in it
abbrev pub AnswersLine : (line : List ℕ) (size at : ℕ) → Back → Type 0
AnswersLine line size at x = Numbers (reading (answered (judge line) size at)) x.code x.a x.b x.c

-- `ihex_next_chunk` returns IHEX_USED_UP exactly where no line with a byte ends in what is left of the chunk. Otherwise it answers the first
-- such line. The position is then directly after that line's LF, unless IHEX_POOL_FULL is returned.
pub record IhexByLines (s : Chunks) (chunk carry : List ℕ) (size at : ℕ) (x : Back) : Type 0 where
  pub used_up_exactly : (x.code ≡ USED_UP) ↔ NoLine s chunk carry
  pub first_answered : (line : List ℕ) (lies : Place) → FirstLine s chunk carry line lies → AnswersLine line size at x
  pub goes_on_after : (line : List ℕ) (lies : Place) (f : FirstLine s chunk carry line lies) → x.code ≢ POOL_FULL → x.position ≡ suc f.ends

abbrev pub IhexNextByLines : Type 0
IhexNextByLines =
    (s : Chunks) (chunk carry pool : List ℕ) (at : ℕ) (x : Back) (carry' pool' : List ℕ) → Asking s carry
    → ReadBack (next_outcome s chunk carry pool at) chunk x carry' pool' → IhexByLines s chunk carry (length pool) at x

-- `ihex_finish` returns IHEX_DONE exactly where nothing is begun, and otherwise answers the last line
pub record IhexByLastLine (s : Chunks) (carry : List ℕ) (size at : ℕ) (x : Back) : Type 0 where
  pub done_exactly : (x.code ≡ DONE) ↔ ((line : List ℕ) (lies : Place) → ¬ LastLine s carry line lies)
  pub last_answered : (line : List ℕ) (lies : Place) → LastLine s carry line lies → AnswersLine line size at x

abbrev pub IhexFinishByLastLine : Type 0
IhexFinishByLastLine =
    (s : Chunks) (carry pool : List ℕ) (at : ℕ) (x : Back) (carry' pool' : List ℕ) → Asking s carry
    → ReadBack (finish_outcome s carry pool at) [] x carry' pool' → IhexByLastLine s carry (length pool) at x

-- Where the line lies that can be shown: the line that was answered if it gave a record, whose code is its type, and nowhere otherwise.
-- `Answered line lies` says which line was answered.
pub data IhexShows (Answered : (line : List ℕ) (lies : Place) → Type 0) (code : ℕ) : (lies : Place) (shown : List ℕ) → Type 0 where
  gave_record : {line : List ℕ} {lies : Place} → code < 6 → Answered line lies → IhexShows Answered code lies line
  gave_none : 6 ≤ code → IhexShows Answered code Nowhere []

-- in any state, 18 and IHEX_DONE included
abbrev pub IhexNextShows : Type 0
IhexNextShows =
    (s : Chunks) (chunk carry pool : List ℕ) (at : ℕ) (x : Back) (carry' pool' : List ℕ) → ReadBack (next_outcome s chunk carry pool at) chunk x carry' pool'
    → IhexShows (FirstLine s chunk carry) x.code (place_back x) (at_place (place_back x) chunk carry')

abbrev pub IhexFinishShows : Type 0
IhexFinishShows =
    (s : Chunks) (carry pool : List ℕ) (at : ℕ) (x : Back) (carry' pool' : List ℕ) → ReadBack (finish_outcome s carry pool at) [] x carry' pool'
    → IhexShows (LastLine s carry) x.code (place_back x) (at_place (place_back x) [] carry')
