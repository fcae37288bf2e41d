-- The claims of `specs/ByLines.antt`: those of `chunks` on outcomes, in numbers.
-- Assumes nothing.
use Prim.Native.Nat.{ℕ}
use mathlib.Core.Path.{◌≡◌, refl, ◌∙◌, ap, subst}
use mathlib.Core.List.{List, []}
use native.Mathlib.Omega.{arith}
use lib.Dec.{ltb}
use lib.ListN.{length}
use borrow.Author.Tests.{ltb-true, ltb-false}
use Rattle.reader.specs.Told.{Told, done}
use Rattle.chunks.specs.declared.Place.{Place}
use Rattle.chunks.specs.Next.{Word, tells, used_up, is_record, Outcome, at_place, next_outcome, finish_outcome}
use Rattle.chunks.specs.First.{FirstLine, LastLine, Shows, gave_record, gave_none, used_up_shows}
use Rattle.chunks.proofs.Calls.{next_told, finish_told}
use Rattle.chunks.proofs.First.{next_by_lines, next_shows, finish_by_last_line, finish_shows}
use Rattle.codes.specs.Codes.{Numbers, reading, reading_chunk}
use Rattle.ihex.specs.Rows.{Back, ReadBack, place_back}
use Rattle.ihex.specs.ByLines.{IhexNextByLines, IhexFinishByLastLine, IhexShows, gave_record as shows-record, gave_none as shows-none, IhexNextShows, IhexFinishShows}
use Rattle.codes.proofs.States.{place_returns}
use Rattle.codes.proofs.Says.{not_full, word_at, clear_line}
use Rattle.ihex.proofs.Rows.{next_clear, finish_clear, word_back}

-- ---- which line

module _ (o : Outcome) (chunk : List ℕ) (x : Back) (carry' pool' : List ℕ) (m : ReadBack o chunk x carry' pool') where
  -- an outcome that tells something is that answer
  tells_so : (t : Told) → o.word ≡ tells t → Numbers (reading t) x.code x.a x.b x.c
  tells_so t e = subst (λ (w : Word). Numbers (reading_chunk w) x.code x.a x.b x.c) e m.answer

  code_of : (w : Word) → o.word ≡ w → x.code ≡ (reading_chunk w).code
  code_of w e = m.answer.code_is ∙ ap (λ (v : Word). (reading_chunk v).code) e

pub ihex_next_by_lines : IhexNextByLines
unfolding word_at
ihex_next_by_lines s chunk carry pool at x carry' pool' asks m =
    let o = next_outcome s chunk carry pool at in
    let by = next_by_lines s chunk carry pool at asks in
    record {
      used_up_exactly = (
        λ e. by.used_up_exactly.0 (word_back o chunk x carry' pool' m (next_clear s chunk carry pool at) (omega arith) ∙ ap word_at e),
        λ n. code_of o chunk x carry' pool' m used_up (by.used_up_exactly.1 n),
      );
      first_answered = λ line lies f. tells_so o chunk x carry' pool' m _ ((by.first_exactly _).1 (line, lies, f, refl));
      goes_on_after = λ line lies f n.
          m.stands.position_is
          ∙ by.goes_on_after line lies f (not_full _ (λ e. n ((tells_so o chunk x carry' pool' m _ ((by.first_exactly _).1 (line, lies, f, refl))).code_is ∙ e)));
    }

pub ihex_finish_by_last_line : IhexFinishByLastLine
unfolding word_at
ihex_finish_by_last_line s carry pool at x carry' pool' asks m =
    let o = finish_outcome s carry pool at in
    let by = finish_by_last_line s carry pool at asks in
    record {
      done_exactly = (
        λ e. by.done_exactly.0 (word_back o [] x carry' pool' m (finish_clear s carry pool at).0 (omega arith) ∙ ap word_at e),
        λ n. code_of o [] x carry' pool' m (tells done) (by.done_exactly.1 n),
      );
      last_answered = λ line lies l. tells_so o [] x carry' pool' m _ (by.last_answered line lies l);
    }

-- ---- where it lies

-- a code under 6 is a record's
abbrev TellsRecord : Word → Type 0
TellsRecord (tells t) = ltb (reading t).code 6 ≡ is_record t
TellsRecord used_up = Unit

in_numbers : (Answered : (line : List ℕ) (lies : Place) → Type 0) (w : Word) (lies : Place) (shown : List ℕ) → TellsRecord w → Shows Answered w lies shown
    → IhexShows Answered (reading_chunk w).code lies shown
in_numbers Answered w lies shown h (gave_record {t} r a) = shows-record (ltb-true (reading t).code 6 (h ∙ r)) a
in_numbers Answered w lies shown h (gave_none {t} r) = shows-none (ltb-false (reading t).code 6 (h ∙ r))
in_numbers Answered w lies shown h used_up_shows = shows-none (omega arith)

-- of an outcome, in the numbers that came back
came_back : (Answered : (line : List ℕ) (lies : Place) → Type 0) (o : Outcome) (chunk : List ℕ) (x : Back) (carry' pool' : List ℕ) → ReadBack o chunk x carry' pool'
    → TellsRecord o.word → Shows Answered o.word o.lies o.shows → IhexShows Answered x.code (place_back x) (at_place (place_back x) chunk carry')
came_back Answered o chunk x carry' pool' m h s =
    let p = m.stands.spot in
    let e : place_back x ≡ o.lies = rw (p.lies_is, p.from_is, p.len_is) (place_returns o.lies) in
    rw m.shows (rw (e, m.answer.code_is) (in_numbers Answered o.word o.lies o.shows h s))

pub ihex_next_shows : IhexNextShows
unfolding is_record
ihex_next_shows s chunk carry pool at x carry' pool' m =
    came_back (FirstLine s chunk carry) (next_outcome s chunk carry pool at) chunk x carry' pool' m
    (next_told s chunk carry pool at (λ w p. TellsRecord w) refl refl (λ line. (clear_line line (length pool) at).1) tt)
    (next_shows s chunk carry pool at)

pub ihex_finish_shows : IhexFinishShows
unfolding is_record
ihex_finish_shows s carry pool at x carry' pool' m =
    came_back (LastLine s carry) (finish_outcome s carry pool at) [] x carry' pool' m
    (finish_told s carry pool at (λ w p. TellsRecord w) refl refl (λ line. (clear_line line (length pool) at).1))
    (finish_shows s carry pool at)
