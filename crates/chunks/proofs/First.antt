-- The claims on which line a call answers and where it lies: what the machine found is the first line, and what it holds at the end is
-- the last.
-- Assumes nothing.
use Rattle.std.proofs.Common.{◌≡◌, ℕ, suc, ◌-◌, ◌≤◌, Bool, true, false, List, [], ◌∷◌, ◌++◌, length, take, drop, sym, refl, ap, ◌∙◌, subst, arith, length-drop, length-take}
use mathlib.Core.Option.{Option, none}
use mathlib.Core.List.{foldl}
use Rattle.std.specs.Prelude.{if◌then◌else◌}
use Rattle.record.specs.Line.{Said, judge}
use Rattle.digits.proofs.Tests.{split}
use Rattle.reader.specs.Told.{Told, done}
use Rattle.reader.specs.Answer.{answered}
use Rattle.reader.specs.Lines.{CR}
use Rattle.reader.specs.Text.{is_full}
use Rattle.reader.proofs.Stays.{never_done}
use Rattle.chunks.specs.declared.Chunks.{Chunks}
use Rattle.chunks.specs.declared.Place.{Place}
use Rattle.chunks.specs.declared.Place.TheVariants.{Nowhere, InCarry}
use Rattle.chunks.specs.declared.ChunkReply.TheVariants.{UsedUp}
use Rattle.chunks.specs.declared.ChunkStep.{ChunkStep}
use Rattle.chunks.specs.Begun.{Kept, is_empty, push, stands_for, with_CR, Sought}
use Rattle.chunks.specs.Next.{Word, tells, word_of, is_record, kept_in, left_out, begun, place, at_place, Outcome, unchanged, answered_line, of_sought, too_small, finish_outcome, Meets}
use Rattle.chunks.specs.First.{CR_waiting, BegunEarlier, by_used, by_CR, so_far, UsedSoFar, FirstLine, LastLine, last_line, Asking, ByLines, NextByLines, RepliesByLines, UsedUpExactly, ByLastLine, FinishByLastLine, RepliesByLastLine, Shows, gave_record, gave_none, used_up_shows, NextShows, FinishShows, ReplyShows, LastUnique, ShowsUnique}
use Rattle.chunks.proofs.Moved.{short_stands}
use Rattle.chunks.proofs.Waiting.{push_some, pushes_some}
use Rattle.chunks.proofs.Outcomes.{record_short, full_no_record}
use Rattle.chunks.proofs.Rows.{sound_begun}
use Rattle.chunks.proofs.FirstTests.{next_on, finish_on, some_line}
use Rattle.chunks.proofs.Calls.{not_used_up, told_is, fits, misfits, line_word, line_full, line_used, next_ways, finish_ways}
use Rattle.chunks.proofs.Claims.{reply_is}
use Rattle.chunks.proofs.Looked.{AsKept, as_kept, line_LF, same_end, first_unique, Looked, none_ends, one_ends, looked}

pub used_so_far : UsedSoFar
used_so_far s carry h = short_stands (kept_in carry s.used (left_out s)) (omega (arith, length-take s.used carry))

-- ---- a line that is answered

module _ (s : Chunks) (used chunk pool : List ℕ) (at : ℕ) (start : Option (List ℕ)) (n : ℕ) (k : Kept) (position : ℕ) (last : Bool) (line : List ℕ) (kept : AsKept k line) where
  abbrev of_line : Outcome
  of_line = answered_line s used chunk pool at start n k position last

  abbrev t : Told
  t = answered (judge (stands_for k)) (length pool) at

  told_line : t ≡ answered (judge line) (length pool) at
  told_line = ap (λ (j : Said). answered j (length pool) at) kept.judged

  line_told : of_line.word ≡ tells (answered (judge line) (length pool) at)
  line_told = line_word s used chunk pool at start n k position last ∙ ap tells told_line

  line_shows : (Answered : (line : List ℕ) (lies : Place) → Type 0) (lies : Place) → place chunk start line ≡ lies → Answered line lies → Shows Answered of_line.word of_line.lies of_line.shows
  line_shows Answered lies there a = by_full (is_full t) refl
    where
      by_record : (b : Bool) → is_record t ≡ b → Shows Answered (tells t) (if b then place chunk start (stands_for k) else Nowhere) (if b then stands_for k else [])
      by_record true r =
          let is : is_record (answered (judge line) (length pool) at) ≡ true = sym (ap is_record told_line) ∙ r in
          rw (kept.whole (record_short line (length pool) at is), there) (gave_record is a)
      by_record false r = gave_none r

      by_full : (b : Bool) → is_full t ≡ b → Shows Answered of_line.word of_line.lies of_line.shows
      by_full true f = rw (line_full s used chunk pool at start n k position last f) (gave_none (full_no_record t f))
      by_full false f = rw (line_used s used chunk pool at start n k position last f) (by_record (is_record t) refl)

-- ---- next

fitting : {s : Chunks} {carry : List ℕ} → Asking s carry → too_small s carry ≡ false
fitting {s} {carry} a = go (too_small s carry) refl
  where
    go : (b : Bool) → too_small s carry ≡ b → b ≡ false
    go true e = absurd (a.enough (misfits s carry e))
    go false e = refl

module _ (s : Chunks) (chunk carry pool : List ℕ) (at : ℕ) (used : List ℕ) where
  abbrev found : Sought → Outcome
  found f = of_sought s used chunk pool at f

  abbrev Lined : Outcome → Type 0
  Lined o = ByLines s chunk carry pool at o.word o.state.position

  -- a line was found
  module _ (line : List ℕ) (lies : Place) (g : FirstLine s chunk carry line lies) (start : Option (List ℕ)) (n : ℕ) (k : Kept) (kept : AsKept k line) where
    abbrev position : ℕ
    position = length chunk - length (drop (suc g.ends) chunk)

    abbrev one : Outcome
    one = answered_line s used chunk pool at start n k position false

    one_told : one.word ≡ tells (answered (judge line) (length pool) at)
    one_told = line_told s used chunk pool at start n k position false line kept

    told_same : (line' : List ℕ) (lies' : Place) → FirstLine s chunk carry line' lies' → answered (judge line) (length pool) at ≡ answered (judge line') (length pool) at
    told_same line' lies' f = ap (λ (l : List ℕ). answered (judge l) (length pool) at) (first_unique s chunk carry line line' lies lies' g f).0

    one_after : (line' : List ℕ) (lies' : Place) (f : FirstLine s chunk carry line' lies') → is_full (answered (judge line') (length pool) at) ≡ false → one.state.position ≡ suc f.ends
    one_after line' lies' f nf =
        ap (λ (o : Outcome). o.state.position)
        (line_used s used chunk pool at start n k position false (ap is_full (told_line s used chunk pool at start n k position false line kept ∙ told_same line' lies' f) ∙ nf))
        ∙ omega (arith, same_end g f, (line_LF s chunk g.is_line).inside, length-drop (suc g.ends) chunk)

    one_lines : Lined one
    one_lines =
        record {
          used_up_exactly = (λ u. not_used_up (sym u ∙ one_told), λ nothing. absurd (nothing g.ends line lies g.is_line));
          first_exactly = λ t. (λ w. (line, lies, g, told_is (sym w ∙ one_told)), λ x. let (line', lies', f, is) = x in one_told ∙ ap tells (told_same line' lies' f ∙ sym is));
          goes_on_after = one_after;
        }

  found_lines : {f : Sought} → Looked s chunk carry f → Lined (found f)
  unfolding of_sought
  found_lines (none_ends nothing n b e) =
      rw e (record {
        used_up_exactly = (λ _. nothing, λ _. refl);
        first_exactly = λ t. (λ w. not_used_up w, λ x. let (line, lies, g, is) = x in absurd (nothing g.ends line lies g.is_line));
        goes_on_after = λ line lies g nf. absurd (nothing g.ends line lies g.is_line);
      })
  found_lines (one_ends line lies g start n k e kept there) = rw e (one_lines line lies g start n k kept)

  found_shows : {f : Sought} → Looked s chunk carry f → Shows (FirstLine s chunk carry) (found f).word (found f).lies (found f).shows
  unfolding of_sought
  found_shows (none_ends nothing n b e) = rw e used_up_shows
  found_shows (one_ends line lies g start n k e kept there) =
      rw e (line_shows s used chunk pool at start n k (length chunk - length (drop (suc g.ends) chunk)) false line kept (FirstLine s chunk carry) lies there g)

pub next_by_lines : NextByLines
next_by_lines s chunk carry pool at a =
    let t = fitting a in
    let (big, few) = fits s carry t in
    subst (λ (o : Outcome). ByLines s chunk carry pool at o.word o.state.position) (sym (next_on s chunk carry pool at t a.goes_on))
    (found_lines s chunk carry pool at (take s.used carry) (looked s chunk carry big few))

pub replies_by_lines : RepliesByLines
replies_by_lines s chunk carry pool at r carry' pool' a m =
    rw (m.answer, ap (λ (x : Chunks). x.position) m.state) (next_by_lines s chunk carry pool at a)

pub used_up_exactly : UsedUpExactly
used_up_exactly s chunk carry pool at r carry' pool' a m =
    let (there, back) = (replies_by_lines s chunk carry pool at r carry' pool' a m).used_up_exactly in
    (λ e. there (ap word_of e), λ none. reply_is r.reply UsedUp (back none))

-- 18, "done" and "used up" show nothing
pub next_shows : NextShows
unfolding unchanged is_record
next_shows s chunk carry pool at =
    next_ways s chunk carry pool at (λ o. Shows (FirstLine s chunk carry) o.word o.lies o.shows) (λ e. gave_none refl) (λ e d. gave_none refl)
    (λ e d f q.
    let (big, few) = fits s carry e in
    found_shows s chunk carry pool at (take s.used carry) (subst (Looked s chunk carry) q (looked s chunk carry big few)))

-- ---- finish

module _ (s : Chunks) (carry : List ℕ) where
  abbrev last : List ℕ
  last = so_far s carry ++ CR_waiting s

  with_CR_is : with_CR (begun s carry) ≡ foldl push (begun s carry).kept (CR_waiting s)
  unfolding with_CR
  with_CR_is = go s.cr
    where
      go : (b : Bool) → (if b then push (begun s carry).kept CR else (begun s carry).kept) ≡ foldl push (begun s carry).kept (if b then CR ∷ [] else [])
      go true = refl
      go false = refl

  module _ (big : 522 ≤ length carry) (few : s.used ≤ 522) where
    last_kept : AsKept (with_CR (begun s carry)) last
    last_kept = rw with_CR_is (as_kept (begun s carry).kept (CR_waiting s) (sound_begun s carry big few))

    -- it has a byte exactly where one was begun
    begun_some : BegunEarlier s (CR_waiting s) → is_empty (with_CR (begun s carry)).bytes ≡ false
    unfolding with_CR
    begun_some (by_used h) = rw with_CR_is (pushes_some (CR_waiting s) (begun s carry).kept (some_line s.used carry (λ z. omega arith) (omega arith)))
    begun_some (by_CR c h) = rw c (push_some (begun s carry).kept CR)

    some_begun : is_empty (with_CR (begun s carry)).bytes ≡ false → BegunEarlier s (CR_waiting s)
    unfolding with_CR is_empty
    some_begun e = split s.used 0 (λ h. by_flag (omega arith) s.cr refl) (λ h. by_used h)
      where
        by_flag : s.used ≡ 0 → (b : Bool) → s.cr ≡ b → BegunEarlier s (CR_waiting s)
        by_flag u true c = by_CR c (λ z. let x : CR ∷ [] ≡ [] = rw c at z in let y : ◌≡◌ {A = ℕ} 0 1 = cc in omega arith)
        by_flag u false c =
            let t : ◌≡◌ {A = Bool} true false = sym (ap (λ (n : ℕ). is_empty (take n carry)) u) ∙ (rw c at e) in
            let z : ◌≡◌ {A = ℕ} 0 1 = cc in absurd (omega arith)

    module _ (pool : List ℕ) (at : ℕ) where
      abbrev of_last : Outcome
      of_last = answered_line s (take s.used carry) [] pool at none s.empties (with_CR (begun s carry)) 0 true

      last_told : of_last.word ≡ tells (answered (judge last) (length pool) at)
      last_told = line_told s (take s.used carry) [] pool at none s.empties (with_CR (begun s carry)) 0 true last last_kept

      last_lines : BegunEarlier s (CR_waiting s) → ByLastLine s carry pool at of_last.word
      last_lines b =
          record {
            done_exactly = (λ w. absurd (never_done (judge last) (length pool) at (told_is (sym last_told ∙ w))), λ nothing. absurd (nothing last (InCarry (length last)) (last_line b)));
            last_answered = λ line lies l. told l;
          }
        where
          told : {line : List ℕ} {lies : Place} → LastLine s carry line lies → of_last.word ≡ tells (answered (judge line) (length pool) at)
          told (last_line c) = last_told

      last_shows : BegunEarlier s (CR_waiting s) → Shows (LastLine s carry) of_last.word of_last.lies of_last.shows
      unfolding place
      last_shows b =
          line_shows s (take s.used carry) [] pool at none s.empties (with_CR (begun s carry)) 0 true last last_kept (LastLine s carry) (InCarry (length last)) refl (last_line b)

      none_last : is_empty (with_CR (begun s carry)).bytes ≡ true → ByLastLine s carry pool at (tells done)
      none_last e = record { done_exactly = (λ _ line lies l. never l, λ _. refl); last_answered = λ line lies l. absurd (never l) }
        where
          never : {line : List ℕ} {lies : Place} → LastLine s carry line lies → ⊥
          never (last_line b) = let t : ◌≡◌ {A = Bool} true false = sym e ∙ begun_some b in let z : ◌≡◌ {A = ℕ} 0 1 = cc in omega arith

pub finish_by_last_line : FinishByLastLine
finish_by_last_line s carry pool at a = go (is_empty (with_CR (begun s carry)).bytes) refl (fits s carry (fitting a))
  where
    go : (b : Bool) → is_empty (with_CR (begun s carry)).bytes ≡ b → (522 ≤ length carry) × (s.used ≤ 522) → ByLastLine s carry pool at (finish_outcome s carry pool at).word
    go true e (big, few) = rw (finish_on s carry pool at (fitting a) a.goes_on true e) (none_last s carry big few pool at e)
    go false e (big, few) = rw (finish_on s carry pool at (fitting a) a.goes_on false e) (last_lines s carry big few pool at (some_begun s carry big few e))

pub replies_by_last_line : RepliesByLastLine
replies_by_last_line s carry pool at r carry' pool' a m = rw m.answer (finish_by_last_line s carry pool at a)

pub finish_shows : FinishShows
unfolding unchanged is_record
finish_shows s carry pool at =
    finish_ways s carry pool at (λ o. Shows (LastLine s carry) o.word o.lies o.shows) (λ e. gave_none refl) (λ e d. gave_none refl) (λ e d z. gave_none refl)
    (λ e d z. let (big, few) = fits s carry e in last_shows s carry big few pool at (some_begun s carry big few z))

-- ---- by the contracts

same_shows : (Answered : (line : List ℕ) (lies : Place) → Type 0) {o : Outcome} {chunk : List ℕ} {r : ChunkStep} {carry' pool' : List ℕ} → Meets o chunk r carry' pool'
    → Shows Answered o.word o.lies o.shows → Shows Answered (word_of r.reply) r.lies (at_place r.lies chunk carry')
same_shows Answered m x = rw (m.shows, m.lies, m.answer) x

pub reply_shows : ReplyShows
reply_shows s chunk carry pool at r carry' pool' = (
  λ m. same_shows (FirstLine s chunk carry) m (next_shows s chunk carry pool at),
  λ m. same_shows (LastLine s carry) m (finish_shows s carry pool at),
)

-- ---- one line, one place

pub last_unique : LastUnique
last_unique s carry line line' lies lies' x y = go x y
  where
    go : {line line' : List ℕ} {lies lies' : Place} → LastLine s carry line lies → LastLine s carry line' lies' → (line ≡ line') × (lies ≡ lies')
    go (last_line b) (last_line c) = (refl, refl)

module _ (Answered : (line : List ℕ) (lies : Place) → Type 0)
    (one : (line line' : List ℕ) (lies lies' : Place) → Answered line lies → Answered line' lies' → (line ≡ line') × (lies ≡ lies')) where
  one_shown : {w : Word} {lies lies' : Place} {shown shown' : List ℕ} → Shows Answered w lies shown → Shows Answered w lies' shown' → (lies ≡ lies') × (shown ≡ shown')
  one_shown (gave_record {line} {lies} r a) (gave_record {line = line'} {lies = lies'} r' a') = let (l, p) = one line line' lies lies' a a' in (p, l)
  one_shown (gave_record r a) (gave_none r') = let t : ◌≡◌ {A = Bool} true false = sym r ∙ r' in let z : ◌≡◌ {A = ℕ} 0 1 = cc in absurd (omega arith)
  one_shown (gave_none r) (gave_record r' a) = let t : ◌≡◌ {A = Bool} true false = sym r' ∙ r in let z : ◌≡◌ {A = ℕ} 0 1 = cc in absurd (omega arith)
  one_shown (gave_none r) (gave_none r') = (refl, refl)
  one_shown used_up_shows used_up_shows = (refl, refl)

pub shows_unique : ShowsUnique
shows_unique s chunk carry word lies lies' shown shown' = (
  one_shown (FirstLine s chunk carry) (first_unique s chunk carry),
  one_shown (LastLine s carry) (last_unique s carry),
)
