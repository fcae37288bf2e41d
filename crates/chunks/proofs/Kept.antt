-- The row over the lines: a line is answered and shown as what is kept of it stands for, and without the lines shown the row is the text reader's.
-- Assumes nothing.
use Rattle.std.proofs.Common.{◌≡◌, ℕ, suc, ◌+◌, ◌-◌, ◌<◌, ◌≤◌, Bool, true, false, List, [], ◌∷◌, ◌++◌, length, get_or, sym, refl, ap, ◌∙◌, ap₂, append_assoc, mod-eq_of_lt, arith, length-append}
use lib.Seq.{get_or-append_seam}
use Rattle.digits.specs.Common.{Every}
use Rattle.std.specs.Prelude.{if◌then◌else◌}
use Rattle.record.specs.Line.{Said, judge}
use Rattle.digits.proofs.Tests.{both_ways}
use Rattle.reader.specs.declared.ReaderOptions.{ReaderOptions}
use Rattle.reader.specs.Told.{Told, done}
use Rattle.reader.specs.Answer.{answered}
use Rattle.reader.specs.Lines.{lines}
use Rattle.reader.specs.Row.{Numbered, on, sayings}
use Rattle.reader.specs.Text.{is_full, ends_row}
use Rattle.reader.specs.Calls.{Call, Given, given_done, given_for, replies}
use Rattle.chunks.specs.Begun.{brief, stands_for}
use Rattle.chunks.specs.Next.{is_record}
use Rattle.chunks.specs.Rows.{Seen, Nth, nth, numbered, seen_for, showing}
use Rattle.chunks.specs.Claims.{givens_of, nth_line}
use Rattle.chunks.proofs.Brief.{judge_brief}
use Rattle.chunks.proofs.Outcomes.{full_no_record}
use Rattle.chunks.proofs.Reading.{as_it_is}
use Rattle.chunks.proofs.Pieces.{M, briefs}
use Rattle.chunks.proofs.Rows.{answer_to, show_full, show_line}

-- what lines say
unfoldable pub said_of : List Nth → List Numbered
said_of [] = []
said_of (nth n l ∷ ls) = on n (judge l) ∷ said_of ls

-- ---- a line is answered and shown as what is kept of it stands for

module _ (options : ReaderOptions) where
  seen_kept : (n : ℕ) (l : List ℕ) (call : Call) → seen_for (nth n (stands_for (brief l))) call ≡ seen_for (nth n l) call
  seen_kept n l call =
      ap₂ (λ (s : Said) (x : List ℕ). record { given = given_for (on n s) call; shown = x }) (judge_brief l)
      (shown (is_record (answer_to options (stands_for (brief l)) call)) refl ∙ ap (λ (s : Said). if is_record (answered s (length call.pool) call.at) then l else []) (judge_brief l))
    where
      shown : (b : Bool) → is_record (answer_to options (stands_for (brief l)) call) ≡ b → (if b then stands_for (brief l) else []) ≡ (if b then l else [])
      shown true e = as_it_is l (length call.pool) call.at e
      shown false e = refl

  briefs_cut : (b : Bool) (ls : List Nth) → (if b then [] else briefs ls) ≡ briefs (if b then [] else ls)
  unfolding briefs
  briefs_cut true ls = refl
  briefs_cut false ls = refl

  pub kept_rows : (calls : List Call) (last : ℕ) (ls : List Nth) → showing options last (briefs ls) calls ≡ showing options last ls calls
  unfolding showing briefs
  kept_rows [] last ls = refl
  kept_rows (call ∷ calls) last [] = ap (λ (r : List Seen). record { given = given_done last call; shown = [] } ∷ r) (kept_rows calls last [])
  kept_rows (call ∷ calls) last (nth n l ∷ ls) = go (is_full (answer_to options l call)) refl (kept_rows calls)
    where
      same : answer_to options (stands_for (brief l)) call ≡ answer_to options l call
      same = ap (λ (s : Said). answered s (length call.pool) call.at) (judge_brief l)

      go : (f : Bool) → is_full (answer_to options l call) ≡ f → ((last : ℕ) (ls : List Nth) → showing options last (briefs ls) calls ≡ showing options last ls calls)
          → showing options last (nth n (stands_for (brief l)) ∷ briefs ls) (call ∷ calls) ≡ showing options last (nth n l ∷ ls) (call ∷ calls)
      go true f ih =
          show_full options last n (stands_for (brief l)) (briefs ls) call calls (ap is_full same ∙ f)
          ∙ ap₂ (λ (t : Told) (r : List Seen). record { given = record { told = t; pool = call.pool; line = last }; shown = [] } ∷ r) same (ih last (nth n l ∷ ls))
          ∙ sym (show_full options last n l ls call calls f)
      go false f ih =
          show_line options last n (stands_for (brief l)) (briefs ls) call calls (ap is_full same ∙ f)
          ∙ ap₂ (λ (x : Seen) (r : List Seen). x ∷ r) (seen_kept n l call)
          (ap (λ (t : Told). showing options n (if ends_row options t then [] else briefs ls) calls) same
          ∙ ap (λ (x : List Nth). showing options n x calls) (briefs_cut (ends_row options (answer_to options l call)) ls)
          ∙ ih n (if ends_row options (answer_to options l call) then [] else ls))
          ∙ sym (show_line options last n l ls call calls f)

  -- ---- without the lines shown

  said_cut : (b : Bool) (ls : List Nth) → said_of (if b then [] else ls) ≡ (if b then [] else said_of ls)
  unfolding said_of
  said_cut true ls = refl
  said_cut false ls = refl

  pub showing_replies : (calls : List Call) (last : ℕ) (ls : List Nth) → givens_of (showing options last ls calls) ≡ replies options last (said_of ls) calls
  unfolding showing replies said_of
  showing_replies [] last ls = refl
  showing_replies (call ∷ calls) last [] = ap (λ (r : List Given). given_done last call ∷ r) (showing_replies calls last [])
  showing_replies (call ∷ calls) last (nth n l ∷ ls) = go (is_full (answer_to options l call)) (showing_replies calls)
    where
      go : (f : Bool) → ((last : ℕ) (ls : List Nth) → givens_of (showing options last ls calls) ≡ replies options last (said_of ls) calls)
          → givens_of (if f
          then record { given = record { told = answer_to options l call; pool = call.pool; line = last }; shown = [] } ∷ showing options last (nth n l ∷ ls) calls
          else seen_for (nth n l) call ∷ showing options n (if ends_row options (answer_to options l call) then [] else ls) calls)
          ≡ (if f
          then record { told = answer_to options l call; pool = call.pool; line = last } ∷ replies options last (said_of (nth n l ∷ ls)) calls
          else given_for (on n (judge l)) call ∷ replies options n (if ends_row options (answer_to options l call) then [] else said_of ls) calls)
      go true ih = ap (λ (r : List Given). record { told = answer_to options l call; pool = call.pool; line = last } ∷ r) (ih last (nth n l ∷ ls))
      go false ih =
          ap (λ (r : List Given). given_for (on n (judge l)) call ∷ r)
          (ih n (if ends_row options (answer_to options l call) then [] else ls)
          ∙ ap (λ (x : List Numbered). replies options n x calls) (said_cut (ends_row options (answer_to options l call)) ls))

  -- few lines have the numbers of the text reader
  pub said_numbered : (n : ℕ) (ls : List (List ℕ)) → n + length ls ≤ M → said_of (numbered n ls) ≡ sayings n ls
  unfolding said_of numbered sayings
  said_numbered n [] h = refl
  said_numbered n ([] ∷ ls) h = said_numbered (suc n) ls (omega arith)
  said_numbered n ((c ∷ l) ∷ ls) h =
      ap₂ (λ (k : ℕ) (x : List Numbered). on k (judge (c ∷ l)) ∷ x) (mod-eq_of_lt (let s : n < M = omega arith in s)) (said_numbered (suc n) ls (omega arith))

  -- ---- the lines shown

  -- the line stands in the text by its number
  abbrev pub StandsIn : List ℕ → Nth → Type 0
  StandsIn text (nth n l) = nth_line text n ≡ l

  stand_in : (text : List ℕ) (before ls : List (List ℕ)) → lines text ≡ before ++ ls → length before + length ls < M → Every (StandsIn text) (numbered (suc (length before)) ls)
  unfolding numbered
  stand_in text before [] e h = tt
  stand_in text before (l ∷ ls) e h = here l ls e h (stand_in text (before ++ (l ∷ [])) ls (e ∙ sym (append_assoc before (l ∷ []) ls)) (simp length-append (omega arith)))
    where
      next_number : (l : List ℕ) → suc (length (before ++ (l ∷ []))) ≡ suc (suc (length before))
      next_number l = ap suc (length-append before (l ∷ []) ∙ omega arith)

      here : (l : List ℕ) (ls : List (List ℕ)) → lines text ≡ before ++ (l ∷ ls) → length before + length (l ∷ ls) < M
          → Every (StandsIn text) (numbered (suc (length (before ++ (l ∷ [])))) ls) → Every (StandsIn text) (numbered (suc (length before)) (l ∷ ls))
      here [] ls e h more = rw (next_number []) at more
      here (c ∷ l) ls e h more = (
        rw (mod-eq_of_lt (let s : suc (length before) < M = omega arith in s))
            (ap₂ (λ (x : List (List ℕ)) (k : ℕ). get_or x k []) e (let k : suc (length before) - 1 ≡ length before = omega arith in k) ∙ get_or-append_seam before (c ∷ l) ls []),
        rw (next_number (c ∷ l)) at more,
      )

  pub lines_stand : (text : List ℕ) → length (lines text) < M → Every (StandsIn text) (numbered 1 (lines text))
  lines_stand text h = stand_in text [] (lines text) refl (omega arith)

  abbrev pub ShownRight : List ℕ → Seen → Type 0
  ShownRight text x = x.shown ≡ (if is_record x.given.told then nth_line text x.given.line else [])

  cut_every : (P : Nth → Type 0) (b : Bool) (ls : List Nth) → Every P ls → Every P (if b then [] else ls)
  cut_every P true ls h = tt
  cut_every P false ls h = h

  pub shows_right : (text : List ℕ) (calls : List Call) (last : ℕ) (ls : List Nth) → Every (StandsIn text) ls → Every (ShownRight text) (showing options last ls calls)
  unfolding showing is_record
  shows_right text [] last ls h = tt
  shows_right text (call ∷ calls) last [] h = (refl, shows_right text calls last [] tt)
  shows_right text (call ∷ calls) last (nth n l ∷ ls) (e, h) = go (is_full (answer_to options l call)) refl (shows_right text calls)
    where
      go : (f : Bool) → is_full (answer_to options l call) ≡ f
          → ((last : ℕ) (ls : List Nth) → Every (StandsIn text) ls → Every (ShownRight text) (showing options last ls calls))
          → Every (ShownRight text) (if f
          then record { given = record { told = answer_to options l call; pool = call.pool; line = last }; shown = [] } ∷ showing options last (nth n l ∷ ls) calls
          else seen_for (nth n l) call ∷ showing options n (if ends_row options (answer_to options l call) then [] else ls) calls)
      go true f ih = (rw (full_no_record (answer_to options l call) f), ih last (nth n l ∷ ls) (e, h))
      go false f ih = (
        ap (λ (x : List ℕ). if is_record (answer_to options l call) then x else []) (sym e),
        ih n (if ends_row options (answer_to options l call) then [] else ls) (cut_every (StandsIn text) (ends_row options (answer_to options l call)) ls h),
      )

  -- a row tells "done", and what lines are answered
  pub every_told : (P : Told → Type 0) → P done → ((line : List ℕ) (n at : ℕ) → P (answered (judge line) n at))
      → (calls : List Call) (last : ℕ) (ls : List Nth) → Every (λ (x : Seen). P x.given.told) (showing options last ls calls)
  unfolding showing
  every_told P over of_line [] last ls = tt
  every_told P over of_line (call ∷ calls) last [] = (over, every_told P over of_line calls last [])
  every_told P over of_line (call ∷ calls) last (nth n l ∷ ls) =
      both_ways (λ f. Every (λ (x : Seen). P x.given.told) (if f
      then record { given = record { told = answer_to options l call; pool = call.pool; line = last }; shown = [] } ∷ showing options last (nth n l ∷ ls) calls
      else seen_for (nth n l) call ∷ showing options n (if ends_row options (answer_to options l call) then [] else ls) calls)) (is_full (answer_to options l call))
      (of_line l (length call.pool) call.at, every_told P over of_line calls last (nth n l ∷ ls))
      (of_line l (length call.pool) call.at, every_told P over of_line calls n (if ends_row options (answer_to options l call) then [] else ls))
