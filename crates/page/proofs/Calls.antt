-- The claims on calls: of what was written and is loaded again, of two pages that are written, and of why a length is told and what it hangs on.
-- Assumes nothing.
use Prim.Native.Nat.{ℕ, ◌+◌, ◌≤◌}
use mathlib.Core.Path.{◌≡◌, refl, sym, ◌∙◌, ap, subst}
use mathlib.Core.Bool.{Bool, true, false}
use mathlib.Core.Option.{Option, none, some}
use mathlib.Core.List.{List, [], ◌∷◌}
use native.Mathlib.Omega.{arith}
use native.Mathlib.Nat.{zero-add}
use lib.ListN.{length, get_or, take, length-append}
use Rattle.marks.specs.Marks.{Marked, flags, first_unused}
use Rattle.marks.specs.Claims.{Bytes}
use Rattle.marks.proofs.Rows.{flags_length}
use Rattle.digits.specs.Common.{Every, Byte}
use Rattle.record.specs.declared.Record.{Record}
use Rattle.record.specs.Record.{meant}
use Rattle.record.specs.Written.{payload_of}
use Rattle.digits.proofs.Parts.{part_length}
use Rattle.writer.specs.Told.{wrote}
use Rattle.writer.specs.Text.{chars, place_behind}
use Rattle.writer.specs.Line.{ended_line}
use Rattle.writer.specs.Object.{joined_lines}
use Rattle.steps.specs.Steps.{Verdict, accepted}
use Rattle.window.specs.Window.{unfit}
use Rattle.steps.specs.Sites.{Loaded}
use Rattle.loader.specs.Load.{load}
use Rattle.steps.specs.Told.{told_loading}
use Rattle.page.specs.Pieces.{Piece, pieces}
use Rattle.page.specs.File.{page_records, file, unless_unused, page_text}
use Rattle.page.specs.Told.{WritePage}
use Rattle.page.specs.Claims.{Page, Restores, Why, no_window, ill_marked, all_written, WrittenLoadsBack, EqualAnswers, LengthReasons, LengthOfLengths}
use Rattle.page.proofs.Held.{Good, all_good}
use Rattle.page.proofs.Files.{every_record, equal_files}
use Rattle.page.proofs.Loading.{loads_back}
use Rattle.page.proofs.Room.{ended_length, room_enough}
use Rattle.page.proofs.Claims.{text_cases, reasons, rest_untouched, told_apart, write_page_unique}
use Rattle.std.specs.Prelude.{Ok}

-- what is written is a page that neither 16 nor 19 refuses
written_page : (first : ℕ) (page marks : List ℕ) (space n : ℕ) → Why first page marks space (wrote n) → Page first page marks
written_page first page marks space _ (all_written p l) = p

-- page and marks alone count
pub restores_so : (page marks old-page page' marks' : List ℕ) (l : Loaded) (answer : Verdict) → page' ≡ l.page → marks' ≡ l.marks → Restores page marks old-page l
    → Restores page marks old-page (record { answer = answer; page = page'; marks = marks' })
restores_so page marks old-page page' marks' l answer p m r =
    let at : (i : ℕ) → get_or page' i 0 ≡ get_or l.page i 0 = λ i. ap (λ (x : List ℕ). get_or x i 0) p in
    record { same_marks = m ∙ r.same_marks; same_bytes = λ i e. at i ∙ r.same_bytes i e; others_kept = λ i e. at i ∙ r.others_kept i e }

-- what was written is loaded as the file is
pub loaded_back : (first : ℕ) (page marks out : List ℕ) (n : ℕ) (out' old-page old-marks : List ℕ)
    → Every Byte page → Bytes marks → length old-page ≡ length page → length old-marks ≡ length marks → WritePage first page marks out (Ok n) out'
    → let l = load (take n out') first old-page old-marks in
    (l.answer ≡ accepted (record { records = length (pieces first 0 none (flags (length page) marks)); start = none })) × Restores page marks old-page l
loaded_back first page marks out n out' old-page old-marks b bm lp lm w =
    subst (λ (text : List ℕ). let l = load text first old-page old-marks in
    (l.answer ≡ accepted (record { records = length (pieces first 0 none (flags (length page) marks)); start = none })) × Restores page marks old-page l)
    (sym (rest_untouched first page marks out n out' w).0)
    (loads_back first page marks old-page old-marks (written_page first page marks (length out) n (reasons first page marks out (Ok n) out' w)) b bm lp lm)

pub written_loads_back : WrittenLoadsBack
written_loads_back first page marks out n out' old-page old-marks r page' marks' b bm lp lm w l =
    let k = loaded_back first page marks out n out' old-page old-marks b bm lp lm w in
    (l.answer ∙ k.0, restores_so page marks old-page page' marks' (load (take n out') first old-page old-marks) (told_loading r) l.page l.marks k.1)

-- of two pages that are alike at marked places the same text is written, or the same refusal stands in its place
same_page_text : (first : ℕ) (page₁ page₂ marks : List ℕ) → length page₁ ≡ length page₂
    → ((i : ℕ) → Marked marks i → get_or page₁ i 0 ≡ get_or page₂ i 0) → page_text first page₁ marks ≡ page_text first page₂ marks
unfolding page_text
same_page_text first page₁ page₂ marks l h = go (unfit first (length page₂) (length marks)) refl
  where
    go : (b : Bool) → unfit first (length page₂) (length marks) ≡ b → page_text first page₁ marks ≡ page_text first page₂ marks
    go true e = rw (l, e)
    go false e = rw (equal_files first page₁ page₂ marks l h, l, e)

pub equal_answers : EqualAnswers
equal_answers first page₁ page₂ marks out r₁ r₂ o₁ o₂ l h x y =
    let s = same_page_text first page₁ page₂ marks l h in
    write_page_unique first page₂ marks out r₁ r₂ o₁ o₂ (record { answer = rw s at x.answer; left = rw s at x.left }) y

pub length_reasons : LengthReasons
length_reasons first page marks r space l h =
    rw l.answer
    (text_cases first page marks (λ t. Why first page marks space (place_behind t 0))
    no_window (λ place v f. ill_marked place v f)
    (λ p. rw (zero-add (length (file first page marks))) (all_written p (omega (arith, room_enough first page marks p.window)))))

-- ---- the length

-- records whose payloads are as long have a text as long
as_long : (rs : List Record) (pool₁ pool₂ : List ℕ) → Every (λ r. length (payload_of (meant r pool₁)) ≡ length (payload_of (meant r pool₂))) rs
    → length (joined_lines rs pool₁) ≡ length (joined_lines rs pool₂)
unfolding joined_lines
as_long [] pool₁ pool₂ h = refl
as_long (r ∷ rs) pool₁ pool₂ (h, hs) =
    omega (
      arith,
      as_long rs pool₁ pool₂ hs,
      length-append (ended_line r pool₁) (joined_lines rs pool₁),
      length-append (ended_line r pool₂) (joined_lines rs pool₂),
      ended_length r pool₁,
      ended_length r pool₂,
    )

files_as_long : (first : ℕ) (page₁ page₂ marks : List ℕ) → length page₁ ≡ length page₂ → length (file first page₁ marks) ≡ length (file first page₂ marks)
unfolding file page_records
files_as_long first page₁ page₂ marks l =
    rw l
    (as_long (page_records first shown) page₁ page₂
    (every_record first (λ r. length (payload_of (meant r page₁)) ≡ length (payload_of (meant r page₂))) (Good first shown)
    (λ p g. part_length page₁ p.place p.size (omega (arith, inside p g)) ∙ sym (part_length page₂ p.place p.size (omega (arith, inside p g))))
    (λ p g. refl) refl none (pieces first 0 none shown) (all_good first shown)))
  where
    shown : List ℕ
    shown = flags (length page₂) marks

    inside : (p : Piece) → Good first shown p → p.place + p.size ≤ length page₂
    inside p g = omega (arith, g.inside, flags_length (length page₂) marks)

pub length_of_lengths : LengthOfLengths
unfolding page_text
length_of_lengths first page₁ page₂ marks r₁ r₂ l x y = told_apart r₁ r₂ (x.answer ∙ go (unfit first (length page₂) (length marks)) refl ∙ sym y.answer)
  where
    by_unused : (u : Option ℕ) → place_behind (unless_unused u (chars (file first page₁ marks))) 0 ≡ place_behind (unless_unused u (chars (file first page₂ marks))) 0
    by_unused none = ap (λ (n : ℕ). wrote (0 + n)) (files_as_long first page₁ page₂ marks l)
    by_unused (some place) = refl

    go : (b : Bool) → unfit first (length page₂) (length marks) ≡ b → place_behind (page_text first page₁ marks) 0 ≡ place_behind (page_text first page₂ marks) 0
    go true e = rw (l, e)
    go false e =
        let e₁ : unfit first (length page₁) (length marks) ≡ false = rw l e in
        rw (e₁, e)
        (ap (λ (n : ℕ). place_behind (unless_unused (first_unused n marks) (chars (file first page₁ marks))) 0) l ∙ by_unused (first_unused (length page₂) marks))
