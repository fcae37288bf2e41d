-- The claims of `specs/Claims.antt` on the answer, the output and the contracts, proved: by the two tests of `page_text`, and by the room.
-- Assumes nothing.
use Prim.Native.Nat.{ℕ, ◌+◌, ◌*◌, ◌<◌}
use mathlib.Core.Path.{◌≡◌, refl, sym, ◌∙◌, ap}
use mathlib.Core.Logic.{◌⊎◌, inl, inr}
use mathlib.Core.Bool.{Bool, true, false}
use mathlib.Core.Option.{Option, none, some}
use mathlib.Core.List.{List}
use native.Mathlib.Omega.{arith}
use native.Mathlib.Nat.{zero-add}
use lib.Dec.{eqb, leb}
use lib.ListN.{length, get_or, take}
use borrow.Author.Tests.{leb-true, leb-false}
use Rattle.marks.specs.Marks.{row_length, first_unused}
use Rattle.marks.specs.Claims.{IsFirstUnused}
use Rattle.marks.proofs.UnusedBits.{unused_found, none_unused, one_first_unused}
use Rattle.std.specs.Prelude.{if◌then◌else◌}
use Rattle.record.specs.Refusals.{Refusal, refusal, output_full, bad_window, bad_mark}
use Rattle.record.specs.Written.{written}
use Rattle.digits.proofs.Tests.{branch}
use Rattle.writer.specs.Told.{ToldWritten, wrote, refuses}
use Rattle.writer.specs.Text.{Text, chars, refused, place_behind, if_room, put_at, Writes}
use Rattle.writer.proofs.Answers as writer
use Rattle.window.specs.Window.{unfit}
use Rattle.window.specs.Claims.{Window}
use Rattle.window.proofs.Tests.{good_window, no_window as is-no-window}
use Rattle.page.specs.declared.PageError.{PageError}
use Rattle.page.specs.declared.PageError.TheVariants.{BadWindow, BadMark, OutputFull}
use Rattle.page.specs.Aliases.{Paged}
use Rattle.page.specs.File.{file, unless_unused, page_text}
use Rattle.page.specs.Told.{page_refusal, told_page}
use Rattle.page.specs.Claims.{Page, Why, no_window, ill_marked, no_room, all_written, Reasons, OneReason, NoBadMark, LengthAsWritten, RefusalChangesNothing, RestUntouched, ToldApart, PageFileLengthUnique, WritePageUnique, Examples}
use Rattle.std.specs.Prelude.{Err, Ok}

-- ---- reasons

-- what stands in the place of the file, by the two tests
module _ (first : ℕ) (page marks : List ℕ) where
  pub text_cases : (P : Text → Type 0) → (¬ Window first page marks → P (refused bad_window))
      → ((place : ℕ) → Window first page marks → IsFirstUnused marks (length page) place → P (refused (bad_mark place)))
      → (Page first page marks → P (chars (file first page marks))) → P (page_text first page marks)
  unfolding page_text
  text_cases P unfitting ill good =
      branch P (unfit first (length page) (length marks)) _ _
      (λ u. unfitting (is-no-window first page marks u))
      (λ u. by_unused (good_window first page marks u) (first_unused (length page) marks) refl)
    where
      by_unused : Window first page marks → (o : Option ℕ) → first_unused (length page) marks ≡ o → P (unless_unused o (chars (file first page marks)))
      by_unused w none e = good (record { window = w; unused = none_unused (length page) marks w.row e })
      by_unused w (some place) e = ill place w (unused_found (length page) marks place e)

pub reasons : Reasons
reasons first page marks out r out' w =
    rw w.answer
    (text_cases first page marks (λ t. Why first page marks (length out) (if_room (place_behind t 0) (length out)))
    no_window (λ place v f. ill_marked place v f) fits)
  where
    fits : Page first page marks → Why first page marks (length out) (if_room (wrote (0 + length (file first page marks))) (length out))
    fits p = rw (zero-add (length (file first page marks)))
        (branch (Why first page marks (length out)) (leb (length (file first page marks)) (length out)) _ _
        (λ e. all_written p (leb-true (length (file first page marks)) (length out) e)) (λ e. no_room p (leb-false (length (file first page marks)) (length out) e)))

-- a page that is written has none
no_bad : {first : ℕ} {page : List ℕ} (marks : List ℕ) (p : ℕ) → Page first page marks → IsFirstUnused marks (length page) p → ⊥
no_bad marks p g f = omega (arith, f.set, g.unused p f.low)

-- a multiple of 8 leaves no place to name
pub none_to_name : (marks : List ℕ) (n eighth p : ℕ) → n ≡ 8 * eighth → IsFirstUnused marks n p → ⊥
unfolding row_length
none_to_name marks n eighth p e f = omega (arith, f.low, f.high)

pub no_bad_mark : NoBadMark
no_bad_mark first page marks room eighth place e why = go (refuses (bad_mark place)) why refl
  where
    go : (t : ToldWritten) → Why first page marks room t → t ≡ refuses (bad_mark place) → ⊥
    go _ (no_window n) q = let z : ◌≡◌ {A = ℕ} 0 1 = cc in omega arith
    go _ (ill_marked p w f) q = none_to_name marks (length page) eighth p e f
    go _ (no_room g l) q = let z : ◌≡◌ {A = ℕ} 0 1 = cc in omega arith
    go _ (all_written g l) q = let z : ◌≡◌ {A = ℕ} 0 1 = cc in omega arith

pub one_reason : OneReason
one_reason first page marks room _ _ (no_window n) (no_window n') = refl
one_reason first page marks room _ _ (no_window n) (ill_marked p w f) = absurd (n w)
one_reason first page marks room _ _ (no_window n) (no_room g l) = absurd (n g.window)
one_reason first page marks room _ _ (no_window n) (all_written g l) = absurd (n g.window)
one_reason first page marks room _ _ (ill_marked p w f) (no_window n) = absurd (n w)
one_reason first page marks room _ _ (ill_marked p w f) (ill_marked p' w' f') = ap (λ (k : ℕ). refuses (bad_mark k)) (one_first_unused marks (length page) p p' f f')
one_reason first page marks room _ _ (ill_marked p w f) (no_room g l) = absurd (no_bad marks p g f)
one_reason first page marks room _ _ (ill_marked p w f) (all_written g l) = absurd (no_bad marks p g f)
one_reason first page marks room _ _ (no_room g l) (no_window n) = absurd (n g.window)
one_reason first page marks room _ _ (no_room g l) (ill_marked p w f) = absurd (no_bad marks p g f)
one_reason first page marks room _ _ (no_room g l) (no_room g' l') = refl
one_reason first page marks room _ _ (no_room g l) (all_written g' l') = absurd (omega arith)
one_reason first page marks room _ _ (all_written g l) (no_window n) = absurd (n g.window)
one_reason first page marks room _ _ (all_written g l) (ill_marked p w f) = absurd (no_bad marks p g f)
one_reason first page marks room _ _ (all_written g l) (no_room g' l') = absurd (omega arith)
one_reason first page marks room _ _ (all_written g l) (all_written g' l') = refl

-- ---- the output

pub refusal_changes_nothing : RefusalChangesNothing
refusal_changes_nothing first page marks out e out' w = go (page_text first page marks) w.answer w.left
  where
    no_room_left : (b : Bool) (n : ℕ) (put : List ℕ) → refuses (page_refusal e) ≡ (if b then wrote n else refuses output_full) → out' ≡ (if b then put else out) → out' ≡ out
    no_room_left true n put a l = let z : ◌≡◌ {A = ℕ} 0 1 = cc in absurd (omega arith)
    no_room_left false n put a l = l

    go : (t : Text) → refuses (page_refusal e) ≡ if_room (place_behind t 0) (length out) → out' ≡ put_at t out 0 → out' ≡ out
    go (chars cs) a l = no_room_left (leb (0 + length cs) (length out)) (0 + length cs) _ a l
    go (refused r) a l = l

-- what is written is the file
pub rest_untouched : RestUntouched
rest_untouched first page marks out n out' w =
    let v : Writes (page_text first page marks) out 0 (Ok n) out' = record { answer = w.answer; left = w.left } in
    let s = (writer.stands_there (page_text first page marks) out n out' v).0 in (
      text_cases first page marks (λ t. t ≡ chars (take n out') → take n out' ≡ file first page marks)
          (λ n e. cc) (λ place w f e. cc) (λ g e. cc) s,
      (writer.rest_untouched (page_text first page marks) out 0 n out' v).1,
    )

-- ---- no second answer

-- the error of a refusal, by its number
error : Refusal → PageError
error (refusal n vs) = if eqb n 16 then BadWindow else if eqb n 19 then BadMark (get_or vs 0 0) else OutputFull

error_again : (e : PageError) → error (page_refusal e) ≡ e
unfolding error
error_again BadWindow = refl
error_again (BadMark place) = refl
error_again OutputFull = refl

untold : ToldWritten → Paged
untold (wrote n) = Ok n
untold (refuses r) = Err (error r)

untold_told : (r : Paged) → untold (told_page r) ≡ r
unfolding untold
untold_told (Ok n) = refl
untold_told (Err e) = ap Err (error_again e)

pub told_apart : ToldApart
told_apart a b e = sym (untold_told a) ∙ ap untold e ∙ untold_told b

pub length_as_written : LengthAsWritten
length_as_written first page marks out r r' out' l w = go (page_text first page marks) l.answer w.answer
  where
    by_room : (n : ℕ) (b : Bool) → leb n (length out) ≡ b → told_page r ≡ wrote n → told_page r' ≡ (if b then wrote n else refuses output_full)
        → (r ≡ r') ⊎ ((r' ≡ Err OutputFull) × ((n : ℕ) × (r ≡ Ok n) × (length out < n)))
    by_room n true e x y = inl (told_apart r r' (x ∙ sym y))
    by_room n false e x y = inr (told_apart r' (Err OutputFull) y, (n, told_apart r (Ok n) x, leb-false n (length out) e))

    go : (t : Text) → told_page r ≡ place_behind t 0 → told_page r' ≡ if_room (place_behind t 0) (length out)
        → (r ≡ r') ⊎ ((r' ≡ Err OutputFull) × ((n : ℕ) × (r ≡ Ok n) × (length out < n)))
    go (chars cs) x y = by_room (0 + length cs) (leb (0 + length cs) (length out)) refl x y
    go (refused e) x y = inl (told_apart r r' (x ∙ sym y))

pub page_file_length_unique : PageFileLengthUnique
page_file_length_unique first page marks r r' x y = told_apart r r' (x.answer ∙ sym y.answer)

pub write_page_unique : WritePageUnique
write_page_unique first page marks out r r' o o' x y = (told_apart r r' (x.answer ∙ sym y.answer), x.left ∙ sym y.left)

pub examples : Examples
unfolding page_text written
examples = record { bare = refl; across = refl; top = refl; unused_set = refl }
