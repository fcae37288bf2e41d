-- A page written and loaded through the entry points: the code 0 says that the file was written, and the load's numbers are those of its load.
-- Assumes nothing.
use Prim.Native.Nat.{ℕ, ◌+◌, ◌*◌, ◌≤◌, ◌<◌}
use mathlib.Core.Path.{◌≡◌, refl, sym, ◌∙◌, ap, subst}
use mathlib.Core.Logic.{◌≢◌, ◌⊎◌, inl, inr}
use mathlib.Core.Bool.{Bool, true, false}
use mathlib.Core.Option.{some}
use mathlib.Core.List.{List}
use native.Mathlib.Omega.{arith}
use lib.Dec.{leb}
use lib.ListN.{length, take}
use borrow.Author.Tests.{leb-false}
use Rattle.std.specs.Prelude.{if◌then◌else◌}
use Rattle.record.specs.Refusals.{output_full}
use Rattle.digits.proofs.Tests.{branch}
use Rattle.writer.specs.Told.{ToldWritten, wrote, refuses}
use Rattle.writer.specs.Text.{Text, chars, refused, place_behind, if_room}
use Rattle.loader.specs.Load.{load}
use Rattle.page.specs.declared.PageError.TheVariants.{BadWindow, BadMark, OutputFull}
use Rattle.page.specs.Aliases.{Paged}
use Rattle.page.specs.File.{file, page_text}
use Rattle.page.specs.Told.{told_page, WritePage}
use Rattle.page.specs.Claims.{Why}
use Rattle.page.proofs.Calls.{restores_so, loaded_back, equal_answers, length_of_lengths}
use Rattle.page.proofs.Claims.{none_to_name, text_cases, reasons, one_reason}
use Rattle.page.proofs.Room.{room_enough}
use Rattle.codes.specs.Codes.{OK, value, writing, load_numbers}
use Rattle.ihex.specs.Entries.{IhexWritePage}
use Rattle.ihex.specs.Claims.{PageLoadsBack}
use Rattle.ihex.specs.Pages.{OUTPUT_FULL, BAD_MARK, IhexWritePageReasons, IhexNoBadMark, IhexLengthAsWritten, IhexPageRoom, IhexLengthOfLengths, IhexUnmarkedBytes}
use Rattle.codes.proofs.Says.{wrote_it}
use Rattle.std.specs.Prelude.{Err, Ok}

was_written : (first : ℕ) (page marks out : List ℕ) (n : ℕ) (out' : List ℕ) → IhexWritePage first page marks out 0 n out' → WritePage first page marks out (Ok n) out'
was_written first page marks out n out' w =
    record { answer = wrote_it (if_room (place_behind (page_text first page marks) 0) (length out)) n w.code_is w.value_is; left = w.left }

pub page_loads_back : PageLoadsBack
page_loads_back first page marks out n out' old-page old-marks r page' marks' bytes bm lp lm w g =
    let (answer, restored) = loaded_back first page marks out n out' old-page old-marks bytes bm lp lm (was_written first page marks out n out' w) in (
      g.numbers ∙ ap load_numbers answer,
      restores_so page marks old-page page' marks' (load (take n out') first old-page old-marks) _ g.page_is g.marks_is restored,
    )

-- ---- what the library's functions answer

-- an answer of `write_page` with this room, and one of `page_file_length`
paged : (first : ℕ) (page marks : List ℕ) (room : ℕ) → (r : Paged) × (told_page r ≡ if_room (place_behind (page_text first page marks) 0) room)
paged first page marks room =
    text_cases first page marks (λ t. (r : Paged) × (told_page r ≡ if_room (place_behind t 0) room))
    (λ w. (Err BadWindow, refl)) (λ place w f. (Err (BadMark place), refl))
    (λ p. branch (λ (t : ToldWritten). (r : Paged) × (told_page r ≡ t)) (leb (0 + length (file first page marks)) room) _ _
    (λ e. (Ok (0 + length (file first page marks)), refl)) (λ e. (Err OutputFull, refl)))

measured : (first : ℕ) (page marks : List ℕ) → (r : Paged) × (told_page r ≡ place_behind (page_text first page marks) 0)
measured first page marks =
    text_cases first page marks (λ t. (r : Paged) × (told_page r ≡ place_behind t 0))
    (λ w. (Err BadWindow, refl)) (λ place w f. (Err (BadMark place), refl)) (λ p. (Ok (0 + length (file first page marks)), refl))

-- ---- the claims of `specs/Pages.antt`

pub ihex_write_page_reasons : IhexWritePageReasons
ihex_write_page_reasons first page marks out r v out' x =
    let t = if_room (place_behind (page_text first page marks) 0) (length out) in
    let (a, e) = paged first page marks (length out) in
    let why : Why first page marks (length out) t =
    subst (Why first page marks (length out)) e (reasons first page marks out a out' (record { answer = e; left = x.left })) in
    record { answer = t; why = why; code_is = x.code_is; value_is = x.value_is; only = λ t' because. one_reason first page marks (length out) t' t because why }

pub ihex_no_bad_mark : IhexNoBadMark
ihex_no_bad_mark first page marks eighth e = (
  λ r v x. text_cases first page marks (λ t. r ≡ (writing (some (place_behind t 0))).code → r ≢ BAD_MARK)
      (λ w c b. omega (arith, c, b)) (λ place w f c b. none_to_name marks (length page) eighth place e f) (λ p c b. omega (arith, c, b)) x.code_is,
  λ out r v out' x. text_cases first page marks (λ t. r ≡ (writing (some (if_room (place_behind t 0) (length out)))).code → r ≢ BAD_MARK)
      (λ w c b. omega (arith, c, b)) (λ place w f c b. none_to_name marks (length page) eighth place e f)
      (λ p. branch (λ (t : ToldWritten). r ≡ (writing (some t)).code → r ≢ BAD_MARK) (leb (0 + length (file first page marks)) (length out)) _ _ (λ h c b. omega (arith, c, b)) (λ h c b. omega (arith, c, b)))
      x.code_is,
)

pub ihex_page_room : IhexPageRoom
ihex_page_room first page marks v x =
    text_cases first page marks (λ t. OK ≡ (writing (some (place_behind t 0))).code → v ≡ value (writing (some (place_behind t 0))) 0 → (v ≤ 7 * length page + 58) × (v ≤ 458810))
    (λ w c e. absurd (omega (arith, c))) (λ place w f c e. absurd (omega (arith, c)))
    (λ p c e. let most = room_enough first page marks p.window in (omega (arith, e, most), omega (arith, e, most, p.window.small)))
    x.code_is x.value_is

pub ihex_length_of_lengths : IhexLengthOfLengths
ihex_length_of_lengths first page₁ page₂ marks r₁ v₁ r₂ v₂ l x y =
    let (a₁, e₁) = measured first page₁ marks in
    let (a₂, e₂) = measured first page₂ marks in
    let same : place_behind (page_text first page₁ marks) 0 ≡ place_behind (page_text first page₂ marks) 0 =
    sym e₁ ∙ ap told_page (length_of_lengths first page₁ page₂ marks a₁ a₂ l (record { answer = e₁ }) (record { answer = e₂ })) ∙ e₂ in (
      x.code_is ∙ ap (λ (t : ToldWritten). (writing (some t)).code) same ∙ sym y.code_is,
      x.value_is ∙ ap (λ (t : ToldWritten). value (writing (some t)) 0) same ∙ sym y.value_is,
    )

pub ihex_unmarked_bytes : IhexUnmarkedBytes
ihex_unmarked_bytes first page₁ page₂ marks out r₁ v₁ o₁ r₂ v₂ o₂ l h x y =
    let (a₁, e₁) = paged first page₁ marks (length out) in
    let (a₂, e₂) = paged first page₂ marks (length out) in
    let (a, o) = equal_answers first page₁ page₂ marks out a₁ a₂ o₁ o₂ l h (record { answer = e₁; left = x.left }) (record { answer = e₂; left = y.left }) in
    let same : if_room (place_behind (page_text first page₁ marks) 0) (length out) ≡ if_room (place_behind (page_text first page₂ marks) 0) (length out) = sym e₁ ∙ ap told_page a ∙ e₂ in (
      x.code_is ∙ ap (λ (t : ToldWritten). (writing (some t)).code) same ∙ sym y.code_is,
      x.value_is ∙ ap (λ (t : ToldWritten). value (writing (some t)) 0) same ∙ sym y.value_is,
      o,
    )

pub ihex_length_as_written : IhexLengthAsWritten
ihex_length_as_written first page marks out r v r' v' out' x y = go (page_text first page marks) x.code_is x.value_is y.code_is y.value_is
  where
    go : (t : Text) → r ≡ (writing (some (place_behind t 0))).code → v ≡ value (writing (some (place_behind t 0))) 0
        → r' ≡ (writing (some (if_room (place_behind t 0) (length out)))).code → v' ≡ value (writing (some (if_room (place_behind t 0) (length out)))) 0
        → ((r ≡ r') × (v ≡ v')) ⊎ ((r ≡ OK) × (length out < v) × (r' ≡ OUTPUT_FULL))
    go (refused w) p q p' q' = inl (cc, cc)
    go (chars cs) p q p' q' = fits (leb (0 + length cs) (length out)) refl p' q'
      where
        fits : (b : Bool) → leb (0 + length cs) (length out) ≡ b
            → r' ≡ (writing (some (if b then wrote (0 + length cs) else refuses output_full))).code
            → v' ≡ value (writing (some (if b then wrote (0 + length cs) else refuses output_full))) 0
            → ((r ≡ r') × (v ≡ v')) ⊎ ((r ≡ OK) × (length out < v) × (r' ≡ OUTPUT_FULL))
        fits true e p' q' = inl (cc, cc)
        fits false e p' q' = inr (p, omega (arith, leb-false (0 + length cs) (length out) e), p')
