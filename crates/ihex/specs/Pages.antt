-- What is claimed of `ihex_page_file_length` and `ihex_write_page`, in their numbers. That a page loads back stands in `Claims`.
-- Assumes nothing.
use Rattle.std.specs.Prelude.{ℕ, ◌+◌, ◌*◌, ◌≤◌, ◌<◌, ◌≡◌, ◌≢◌, ◌⊎◌, List, length, get_or}
use Rattle.marks.specs.Marks.{Marked}
use Rattle.record.specs.Refusals.{output_full, bad_mark}
use Rattle.page.specs.Claims.{Why}
use Rattle.codes.specs.Codes.{OK, refused_with}
use Rattle.ihex.specs.Entries.{IhexPageFileLength, IhexWritePage}
use Rattle.ihex.specs.Writes.{WriteReasoned}

-- IHEX_REFUSED + IHEX_OUTPUT_FULL
abbrev pub OUTPUT_FULL : ℕ
OUTPUT_FULL = (refused_with output_full).code

-- what `ihex_write_page` returns has a reason in the window, the marks and the room, and nothing else has one
abbrev pub IhexWritePageReasons : Type 0
IhexWritePageReasons =
    (first : ℕ) (page marks out : List ℕ) (r v : ℕ) (out' : List ℕ) → IhexWritePage first page marks out r v out'
    → WriteReasoned (Why first page marks (length out)) r v

-- IHEX_REFUSED + IHEX_BAD_MARK
abbrev pub BAD_MARK : ℕ
BAD_MARK = (refused_with (bad_mark 0)).code

-- where the number of places is a multiple of 8 neither returns refusal 19
abbrev pub IhexNoBadMark : Type 0
IhexNoBadMark =
    (first : ℕ) (page marks : List ℕ) (eighth : ℕ) → length page ≡ 8 * eighth
    → ((r v : ℕ) → IhexPageFileLength first page marks r v → r ≢ BAD_MARK)
    × ((out : List ℕ) (r v : ℕ) (out' : List ℕ) → IhexWritePage first page marks out r v out' → r ≢ BAD_MARK)

-- `ihex_page_file_length` returns the same, except where the file is longer than the output
abbrev pub IhexLengthAsWritten : Type 0
IhexLengthAsWritten =
    (first : ℕ) (page marks out : List ℕ) (r v r' v' : ℕ) (out' : List ℕ)
    → IhexPageFileLength first page marks r v → IhexWritePage first page marks out r' v' out'
    → ((r ≡ r') × (v ≡ v')) ⊎ ((r ≡ OK) × (length out < v) × (r' ≡ OUTPUT_FULL))

-- a file has at most 7 bytes for each place and 58 more, and so at most IHEX_MAX_PAGE_FILE
abbrev pub IhexPageRoom : Type 0
IhexPageRoom =
    (first : ℕ) (page marks : List ℕ) (v : ℕ) → IhexPageFileLength first page marks OK v → (v ≤ 7 * length page + 58) × (v ≤ 458810)

-- of the page only the length counts for the length of its file
abbrev pub IhexLengthOfLengths : Type 0
IhexLengthOfLengths =
    (first : ℕ) (page₁ page₂ marks : List ℕ) (r₁ v₁ r₂ v₂ : ℕ) → length page₁ ≡ length page₂
    → IhexPageFileLength first page₁ marks r₁ v₁ → IhexPageFileLength first page₂ marks r₂ v₂ → (r₁ ≡ r₂) × (v₁ ≡ v₂)

-- bytes of places without a mark do not matter: neither for what is returned nor for what is written
abbrev pub IhexUnmarkedBytes : Type 0
IhexUnmarkedBytes =
    (first : ℕ) (page₁ page₂ marks out : List ℕ) (r₁ v₁ : ℕ) (o₁ : List ℕ) (r₂ v₂ : ℕ) (o₂ : List ℕ) → length page₁ ≡ length page₂
    → ((i : ℕ) → Marked marks i → get_or page₁ i 0 ≡ get_or page₂ i 0)
    → IhexWritePage first page₁ marks out r₁ v₁ o₁ → IhexWritePage first page₂ marks out r₂ v₂ o₂
    → (r₁ ≡ r₂) × (v₁ ≡ v₂) × (o₁ ≡ o₂)
