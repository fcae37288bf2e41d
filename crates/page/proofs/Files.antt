-- The file of a page is the object of its records, over the page as pool: each has its line and the end record is last. Of the page it holds the marked bytes alone.
-- Assumes nothing.
use Prim.Native.Nat.{ℕ, ◌+◌, ◌%◌, ◌<◌, ◌≤◌}
use mathlib.Core.Path.{◌≡◌, refl, sym, ◌∙◌, ap, ap₂}
use mathlib.Core.Bool.{true, true≢false}
use mathlib.Core.Option.{Option, none, some}
use mathlib.Core.List.{List, [], ◌∷◌, ◌++◌, map}
use native.Mathlib.Omega.{arith}
use lib.ListN.{length, get_or, take, drop}
use lib.Seq.{get_or-take, get_or-drop, ext_get_or}
use borrow.Author.Tests.{le-leb}
use Rattle.marks.specs.Marks.{flags}
use Rattle.marks.proofs.Rows.{flags_length}
use Rattle.marks.proofs.Claims.{flag_marked}
use Rattle.digits.specs.Common.{Every, Byte}
use Rattle.std.specs.Prelude.{if◌then◌else◌}
use Rattle.record.specs.declared.Record.{Record}
use Rattle.record.specs.declared.Record.TheVariants.{EndOfFile, ExtendedLinearAddress}
use Rattle.record.specs.Record.{meant}
use Rattle.record.specs.Line.{judge}
use Rattle.record.specs.Meaning.{Meaning, data_at}
use Rattle.record.specs.Written.{Sayable, line_of, rewritten}
use Rattle.digits.proofs.Tests.{both_ways}
use Rattle.digits.proofs.Parts.{part_length}
use Rattle.record.proofs.Writing.{reads_back}
use Rattle.writer.specs.Line.{line_refusal, line}
use Rattle.writer.specs.Object.{ends, ends_in_end, joined_lines}
use Rattle.writer.specs.Claims.{InRange}
use Rattle.writer.proofs.Objects.{whole_object}
use Rattle.window.specs.Claims.{Window}
use Rattle.page.specs.Pieces.{Piece, pieces}
use Rattle.page.specs.File.{upper, data_of, is_latest, records, page_records, file}
use Rattle.page.specs.Claims.{FileIsObject, FileLines, LinesCanonical, EqualFiles}
use Rattle.page.proofs.Spoken.{lines_of, says_so, every_sayable}
use Rattle.page.proofs.Held.{Good, all_good}

-- ---- each record

-- a property of every record, from the pieces
module _ (first : ℕ) (P : Record → Type 0) (Q : Piece → Type 0)
    (of_data : (p : Piece) → Q p → P (data_of first p)) (of-upper : (p : Piece) → Q p → P (ExtendedLinearAddress (upper first p))) (of_end : P EndOfFile) where
  pub every_record : (latest : Option ℕ) (ps : List Piece) → Every Q ps → Every P (records first latest ps)
  unfolding records
  every_record latest [] q = (of_end, tt)
  every_record latest (p ∷ ps) (q, qs) =
      let later = every_record (some (upper first p)) ps qs in
      both_ways (λ b. Every P ((if b then [] else ExtendedLinearAddress (upper first p) ∷ []) ++ (data_of first p ∷ records first (some (upper first p)) ps)))
      (is_latest latest (upper first p)) (of_data p q, later) (of-upper p q, (of_data p q, later))

module _ (first : ℕ) (page marks : List ℕ) (w : Window first page marks) where
  -- each number is one of its type
  pub in_range : Every InRange (page_records first (flags (length page) marks))
  unfolding page_records
  in_range =
      every_record first InRange (Good first (flags (length page) marks)) (λ p g. omega arith) (λ p g. omega (arith, g.sized.least, g.inside, flags_length (length page) marks, w.below)) tt none
      (pieces first 0 none (flags (length page) marks)) (all_good first (flags (length page) marks))

  -- each payload lies in the page
  pub each_has_line : Every (λ r. line_refusal r (length page) ≡ none) (page_records first (flags (length page) marks))
  unfolding page_records
  each_has_line =
      every_record first (λ r. line_refusal r (length page) ≡ none) (Good first (flags (length page) marks))
      (λ p g. rw (le-leb (p.place + p.size) (length page) (omega (arith, g.inside, flags_length (length page) marks)), le-leb p.size 255 (omega (arith, g.sized.most)))) (λ p g. refl) refl none
      (pieces first 0 none (flags (length page) marks)) (all_good first (flags (length page) marks))

-- ---- the object

-- a record ahead of records that end in the end
ends_later : (r : Record) (rs : List Record) → ends_in_end rs ≡ true → ends_in_end (r ∷ rs) ≡ true
unfolding ends_in_end
ends_later r [] e = absurd (true≢false (sym e))
ends_later r (q ∷ rs) e = e

-- the end record is last, and the only one
ends_once : (first : ℕ) (latest : Option ℕ) (ps : List Piece) → (ends_in_end (records first latest ps) ≡ true) × (ends (records first latest ps) ≡ 1)
unfolding records ends ends_in_end
ends_once first latest [] = (refl, refl)
ends_once first latest (p ∷ ps) =
    let (l, o) = ends_once first (some (upper first p)) ps in
    let l' = ends_later (data_of first p) (records first (some (upper first p)) ps) l in
    both_ways (λ b.
    let rs : List Record = (if b then [] else ExtendedLinearAddress (upper first p) ∷ []) ++ (data_of first p ∷ records first (some (upper first p)) ps) in
    (ends_in_end rs ≡ true) × (ends rs ≡ 1))
    (is_latest latest (upper first p)) (l', omega arith) (ends_later (ExtendedLinearAddress (upper first p)) (data_of first p ∷ records first (some (upper first p)) ps) l', omega arith)

pub file_is_object : FileIsObject
unfolding file page_records
file_is_object first page marks w =
    let (l, o) = ends_once first none (pieces first 0 none (flags (length page) marks)) in
    whole_object (page_records first (flags (length page) marks)) page (file first page marks) (record { fine = each_has_line first page marks w; lined = refl; ended = l; one = o })

pub file_lines : FileLines
unfolding file
file_lines first page marks = lines_of (page_records first (flags (length page) marks)) page

-- ---- what each line says

-- each record of the file can be said in a line
pub all_sayable : (first : ℕ) (page marks : List ℕ) → Window first page marks → Every Byte page → Every (λ r. Sayable (meant r page)) (page_records first (flags (length page) marks))
all_sayable first page marks w b = every_sayable (page_records first (flags (length page) marks)) page (in_range first page marks w) b (each_has_line first page marks w)

lines_again : (rs : List Record) (pool : List ℕ) → Every (λ r. Sayable (meant r pool)) rs → Every (λ (l : List ℕ). rewritten (judge l) ≡ some l) (map (λ (r : Record). line r pool) rs)
lines_again [] pool h = tt
lines_again (r ∷ rs) pool (h, hs) =
    (ap rewritten (says_so r pool h) ∙ ap (λ (m : Meaning). some (line_of m)) (reads_back (meant r pool) h).means, lines_again rs pool hs)

pub lines_canonical : LinesCanonical
lines_canonical first page marks w b = rw (file_lines first page marks) (lines_again (page_records first (flags (length page) marks)) page (all_sayable first page marks w b))

-- ---- the marked bytes alone show

same_text : (rs : List Record) (pool₁ pool₂ : List ℕ) → Every (λ r. meant r pool₁ ≡ meant r pool₂) rs → joined_lines rs pool₁ ≡ joined_lines rs pool₂
unfolding joined_lines
same_text [] pool₁ pool₂ h = refl
same_text (r ∷ rs) pool₁ pool₂ (h, hs) = ap₂ (λ (m : Meaning) (l : List ℕ). (line_of m ++ (10 ∷ [])) ++ l) h (same_text rs pool₁ pool₂ hs)

-- a part of two pages, if all its places are marked
same_part : (page₁ page₂ : List ℕ) (at len : ℕ) → at + len ≤ length page₁ → at + len ≤ length page₂ → ((i : ℕ) → i < len → get_or page₁ (at + i) 0 ≡ get_or page₂ (at + i) 0)
    → take len (drop at page₁) ≡ take len (drop at page₂)
same_part page₁ page₂ at len l₁ l₂ h =
    let n₁ = part_length page₁ at len l₁ in
    let n₂ = part_length page₂ at len l₂ in
    ext_get_or 0 (take len (drop at page₁)) (take len (drop at page₂)) (n₁ ∙ sym n₂)
    (λ i k. let j : i < len = omega arith in rw (get_or-take len (drop at page₁) i 0 j, get_or-take len (drop at page₂) i 0 j, get_or-drop at page₁ i 0, get_or-drop at page₂ i 0) (h i j))

pub equal_files : EqualFiles
unfolding file page_records
equal_files first page₁ page₂ marks l h =
    rw l
    (same_text (page_records first shown) page₁ page₂
    (every_record first (λ r. meant r page₁ ≡ meant r page₂) (Good first shown)
    (λ p g. ap (data_at ((first + p.place) % 65536))
    (same_part page₁ page₂ p.place p.size (omega (arith, inside p g)) (omega (arith, inside p g)) (λ i k. h (p.place + i) (flag_marked (length page₂) marks (p.place + i) (g.all_marked i k)))))
    (λ p g. refl) refl none (pieces first 0 none shown) (all_good first shown)))
  where
    shown : List ℕ
    shown = flags (length page₂) marks

    inside : (p : Piece) → Good first shown p → p.place + p.size ≤ length page₂
    inside p g = omega (arith, g.inside, flags_length (length page₂) marks)
