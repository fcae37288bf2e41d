-- The claims on the offender of a line and of a text's line: what is answered, or said, is what the judge says, and that names it.
-- Assumes nothing.
use Rattle.std.proofs.Common.{◌≡◌, ℕ, Bool, true, false, List, [], ◌∷◌, ◌++◌, length, sym, refl, ap, ◌∙◌, arith}
use mathlib.Core.List.{Memᴰ}
use Rattle.std.specs.Prelude.{if◌then◌else◌}
use Rattle.record.specs.Refusals.{Refusal, number_of, contains_invalid_characters, pool_full}
use Rattle.record.specs.Line.{Said, says, wrong, judge}
use Rattle.digits.specs.Reading.{named}
use Rattle.record.specs.Faults.{FirstOffender}
use Rattle.record.specs.Meaning.{Meaning, data_at, end_of_file, extended_segment, start_segment, extended_linear, start_linear, meaning}
use Rattle.record.proofs.Claims.{names_the_offender}
use Rattle.reader.specs.declared.ReaderError.TheVariants.{ContainsInvalidCharacters}
use Rattle.reader.specs.Told.{gives, refuses}
use Rattle.reader.specs.Answer.{ReadRecord, fits_pool, given, answered, poured}
use Rattle.reader.specs.Lines.{lines}
use Rattle.reader.specs.Row.{on, sayings}
use Rattle.reader.specs.Claims.{AnswersTheOffender, Offends, SaysTheOffender}
use Rattle.reader.proofs.Texts.{numbers_are_lines}
use Rattle.std.specs.Prelude.{Err}

-- what is told as refusal 2 is said so: a record is told as one, or as PoolFull
said_so : (said : Said) (r : Refusal) (n at : ℕ) → number_of r ≡ 2 → refuses r ≡ answered said n at → said ≡ wrong r
unfolding answered given
said_so (wrong w) r n at two e = ap wrong (sym cc)
said_so (says kind address payload) r n at two e = absurd (meant (meaning kind address payload) e)
  where
    meant : (m : Meaning) → refuses r ≡ given m n at → ⊥
    meant (data_at offset bytes) e = by_room (fits_pool n at bytes) e
      where
        by_room : (b : Bool) → refuses r ≡ (if b then gives 0 (offset ∷ at ∷ length bytes ∷ []) else refuses pool_full) → ⊥
        by_room true e = let z : ◌≡◌ {A = ℕ} 0 1 = cc in omega arith
        by_room false e = let is : r ≡ pool_full = cc in omega (arith, ap number_of is)
    meant end_of_file e = let z : ◌≡◌ {A = ℕ} 0 1 = cc in omega arith
    meant (extended_segment number) e = let z : ◌≡◌ {A = ℕ} 0 1 = cc in omega arith
    meant (start_segment cs ip) e = let z : ◌≡◌ {A = ℕ} 0 1 = cc in omega arith
    meant (extended_linear number) e = let z : ◌≡◌ {A = ℕ} 0 1 = cc in omega arith
    meant (start_linear number) e = let z : ◌≡◌ {A = ℕ} 0 1 = cc in omega arith

pub answers_the_offender : AnswersTheOffender
unfolding answered poured
answers_the_offender line pool at p pool' = (there, back)
  where
    there : ReadRecord line pool at (Err (ContainsInvalidCharacters p)) pool' → (place : ℕ) × FirstOffender line place × (p ≡ named place) × (pool' ≡ pool)
    there x =
        let said : judge line ≡ wrong (contains_invalid_characters p) = said_so (judge line) (contains_invalid_characters p) (length pool) at refl x.answer in
        let (place, f, e) = (names_the_offender line (contains_invalid_characters p)).0 (said, refl) in
        (place, f, cc, x.left ∙ ap (λ (s : Said). poured s pool at) said)

    back : (place : ℕ) × FirstOffender line place × (p ≡ named place) × (pool' ≡ pool) → ReadRecord line pool at (Err (ContainsInvalidCharacters p)) pool'
    back (place, f, e, k) =
        let said : judge line ≡ wrong (contains_invalid_characters p) = ((names_the_offender line (contains_invalid_characters p)).1 (place, f, ap contains_invalid_characters e)).0 in
        record { answer = rw said; left = k ∙ rw said }

pub says_the_offender : SaysTheOffender
says_the_offender text n r = (there, back)
  where
    there : Memᴰ (on n (wrong r)) (sayings 1 (lines text)) × (number_of r ≡ 2) → (place : ℕ) × Offends text n place × (r ≡ contains_invalid_characters (named place))
    there (m, two) =
        let (c, line, before, after, e, i, j) = (numbers_are_lines text n (wrong r)).0 m in
        let (place, f, is) = (names_the_offender (c ∷ line) r).0 (sym j, two) in
        (place, record { line = c ∷ line; before = before; after = after; stands = e; number = i; first = f }, is)

    back : (place : ℕ) × Offends text n place × (r ≡ contains_invalid_characters (named place)) → Memᴰ (on n (wrong r)) (sayings 1 (lines text)) × (number_of r ≡ 2)
    back (place, o, is) = by_line o.line refl
      where
        by_line : (l : List ℕ) → o.line ≡ l → Memᴰ (on n (wrong r)) (sayings 1 (lines text)) × (number_of r ≡ 2)
        by_line [] e = absurd (omega (arith, o.first.inside, ap length e))
        by_line (c ∷ line) e =
            let said = (names_the_offender o.line r).1 (place, o.first, is) in (
              (numbers_are_lines text n (wrong r)).1 (c, line, o.before, o.after, o.stands ∙ ap (λ (x : List ℕ). o.before ++ (x ∷ o.after)) e, o.number, sym said.0 ∙ ap judge e),
              said.1,
            )
