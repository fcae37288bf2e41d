-- What a judge says of the bytes that are kept, said in their line, is what it says of the line that they stand for, and so with what is told of them.
-- Assumes nothing.
use Rattle.std.proofs.Common.{◌≡◌, ℕ, suc, ◌+◌, ◌<◌, ◌≤◌, Bool, true, false, ◌&&◌, eqb, List, [], ◌∷◌, ◌++◌, length, take, drop, replicate, sym, refl, ap, ◌∙◌, append-nil, arith, length-append, drop_of_length-le, take_all, ne_eqb, eqb-true}
use Rattle.std.specs.Prelude.{if◌then◌else◌}
use Rattle.record.specs.Refusals.{Refusal, refusal, number_of, missing_start_code, contains_invalid_characters, pool_full}
use Rattle.digits.specs.Digits.{all_digits, leading}
use Rattle.record.specs.Line.{Said, says, wrong, judge}
use Rattle.digits.specs.Reading.{named}
use Rattle.record.specs.Meaning.{Meaning, data_at, end_of_file, extended_segment, start_segment, extended_linear, start_linear, meaning}
use Rattle.digits.proofs.Tests.{both_ways, split}
use Rattle.digits.proofs.Leading.{leads, leading_on, leading_in}
use Rattle.record.proofs.Claims.{names_the_offender}
use Rattle.reader.specs.Aliases.{Answer}
use Rattle.reader.specs.Told.{Told, gives, refuses, told}
use Rattle.reader.specs.Answer.{Reads, fits_pool, given, answered, poured}
use Rattle.chunks.specs.Begun.{Kept, behind_digits, stands_for}
use Rattle.chunks.specs.Helpers.{place_in_line, refusal_in_line, told_in_line}
use Rattle.chunks.proofs.Brief.{digits_append, all_behind, leading_behind, JudgesLong, intel_long, full, full_stands, taken_apart}

-- what is said of the bytes that are kept, as said of their line
abbrev pub said_in_line : (skipped : ℕ) → Said → Said
said_in_line n (says kind address payload) = says kind address payload
said_in_line n (wrong r) = wrong (refusal_in_line n r)

-- a judge whose refusal 2 names a place in the line, and nothing more; a line over 521 bytes of digits alone does not get it
pub record NamesPlaces (J : List ℕ → Said) : Type 0 where
  pub judges : JudgesLong J
  pub names : (line : List ℕ) (r : Refusal) → J line ≡ wrong r → number_of r ≡ 2 → (place : ℕ) × (place < length line) × (r ≡ contains_invalid_characters (named place))
  pub stays : (m : ℕ) (front : List ℕ) → said_in_line m (judges.long front) ≡ judges.long front

-- ---- a place that stays

earlier_stays : (m place : ℕ) → place < 521 → place_in_line m (named place) ≡ named place
earlier_stays m place h = rw (ne_eqb (named place) 521 (omega arith))

-- with nothing left out each stays
all_stay : (place : ℕ) → place_in_line 0 (named place) ≡ named place
all_stay place = go (eqb (named place) 521) refl
  where
    go : (t : Bool) → eqb (named place) 521 ≡ t → (if t then named (521 + 0) else named place) ≡ named place
    go true e = omega (arith, eqb-true (named place) 521 e)
    go false e = refl

-- what bytes of at most 521 stand for is themselves
pub short_stands : (k : Kept) → length k.bytes ≤ 521 → stands_for k ≡ k.bytes
unfolding stands_for behind_digits
short_stands k h =
    let none : drop 521 k.bytes ≡ [] = drop_of_length-le k.bytes {i = 521} h in
    rw none (append-nil (take 521 k.bytes) ∙ take_all 521 k.bytes h)

-- ---- 522 bytes

-- the first byte is seen in both, and whether all else are digits
moved_over : (m : ℕ) (good : Said) (c t t' : Bool) (place place' : ℕ) → said_in_line m good ≡ good → t ≡ t' → (t ≡ false → place_in_line m place ≡ place')
    → said_in_line m (if c then (if t then good else wrong (contains_invalid_characters place)) else wrong missing_start_code)
    ≡ (if c then (if t' then good else wrong (contains_invalid_characters place')) else wrong missing_start_code)
moved_over m good true true true place place' g s e = g
moved_over m good true true false place place' g s e = let z : ◌≡◌ {A = ℕ} 0 1 = cc in absurd (omega arith)
moved_over m good true false true place place' g s e = let z : ◌≡◌ {A = ℕ} 0 1 = cc in absurd (omega arith)
moved_over m good true false false place place' g s e = ap (λ (p : ℕ). wrong (contains_invalid_characters p)) (e refl)
moved_over m good false t t' place place' g s e = refl

module _ (front : List ℕ) (h : length front ≡ 520) (y m : ℕ) where
  abbrev bytes_row : List ℕ
  bytes_row = front ++ (y ∷ [])

  abbrev line_row : List ℕ
  line_row = front ++ (replicate m 48 ++ (y ∷ []))

  same_all : all_digits bytes_row ≡ all_digits line_row
  same_all = digits_append front (y ∷ []) ∙ ap (λ (t : Bool). all_digits front && t) (sym (all_behind m (y ∷ []))) ∙ sym (digits_append front (replicate m 48 ++ (y ∷ [])))

  moved_row : all_digits bytes_row ≡ false → place_in_line m (named (suc (leading bytes_row))) ≡ named (suc (leading line_row))
  moved_row bad = go (all_digits front) refl
    where
      go : (t : Bool) → all_digits front ≡ t → place_in_line m (named (suc (leading bytes_row))) ≡ named (suc (leading line_row))
      go true e =
          let b : all_digits (y ∷ []) ≡ false = sym (ap (λ (t : Bool). t && all_digits (y ∷ [])) e) ∙ sym (digits_append front (y ∷ [])) ∙ bad in
          let l = (leads (y ∷ []) b).inside in
          let last : named (suc (leading bytes_row)) ≡ 521 = omega (arith, leading_on front (y ∷ []) e) in
          let there : named (521 + m) ≡ named (suc (leading line_row)) = omega (arith, leading_on front (replicate m 48 ++ (y ∷ [])) e, leading_behind m (y ∷ [])) in
          rw last there
      go false e =
          let l = (leads front e).inside in
          rw (leading_in front (y ∷ []) e, leading_in front (replicate m 48 ++ (y ∷ [])) e) (earlier_stays m (suc (leading front)) (omega arith))

-- ---- what such a judge says

module _ (J : List ℕ → Said) (by : NamesPlaces J) where
  said_stays : (m : ℕ) (line : List ℕ) → ((place : ℕ) → place < length line → place_in_line m (named place) ≡ named place) → said_in_line m (J line) ≡ J line
  said_stays m line stay = by_said (J line) refl
    where
      by_number : (number : ℕ) (values : List ℕ) → J line ≡ wrong (refusal number values) → (t : Bool) → eqb number 2 ≡ t → refusal_in_line m (refusal number values) ≡ refusal number values
      by_number number values e true t =
          let (place, inside, is) = by.names line (refusal number values) e (eqb-true number 2 t) in
          ap (refusal_in_line m) is ∙ ap contains_invalid_characters (stay place inside) ∙ sym is
      by_number number values e false t = rw t

      by_said : (said : Said) → J line ≡ said → said_in_line m said ≡ said
      by_said (says kind address payload) e = refl
      by_said (wrong (refusal number values)) e = ap wrong (by_number number values e (eqb number 2) refl)

  pub said_whole : (line : List ℕ) → said_in_line 0 (J line) ≡ J line
  said_whole line = said_stays 0 line (λ place inside. all_stay place)

  full_said : (x : ℕ) (front : List ℕ) (h : length front ≡ 520) (y m : ℕ) → said_in_line m (J ((x ∷ front) ++ (y ∷ []))) ≡ J (stands_for (full x front h y m))
  full_said x front h y m =
      ap (said_in_line m) (by.judges.over x front (y ∷ []) h (omega arith))
      ∙ moved_over m (by.judges.long front) (eqb x by.judges.start) (all_digits (bytes_row front h y m)) (all_digits (line_row front h y m)) _ _ (by.stays m front) (same_all front h y m) (moved_row front h y m)
      ∙ sym (ap J (full_stands x front h y m) ∙ by.judges.over x front (replicate m 48 ++ (y ∷ [])) h (omega (arith, length-append (replicate m 48) (y ∷ []))))

  pub said_kept : (k : Kept) → length k.bytes ≤ 522 → said_in_line k.skipped (J k.bytes) ≡ J (stands_for k)
  said_kept k h =
      split (length k.bytes) 521
      (λ g. said_stays k.skipped k.bytes (λ place inside. earlier_stays k.skipped place (omega arith)) ∙ ap J (sym (short_stands k g)))
      (λ g.
      let f = taken_apart k.bytes (omega arith) in
      ap (λ (l : List ℕ). said_in_line k.skipped (J l)) f.whole
      ∙ full_said f.first f.front f.long f.last k.skipped
      ∙ ap (λ (l : List ℕ). J (stands_for (record { bytes = l; skipped = k.skipped }))) (sym f.whole))

-- Intel's is one
pub intel_names : NamesPlaces judge
unfolding intel_long
intel_names =
    record {
      judges = intel_long;
      names = λ line r e two. let (place, f, is) = (names_the_offender line r).0 (e, two) in (place, f.inside, is);
      stays = λ m front. refl;
    }

-- ---- what is told

given_stays : (m : ℕ) (x : Meaning) (n at : ℕ) → told_in_line m (given x n at) ≡ given x n at
unfolding given
given_stays m (data_at offset bytes) n at =
    both_ways (λ t. let told : Told = if t then gives 0 (offset ∷ at ∷ length bytes ∷ []) else refuses pool_full in told_in_line m told ≡ told) (fits_pool n at bytes) refl refl
given_stays m end_of_file n at = refl
given_stays m (extended_segment number) n at = refl
given_stays m (start_segment cs ip) n at = refl
given_stays m (extended_linear number) n at = refl
given_stays m (start_linear number) n at = refl

told_so : (m : ℕ) (said : Said) (n at : ℕ) → told_in_line m (answered said n at) ≡ answered (said_in_line m said) n at
unfolding answered
told_so m (says kind address payload) n at = given_stays m (meaning kind address payload) n at
told_so m (wrong r) n at = refl

poured_so : (m : ℕ) (said : Said) (pool : List ℕ) (at : ℕ) → poured said pool at ≡ poured (said_in_line m said) pool at
unfolding poured
poured_so m (says kind address payload) pool at = refl
poured_so m (wrong r) pool at = refl

-- so what was read of the bytes is read of their line
pub reads_line : (k : Kept) (pool : List ℕ) (at : ℕ) (a r : Answer) (pool' : List ℕ) → length k.bytes ≤ 522
    → Reads (judge k.bytes) pool at a pool' → told r ≡ told_in_line k.skipped (told a) → Reads (judge (stands_for k)) pool at r pool'
reads_line k pool at a r pool' h reads e =
    let same = said_kept judge intel_names k h in
    record {
      answer =
          e ∙ ap (told_in_line k.skipped) reads.answer ∙ told_so k.skipped (judge k.bytes) (length pool) at
          ∙ ap (λ (s : Said). answered s (length pool) at) same;
      left = reads.left ∙ poured_so k.skipped (judge k.bytes) pool at ∙ ap (λ (s : Said). poured s pool at) same;
    }
