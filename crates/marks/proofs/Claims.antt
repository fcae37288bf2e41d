-- The claims of `specs/Claims.antt` on rows, packed and unpacked, on runs and on the contracts, proved. Those on unused bits are proved in `UnusedBits`.
-- Assumes nothing.
use Prim.Native.Nat.{ℕ, zero, suc, ◌+◌, ◌*◌, ◌/◌, ◌%◌, ◌^◌, ◌≤◌, ◌<◌}
use mathlib.Core.Path.{◌≡◌, refl, sym, ap, ◌∙◌, subst}
use mathlib.Core.Logic.{◌⊎◌, inl, inr}
use mathlib.Core.Bool.{Bool, true, false}
use mathlib.Core.Option.{Option, none, some}
use mathlib.Core.List.{List}
use native.Mathlib.Omega.{arith}
use lib.ListN.{length, get_or, set, get_or-eq_default}
use lib.Seq.{get_or-set_same, get_or-set_other, set_out}
use Rattle.marks.specs.Aliases.{Unused}
use Rattle.marks.specs.Marks.{row_length, byte_of, mark_at, Marked, with_bits, with_mark, changed_run, cleared_run, number, flags, packed, bits, UnusedClear, told_unused, first_unused, first_marked, Next}
use Rattle.marks.specs.Claims.{Bytes, Flag, AllFlags, RowOf, ClearRunUnique, ClearUnique, Examples, FirstUnusedUnique, FlagsMadeSo, FlagsOnlySo, IsMarkedUnique, MarkIsFlag, MarkRunUnique, NextMarkedUnique, NextUnmarkedUnique, PackedUnpacked, RowHoldsPlaces, RowLengthUnique, RowMadeSo, RowOnlySo, RunClearedOnlySo, RunClearedSo, RunInTwo, RunMadeSo, RunOnlySo, RunOutside, UnpackedPacked}
use Rattle.marks.proofs.Below.{split, same_or, equal}
use Rattle.marks.proofs.Bits.{flag, with_small, power_small, number_small}
use Rattle.marks.proofs.Rows
use Rattle.marks.proofs.Runs
use Rattle.std.specs.Prelude.{None, Some}

-- ---- a row and its places

pub row_holds_places : RowHoldsPlaces
unfolding row_length
row_holds_places n = (omega arith, omega arith)

is_flag : (m : ℕ) → m ≤ 1 → Flag m
is_flag zero h = inl refl
is_flag (suc zero) h = inr refl
is_flag (suc (suc m)) h = absurd (omega arith)

pub flag_small : (m : ℕ) → Flag m → m ≤ 1
flag_small m (inl e) = omega arith
flag_small m (inr e) = omega arith

pub mark_is_flag : MarkIsFlag
mark_is_flag marks p = is_flag (mark_at marks p) (Rows.mark_small marks p)

-- ---- unpacked

pub flags_made_so : FlagsMadeSo
flags_made_so places marks = record { as_many = Rows.flags_length places marks; say = Rows.flags_say places marks }

pub flags_only_so : FlagsOnlySo
flags_only_so places marks list f = sym (Rows.flags_are places marks list f.as_many (λ p h. sym (f.say p h)))

-- each is 0 or 1
pub flags_are_flags : (places : ℕ) (marks : List ℕ) → AllFlags (flags places marks)
flags_are_flags places marks i =
    split places i
    (λ l. inl (get_or-eq_default (flags places marks) 0 (too_far l)))
    (λ l. subst Flag (sym (Rows.flags_say places marks i l)) (mark_is_flag marks i))
  where
    too_far : places ≤ i → length (flags places marks) ≤ i
    too_far l = omega (arith, Rows.flags_length places marks)

-- a 1 stands in the list
pub one_inside : (list : List ℕ) (i : ℕ) → get_or list i 0 ≡ 1 → i < length list
one_inside list i e =
    split (length list) i
    (λ l. let z : ◌≡◌ {A = ℕ} 0 1 = sym (get_or-eq_default list 0 {n = i} l) ∙ e in absurd (omega arith))
    (λ l. l)

-- where one of them is 1 a place is marked
pub flag_marked : (places : ℕ) (marks : List ℕ) (p : ℕ) → get_or (flags places marks) p 0 ≡ 1 → Marked marks p
flag_marked places marks p e = sym (Rows.flags_say places marks p (omega (arith, Rows.flags_length places marks, one_inside (flags places marks) p e))) ∙ e

-- ---- packed

smalls : (list : List ℕ) → AllFlags list → (i : ℕ) → get_or list i 0 ≤ 1
smalls list f i = flag_small (get_or list i 0) (f i)

packed_bytes : (list : List ℕ) → AllFlags list → Bytes (packed list)
unfolding packed
packed_bytes list f q =
    split (row_length (length list)) q
    (λ l. omega (arith, get_or-eq_default (packed list) 0 (too_far l)))
    (λ l. omega (arith, Rows.listed_at (λ q. number 8 (λ i. get_or list (8 * q + i) 0)) (row_length (length list)) q l, number_small 8 (λ i. get_or list (8 * q + i) 0) (λ i. smalls list f (8 * q + i))))
  where
    too_far : row_length (length list) ≤ q → length (packed list) ≤ q
    too_far l = omega (arith, Rows.packed_size list)

packed_unused : (list : List ℕ) → AllFlags list → UnusedClear (length list) (packed list)
packed_unused list f p l =
    split (8 * row_length (length list)) p
    (λ o. Rows.outside (packed list) p (omega (arith, Rows.packed_size list)))
    (λ i. Rows.packed_at list (smalls list f) p i ∙ get_or-eq_default list 0 l)

pub row_made_so : RowMadeSo
row_made_so list f =
    record {
      as_many = Rows.packed_size list;
      bytes = packed_bytes list f;
      say = λ p h. Rows.packed_at list (smalls list f) p (omega (arith, row_holds_places (length list)));
      unused = packed_unused list f;
    }

-- a row unpacks to its list
pub row_unpacks : (list marks : List ℕ) → RowOf list marks → flags (length list) marks ≡ list
row_unpacks list marks r = Rows.flags_are (length list) marks list refl (λ i k. r.say i k)

pub row_only_so : RowOnlySo
row_only_so list marks r = sym (Rows.packed_unpacked (length list) marks r.bytes r.as_many r.unused) ∙ ap packed (row_unpacks list marks r)

pub unpacked_packed : UnpackedPacked
unpacked_packed list f = Rows.unpacked_packed list (smalls list f)

pub packed_unpacked : PackedUnpacked
packed_unpacked = Rows.packed_unpacked

-- ---- runs

-- a byte stored in a row of bytes
set_bytes : (marks : List ℕ) (q y : ℕ) → Bytes marks → y < 256 → Bytes (set marks q y)
set_bytes marks q y b h i =
    same_or i q
    (λ e. split (length marks) q
    (λ o. subst (λ (l : List ℕ). get_or l i 0 < 256) (sym (set_out marks q y o)) (b i))
    (λ k. subst (λ (x : ℕ). x < 256) (sym (ap (λ (j : ℕ). get_or (set marks q y) j 0) e ∙ get_or-set_same marks q y 0 k)) h))
    (λ n. subst (λ (x : ℕ). x < 256) (sym (get_or-set_other marks q i y 0 n)) (b i))

changed_bytes : (on : Bool) (marks : List ℕ) (p : ℕ) → Bytes marks → Bytes (with_mark on marks p)
unfolding with_mark byte_of
changed_bytes on marks p b =
    set_bytes marks (p / 8) (with_bits on (byte_of marks p) (2 ^ (p % 8))) b (with_small on (byte_of marks p) (2 ^ (p % 8)) (b (p / 8)) (power_small (p % 8) (omega arith)))

run_bytes : (on : Bool) (marks : List ℕ) (a n : ℕ) → Bytes marks → Bytes (changed_run on marks a n)
unfolding changed_run
run_bytes on marks a zero b = b
run_bytes on marks a (suc n) b = run_bytes on (with_mark on marks a) (suc a) n (changed_bytes on marks a b)

pub run_made_so : RunMadeSo
unfolding flag
run_made_so marks from len =
    record {
      same_length = Runs.run_length true marks from len;
      bytes = run_bytes true marks from len;
      inside = Runs.run_inside true marks from len;
      elsewhere = Runs.run_elsewhere true marks from len;
    }

-- a place outside the row has no mark
pub run_cleared_so : RunClearedSo
unfolding flag
run_cleared_so marks from len =
    record {
      same_length = Runs.run_length false marks from len;
      bytes = run_bytes false marks from len;
      inside = λ p l h. split (8 * length marks) p
          (λ o. Rows.outside (cleared_run marks from len) p (omega (arith, Runs.run_length false marks from len)))
          (λ i. Runs.run_inside false marks from len p l h i);
      elsewhere = Runs.run_elsewhere false marks from len;
    }

-- rows of bytes of one length that say the same of every place are equal
pub same_row : (marks marks' : List ℕ) → Bytes marks → Bytes marks' → length marks ≡ length marks' → ((p : ℕ) → p < 8 * length marks → mark_at marks p ≡ mark_at marks' p) → marks ≡ marks'
unfolding row_length
same_row marks marks' b b' e f =
    Rows.same_unpacked (8 * length marks) marks marks' b b' (omega arith) (omega (arith, e))
    (λ p l. Rows.outside marks p l) (λ p l. Rows.outside marks' p (omega (arith, e)))
    (Rows.flags_are (8 * length marks) marks (flags (8 * length marks) marks') (Rows.flags_length (8 * length marks) marks')
    (λ i k. f i k ∙ sym (Rows.flags_say (8 * length marks) marks' i k)))

-- every bit of a row, and what it says
pub bits_length : (marks : List ℕ) → length (bits marks) ≡ 8 * length marks
unfolding bits
bits_length marks = Rows.flags_length (8 * length marks) marks

pub bits_say : (marks : List ℕ) (p : ℕ) → get_or (bits marks) p 0 ≡ mark_at marks p
unfolding bits
bits_say marks p =
    split (8 * length marks) p
    (λ l. get_or-eq_default (bits marks) 0 {n = p} (omega (arith, bits_length marks)) ∙ sym (Rows.outside marks p l))
    (λ l. Rows.flags_say (8 * length marks) marks p l)

-- rows of bytes with the same bits are equal
pub same_bits : (marks marks' : List ℕ) → Bytes marks → Bytes marks' → length marks ≡ length marks' → bits marks ≡ bits marks' → marks ≡ marks'
same_bits marks marks' b b' e f =
    same_row marks marks' b b' e (λ p h. sym (bits_say marks p) ∙ ap (λ (l : List ℕ). get_or l p 0) f ∙ bits_say marks' p)

-- a row of bytes that says of each place what the run's row says is that row
only_run : (on : Bool) (marks : List ℕ) (from len : ℕ) (marks' : List ℕ) → Bytes marks → Bytes marks' → length marks' ≡ length marks
    → ((p : ℕ) → from ≤ p → p < from + len → p < 8 * length marks → mark_at marks' p ≡ flag on)
    → ((p : ℕ) → (p < from) ⊎ (from + len ≤ p) → mark_at marks' p ≡ mark_at marks p) → marks' ≡ changed_run on marks from len
only_run on marks from len marks' b b' e inside elsewhere =
    same_row marks' (changed_run on marks from len) b' (run_bytes on marks from len b) (e ∙ sym (Runs.run_length on marks from len))
    (λ p h. split (from + len) p
    (λ l. elsewhere p (inr l) ∙ sym (Runs.run_elsewhere on marks from len p (inr l)))
    (λ l. split from p
    (λ k. let i : p < 8 * length marks = omega (arith, e) in inside p k l i ∙ sym (Runs.run_inside on marks from len p k l i))
    (λ k. elsewhere p (inl k) ∙ sym (Runs.run_elsewhere on marks from len p (inl k)))))

pub run_only_so : RunOnlySo
unfolding flag
run_only_so marks from len marks' b r = only_run true marks from len marks' b (r.bytes b) r.same_length r.inside r.elsewhere

pub run_cleared_only_so : RunClearedOnlySo
unfolding flag
run_cleared_only_so marks from len marks' b r =
    only_run false marks from len marks' b (r.bytes b) r.same_length (λ p l h i. r.inside p l h) r.elsewhere

pub run_outside : RunOutside
run_outside = Runs.run_outside true

pub run_in_two : RunInTwo
run_in_two = Runs.run_in_two true

-- ---- no second answer

pub row_length_unique : RowLengthUnique
row_length_unique places r r' x y = x.answer ∙ sym y.answer

pub is_marked_unique : IsMarkedUnique
is_marked_unique marks place true true x y = refl
is_marked_unique marks place true false x y = sym (y.answer.1 (x.answer.0 refl))
is_marked_unique marks place false true x y = x.answer.1 (y.answer.0 refl)
is_marked_unique marks place false false x y = refl

-- an answer, from what it tells
answer_of : Option ℕ → Unused
answer_of none = None
answer_of (some p) = Some p

answered : (r : Unused) → answer_of (told_unused r) ≡ r
unfolding answer_of
answered None = refl
answered (Some p) = refl

pub first_unused_unique : FirstUnusedUnique
first_unused_unique marks places r r' x y = sym (answered r) ∙ ap answer_of (x.answer ∙ sym y.answer) ∙ answered r'

pub clear_unique : ClearUnique
clear_unique marks m m' x y = x.left ∙ sym y.left

pub mark_run_unique : MarkRunUnique
mark_run_unique marks from len m m' x y = x.left ∙ sym y.left

pub clear_run_unique : ClearRunUnique
clear_run_unique marks from len m m' x y = x.left ∙ sym y.left

-- a search has one answer, where nothing is both passed and found
no_later : (Passed Found : ℕ → Type 0) (places from r r' : ℕ) → ((p : ℕ) → Passed p → Found p → ⊥) → Next Passed Found places from r → Next Passed Found places from r' → ¬ (r < r')
no_later Passed Found places from r r' apart x y l = go x.there
  where
    go : (places ≤ r) ⊎ Found r → ⊥
    go (inl e) = omega (arith, x.low, y.high)
    go (inr f) = apart r (y.passed r x.low l) f

next_unique : (Passed Found : ℕ → Type 0) (places from r r' : ℕ) → ((p : ℕ) → Passed p → Found p → ⊥) → Next Passed Found places from r → Next Passed Found places from r' → r ≡ r'
next_unique Passed Found places from r r' apart x y = equal r r' (no_later Passed Found places from r r' apart x y) (no_later Passed Found places from r' r apart y x)

pub next_marked_unique : NextMarkedUnique
next_marked_unique marks places from r r' x y = next_unique _ _ places from r r' (λ p u m. u m) x y

pub next_unmarked_unique : NextUnmarkedUnique
next_unmarked_unique marks places from r r' x y = next_unique _ _ places from r r' (λ p m u. u m) x y

-- ---- examples

pub examples : Examples
unfolding packed flags bits row_length changed_run with_mark with_bits number first_unused first_marked
examples = record { packs = refl; unpacks = refl; runs = refl; clears = refl; unused = refl; used = refl; lengths = (refl, refl, refl, refl, refl) }
