-- A list of records in bytes, entry by entry: each entry of 24 bytes adds its record to those before it, and one that is no record leaves
-- no list, whatever stands behind it.
-- Assumes nothing.
use Prim.Native.Nat.{ℕ, zero, suc, ◌+◌, ◌*◌, ◌-◌, ◌/◌, ◌%◌, ◌≤◌, ◌<◌}
use mathlib.Core.Path.{◌≡◌, refl, sym, ◌∙◌, ap, ap₂, subst}
use mathlib.Core.Option.{Option, none, some}
use mathlib.Core.List.{List, [], ◌∷◌, ◌++◌}
use native.Mathlib.Omega.{arith}
use lib.Dec.{eqb}
use lib.ListN.{length, length-append, length-drop, get_or, drop}
use borrow.Author.Tests.{eq-eqb, ne_eqb, eqb-true}
use Rattle.record.specs.declared.Record.{Record}
use Rattle.digits.proofs.Tests.{branch}
use Rattle.writer.specs.Aliases.{Written}
use Rattle.writer.specs.declared.Survey.{Survey}
use Rattle.writer.specs.Claims.{Surveys, Steps}
use Rattle.entries.specs.Entry.{two_at, four_at, eight_at, record_at, and_then, first_records, records_of, entry_of}
use Rattle.entries.specs.Helpers.{Stepped}
use Rattle.std.specs.declared.slice.ChunksExact.{ChunksExact}
use Rattle.std.specs.Slice.Iter.{chunks_exact_rest, chunks_exact_size, chunks_exact_steps}
use Rattle.std.specs.Prelude.{Some, None}
use Rattle.std.specs.Option.{IsSome}
use Rattle.std.proofs.Common.{Bor, rules}
use Rattle.entries.specs.Aliases.{Entry}
use Rattle.std.proofs.Math.Seq.{drop-append_seam}
use Rattle.std.proofs.Math.ListN.{get_or-append}
use Rattle.std.proofs.lemmas.List.{get_or-drop, drop-drop}

-- what is there is not none
pub some_none {ℓ} : {A : Type 0} {X : Type ℓ} {o : Option A} {x : A} → o ≡ some x → o ≡ none → X
some_none p q = let z : ◌≡◌ {A = ℕ} 0 1 = cc in absurd (omega arith)

pub same_some : {A : Type 0} {x y : A} → some x ≡ some y → x ≡ y
same_some e = cc

-- bytes whose number is no multiple of 24 are no list
pub uneven : (bytes : List ℕ) → (length bytes % 24 ≡ 0 → ⊥) → records_of bytes ≡ none
unfolding records_of
uneven bytes h = rw (ne_eqb _ _ h)

even_list : (bytes : List ℕ) → length bytes % 24 ≡ 0 → records_of bytes ≡ first_records bytes (length bytes / 24)
unfolding records_of
even_list bytes h = rw (eq-eqb _ _ h)

pub listed_even : (bytes : List ℕ) (rs : List Record) → records_of bytes ≡ some rs → length bytes % 24 ≡ 0
unfolding records_of
listed_even bytes rs =
    branch (λ (o : Option (List Record)). o ≡ some rs → length bytes % 24 ≡ 0) (eqb (length bytes % 24) 0) _ none
    (λ t e. eqb-true _ _ t)
    (λ t e. some_none e refl)

and_then_length : (o : Option (List Record)) (r : Option Record) (n : ℕ) (rs : List Record)
    → ((qs : List Record) → o ≡ some qs → length qs ≡ n) → and_then o r ≡ some rs → length rs ≡ suc n
and_then_length none r n rs h e = some_none e refl
and_then_length (some qs) none n rs h e = some_none e refl
and_then_length (some qs) (some r) n rs h e =
    let g : rs ≡ qs ++ (r ∷ []) = cc in
    let k = h qs refl in
    rw (g, length-append) (omega arith)

first_length : (bytes : List ℕ) (n : ℕ) (rs : List Record) → first_records bytes n ≡ some rs → length rs ≡ n
unfolding first_records
first_length bytes zero rs e = let g : rs ≡ [] = cc in rw g
first_length bytes (suc n) rs e =
    and_then_length (first_records bytes n) (record_at bytes (24 * n)) n rs (λ qs. first_length bytes n qs) e

-- a list has fewer records than bytes
pub listed_length : (bytes : List ℕ) (rs : List Record) → records_of bytes ≡ some rs → length rs ≤ length bytes
listed_length bytes rs e =
    let h = first_length bytes (length bytes / 24) rs (sym (even_list bytes (listed_even bytes rs e)) ∙ e) in omega arith

-- where an entry is no record, there is no list
stays : (bytes : List ℕ) (i k : ℕ) → first_records bytes i ≡ none → first_records bytes (k + i) ≡ none
unfolding first_records
stays bytes i zero e = let n : 0 + i ≡ i = omega arith in rw n e
stays bytes i (suc k) e = let n : suc k + i ≡ suc (k + i) = omega arith in rw (n, stays bytes i k e)

-- the records of all entries before a place
pub record ReadSoFar (bytes : List ℕ) (p : ℕ) (rs : List Record) : Type 0 where
  pub even : length bytes % 24 ≡ 0
  pub i : ℕ
  pub place : p ≡ 24 * i
  pub within : p ≤ length bytes
  pub read : first_records bytes i ≡ some rs

pub passed_none : (bytes : List ℕ) → length bytes % 24 ≡ 0 → ReadSoFar bytes 0 []
unfolding first_records
passed_none bytes h = record { even = h; i = 0; place = refl; within = omega arith; read = refl }

pub passed_room : {bytes : List ℕ} {p : ℕ} {rs : List Record} → ReadSoFar bytes p rs → p < length bytes → p + 24 ≤ length bytes
passed_room x h = omega (arith, x.even, x.place, x.within)

pub passed_more : (bytes : List ℕ) (p : ℕ) (rs : List Record) (r : Record)
    → ReadSoFar bytes p rs → p < length bytes → record_at bytes p ≡ some r → ReadSoFar bytes (p + 24) (rs ++ (r ∷ []))
unfolding first_records
passed_more bytes p rs r x h e =
    record {
      even = x.even;
      i = suc x.i;
      place = omega (arith, x.place);
      within = passed_room x h;
      read = rw (x.read, ← x.place, e);
    }

pub passed_all : (bytes : List ℕ) (p : ℕ) (rs : List Record) → ReadSoFar bytes p rs → length bytes ≤ p → records_of bytes ≡ some rs
passed_all bytes p rs x h =
    let n : length bytes / 24 ≡ x.i = omega (arith, x.place, x.within) in
    even_list bytes x.even ∙ ap (first_records bytes) n ∙ x.read

pub passed_bad : (bytes : List ℕ) (p : ℕ) (rs : List Record)
    → ReadSoFar bytes p rs → p < length bytes → record_at bytes p ≡ none → records_of bytes ≡ none
unfolding first_records
passed_bad bytes p rs x h e =
    let next : first_records bytes (suc x.i) ≡ none = rw (x.read, ← x.place, e) in
    let k : ℕ = length bytes / 24 - suc x.i in
    let n : length bytes / 24 ≡ k + suc x.i = omega (arith, x.place, x.even) in
    even_list bytes x.even ∙ ap (first_records bytes) n ∙ stays bytes (suc x.i) k next

-- an entry of a list is a record
pub passed_good : (bytes : List ℕ) (p : ℕ) (rs whole : List Record)
    → ReadSoFar bytes p rs → p < length bytes → records_of bytes ≡ some whole → (r : Record) × (record_at bytes p ≡ some r)
passed_good bytes p rs whole x h e = good (record_at bytes p) refl
  where
    good : (o : Option Record) → record_at bytes p ≡ o → (r : Record) × (record_at bytes p ≡ some r)
    good none g = some_none e (passed_bad bytes p rs x h g)
    good (some r) g = (r, g)

-- what the code makes of it is there
pub there : (o : Entry) (r : Record) → entry_of o ≡ some r → IsSome o
there (Some x) r e = search rules
there None r e = some_none e refl

-- ---- the bytes, cut into entries

-- what the loop has yet to go over is what lies behind a place, in entries of 24 bytes
pub record Behind (bytes : List ℕ) (p : ℕ) (it : ChunksExact ℕ) : Type 0 where
  pub left : chunks_exact_rest it ≡ drop p bytes
  pub size : chunks_exact_size it ≡ 24

-- the record of 24 bytes is the one that a list has where they stand in it
module _ (a b : List ℕ) (p : ℕ) (same : (k : ℕ) → k < 24 → get_or a k 0 ≡ get_or b (p + k) 0) where
  one : (k n : ℕ) → k < 24 → p + k ≡ n → get_or a k 0 ≡ get_or b n 0
  one k n h e = same k h ∙ ap (λ (i : ℕ). get_or b i 0) e

  two : (k n : ℕ) → k + 1 < 24 → p + k ≡ n → two_at a k ≡ two_at b n
  two k n h e = ap₂ (λ (x y : ℕ). x + 256 * y) (one k n (omega arith) e) (one (k + 1) (n + 1) h (omega arith))

  four : (k n : ℕ) → k + 3 < 24 → p + k ≡ n → four_at a k ≡ four_at b n
  four k n h e = ap₂ (λ (x y : ℕ). x + 65536 * y) (two k n (omega arith) e) (two (k + 2) (n + 2) (omega arith) (omega arith))

  eight : (k n : ℕ) → k + 7 < 24 → p + k ≡ n → eight_at a k ≡ eight_at b n
  eight k n h e = ap₂ (λ (x y : ℕ). x + 4294967296 * y) (four k n (omega arith) e) (four (k + 4) (n + 4) (omega arith) (omega arith))

  same_record : record_at a 0 ≡ record_at b p
  unfolding record_at
  same_record =
      rw (one 0 p (omega arith) (omega arith), four 4 (p + 4) (omega arith) refl, two 2 (p + 2) (omega arith) refl, eight 8 (p + 8) (omega arith) refl, eight 16 (p + 16) (omega arith) refl)

-- an entry that is next
module _ {bytes : List ℕ} {p : ℕ} {it : ChunksExact ℕ} (x : Behind bytes p it) (entry : Bor (List ℕ)) (it' : ChunksExact ℕ) (t : chunks_exact_steps it (Some entry) it') where
  seam : drop p bytes ≡ entry.now ++ chunks_exact_rest it'
  seam = sym x.left ∙ t.1.0

  pub entry_size : length entry.now ≡ 24
  entry_size = t.1.1 ∙ x.size

  pub entry_inside : p < length bytes
  entry_inside = let s = entry_size in omega (arith, simp (length-drop, length-append) at (ap length seam))

  pub entry_record : record_at entry.now 0 ≡ record_at bytes p
  entry_record =
      same_record entry.now bytes p
      (λ k h. let lt : k < length entry.now = omega (arith, entry_size) in sym (sym (get_or-drop p bytes k 0) ∙ ap (λ (l : List ℕ). get_or l k 0) seam ∙ get_or-append entry.now (chunks_exact_rest it') 0 k lt))

  pub behind_next : Behind bytes (p + 24) it'
  behind_next =
      record {
        left = sym (sym (drop-drop 24 p bytes) ∙ ap (drop 24) seam ∙ ap (λ (n : ℕ). drop n (entry.now ++ chunks_exact_rest it')) (sym entry_size) ∙ drop-append_seam entry.now (chunks_exact_rest it'));
        size = t.0 ∙ x.size;
      }

-- where no entry is left, the list is read
pub behind_none : {bytes : List ℕ} {p : ℕ} {rs : List Record} {it : ChunksExact ℕ}
    → Behind bytes p it → ReadSoFar bytes p rs → length (chunks_exact_rest it) < chunks_exact_size it → length bytes ≤ p
behind_none {bytes} {p} x r h = omega (arith, x.size, r.even, r.place, r.within, simp length-drop at (ap length x.left))

-- ---- the two loops

pub record Surveying (bytes pool : List ℕ) (s : Survey) (it : ChunksExact ℕ) : Type 0 where
  pub place : ℕ
  pub behind : Behind bytes place it
  pub rs : List Record
  pub passed : ReadSoFar bytes place rs
  pub surveys : Surveys pool rs s

pub record Stepping (bytes pool out : List ℕ) (start : Written) (out' : List ℕ) (done : Written) (it : ChunksExact ℕ) : Type 0 where
  pub place : ℕ
  pub behind : Behind bytes place it
  pub rs : List Record
  pub passed : ReadSoFar bytes place rs
  pub steps : Steps pool out start rs done out'
  pub same : length out' ≡ length out

pub stepping_end : (bytes pool out : List ℕ) (start : Written) (out' : List ℕ) (done : Written) (it : ChunksExact ℕ)
    → Stepping bytes pool out start out' done it → length (chunks_exact_rest it) < chunks_exact_size it → Stepped bytes pool out start done out'
stepping_end bytes pool out start out' done it x h rs e =
    let g = passed_all bytes x.place x.rs x.passed (behind_none x.behind x.passed h) in
    let same : x.rs ≡ rs = cc in
    subst (λ (qs : List Record). Steps pool out start qs done out') same x.steps
