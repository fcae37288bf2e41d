-- Empty lines that are passed one byte after the other.
-- Assumes nothing.
use Prim.Native.Nat.{ℕ, suc, ◌+◌, ◌<◌, ◌≤◌}
use mathlib.Core.Path.{◌≡◌, refl, sym, ap, ◌∙◌}
use mathlib.Core.Bool.{Bool, true, false}
use mathlib.Core.List.{List, [], ◌∷◌, ◌++◌}
use native.Mathlib.Omega.{arith}
use native.Mathlib.Numerals.{add-one}
use lib.Dec.{eqb}
use lib.ListN.{length, drop, get_or}
use lib.Seq.{drop-cons, drop-length}
use borrow.Author.Tests.{eqb-false}
use Rattle.std.specs.Prelude.{if◌then◌else◌}
use Rattle.digits.proofs.Tests.{branch, if_true, if_false, split}
use Rattle.reader.specs.Lines.{CR}
use Rattle.listen.specs.declared.Blank.{Blank}
use Rattle.listen.specs.Listener.{is_blank, blanks, further}

-- so many bytes more
abbrev pub after_so_many : ℕ → Blank → Blank
after_so_many n b = record { at = n + b.at; cr = b.cr }

module _ (chunk : List ℕ) (cr waits : Bool) (at : ℕ) where
  -- the rest is passed from where it stands
  abbrev pub Stands : Type 0
  Stands = (at ≤ length chunk) × (blanks cr chunk ≡ after_so_many at (blanks waits (drop at chunk)))

blank_at : (n : ℕ) (cr : Bool) → ◌≡◌ {A = Blank} (record { at = n + 0; cr = cr }) (record { at = n; cr = cr })
blank_at n cr = let e : n + 0 ≡ n = omega arith in ap (λ (m : ℕ). record { at = m; cr = cr }) e

blank_after : (n : ℕ) (b : Blank) → after_so_many n (further b) ≡ after_so_many (n + 1) b
blank_after n b = let e : n + suc b.at ≡ n + 1 + b.at = omega arith in ap (λ (m : ℕ). record { at = m; cr = b.cr }) e

blank_is : (b : Blank) → b ≡ after_so_many 0 b
blank_is b = let e : b.at ≡ 0 + b.at = omega arith in ap (λ (m : ℕ). record { at = m; cr = b.cr }) e

module _ (chunk : List ℕ) (cr waits : Bool) (at : ℕ) (h : at < length chunk) (stands : Stands chunk cr waits at) where
  pub stands_next : is_blank (get_or chunk at 0) waits ≡ true → Stands chunk cr (eqb (get_or chunk at 0) CR) (at + 1)
  unfolding blanks
  stands_next e = (
    omega arith,
    stands.1 ∙ ap (λ (l : List ℕ). after_so_many at (blanks waits l)) (drop-cons chunk at 0 h) ∙ ap (after_so_many at) (if_true _ _ _ e)
        ∙ blank_after at (blanks (eqb (get_or chunk at 0) CR) (drop (suc at) chunk)) ∙ ap (λ (n : ℕ). after_so_many (at + 1) (blanks (eqb (get_or chunk at 0) CR) (drop n chunk))) (sym (add-one at)),
  )

  pub stands_there : is_blank (get_or chunk at 0) waits ≡ false → record { at = at; cr = waits } ≡ blanks cr chunk
  unfolding blanks
  stands_there e = sym (stands.1 ∙ ap (λ (l : List ℕ). after_so_many at (blanks waits l)) (drop-cons chunk at 0 h) ∙ ap (after_so_many at) (if_false _ _ _ e) ∙ blank_at at waits)

pub stands_last : (chunk : List ℕ) (cr waits : Bool) (at : ℕ) → length chunk ≤ at → Stands chunk cr waits at → record { at = at; cr = waits } ≡ blanks cr chunk
unfolding blanks
stands_last chunk cr waits at h stands =
    let e : at ≡ length chunk = omega (arith, stands.0) in
    sym (stands.1 ∙ ap (λ (n : ℕ). after_so_many at (blanks waits (drop n chunk))) e ∙ ap (λ (l : List ℕ). after_so_many at (blanks waits l)) (drop-length chunk) ∙ blank_at at waits)

-- no more bytes are passed than there are
pub blanks_fit : (cr : Bool) (chunk : List ℕ) → (blanks cr chunk).at ≤ length chunk
unfolding blanks
blanks_fit cr [] = omega arith
blanks_fit cr (c ∷ chunk) =
    branch (λ (b : Blank). b.at ≤ suc (length chunk)) (is_blank c cr) (further (blanks (eqb c CR) chunk)) (record { at = 0; cr = cr })
    (λ _. let h = blanks_fit (eqb c CR) chunk in omega arith) (λ _. omega arith)

-- ---- bytes that come after others

blank_so : (b : Blank) (n : ℕ) (c : Bool) → b.at ≡ n → b.cr ≡ c → b ≡ record { at = n; cr = c }
blank_so b n c e f = let g : ◌≡◌ {A = Blank} (record { at = b.at; cr = b.cr }) (record { at = n; cr = c }) = cc in g

further_so : (n : ℕ) (b : Blank) → further (after_so_many n b) ≡ after_so_many (suc n) b
further_so n b = let e : suc (n + b.at) ≡ suc n + b.at = omega arith in ap (λ (m : ℕ). record { at = m; cr = b.cr }) e

-- after bytes that are all of empty lines
pub blanks_on : (cr : Bool) (bytes more : List ℕ) (c : Bool) → blanks cr bytes ≡ record { at = length bytes; cr = c } → blanks cr (bytes ++ more) ≡ after_so_many (length bytes) (blanks c more)
unfolding blanks
blanks_on cr [] more c e = ap (λ (x : Bool). blanks x more) (ap (λ (b : Blank). b.cr) e) ∙ blank_is (blanks c more)
blanks_on cr (x ∷ bytes) more c e = go (is_blank x cr) (blanks_on (eqb x CR) bytes more c) e
  where
    go : (t : Bool) → (blanks (eqb x CR) bytes ≡ record { at = length bytes; cr = c } → blanks (eqb x CR) (bytes ++ more) ≡ after_so_many (length bytes) (blanks c more))
        → (if t then further (blanks (eqb x CR) bytes) else record { at = 0; cr = cr }) ≡ record { at = suc (length bytes); cr = c }
        → (if t then further (blanks (eqb x CR) (bytes ++ more)) else record { at = 0; cr = cr }) ≡ after_so_many (suc (length bytes)) (blanks c more)
    go true ih h =
        let n = ap (λ (b : Blank). b.at) h in
        let k : (blanks (eqb x CR) bytes).at ≡ length bytes = omega (arith, n) in
        let so = ih (blank_so (blanks (eqb x CR) bytes) (length bytes) c k (ap (λ (b : Blank). b.cr) h)) in
        ap further so ∙ further_so (length bytes) (blanks c more)
    go false ih h = let n = ap (λ (b : Blank). b.at) h in absurd (omega (arith, n))

-- where a dump has begun
pub blanks_begun : (cr : Bool) (bytes more : List ℕ) → (blanks cr bytes).at < length bytes → blanks cr (bytes ++ more) ≡ blanks cr bytes
unfolding blanks
blanks_begun cr [] more h = absurd (omega arith)
blanks_begun cr (x ∷ bytes) more h = go (is_blank x cr) (blanks_begun (eqb x CR) bytes more) h
  where
    go : (t : Bool) → ((blanks (eqb x CR) bytes).at < length bytes → blanks (eqb x CR) (bytes ++ more) ≡ blanks (eqb x CR) bytes)
        → (if t then further (blanks (eqb x CR) bytes) else record { at = 0; cr = cr }).at < suc (length bytes)
        → (if t then further (blanks (eqb x CR) (bytes ++ more)) else record { at = 0; cr = cr }) ≡ (if t then further (blanks (eqb x CR) bytes) else record { at = 0; cr = cr })
    go true ih k = ap further (ih (omega arith))
    go false ih k = refl

-- a chunk that is not all of empty lines begins a dump
pub blanks_begin : (cr : Bool) (chunk : List ℕ) → eqb (blanks cr chunk).at (length chunk) ≡ false → (blanks cr chunk).at < length chunk
blanks_begin cr chunk e =
    split (length chunk) (blanks cr chunk).at
    (λ h. absurd (eqb-false (blanks cr chunk).at (length chunk) e (let f = blanks_fit cr chunk in omega arith)))
    (λ h. h)
