-- The records of a page are what `specs/Shape.antt` asks for, and nothing else is.
-- Assumes nothing.
use Prim.Native.Nat.{ℕ, ◌+◌, ◌*◌, ◌/◌, ◌%◌, ◌≤◌}
use mathlib.Core.Path.{◌≡◌, refl, ◌∙◌, ap}
use mathlib.Core.Logic.{◌≢◌}
use mathlib.Core.Bool.{true, false}
use mathlib.Core.Option.{Option, none, some}
use mathlib.Core.List.{List, [], ◌∷◌, ◌++◌}
use native.Mathlib.Omega.{arith}
use borrow.Author.Tests.{eqb-true, eqb-false}
use Rattle.record.specs.declared.Record.{Record}
use Rattle.record.specs.declared.Record.TheVariants.{Data, ExtendedLinearAddress}
use Rattle.digits.proofs.Tests.{branch}
use Rattle.page.specs.Pieces.{Piece, pieces}
use Rattle.page.specs.File.{upper, data_of, is_latest, extension, records, page_records}
use Rattle.page.specs.Shape.{data_in, Ahead, nothing, extension_to, data_under, Follows, no_data, first_upper, at_last, other_upper, first_data, more_data, RecordsMadeSo, RecordsOnlySo}
use Rattle.page.proofs.Shape.{made_so, only_so}

-- ---- the test for a type 04 record, as facts

-- the latest upper bits are these, or others or none
pub is_so : (latest : Option ℕ) (u : ℕ) → is_latest latest u ≡ true → latest ≡ some u
unfolding is_latest
is_so none u e = cc
is_so (some v) u e = ap some (eqb-true v u e)

is_not : (latest : Option ℕ) (u : ℕ) → is_latest latest u ≡ false → latest ≢ some u
unfolding is_latest
is_not none u e f = let z : ◌≡◌ {A = ℕ} 0 1 = cc in omega arith
is_not (some v) u e f = eqb-false v u e (cc)

-- by whether the upper bits are the latest: no type 04 record, or one
pub by_latest : (P : List Record → Type 0) (latest : Option ℕ) (u : ℕ) → (latest ≡ some u → P []) → (latest ≢ some u → P (ExtendedLinearAddress u ∷ [])) → P (extension latest u)
unfolding extension
by_latest P latest u f g = branch P (is_latest latest u) [] (ExtendedLinearAddress u ∷ []) (λ e. f (is_so latest u e)) (λ e. g (is_not latest u e))

-- ---- made so

data_in_records : (first : ℕ) (latest : Option ℕ) (ps : List Piece) → data_in (records first latest ps) ≡ ps
unfolding data_in records
data_in_records first latest [] = refl
data_in_records first latest (p ∷ ps) =
    let e = ap (λ (l : List Piece). p ∷ l) (data_in_records first (some (upper first p)) ps) in
    by_latest (λ l. data_in (l ++ (data_of first p ∷ records first (some (upper first p)) ps)) ≡ p ∷ ps) latest (upper first p) (λ _. e) (λ _. e)

-- what stands ahead, by the latest upper bits
abbrev behind : Option ℕ → Ahead
behind none = nothing
behind (some u) = data_under u

extended : (first u : ℕ) (latest : Option ℕ) (rs : List Record) → latest ≢ some u → Follows first (extension_to u) rs → Follows first (behind latest) (ExtendedLinearAddress u ∷ rs)
extended first u none rs n f = first_upper u f
extended first u (some v) rs n f = other_upper u (λ e. n (ap some e)) f

follows : (first : ℕ) (latest : Option ℕ) (ps : List Piece) → Follows first (behind latest) (records first latest ps)
unfolding records
follows first none [] = no_data
follows first (some u) [] = at_last
follows first latest (p ∷ ps) =
    let x = first + p.place in
    let e : x ≡ upper first p * 65536 + x % 65536 = omega arith in
    let h : x % 65536 ≤ 65535 = omega arith in
    let f = follows first (some (upper first p)) ps in
    let rs = data_of first p ∷ records first (some (upper first p)) ps in
    by_latest (λ l. Follows first (behind latest) (l ++ rs)) latest (upper first p)
    (λ q. rw q (more_data (x % 65536) p.place p.size e h f))
    (λ n. extended first (upper first p) latest rs n (first_data (x % 65536) p.place p.size e h f))

pub records_made_so : RecordsMadeSo
unfolding page_records
records_made_so first marks =
    record {
      data_are = rw (data_in_records first none (pieces first 0 none marks)) (made_so first marks);
      laid_out = follows first none (pieces first 0 none marks);
    }

-- ---- nothing else

-- records that follow what stands ahead are those of their own data
abbrev Own : (first : ℕ) → Ahead → List Record → Type 0
Own first nothing rs = rs ≡ records first none (data_in rs)
Own first (data_under u) rs = rs ≡ records first (some u) (data_in rs)
Own first (extension_to u) rs = (latest : Option ℕ) → latest ≢ some u → ExtendedLinearAddress u ∷ rs ≡ records first latest (data_in rs)

own : {first : ℕ} {ahead : Ahead} {rs : List Record} → Follows first ahead rs → Own first ahead rs
unfolding records data_in
own no_data = refl
own (first_upper u f) = own f none (λ e. let z : ◌≡◌ {A = ℕ} 0 1 = cc in omega arith)
own at_last = refl
own (other_upper {v} u n f) = own f (some v) (λ e. n (cc))
own {first} (first_data {u} offset at len {rs} e h f) =
    let i : (first + at) / 65536 ≡ u = omega arith in
    let j : (first + at) % 65536 ≡ offset = omega arith in
    λ latest n.
    rw (i, j) (by_latest (λ l. ExtendedLinearAddress u ∷ Data offset at len ∷ rs ≡ l ++ (Data offset at len ∷ records first (some u) (data_in rs))) latest u
    (λ q. absurd (n q)) (λ _. ap (λ (l : List Record). ExtendedLinearAddress u ∷ Data offset at len ∷ l) (own f)))
own {first} (more_data {u} offset at len {rs} e h f) =
    let i : (first + at) / 65536 ≡ u = omega arith in
    let j : (first + at) % 65536 ≡ offset = omega arith in
    rw (i, j) (by_latest (λ l. Data offset at len ∷ rs ≡ l ++ (Data offset at len ∷ records first (some u) (data_in rs))) (some u) u
    (λ _. ap (λ (l : List Record). Data offset at len ∷ l) (own f)) (λ q. absurd (q refl)))

pub records_only_so : RecordsOnlySo
unfolding page_records
records_only_so first marks rs R = own R.laid_out ∙ ap (records first none) (only_so first marks (data_in rs) (pieces first 0 none marks) R.data_are (made_so first marks))
