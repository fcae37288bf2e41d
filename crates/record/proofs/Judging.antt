-- What the judge makes of a line whose parts are known: each test of the definition, with its meaning in the relations' terms.
-- Assumes nothing.
use Prim.Native.Nat.{ℕ, zero, suc, ◌+◌, ◌*◌, ◌-◌, ◌%◌, ◌<◌, ◌≤◌}
use mathlib.Core.Path.{◌≡◌, refl, ◌∙◌, ap, subst}
use mathlib.Core.Logic.{◌≢◌}
use mathlib.Core.Bool.{true, false}
use mathlib.Core.List.{List, [], ◌∷◌, ◌++◌}
use native.Mathlib.Omega.{arith}
use lib.Dec.{eqb}
use lib.ListN.{length, get_or, drop, length-append}
use lib.Seq.{take_at, get_or_at}
use borrow.Author.Tests.{lt-ltb, le-ltb, eq-eqb, ne_eqb, eqb-true}
use Rattle.checksum.specs.Checksum.{sum, negated_sum}
use Rattle.checksum.proofs.Laws.{sum_snoc}
use Rattle.std.specs.Prelude.{if◌then◌else◌}
use Rattle.record.specs.Refusals.{checksum_mismatch, payload_length_mismatch, unsupported_record_type, invalid_length_for_type}
use Rattle.record.specs.Line.{says, wrong, size, fits, judge_fields, judge_bytes, judge_digits, judge}
use Rattle.record.specs.Format.{Size, type_00, type_01, type_02, type_03, type_04, type_05, layout}
use Rattle.digits.specs.Hex.{Spells}
use Rattle.record.specs.Faults.{SumsUp}
use Rattle.digits.proofs.Hex.{spells_digits, spells_bytes, spells_length, last_small}

-- ---- sizes

-- the same size, however its number is written
pub resize : {kind m n : ℕ} → m ≡ n → Size kind m → Size kind n
resize {kind} e s = subst (λ (k : ℕ). Size kind k) e s

pub size_fits : {kind n : ℕ} → Size kind n → (kind ≤ 5) × (fits kind n ≡ true)
unfolding fits size
size_fits (type_00 e) = (omega arith, rw e)
size_fits (type_01 e z) = (omega arith, rw (e, z))
size_fits (type_02 e z) = (omega arith, rw (e, z))
size_fits (type_03 e z) = (omega arith, rw (e, z))
size_fits (type_04 e z) = (omega arith, rw (e, z))
size_fits (type_05 e z) = (omega arith, rw (e, z))

-- one case for each type from 00 to 05
pub kinds : (P : ℕ → Type 0) → P 0 → P 1 → P 2 → P 3 → P 4 → P 5 → (kind : ℕ) → kind ≤ 5 → P kind
kinds P p0 p1 p2 p3 p4 p5 zero h = p0
kinds P p0 p1 p2 p3 p4 p5 (suc zero) h = p1
kinds P p0 p1 p2 p3 p4 p5 (suc (suc zero)) h = p2
kinds P p0 p1 p2 p3 p4 p5 (suc (suc (suc zero))) h = p3
kinds P p0 p1 p2 p3 p4 p5 (suc (suc (suc (suc zero)))) h = p4
kinds P p0 p1 p2 p3 p4 p5 (suc (suc (suc (suc (suc zero))))) h = p5
kinds P p0 p1 p2 p3 p4 p5 (suc (suc (suc (suc (suc (suc k)))))) h = absurd (omega arith)

pub fits_size : (kind n : ℕ) → kind ≤ 5 → fits kind n ≡ true → Size kind n
unfolding fits size
fits_size kind n h =
    kinds (λ (k : ℕ). fits k n ≡ true → Size k n)
    (λ e. type_00 refl)
    (λ e. type_01 refl (eqb-true n 0 e))
    (λ e. type_02 refl (eqb-true n 2 e))
    (λ e. type_03 refl (eqb-true n 4 e))
    (λ e. type_04 refl (eqb-true n 2 e))
    (λ e. type_05 refl (eqb-true n 4 e))
    kind h

-- a type other than 00 has one size
pub size_is : {kind n : ℕ} → kind ≢ 0 → Size kind n → n ≡ size kind
unfolding fits
size_is {kind} {n} h s = eqb-true n (size kind) (rw (ne_eqb kind 0 h) at (size_fits s).1)

-- ---- fields

module _ (len address kind : ℕ) (payload : List ℕ) where
  pub fields_mislaid : len ≢ length payload → judge_fields len address kind payload ≡ wrong payload_length_mismatch
  unfolding judge_fields
  fields_mislaid h = rw (ne_eqb _ _ h)

  module _ (l : len ≡ length payload) where
    pub fields_unknown : 5 < kind → judge_fields len address kind payload ≡ wrong (unsupported_record_type kind)
    unfolding judge_fields
    fields_unknown h = rw (eq-eqb _ _ l, lt-ltb 5 kind h)

    pub fields_misfit : kind ≤ 5 → fits kind (length payload) ≡ false → judge_fields len address kind payload ≡ wrong invalid_length_for_type
    unfolding judge_fields
    fields_misfit h s = rw (eq-eqb _ _ l, le-ltb 5 kind h, s)

    pub fields_fit : kind ≤ 5 → fits kind (length payload) ≡ true → judge_fields len address kind payload ≡ says kind address payload
    unfolding judge_fields
    fields_fit h s = rw (eq-eqb _ _ l, le-ltb 5 kind h, s)

-- ---- bytes

-- the bytes of a line, opened: the test of the checksum, then the fields
opened : (body : List ℕ) (check : ℕ)
    → judge_bytes (body ++ (check ∷ []))
    ≡ (if eqb (negated_sum body) check
    then judge_fields (get_or (body ++ (check ∷ [])) 0 0) (get_or (body ++ (check ∷ [])) 1 0 * 256 + get_or (body ++ (check ∷ [])) 2 0) (get_or (body ++ (check ∷ [])) 3 0) (drop 4 body)
    else wrong (checksum_mismatch (negated_sum body) check))
unfolding judge_bytes
opened body check =
    let n : length (body ++ (check ∷ [])) - 1 ≡ length body = let l = length-append body (check ∷ []) in omega arith in
    rw (n, take_at body (check ∷ []) (length body) refl, get_or_at body check [] 0 (length body) refl)

-- the same, with the fields as they are laid out
pub judge_layout : (len high low kind : ℕ) (payload : List ℕ) (check : ℕ)
    → judge_bytes (layout len high low kind payload check)
    ≡ (if eqb (negated_sum (len ∷ high ∷ low ∷ kind ∷ payload)) check
    then judge_fields len (high * 256 + low) kind payload
    else wrong (checksum_mismatch (negated_sum (len ∷ high ∷ low ∷ kind ∷ payload)) check))
judge_layout len high low kind payload check = opened (len ∷ high ∷ low ∷ kind ∷ payload) check

module _ (len high low kind : ℕ) (payload : List ℕ) (check : ℕ) where
  -- the checksum is right exactly if the whole sums to zero
  pub check_sums : check ≡ negated_sum (len ∷ high ∷ low ∷ kind ∷ payload) → sum (layout len high low kind payload check) % 256 ≡ 0
  unfolding negated_sum
  check_sums e = let t = sum_snoc (len ∷ high ∷ low ∷ kind ∷ payload) check in omega arith

  pub sums_check : check < 256 → sum (layout len high low kind payload check) % 256 ≡ 0 → negated_sum (len ∷ high ∷ low ∷ kind ∷ payload) ≡ check
  unfolding negated_sum
  sums_check small e = let t = sum_snoc (len ∷ high ∷ low ∷ kind ∷ payload) check in omega arith

-- bytes of five and more, taken apart into their fields
pub record Parts (bs : List ℕ) : Type 0 where
  pub len : ℕ
  pub high : ℕ
  pub low : ℕ
  pub kind : ℕ
  pub payload : List ℕ
  pub check : ℕ
  pub whole : bs ≡ layout len high low kind payload check

-- a row that is not empty has a last element
pub record Ending {A : Type 0} (bs : List A) : Type 0 where
  pub front : List A
  pub final : A
  pub whole : bs ≡ front ++ (final ∷ [])

pub ending : {A : Type 0} (b : A) (bs : List A) → Ending (b ∷ bs)
ending b [] = record { front = []; final = b; whole = refl }
ending {A} b (c ∷ bs) =
    let e = ending c bs in
    record { front = b ∷ e.front; final = e.final; whole = ap (λ (l : List A). b ∷ l) e.whole }

pub parts : (bs : List ℕ) → 5 ≤ length bs → Parts bs
parts [] h = absurd (omega arith)
parts (a ∷ []) h = absurd (omega arith)
parts (a ∷ b ∷ []) h = absurd (omega arith)
parts (a ∷ b ∷ c ∷ []) h = absurd (omega arith)
parts (a ∷ b ∷ c ∷ d ∷ []) h = absurd (omega arith)
parts (a ∷ b ∷ c ∷ d ∷ e ∷ bs) h =
    let t = ending e bs in
    record { len = a; high = b; low = c; kind = d; payload = t.front; check = t.final; whole = ap (λ (l : List ℕ). a ∷ b ∷ c ∷ d ∷ l) t.whole }

-- ---- characters

pub judge_colon : (ds : List ℕ) → judge (58 ∷ ds) ≡ judge_digits ds
unfolding judge
judge_colon ds = refl

pub judge_other : (c : ℕ) (ds : List ℕ) → c ≢ 58 → judge (c ∷ ds) ≡ judge []
unfolding judge
judge_other c ds h = rw (ne_eqb c 58 h)

pub judge_spelt : {ds bs : List ℕ} → Spells ds bs → 5 ≤ length bs → length bs ≤ 260 → judge (58 ∷ ds) ≡ judge_bytes bs
unfolding judge_digits
judge_spelt {ds} {bs} s least most =
    let m : length ds ≡ 2 * length bs = spells_length s in
    judge_colon ds
    ∙ rw (
      spells_digits s,
      le-ltb (length ds) 10 (omega arith),
      le-ltb 520 (length ds) (omega arith),
      ne_eqb (length ds % 2) 1 (λ e. omega arith),
      spells_bytes s,
    )

-- a line that sums up is judged by its fields
pub judged : {line : List ℕ} (len high low kind : ℕ) (payload : List ℕ) (check : ℕ)
    → SumsUp line (layout len high low kind payload check) → judge line ≡ judge_fields len (high * 256 + low) kind payload
judged {line} len high low kind payload check s =
    let n : length (layout len high low kind payload check) ≡ 5 + length payload = let l = length-append payload (check ∷ []) in omega arith in
    let c : check < 256 = last_small (len ∷ high ∷ low ∷ kind ∷ payload) check s.spells in
    let e : eqb (negated_sum (len ∷ high ∷ low ∷ kind ∷ payload)) check ≡ true = eq-eqb _ _ (sums_check len high low kind payload check c s.sums) in
    ap judge s.starts
    ∙ judge_spelt s.spells (omega arith) s.most
    ∙ judge_layout len high low kind payload check
    ∙ rw e
