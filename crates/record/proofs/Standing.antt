-- Each line stands as the judge says, in the terms of the relations, and nothing stands otherwise: the judge's tests are walked once,
-- and what each shows is the relation's own fact.
-- Assumes nothing.
use Prim.Native.Nat.{ℕ, suc, ◌+◌, ◌*◌, ◌%◌, ◌<◌, ◌≤◌}
use mathlib.Core.Path.{◌≡◌, refl, sym, ◌∙◌, ap, subst}
use mathlib.Core.Logic.{◌≢◌}
use mathlib.Core.Bool.{Bool, true, false}
use mathlib.Core.List.{List, [], ◌∷◌, ◌++◌}
use native.Mathlib.Omega.{arith}
use lib.Dec.{ltb, eqb}
use lib.ListN.{length, length-append}
use borrow.Author.Tests.{lt-ltb, le-ltb, eq-eqb, ne_eqb, eqb-true, eqb-false, ltb-true, ltb-false}
use Rattle.checksum.specs.Checksum.{negated_sum}
use Rattle.record.specs.Refusals.{Refusal, number_of, missing_start_code, contains_invalid_characters, checksum_mismatch}
use Rattle.digits.specs.Digits.{all_digits, leading, bytes}
use Rattle.record.specs.Line.{Said, says, wrong, fits, invalid, judge_fields, judge_bytes, judge_digits, judge}
use Rattle.digits.specs.Reading.{named}
use Rattle.record.specs.Format.{Size, layout, Format}
use Rattle.digits.specs.Hex.{Spells}
use Rattle.record.specs.Faults.{SumsUp, Fault, no_colon, no_digit, short, long, odd, sum_differs, length_differs, type_unknown, size_differs}
use Rattle.digits.proofs.Tests.{branch}
use Rattle.digits.proofs.Hex.{spells_length, first_small, every_hex, hex_every, digits_spell}
use Rattle.record.proofs.Offender.{first_offender, offended}
use Rattle.record.proofs.Judging.{resize, size_fits, fits_size, fields_mislaid, fields_unknown, fields_misfit, fields_fit, judge_layout, check_sums, parts, judge_colon, judge_other, judge_spelt, judged}

-- what is owed to a line of which this is said
abbrev pub Stands : List ℕ → Said → Type 0
Stands line (says kind address payload) = Format line kind address payload
Stands line (wrong r) = Fault line r

-- ---- every line stands as it is judged

module _ (line : List ℕ) (high low kind check : ℕ) (payload : List ℕ) where
  stands_fields : (len : ℕ) → SumsUp line (layout len high low kind payload check) → Stands line (judge_fields len (high * 256 + low) kind payload)
  unfolding judge_fields
  stands_fields len s =
      branch (Stands line) (eqb len (length payload)) _ _
      (λ l.
      let s' : SumsUp line (layout (length payload) high low kind payload check) =
      subst (λ (n : ℕ). SumsUp line (layout n high low kind payload check)) (eqb-true len (length payload) l) s in
      branch (Stands line) (ltb 5 kind) _ _
      (λ t. type_unknown high low kind check payload s' (ltb-true 5 kind t))
      (λ t. branch (Stands line) (fits kind (length payload)) _ _
      (λ f. record { digits = s'.digits; high = high; low = low; check = check; starts = s'.starts; spells = s'.spells; addressed = refl; sums = s'.sums; sized = resize (omega arith) (fits_size kind (length payload) (ltb-false 5 kind t) f) })
      (λ f. size_differs high low kind check payload s' (ltb-false 5 kind t) (λ z. let e : true ≡ false = sym (size_fits z).1 ∙ f in let w : ◌≡◌ {A = ℕ} 0 1 = cc in omega arith))))
      (λ l. length_differs len high low kind check payload s (eqb-false len (length payload) l))

stands_layout : (ds : List ℕ) (len high low kind : ℕ) (payload : List ℕ) (check : ℕ)
    → Spells ds (layout len high low kind payload check) → length (layout len high low kind payload check) ≤ 260
    → Stands (58 ∷ ds) (judge_bytes (layout len high low kind payload check))
stands_layout ds len high low kind payload check s most =
    let n : length (layout len high low kind payload check) ≡ 5 + length payload = let l = length-append payload (check ∷ []) in omega arith in
    rw (judge_layout len high low kind payload check)
    (branch (Stands (58 ∷ ds)) (eqb (negated_sum (len ∷ high ∷ low ∷ kind ∷ payload)) check) _ _
    (λ e. stands_fields (58 ∷ ds) high low kind check payload len
    (record { digits = ds; starts = refl; spells = s; most = most; sums = check_sums len high low kind payload check (sym (eqb-true _ _ e)) }))
    (λ e. sum_differs ds (len ∷ high ∷ low ∷ kind ∷ payload) check refl s (omega arith) (omega arith) (λ q. eqb-false _ _ e (sym q))))

stands_bytes : (ds bs : List ℕ) → Spells ds bs → 5 ≤ length bs → length bs ≤ 260 → Stands (58 ∷ ds) (judge_bytes bs)
stands_bytes ds bs s least most =
    let p = parts bs least in
    rw p.whole
    (stands_layout ds p.len p.high p.low p.kind p.payload p.check (subst (λ (l : List ℕ). Spells ds l) p.whole s) (subst (λ (l : List ℕ). length l ≤ 260) p.whole most))

stands_digits : (ds : List ℕ) → Stands (58 ∷ ds) (judge_digits ds)
unfolding judge_digits
stands_digits ds =
    let P = Stands (58 ∷ ds) in
    branch P (all_digits ds) _ _
    (λ d. branch P (ltb (length ds) 10) _ _
    (λ t. short ds refl (every_hex ds d) (ltb-true (length ds) 10 t))
    (λ t. branch P (ltb 520 (length ds)) _ _
    (λ l. long ds refl (every_hex ds d) (ltb-true 520 (length ds) l))
    (λ l. branch P (eqb (length ds % 2) 1) _ _
    (λ o.
    let least : 10 ≤ length ds = ltb-false (length ds) 10 t in
    odd ds refl (every_hex ds d) (omega arith) (ltb-false 520 (length ds) l) (eqb-true (length ds % 2) 1 o))
    (λ o.
    let e : length ds % 2 ≡ 1 → ⊥ = eqb-false (length ds % 2) 1 o in
    let least : 10 ≤ length ds = ltb-false (length ds) 10 t in
    let most : length ds ≤ 520 = ltb-false 520 (length ds) l in
    let even : length ds % 2 ≡ 0 = omega arith in
    let s = digits_spell ds d even in
    let n : length ds ≡ 2 * length (bytes ds) = spells_length s in
    stands_bytes ds (bytes ds) s (omega arith) (omega arith)))))
    (λ d. no_digit (suc (leading ds)) (first_offender 58 ds d))

pub stands : (line : List ℕ) → Stands line (judge line)
unfolding judge
stands [] = no_colon (λ ds e. let z : ◌≡◌ {A = ℕ} 0 1 = cc in omega arith)
stands (c ∷ ds) =
    branch (Stands (c ∷ ds)) (eqb c 58) _ _
    (λ e. rw (eqb-true c 58 e) (stands_digits ds))
    (λ e. no_colon (λ ds' q. eqb-false c 58 e (cc)))

-- ---- and as nothing else

pub admitted : {line : List ℕ} {kind address : ℕ} {payload : List ℕ} → Format line kind address payload → judge line ≡ says kind address payload
admitted {line} {kind} {address} {payload} f =
    let fitted : Size kind (length payload) = resize (omega arith) f.sized in
    let z = size_fits fitted in
    let small : length payload < 256 = first_small f.spells in
    let n = length-append payload (f.check ∷ []) in
    judged (length payload) f.high f.low kind payload f.check
    (record { digits = f.digits; starts = f.starts; spells = f.spells; most = omega arith; sums = f.sums })
    ∙ fields_fit (length payload) (f.high * 256 + f.low) kind payload refl z.0 z.1
    ∙ ap (λ (a : ℕ). says kind a payload) (sym f.addressed)

misfit : (kind n : ℕ) → kind ≤ 5 → ¬ Size kind n → fits kind n ≡ false
misfit kind n h z = go (fits kind n) refl
  where
    go : (b : Bool) → fits kind n ≡ b → fits kind n ≡ false
    go true e = absurd (z (fits_size kind n h e))
    go false e = e

without_colon : (line : List ℕ) → ((ds : List ℕ) → line ≢ 58 ∷ ds) → judge line ≡ wrong missing_start_code
unfolding judge
without_colon [] h = refl
without_colon (c ∷ ds) h = judge_other c ds (λ e. h ds (rw e))

-- a body of four bytes and more
differing : (ds body : List ℕ) (stated : ℕ) → Spells ds (body ++ (stated ∷ [])) → 4 ≤ length body → length body ≤ 259
    → stated ≢ negated_sum body → judge (58 ∷ ds) ≡ wrong (checksum_mismatch (negated_sum body) stated)
differing ds [] stated s least most h = absurd (omega arith)
differing ds (a ∷ []) stated s least most h = absurd (omega arith)
differing ds (a ∷ b ∷ []) stated s least most h = absurd (omega arith)
differing ds (a ∷ b ∷ c ∷ []) stated s least most h = absurd (omega arith)
differing ds (a ∷ b ∷ c ∷ d ∷ payload) stated s least most h =
    let n = length-append payload (stated ∷ []) in
    judge_spelt s (omega arith) (omega arith)
    ∙ judge_layout a b c d payload stated
    ∙ rw (ne_eqb (negated_sum (a ∷ b ∷ c ∷ d ∷ payload)) stated (λ e. h (sym e)))

judge_invalid : (ds : List ℕ) → all_digits ds ≡ false → judge (58 ∷ ds) ≡ invalid ds
unfolding judge_digits
judge_invalid ds e = judge_colon ds ∙ rw e

pub refused : {line : List ℕ} {r : Refusal} → Fault line r → judge line ≡ wrong r
unfolding judge_digits
refused {line} (no_colon h) = without_colon line h
refused {line} (no_digit place f) = let o = offended 58 line place f in ap judge o.starts ∙ judge_invalid o.digits o.bad ∙ ap (λ (p : ℕ). wrong (contains_invalid_characters (named p))) (sym o.counts)
refused (short ds e d h) = ap judge e ∙ judge_colon ds ∙ rw (hex_every ds d, lt-ltb (length ds) 10 h)
refused (long ds e d h) =
    ap judge e ∙ judge_colon ds ∙ rw (hex_every ds d, le-ltb (length ds) 10 (omega arith), lt-ltb 520 (length ds) h)
refused (odd ds e d least most h) =
    ap judge e
    ∙ judge_colon ds
    ∙ rw (hex_every ds d, le-ltb (length ds) 10 (omega arith), le-ltb 520 (length ds) most, eq-eqb (length ds % 2) 1 h)
refused (sum_differs ds body stated e s least most h) = ap judge e ∙ differing ds body stated s least most h
refused (length_differs len high low kind check payload s h) =
    judged len high low kind payload check s ∙ fields_mislaid len (high * 256 + low) kind payload h
refused (type_unknown high low kind check payload s h) =
    judged (length payload) high low kind payload check s ∙ fields_unknown (length payload) (high * 256 + low) kind payload refl h
refused (size_differs high low kind check payload s h z) =
    judged (length payload) high low kind payload check s
    ∙ fields_misfit (length payload) (high * 256 + low) kind payload refl h (misfit kind (length payload) h z)

-- a line is refused with a number up to 9
pub fault_few : {line : List ℕ} {r : Refusal} → Fault line r → number_of r ≤ 9
fault_few (no_colon h) = omega arith
fault_few (no_digit place f) = omega arith
fault_few (short ds s d h) = omega arith
fault_few (long ds s d h) = omega arith
fault_few (odd ds s d l m h) = omega arith
fault_few (sum_differs ds body stated s p l m h) = omega arith
fault_few (length_differs len high low kind check payload s h) = omega arith
fault_few (type_unknown high low kind check payload s h) = omega arith
fault_few (size_differs high low kind check payload s h z) = omega arith
