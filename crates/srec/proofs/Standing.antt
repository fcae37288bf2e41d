-- Each line stands as the judge says, in the terms of the relations, and nothing stands otherwise: the judge's tests are walked once,
-- and what each shows is the relation's own fact.
-- Assumes nothing.
use Rattle.std.proofs.Common.{◌≡◌, ℕ, suc, ◌+◌, ◌*◌, ◌%◌, ◌<◌, ◌≤◌, Bool, true, false, eqb, ltb, ◌≢◌, List, [], ◌∷◌, ◌++◌, length, take, drop, sym, refl, ap, ◌∙◌, subst, arith, length-append, take-append-drop, length-take-le, ltb-false, ltb-true, le-ltb, lt-ltb, eq-eqb, ne_eqb, eqb-true}
use borrow.Author.Tests.{eqb-false}
use Rattle.record.specs.Refusals.{Refusal, number_of, missing_start_code, contains_invalid_characters, record_too_short, record_too_long, record_not_even_length, checksum_mismatch}
use Rattle.digits.specs.Digits.{digit, is_digit, all_digits, leading, bytes, big_endian}
use Rattle.record.specs.Line.{Said, says, wrong}
use Rattle.digits.specs.Reading.{named}
use Rattle.digits.specs.Hex.{Spells}
use Rattle.digits.proofs.Tests.{branch, both}
use Rattle.digits.proofs.Hex.{digit_hex, every_hex, digits_spell, spells_digits, spells_length, first_small}
use Rattle.srec.specs.Types.{is_named, width, fits}
use Rattle.srec.specs.Line.{complement_sum, least_digits, judge_fields, judge_bytes, judge_digits, judge_typed, judge}
use Rattle.srec.specs.Format.{Width, body, layout, Format}
use Rattle.srec.specs.Faults.{Typed, SumsUp, Fault, no_start, no_digit, no_type, type_unknown, short, long, odd, sum_differs, length_differs, size_differs}
use Rattle.srec.proofs.Naming.{named_wide, wide_named, unnamed_none, none_unnamed, width_few, size_fits, fits_size, misfit}
use Rattle.record.proofs.Offender.{first_offender, offended}
use Rattle.srec.proofs.Judging.{fields_mislaid, fields_misfit, fields_fit, judge_layout, check_complements, Parts, parts, judge_start, judge_other, judge_bad, judge_unknown, judge_known, judge_spelt, judged}

-- what is owed to a line of which this is said
abbrev pub Stands : List ℕ → Said → Type 0
Stands line (says kind address payload) = Format line kind address payload
Stands line (wrong r) = Fault line r

-- ---- every line stands as it is judged

stands_fields : {line : List ℕ} {kind count : ℕ} {place payload : List ℕ} {check : ℕ} → SumsUp line kind count place payload check
    → Stands line (judge_fields kind count (big_endian place) payload)
unfolding judge_fields
stands_fields {line} {kind} {count} {place} {payload} {check} s =
    let w : width kind ≡ length place = (wide_named s.wide).1 in
    branch (Stands line) (eqb count _) _ _
    (λ l.
    let e : count ≡ length place + length payload + 1 = let q = eqb-true count _ l in omega arith in
    branch (Stands line) (fits kind (length payload)) _ _
    (λ f.
    record {
      type_digit = s.typed.type_digit;
      digits = s.digits;
      place = place;
      check = check;
      starts = s.typed.starts;
      typed = s.typed.typed;
      wide = s.wide;
      spells = subst (λ (n : ℕ). Spells s.digits (layout n place payload check)) e s.spells;
      addressed = refl;
      sums = rw e at s.sums;
      sized = fits_size kind (length payload) f;
    })
    (λ f. size_differs kind count place payload check s e (λ z. let e : true ≡ false = sym (size_fits z) ∙ f in let w : ◌≡◌ {A = ℕ} 0 1 = cc in omega arith)))
    (λ l. length_differs kind count place payload check s (λ q. eqb-false count _ l (omega arith)))

stands_bytes : {line : List ℕ} {kind : ℕ} {ds bs : List ℕ} → Typed line kind ds → Width kind (width kind) → Spells ds bs
    → width kind + 2 ≤ length bs → length bs ≤ 256 → Stands line (judge_bytes kind bs)
stands_bytes {line} {kind} {ds} {bs} t w s least most = go (parts (width kind) bs least)
  where
    go : Parts (width kind) bs → Stands line (judge_bytes kind bs)
    go p =
        let P = Stands line in
        let front : List ℕ = body p.count p.place p.payload in
        let spells : Spells ds (layout p.count p.place p.payload p.check) = subst (λ (l : List ℕ). Spells ds l) p.whole s in
        let size : length (layout p.count p.place p.payload p.check) ≤ 256 = subst (λ (l : List ℕ). length l ≤ 256) p.whole most in
        let n = length-append front (p.check ∷ []) in
        let m = length-append p.place p.payload in
        let sized : length p.place ≡ width kind = p.sized in
        rw (p.whole, judge_layout kind p.count p.place p.payload p.check p.sized)
        (branch P (eqb (complement_sum front) p.check) _ _
        (λ e. stands_fields (record { digits = ds; typed = t; wide = rw p.sized w; spells = spells; most = size; sums = check_complements front p.check (sym (eqb-true _ _ e)) }))
        (λ e. sum_differs kind (width kind) ds front p.check t w spells (omega arith) (omega arith) (λ q. eqb-false _ _ e (sym q))))

stands_digits : {line : List ℕ} {kind : ℕ} {ds : List ℕ} → Typed line kind ds → all_digits ds ≡ true → is_named kind ≡ true → Stands line (judge_digits kind ds)
unfolding judge_digits
stands_digits {line} {kind} {ds} t d k =
    let P = Stands line in
    let w = named_wide kind k in
    branch P (ltb (length ds) (least_digits kind)) _ _
    (λ h. short kind (width kind) ds t w (ltb-true (length ds) _ h))
    (λ h. branch P (ltb 512 (length ds)) _ _
    (λ l. long kind (width kind) ds t w (ltb-true 512 (length ds) l))
    (λ l. branch P (eqb (length ds % 2) 1) _ _
    (λ o. odd kind (width kind) ds t w (ltb-false (length ds) _ h) (ltb-false 512 (length ds) l) (eqb-true (length ds % 2) 1 o))
    (λ o.
    let e : length ds % 2 ≡ 1 → ⊥ = eqb-false (length ds % 2) 1 o in
    let least : 4 + 2 * width kind ≤ length ds = ltb-false (length ds) _ h in
    let most : length ds ≤ 512 = ltb-false 512 (length ds) l in
    let even : length ds % 2 ≡ 0 = omega arith in
    let s = digits_spell ds d even in
    let n : length ds ≡ 2 * length (bytes ds) = spells_length s in
    stands_bytes t w s (omega arith) (omega arith))))

stands_typed : (cs : List ℕ) → all_digits cs ≡ true → Stands (83 ∷ cs) (judge_typed cs)
unfolding judge_typed all_digits
stands_typed [] d = no_type refl
stands_typed (c ∷ ds) d =
    let p = both (is_digit c) (all_digits ds) d in
    let t : Typed (83 ∷ c ∷ ds) (digit c) ds = record { type_digit = c; starts = refl; typed = digit_hex c (ltb-true (digit c) 16 p.0); hex = every_hex ds p.1 } in
    branch (Stands (83 ∷ c ∷ ds)) (is_named (digit c)) _ _
    (λ k. stands_digits t p.1 k)
    (λ k. type_unknown (digit c) ds t (unnamed_none (digit c) k))

stands_start : (cs : List ℕ) → Stands (83 ∷ cs) (judge (83 ∷ cs))
stands_start cs =
    rw (judge_start cs)
    (branch (Stands (83 ∷ cs)) (all_digits cs) _ _
    (stands_typed cs)
    (λ d. no_digit (suc (leading cs)) (first_offender 83 cs d)))

stands_none : Stands [] (judge [])
unfolding judge
stands_none = no_start (λ cs e. let z : ◌≡◌ {A = ℕ} 0 1 = cc in omega arith)

pub stands : (line : List ℕ) → Stands line (judge line)
stands [] = stands_none
stands (c ∷ cs) = go (eqb c 83) refl
  where
    go : (b : Bool) → eqb c 83 ≡ b → Stands (c ∷ cs) (judge (c ∷ cs))
    go true e = rw (eqb-true c 83 e) (stands_start cs)
    go false e = rw (judge_other c cs (eqb-false c 83 e)) (no_start (λ cs' q. eqb-false c 83 e (cc)))

-- ---- and as nothing else

pub admitted : {line : List ℕ} {kind address : ℕ} {payload : List ℕ} → Format line kind address payload → judge line ≡ says kind address payload
admitted {line} {kind} {address} {payload} f =
    let w : width kind ≡ length f.place = (wide_named f.wide).1 in
    let count = length f.place + length payload + 1 in
    let small : count < 256 = first_small f.spells in
    let n = length-append f.place payload in
    let m = length-append (body count f.place payload) (f.check ∷ []) in
    let t : Typed line kind f.digits = record { type_digit = f.type_digit; starts = f.starts; typed = f.typed; hex = every_hex f.digits (spells_digits f.spells) } in
    judged (record { digits = f.digits; typed = t; wide = f.wide; spells = f.spells; most = omega arith; sums = f.sums })
    ∙ fields_fit kind count (big_endian f.place) payload (omega arith) (size_fits f.sized)
    ∙ ap (λ (a : ℕ). says kind a payload) (sym f.addressed)

without_start : (line : List ℕ) → ((cs : List ℕ) → line ≢ 83 ∷ cs) → judge line ≡ wrong missing_start_code
unfolding judge
without_start [] h = refl
without_start (c ∷ cs) h = judge_other c cs (λ e. h cs (rw e))

-- a body, split after its address
parts_of : (n a : ℕ) (rest : List ℕ) → n ≤ length rest
    → (place : List ℕ) × (payload : List ℕ) × (length place ≡ n) × (a ∷ rest ≡ body a place payload)
parts_of n a rest h = (take n rest, drop n rest, length-take-le n rest h, ap (λ (l : List ℕ). a ∷ l) (sym (take-append-drop n rest)))

-- a body of count and address, and more
differing : {line : List ℕ} {kind n : ℕ} {ds : List ℕ} (front : List ℕ) (stated : ℕ) → Typed line kind ds → Width kind n → Spells ds (front ++ (stated ∷ []))
    → n < length front → length front ≤ 255 → stated ≢ complement_sum front → judge line ≡ wrong (checksum_mismatch (complement_sum front) stated)
differing {line} {kind} {n} {ds} front stated t w s least most h =
    let k : width kind ≡ n = (wide_named w).1 in
    let l = length-append front (stated ∷ []) in
    judge_known t w
    ∙ judge_spelt kind n k s (omega arith) (omega arith)
    ∙ other front (omega arith) h
  where
    other : (front : List ℕ) → width kind < length front → stated ≢ complement_sum front → judge_bytes kind (front ++ (stated ∷ [])) ≡ wrong (checksum_mismatch (complement_sum front) stated)
    other [] g h = absurd (omega arith)
    other (a ∷ rest) g h =
        let p = parts_of (width kind) a rest (omega arith) in
        ap (λ (l : List ℕ). judge_bytes kind (l ++ (stated ∷ []))) p.3
        ∙ judge_layout kind a p.0 p.1 stated p.2
        ∙ rw (← p.3, ne_eqb (complement_sum (a ∷ rest)) stated (λ e. h (sym e)))

typeless : judge (83 ∷ []) ≡ wrong record_too_short
unfolding judge
typeless = refl

module _ (kind : ℕ) (ds : List ℕ) where
  few : length ds < least_digits kind → judge_digits kind ds ≡ wrong record_too_short
  unfolding judge_digits
  few h = rw (lt-ltb (length ds) (least_digits kind) h)

  many : width kind ≤ 4 → 512 < length ds → judge_digits kind ds ≡ wrong record_too_long
  unfolding judge_digits
  many w h = rw (le-ltb (length ds) (least_digits kind) (omega arith), lt-ltb 512 (length ds) h)

  uneven : least_digits kind ≤ length ds → length ds ≤ 512 → length ds % 2 ≡ 1 → judge_digits kind ds ≡ wrong record_not_even_length
  unfolding judge_digits
  uneven least most h = rw (le-ltb (length ds) (least_digits kind) least, le-ltb 512 (length ds) most, eq-eqb (length ds % 2) 1 h)

pub refused : {line : List ℕ} {r : Refusal} → Fault line r → judge line ≡ wrong r
refused {line} (no_start h) = without_start line h
refused {line} (no_digit place f) = let o = offended 83 line place f in ap judge o.starts ∙ judge_bad o.digits o.bad ∙ ap (λ (p : ℕ). wrong (contains_invalid_characters (named p))) (sym o.counts)
refused (no_type e) = ap judge e ∙ typeless
refused (type_unknown kind ds t u) = judge_unknown t (none_unnamed kind u)
refused (short kind n ds t w h) = judge_known t w ∙ few kind ds (let k = (wide_named w).1 in omega arith)
refused (long kind n ds t w h) = judge_known t w ∙ many kind ds (width_few kind).1 h
refused (odd kind n ds t w least most h) = judge_known t w ∙ uneven kind ds (let k = (wide_named w).1 in omega arith) most h
refused (sum_differs kind n ds bytes stated t w s least most h) = differing bytes stated t w s least most h
refused (length_differs kind count place payload check s h) =
    judged s ∙ fields_mislaid kind count (big_endian place) payload (λ e. h (let w = (wide_named s.wide).1 in omega arith))
refused (size_differs kind count place payload check s l z) =
    judged s ∙ fields_misfit kind count (big_endian place) payload (let w = (wide_named s.wide).1 in omega arith) (misfit kind (length payload) z)

-- a line is refused with a number up to 9
pub fault_few : {line : List ℕ} {r : Refusal} → Fault line r → number_of r ≤ 9
fault_few (no_start h) = omega arith
fault_few (no_digit place f) = omega arith
fault_few (no_type e) = omega arith
fault_few (type_unknown kind ds t u) = omega arith
fault_few (short kind n ds t w h) = omega arith
fault_few (long kind n ds t w h) = omega arith
fault_few (odd kind n ds t w least most h) = omega arith
fault_few (sum_differs kind n ds bytes stated t w s least most h) = omega arith
fault_few (length_differs kind count place payload check s h) = omega arith
fault_few (size_differs kind count place payload check s l z) = omega arith
