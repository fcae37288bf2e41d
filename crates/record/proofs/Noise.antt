-- What noise can do to a line that says a record.
-- Assumes nothing.
use Prim.Native.Nat.{ℕ, zero, suc, ◌+◌, ◌*◌, ◌%◌, ◌<◌, ◌≤◌}
use mathlib.Core.Path.{◌≡◌, refl, sym, ◌∙◌, ap, ap₂, subst}
use mathlib.Core.Logic.{◌≢◌, ◌⊎◌, inl, inr}
use mathlib.Core.List.{List, [], ◌∷◌, ◌++◌, head-eq_of_cons-eq, tail-eq_of_cons-eq}
use native.Mathlib.Omega.{arith}
use native.Mathlib.Decide.{ℕ_discrete}
use lib.ListN.{length, get_or, length-append}
use lib.Seq.{get_or-append_seam}
use Rattle.checksum.specs.Checksum.{sum, negated_sum}
use Rattle.checksum.proofs.Laws.{sum_snoc}
use Rattle.digits.specs.Common.{Every}
use Rattle.record.specs.Refusals.{Refusal, contains_invalid_characters, checksum_mismatch}
use Rattle.digits.specs.Digits.{digit, bytes}
use Rattle.record.specs.Line.{Said, says, wrong, judge}
use Rattle.record.specs.Format.{layout, Format}
use Rattle.digits.specs.Hex.{Hex, decimal, capital, small, Spells, none, more, IsHex}
use Rattle.record.specs.Faults.{FirstOffender, no_digit, sum_differs}
use Rattle.record.specs.Noise.{SaysARecord, TwoCases, lowered, raised, AnswerToWrong, colon_gone, digit_gone, other_value, other_case, OneWrongCharacter, OneAnswerToWrong, no_slip, one_changed, one_lost, one_added, two_swapped, OneSlip, OneMoreCharacter, NoRecordGoesOn}
use Rattle.digits.proofs.Parts.{none_left, every_front, every_after}
use Rattle.digits.proofs.Hex.{hex_digit, hex_small, hex_or_none, spells_digits, every_hex, spells_length, spells_bytes, first_small}
use Rattle.record.proofs.Judging.{ending, judge_other}
use Rattle.record.proofs.Standing.{admitted, refused}
use Rattle.record.proofs.Claims.{admits}
use Rattle.digits.proofs.Claims.{named_as}
use Rattle.record.proofs.Respelling.{not_both, Respelt, own, respelt, swapped}

-- ---- bytes that do not sum to zero: refusal 6

record Mismatch (ds : List ℕ) : Type 0 where
  body : List ℕ
  stated : ℕ
  spells : Spells ds (body ++ (stated ∷ []))
  judged : judge (58 ∷ ds) ≡ wrong (checksum_mismatch (negated_sum body) stated)

mismatch : (ds bytes : List ℕ) → Spells ds bytes → 5 ≤ length bytes → length bytes ≤ 260 → sum bytes % 256 ≢ 0 → Mismatch ds
unfolding negated_sum
mismatch ds [] s l m n = absurd (omega arith)
mismatch ds (b ∷ bs) s l m n =
    let t = ending b bs in
    let k : length (b ∷ bs) ≡ length t.front + 1 = ap length t.whole ∙ length-append t.front (t.final ∷ []) in
    let u : sum (b ∷ bs) ≡ sum t.front + t.final = ap sum t.whole ∙ sum_snoc t.front t.final in
    let ne : t.final ≢ negated_sum t.front = λ e. n (omega arith) in
    let w = subst (Spells ds) t.whole s in
    record {
      body = t.front;
      stated = t.final;
      spells = w;
      judged = refused (sum_differs ds t.front t.final refl w (omega arith) (omega arith) ne);
    }

-- ---- a line that says a record

module _ (kind address : ℕ) (payload : List ℕ) where
  abbrev bytes_of : {line : List ℕ} → Format line kind address payload → List ℕ
  bytes_of f = layout (length payload) f.high f.low kind payload f.check

  -- what the judge makes of it when its digits spell other bytes
  module _ {line : List ℕ} (f : Format line kind address payload) (x y : ℕ) (ds : List ℕ) (r : Respelt x y ds (bytes_of f)) where
    as_before : x ≡ y → judge (58 ∷ ds) ≡ says kind address payload
    as_before e =
        admitted (record {
          digits = ds;
          high = f.high;
          low = f.low;
          check = f.check;
          starts = refl;
          spells = subst (Spells ds) (r.same e) r.spells;
          addressed = f.addressed;
          sums = f.sums;
          sized = f.sized;
        })

    sum_off : x ≢ y → Mismatch ds
    sum_off n =
        let l = length-append payload (f.check ∷ []) in
        let k = first_small f.spells in
        mismatch ds r.bytes' r.spells (omega (arith, r.as_many)) (omega (arith, r.as_many))
        (not_both r.apart r.first_digit r.second_digit n f.sums)

-- ---- the two cases of a letter

-- they have one value
case_digit : {c d : ℕ} → IsHex c → TwoCases c d → Hex d (digit c)
case_digit (x, decimal e l) (lowered a b q) = absurd (omega arith)
case_digit (x, decimal e l) (raised a b q) = absurd (omega arith)
case_digit (x, capital e l m) (lowered a b q) = let i = hex_digit (capital e l m) in small (omega arith) (omega arith) (omega arith)
case_digit (x, capital e l m) (raised a b q) = absurd (omega arith)
case_digit (x, small e l m) (lowered a b q) = absurd (omega arith)
case_digit (x, small e l m) (raised a b q) = let i = hex_digit (small e l m) in capital (omega arith) (omega arith) (omega arith)

-- and one value in two characters is a letter in its two cases
digit_case : {c d x y : ℕ} → c ≢ d → x ≡ y → Hex c x → Hex d y → TwoCases c d
digit_case n e (decimal p l) (decimal q k) = absurd (n (omega arith))
digit_case n e (decimal p l) (capital q k m) = absurd (omega arith)
digit_case n e (decimal p l) (small q k m) = absurd (omega arith)
digit_case n e (capital p k m) (decimal q l) = absurd (omega arith)
digit_case n e (capital p k m) (capital q k' m') = absurd (n (omega arith))
digit_case n e (capital p k m) (small q k' m') = lowered (omega arith) (omega arith) (omega arith)
digit_case n e (small p k m) (decimal q l) = absurd (omega arith)
digit_case n e (small p k m) (capital q k' m') = raised (omega arith) (omega arith) (omega arith)
digit_case n e (small p k m) (small q k' m') = absurd (n (omega arith))

-- ---- one wrong character

-- after digits, the first character that is not one is the first offender
offends_there : (before : List ℕ) (d : ℕ) (after : List ℕ) → Every IsHex before → ¬ IsHex d
    → FirstOffender (58 ∷ (before ++ (d ∷ after))) (suc (length before))
offends_there before d after h n =
    record {
      starts = refl;
      behind = omega arith;
      inside = omega (arith, length-append before (d ∷ after));
      offends = λ x. n (subst IsHex (get_or-append_seam before d after 0) x);
      least = least before h;
    }
  where
    least : (b : List ℕ) → Every IsHex b → (i : ℕ) → 0 < i → i < length (58 ∷ (b ++ (d ∷ after))) → ¬ IsHex (get_or (58 ∷ (b ++ (d ∷ after))) i 0) → suc (length b) ≤ i
    least [] e zero z k m = absurd (omega arith)
    least [] e (suc i) z k m = omega arith
    least (x ∷ b) (e, es) zero z k m = absurd (omega arith)
    least (x ∷ b) (e, es) (suc zero) z k m = absurd (m e)
    least (x ∷ b) (e, es) (suc (suc i)) z k m = omega (arith, least b es (suc i) (omega arith) (omega arith) m)

module _ (kind address : ℕ) (payload : List ℕ) where
  abbrev Answers : (position c d : ℕ) (line : List ℕ) → Type 0
  Answers position c d line = AnswerToWrong wrong (says kind address payload) position c d line (judge line)

  -- that answer, by what the judge says
  by_judge : {position c d : ℕ} (line : List ℕ) {s : Said} → AnswerToWrong wrong (says kind address payload) position c d line s → judge line ≡ s → Answers position c d line
  by_judge {position} {c} {d} line a e = subst (λ (s : Said). AnswerToWrong wrong (says kind address payload) position c d line s) (sym e) a

  at_colon : (c d : ℕ) (after : List ℕ) → Format (c ∷ after) kind address payload → c ≢ d → Answers 0 c d (d ∷ after)
  unfolding judge
  at_colon c d after f n = by_judge (d ∷ after) (colon_gone refl) (judge_other d after (λ q. n (head-eq_of_cons-eq f.starts ∙ sym q)))

  module _ (before : List ℕ) (c d : ℕ) (after : List ℕ) (f : Format (58 ∷ (before ++ (c ∷ after))) kind address payload) (n : c ≢ d) where
    abbrev ds : List ℕ
    ds = before ++ (d ∷ after)

    spells : Spells (before ++ (c ∷ after)) (bytes_of kind address payload f)
    spells = subst (λ (l : List ℕ). Spells l (bytes_of kind address payload f)) (sym (tail-eq_of_cons-eq f.starts)) f.spells

    all_digits : Every IsHex (before ++ (c ∷ after))
    all_digits = every_hex (before ++ (c ∷ after)) (spells_digits spells)

    -- a line is far shorter than 65,535, so refusal 2 names the position as it is
    bad : ¬ IsHex d → judge (58 ∷ ds) ≡ wrong (contains_invalid_characters (suc (length before)))
    bad h =
        let k = spells_length spells in
        let l = length-append before (c ∷ after) in
        let m = length-append payload (f.check ∷ []) in
        let t = first_small f.spells in
        refused (no_digit (suc (length before)) (offends_there before d after (every_front IsHex before (c ∷ after) all_digits) h))
        ∙ ap (λ (p : ℕ). wrong (contains_invalid_characters p)) ((named_as (suc (length before))).0 (omega arith))

    after_colon : Answers (suc (length before)) c d (58 ∷ ds)
    after_colon = go (hex_or_none d)
      where
        by_value : Hex c (digit c) → Hex d (digit d) → Dec (digit c ≡ digit d) → Answers (suc (length before)) c d (58 ∷ ds)
        by_value g h (yes z) =
            by_judge (58 ∷ ds) (other_case (omega arith) (digit c, g) (digit_case n z g h)) (as_before kind address payload f _ _ ds (respelt before c d after h spells) z)
        by_value g h (no m) =
            let t = sum_off kind address payload f _ _ ds (respelt before c d after h spells) m in
            by_judge (58 ∷ ds) (other_value (omega arith) (digit c) (digit d) g h m ds t.body t.stated refl t.spells) t.judged

        go : Hex d (digit d) ⊎ (digit d ≡ 16) → Answers (suc (length before)) c d (58 ∷ ds)
        go (inl h) = let ((x, g), rest) = every_after IsHex before (c ∷ after) all_digits in by_value (own g) h (ℕ_discrete (digit c) (digit d))
        go (inr z) =
            let m : ¬ IsHex d = λ x. let (v, h) = x in omega (arith, hex_digit h, hex_small h) in
            by_judge (58 ∷ ds) (digit_gone (omega arith) m) (bad m ∙ ap (λ (p : ℕ). wrong (contains_invalid_characters p)) (omega arith))

  anywhere : (before : List ℕ) (c d : ℕ) (after : List ℕ) → Format (before ++ (c ∷ after)) kind address payload → c ≢ d → Answers (length before) c d (before ++ (d ∷ after))
  anywhere [] c d after f n = at_colon c d after f n
  anywhere (b ∷ before) c d after f n =
      let e : b ≡ 58 = head-eq_of_cons-eq f.starts in
      rw e (after_colon before c d after (subst (λ (x : ℕ). Format (x ∷ (before ++ (c ∷ after))) kind address payload) e f) n)

pub one_wrong_character : OneWrongCharacter
one_wrong_character before c d after kind address payload n e =
    anywhere kind address payload before c d after ((admits (before ++ (c ∷ after)) kind address payload).0 e) n

-- ---- one answer

-- the last of two rows that are equal, and what stands before it
last_same : (xs ys : List ℕ) (a b : ℕ) → xs ++ (a ∷ []) ≡ ys ++ (b ∷ []) → (xs ≡ ys) × (a ≡ b)
last_same [] [] a b e = (refl, head-eq_of_cons-eq e)
last_same [] (y ∷ ys) a b e = absurd (omega (arith, ap length (tail-eq_of_cons-eq e), length-append ys (b ∷ [])))
last_same (x ∷ xs) [] a b e = absurd (omega (arith, ap length (tail-eq_of_cons-eq e), length-append xs (a ∷ [])))
last_same (x ∷ xs) (y ∷ ys) a b e =
    let (p, q) = last_same xs ys a b (tail-eq_of_cons-eq e) in
    (ap₂ (λ (z : ℕ) (zs : List ℕ). z ∷ zs) (head-eq_of_cons-eq e) p, q)

same_end : {ds ds' : List ℕ} (body body' : List ℕ) (stated stated' : ℕ) → ds ≡ ds' → Spells ds (body ++ (stated ∷ [])) → Spells ds' (body' ++ (stated' ∷ []))
    → (body ≡ body') × (stated ≡ stated')
same_end {ds} {ds'} body body' stated stated' e s t =
    last_same body body' stated stated' (sym (spells_bytes s) ∙ ap bytes e ∙ spells_bytes t)

-- a letter in its other case is a digit of the same value
no_other_value : {c d x y : ℕ} → IsHex c → TwoCases c d → Hex c x → Hex d y → x ≡ y
no_other_value i t g h = omega (arith, hex_digit g, hex_digit h, hex_digit (case_digit i t))

pub one_answer_to_wrong : OneAnswerToWrong
one_answer_to_wrong A refuse same position c d line a a' (colon_gone e) (colon_gone e') = refl
one_answer_to_wrong A refuse same position c d line a a' (colon_gone e) (digit_gone h n) = absurd (omega arith)
one_answer_to_wrong A refuse same position c d line a a' (colon_gone e) (other_value h x y g k n ds body stated s t) = absurd (omega arith)
one_answer_to_wrong A refuse same position c d line a a' (colon_gone e) (other_case h i t) = absurd (omega arith)
one_answer_to_wrong A refuse same position c d line a a' (digit_gone h n) (colon_gone e) = absurd (omega arith)
one_answer_to_wrong A refuse same position c d line a a' (digit_gone h n) (digit_gone h' n') = refl
one_answer_to_wrong A refuse same position c d line a a' (digit_gone h n) (other_value h' x y g k m ds body stated s t) = absurd (n (y, k))
one_answer_to_wrong A refuse same position c d line a a' (digit_gone h n) (other_case h' i t) = absurd (n (digit c, case_digit i t))
one_answer_to_wrong A refuse same position c d line a a' (other_value h x y g k m ds body stated s t) (colon_gone e) = absurd (omega arith)
one_answer_to_wrong A refuse same position c d line a a' (other_value h x y g k m ds body stated s t) (digit_gone h' n) = absurd (n (y, k))
one_answer_to_wrong A refuse same position c d line a a' (other_value h x y g k m ds body stated s t) (other_value h' x' y' g' k' m' ds' body' stated' s' t') =
    let (p, q) = same_end body body' stated stated' (tail-eq_of_cons-eq (sym s ∙ s')) t t' in
    ap₂ (λ (b : List ℕ) (z : ℕ). refuse (checksum_mismatch (negated_sum b) z)) p q
one_answer_to_wrong A refuse same position c d line a a' (other_value h x y g k m ds body stated s t) (other_case h' i u) = absurd (m (no_other_value i u g k))
one_answer_to_wrong A refuse same position c d line a a' (other_case h i t) (colon_gone e) = absurd (omega arith)
one_answer_to_wrong A refuse same position c d line a a' (other_case h i t) (digit_gone h' n) = absurd (n (digit c, case_digit i t))
one_answer_to_wrong A refuse same position c d line a a' (other_case h i t) (other_value h' x y g k m ds body stated s u) = absurd (m (no_other_value i t g k))
one_answer_to_wrong A refuse same position c d line a a' (other_case h i t) (other_case h' i' t') = refl

-- ---- lengths

-- a line's length, from its payload's
pub format_length : {line : List ℕ} {kind address : ℕ} {payload : List ℕ} → Format line kind address payload → length line ≡ 11 + 2 * length payload
format_length {line} {kind} {address} {payload} f =
    omega (arith, ap length f.starts, spells_length f.spells, length-append payload (f.check ∷ []))

-- odd, and eleven at least
pub odd_length : (line : List ℕ) → SaysARecord line → (n : ℕ) × (length line ≡ 11 + 2 * n)
odd_length line (kind, address, payload, e) = (length payload, format_length ((admits line kind address payload).0 e))

pub one_more_character : OneMoreCharacter
one_more_character before c after s t =
    let (m, e) = odd_length (before ++ (c ∷ after)) s in
    let (n, f) = odd_length (before ++ after) t in
    omega (arith, length-append before (c ∷ after), length-append before after)

-- the length byte says where a record ends
first_byte : (m : List ℕ) {ds bs bs' : List ℕ} {b b' : ℕ} → Spells ds (b ∷ bs) → Spells (ds ++ m) (b' ∷ bs') → b ≡ b'
first_byte m (more p q e s) (more p' q' e' s') = omega (arith, hex_digit p, hex_digit q, hex_digit p', hex_digit q')

pub no_record_goes_on : NoRecordGoesOn
no_record_goes_on line m (kind, address, payload, e) (kind', address', payload', e') =
    let f = (admits line kind address payload).0 e in
    let g = (admits (line ++ m) kind' address' payload').0 e' in
    let same : f.digits ++ m ≡ g.digits = tail-eq_of_cons-eq (ap (λ (l : List ℕ). l ++ m) (sym f.starts) ∙ g.starts) in
    let s : Spells (f.digits ++ m) (bytes_of kind' address' payload' g) = rw same g.spells in
    let p : length payload ≡ length payload' = first_byte m f.spells s in
    none_left m (omega (arith, format_length f, format_length g, length-append line m))

-- ---- one slip

never_both : {r : Refusal} {kind address : ℕ} {payload : List ℕ} → wrong r ≢ says kind address payload
never_both q = let z : ◌≡◌ {A = ℕ} 0 1 = cc in omega arith

unsaid : {ds : List ℕ} {kind address : ℕ} {payload : List ℕ} → Mismatch ds → judge (58 ∷ ds) ≢ says kind address payload
unsaid m e = never_both (sym m.judged ∙ e)

-- a wrong character after which the line still says a record
said_same : {position c d : ℕ} {line : List ℕ} {s same : Said} {kind address : ℕ} {payload : List ℕ}
    → AnswerToWrong wrong same position c d line s → s ≡ says kind address payload → s ≡ same
said_same (colon_gone e) q = absurd (never_both q)
said_same (digit_gone h n) q = absurd (never_both q)
said_same (other_value h x y g k n _ body stated e s) q = absurd (never_both q)
said_same (other_case h i t) q = refl

changed_says : (before : List ℕ) (c d : ℕ) (after : List ℕ) → SaysARecord (before ++ (c ∷ after)) → SaysARecord (before ++ (d ∷ after))
    → judge (before ++ (c ∷ after)) ≡ judge (before ++ (d ∷ after))
changed_says before c d after (kind, address, payload, e) (kind', address', payload', e') =
    elim (ℕ_discrete c d) [
      | yes z ↦ ap (λ (x : ℕ). judge (before ++ (x ∷ after))) z
      | no n ↦ e ∙ sym (said_same (one_wrong_character before c d after kind address payload n e) e')
    ]

swapped_says : (before : List ℕ) (c d : ℕ) (after : List ℕ) → SaysARecord (before ++ (c ∷ d ∷ after)) → SaysARecord (before ++ (d ∷ c ∷ after))
    → judge (before ++ (c ∷ d ∷ after)) ≡ judge (before ++ (d ∷ c ∷ after))
swapped_says [] c d after (kind, address, payload, e) (kind', address', payload', e') =
    let f = (admits (c ∷ d ∷ after) kind address payload).0 e in
    let g = (admits (d ∷ c ∷ after) kind' address' payload').0 e' in
    let z : c ≡ d = head-eq_of_cons-eq f.starts ∙ sym (head-eq_of_cons-eq g.starts) in
    ap₂ (λ (x y : ℕ). judge (x ∷ y ∷ after)) z (sym z)
swapped_says (b ∷ before) c d after (kind, address, payload, e) (kind', address', payload', e') =
    let f = (admits (b ∷ (before ++ (c ∷ d ∷ after))) kind address payload).0 e in
    let colon : b ≡ 58 = head-eq_of_cons-eq f.starts in
    let spells = subst (λ (l : List ℕ). Spells l (bytes_of kind address payload f)) (sym (tail-eq_of_cons-eq f.starts)) f.spells in
    let r = swapped before c d after spells in
    let ds = before ++ (d ∷ c ∷ after) in
    let line : judge (b ∷ ds) ≡ judge (58 ∷ ds) = ap (λ (x : ℕ). judge (x ∷ ds)) colon in
    elim (ℕ_discrete (digit c) (digit d)) [
      | yes z ↦ e ∙ sym (line ∙ as_before kind address payload f _ _ ds r z)
      | no n ↦ absurd (unsaid (sum_off kind address payload f _ _ ds r n) (sym line ∙ e'))
    ]

pub one_slip : OneSlip
one_slip line line' no_slip s t = refl
one_slip line line' (one_changed before c d after) s t = changed_says before c d after s t
one_slip line line' (one_lost before c after) s t = absurd (one_more_character before c after s t)
one_slip line line' (one_added before c after) s t = absurd (one_more_character before c after t s)
one_slip line line' (two_swapped before c d after) s t = swapped_says before c d after s t

-- ---- characters

-- a colon and digits: none is below 48
hex_least : {c x : ℕ} → Hex c x → 48 ≤ c
hex_least (decimal e h) = omega arith
hex_least (capital e l h) = omega arith
hex_least (small e l h) = omega arith

spells_least : {ds bs : List ℕ} → Spells ds bs → Every (λ (c : ℕ). 48 ≤ c) ds
spells_least none = tt
spells_least (more p q e s) = (hex_least p, (hex_least q, spells_least s))

pub characters : (line : List ℕ) → SaysARecord line → Every (λ (c : ℕ). 48 ≤ c) line
characters line (kind, address, payload, e) =
    let f = (admits line kind address payload).0 e in
    rw f.starts (omega arith, spells_least f.spells)

-- ---- the same answer in other words

pub answer_by : {A B : Type 0} (f : A → B) {refuse : Refusal → A} {same a : A} {position c d : ℕ} {line : List ℕ}
    → AnswerToWrong refuse same position c d line a → AnswerToWrong (λ (r : Refusal). f (refuse r)) (f same) position c d line (f a)
answer_by f (colon_gone e) = colon_gone e
answer_by f (digit_gone h n) = digit_gone h n
answer_by f (other_value h x y g k n ds body stated e s) = other_value h x y g k n ds body stated e s
answer_by f (other_case h i t) = other_case h i t
