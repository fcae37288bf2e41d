-- What the judge makes of a line whose parts are known: each test of the definition, with its meaning in the relations' terms.
-- Assumes nothing.
use Rattle.std.proofs.Common.{◌≡◌, ℕ, ◌+◌, ◌-◌, ◌*◌, ◌%◌, ◌≤◌, true, false, eqb, ◌≢◌, List, [], ◌∷◌, ◌++◌, length, get_or, take, drop, sym, refl, ap, ◌∙◌, arith, length-append, take-append-drop, length-take-le, take_at, drop_at, le-ltb, eq-eqb, ne_eqb}
use lib.Seq.{get_or_at}
use Rattle.std.specs.Prelude.{if◌then◌else◌}
use Rattle.record.specs.Refusals.{missing_start_code, checksum_mismatch, payload_length_mismatch, unsupported_record_type, invalid_length_for_type}
use Rattle.digits.specs.Digits.{all_digits, big_endian}
use Rattle.record.specs.Line.{says, wrong, invalid}
use Rattle.digits.specs.Hex.{Spells}
use Rattle.digits.proofs.Hex.{hex_digit, hex_every, spells_bytes, spells_length}
use Rattle.record.proofs.Judging.{ending}
use Rattle.srec.specs.Types.{is_named, width, fits}
use Rattle.srec.specs.Line.{complement_sum, count_of, least_digits, judge_fields, judge_bytes, judge_digits, judge_typed, judge}
use Rattle.srec.specs.Format.{Width, body, layout, Complements}
use Rattle.srec.specs.Faults.{Typed, SumsUp}
use Rattle.srec.proofs.Naming.{wide_named}

-- ---- fields

module _ (kind count address : ℕ) (payload : List ℕ) where
  pub fields_mislaid : count ≢ count_of kind payload → judge_fields kind count address payload ≡ wrong payload_length_mismatch
  unfolding judge_fields
  fields_mislaid h = rw (ne_eqb _ _ h)

  module _ (l : count ≡ count_of kind payload) where
    pub fields_misfit : fits kind (length payload) ≡ false → judge_fields kind count address payload ≡ wrong invalid_length_for_type
    unfolding judge_fields
    fields_misfit s = rw (eq-eqb _ _ l, s)

    pub fields_fit : fits kind (length payload) ≡ true → judge_fields kind count address payload ≡ says kind address payload
    unfolding judge_fields
    fields_fit s = rw (eq-eqb _ _ l, s)

-- ---- bytes

-- the bytes of a line, opened: the test of the checksum, then the fields
opened : (kind : ℕ) (front : List ℕ) (check : ℕ)
    → judge_bytes kind (front ++ (check ∷ []))
    ≡ (if eqb (complement_sum front) check
    then judge_fields kind (get_or (front ++ (check ∷ [])) 0 0) (big_endian (take (width kind) (drop 1 front))) (drop (width kind) (drop 1 front))
    else wrong (checksum_mismatch (complement_sum front) check))
unfolding judge_bytes
opened kind front check =
    let n : length (front ++ (check ∷ [])) - 1 ≡ length front = let l = length-append front (check ∷ []) in omega arith in
    rw (n, take_at front (check ∷ []) (length front) refl, get_or_at front check [] 0 (length front) refl)

-- the same, with the fields as they are laid out
pub judge_layout : (kind count : ℕ) (place payload : List ℕ) (check : ℕ) → length place ≡ width kind
    → judge_bytes kind (layout count place payload check)
    ≡ (if eqb (complement_sum (body count place payload)) check
    then judge_fields kind count (big_endian place) payload
    else wrong (checksum_mismatch (complement_sum (body count place payload)) check))
judge_layout kind count place payload check w =
    opened kind (body count place payload) check ∙ rw (take_at place payload (width kind) w, drop_at place payload (width kind) w)

module _ (bytes : List ℕ) (check : ℕ) where
  -- the checksum is right exactly if it and the sum's low byte make a byte of ones
  pub check_complements : check ≡ complement_sum bytes → Complements bytes check
  unfolding complement_sum
  check_complements e = omega arith

  pub complements_check : Complements bytes check → complement_sum bytes ≡ check
  unfolding complement_sum
  complements_check e = omega arith

-- bytes of n + 2 and more, taken apart into their fields
pub record Parts (n : ℕ) (bs : List ℕ) : Type 0 where
  pub count : ℕ
  pub place : List ℕ
  pub payload : List ℕ
  pub check : ℕ
  pub sized : length place ≡ n
  pub whole : bs ≡ layout count place payload check

pub parts : (n : ℕ) (bs : List ℕ) → n + 2 ≤ length bs → Parts n bs
parts n [] h = absurd (omega arith)
parts n (a ∷ []) h = absurd (omega arith)
parts n (a ∷ b ∷ bs) h =
    let t = ending b bs in
    let l : length (b ∷ bs) ≡ length t.front + 1 = ap length t.whole ∙ length-append t.front (t.final ∷ []) in
    record {
      count = a;
      place = take n t.front;
      payload = drop n t.front;
      check = t.final;
      sized = length-take-le n t.front (omega arith);
      whole = ap (λ (l : List ℕ). a ∷ l) (t.whole ∙ ap (λ (l : List ℕ). l ++ (t.final ∷ [])) (sym (take-append-drop n t.front)));
    }

-- ---- characters

pub judge_start : (cs : List ℕ) → judge (83 ∷ cs) ≡ (if all_digits cs then judge_typed cs else invalid cs)
unfolding judge
judge_start cs = refl

pub judge_other : (c : ℕ) (cs : List ℕ) → c ≢ 83 → judge (c ∷ cs) ≡ wrong missing_start_code
unfolding judge
judge_other c cs h = rw (ne_eqb c 83 h)

pub judge_good : (cs : List ℕ) → all_digits cs ≡ true → judge (83 ∷ cs) ≡ judge_typed cs
judge_good cs d = judge_start cs ∙ rw d

pub judge_bad : (cs : List ℕ) → all_digits cs ≡ false → judge (83 ∷ cs) ≡ invalid cs
judge_bad cs d = judge_start cs ∙ rw d

-- a line that starts with its type
module _ {line : List ℕ} {kind : ℕ} {ds : List ℕ} (t : Typed line kind ds) where
  typed_digits : judge line ≡ judge_typed (t.type_digit ∷ ds)
  typed_digits = ap judge t.starts ∙ judge_good (t.type_digit ∷ ds) (hex_every (t.type_digit ∷ ds) ((kind, t.typed), t.hex))

  pub judge_unknown : is_named kind ≡ false → judge line ≡ wrong (unsupported_record_type kind)
  unfolding judge_typed
  judge_unknown e = typed_digits ∙ rw (hex_digit t.typed, e)

  pub judge_known : {n : ℕ} → Width kind n → judge line ≡ judge_digits kind ds
  unfolding judge_typed
  judge_known w = typed_digits ∙ rw (hex_digit t.typed, (wide_named w).0)

pub judge_spelt : (kind n : ℕ) {ds bs : List ℕ} → width kind ≡ n → Spells ds bs → n + 2 ≤ length bs → length bs ≤ 256 → judge_digits kind ds ≡ judge_bytes kind bs
unfolding judge_digits
judge_spelt kind n {ds} {bs} w s least most =
    let m : length ds ≡ 2 * length bs = spells_length s in
    rw (
      le-ltb (length ds) (least_digits kind) (omega arith),
      le-ltb 512 (length ds) (omega arith),
      ne_eqb (length ds % 2) 1 (λ e. omega arith),
      spells_bytes s,
    )

-- a line that sums up is judged by its fields
pub judged : {line : List ℕ} {kind count : ℕ} {place payload : List ℕ} {check : ℕ}
    → SumsUp line kind count place payload check → judge line ≡ judge_fields kind count (big_endian place) payload
judged {line} {kind} {count} {place} {payload} {check} s =
    let w = wide_named s.wide in
    let n = length-append place payload in
    let m = length-append (body count place payload) (check ∷ []) in
    let e : eqb (complement_sum (body count place payload)) check ≡ true = eq-eqb _ _ (complements_check (body count place payload) check s.sums) in
    judge_known s.typed s.wide
    ∙ judge_spelt kind (length place) w.1 s.spells (omega arith) s.most
    ∙ judge_layout kind count place payload check (sym w.1)
    ∙ rw e
