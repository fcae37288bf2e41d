-- The judge, on the bytes as they lie in the buffer: they are laid out as a record's, so the laws of the format's layout apply.
-- Assumes nothing.
use Rattle.std.proofs.Common.{◌≡◌, ℕ, suc, ◌+◌, ◌-◌, ◌%◌, ◌<◌, ◌≤◌, true, false, ◌≢◌, List, [], ◌∷◌, ◌++◌, length, get_or, take, drop, sym, ap, ◌∙◌, arith, length-drop, get_or-drop, take-suc, take-add, eq-eqb, ne_eqb}
use Rattle.checksum.specs.Checksum.{sum, negated_sum}
use Rattle.checksum.proofs.Laws.{sum_snoc}
use Rattle.record.specs.Refusals.{checksum_mismatch, payload_length_mismatch, unsupported_record_type, invalid_length_for_type}
use Rattle.record.specs.Line.{says, wrong, size, fits, judge_fields, judge_bytes}
use Rattle.record.specs.Format.{layout}
use Rattle.digits.proofs.Parts.{part_length}
use Rattle.record.proofs.Judging.{judge_layout, fields_mislaid, fields_unknown, fields_misfit, fields_fit}
use Rattle.reader.specs.Answer.{word}
use Rattle.reader.specs.Helpers.{Summed}
use Rattle.reader.proofs.Decoding.{drop_two}

module _ (buf : List ℕ) (m total : ℕ) (summed : Summed buf m total) where
  abbrev pub payload : List ℕ
  payload = take (m - 5) (drop 4 buf)

  front : List ℕ
  front = get_or buf 0 0 ∷ get_or buf 1 0 ∷ get_or buf 2 0 ∷ get_or buf 3 0 ∷ payload

  laid_out : take m buf ≡ layout (get_or buf 0 0) (get_or buf 1 0) (get_or buf 2 0) (get_or buf 3 0) payload (get_or buf (m - 1) 0)
  laid_out =
      let least : 5 ≤ m = summed.least in
      let most : m ≤ 260 = summed.most in
      let room : 260 ≤ length buf = summed.room in
      let e : m ≡ 4 + suc (m - 5) = omega arith in
      let f : 4 + (m - 5) ≡ m - 1 = omega arith in
      let h : m - 5 < length (drop 4 buf) = omega (arith, length-drop 4 buf) in
      let four : take 4 buf ≡ get_or buf 0 0 ∷ get_or buf 1 0 ∷ get_or buf 2 0 ∷ get_or buf 3 0 ∷ [] =
      ap (take 4) (drop_two buf 0 (omega arith)) ∙ ap (λ (l : List ℕ). get_or buf 0 0 ∷ get_or buf 1 0 ∷ take 2 l) (drop_two buf 2 (omega arith)) in
      let last : get_or (drop 4 buf) (m - 5) 0 ≡ get_or buf (m - 1) 0 = get_or-drop 4 buf (m - 5) 0 ∙ ap (λ (k : ℕ). get_or buf k 0) f in
      ap (λ (k : ℕ). take k buf) e
      ∙ take-add 4 (suc (m - 5)) buf
      ∙ ap (λ (l : List ℕ). l ++ take (suc (m - 5)) (drop 4 buf)) four
      ∙ ap (λ (l : List ℕ). get_or buf 0 0 ∷ get_or buf 1 0 ∷ get_or buf 2 0 ∷ get_or buf 3 0 ∷ l)
      (take-suc (drop 4 buf) (m - 5) 0 h ∙ ap (λ (b : ℕ). take (m - 5) (drop 4 buf) ++ (b ∷ [])) last)

  all : total ≡ (sum front + get_or buf (m - 1) 0) % 256
  unfolding front
  all = summed.sums ∙ ap (λ (l : List ℕ). sum l % 256) laid_out ∙ ap (λ (k : ℕ). k % 256) (sum_snoc front (get_or buf (m - 1) 0))

  pub differs : (r : ℕ) → total ≢ 0 → (r + total) % 256 ≡ get_or buf (m - 1) 0 → r < 256
      → judge_bytes (take m buf) ≡ wrong (checksum_mismatch r (get_or buf (m - 1) 0))
  unfolding negated_sum front
  differs r z d small =
      let t = all in
      let c : negated_sum front ≡ r = omega arith in
      let ne : negated_sum front ≢ get_or buf (m - 1) 0 = λ q. z (omega arith) in
      ap judge_bytes laid_out
      ∙ judge_layout (get_or buf 0 0) (get_or buf 1 0) (get_or buf 2 0) (get_or buf 3 0) payload (get_or buf (m - 1) 0)
      ∙ rw (ne_eqb _ _ ne, c)

  pub agrees : total ≡ 0 → get_or buf (m - 1) 0 < 256
      → judge_bytes (take m buf) ≡ judge_fields (get_or buf 0 0) (word buf 1) (get_or buf 3 0) payload
  unfolding negated_sum front
  agrees z small =
      let t = all in
      let c : negated_sum front ≡ get_or buf (m - 1) 0 = omega arith in
      ap judge_bytes laid_out
      ∙ judge_layout (get_or buf 0 0) (get_or buf 1 0) (get_or buf 2 0) (get_or buf 3 0) payload (get_or buf (m - 1) 0)
      ∙ rw (eq-eqb _ _ c)

-- a type from 01 to 05 fits exactly its size
module _ (kind n : ℕ) (z : kind ≢ 0) where
  size_fits : size kind ≡ n → fits kind n ≡ true
  unfolding fits
  size_fits e = rw (ne_eqb kind 0 z) (eq-eqb n (size kind) (sym e))

  size_misfits : size kind ≢ n → fits kind n ≡ false
  unfolding fits
  size_misfits h = rw (ne_eqb kind 0 z) (ne_eqb n (size kind) (λ e. h (sym e)))

-- a data record may have any size
plain : (len address kind : ℕ) (payload' : List ℕ) → len ≡ length payload' → kind ≡ 0 → judge_fields len address kind payload' ≡ says 0 address payload'
unfolding judge_fields fits
plain len address kind payload' l z = rw (eq-eqb _ _ l, z)

-- where the checksum is right: the answers in their order
module _ (buf : List ℕ) (m total : ℕ) (summed : Summed buf m total) (zero : total ≡ 0) (small : get_or buf (m - 1) 0 < 256) where
  abbrev kind : ℕ
  kind = get_or buf 3 0

  bytes : List ℕ
  bytes = take (m - 5) (drop 4 buf)

  sized : length bytes ≡ m - 5
  unfolding bytes
  sized = let h = summed.room in let l = summed.least in let k = summed.most in part_length buf 4 (m - 5) (omega arith)

  fields : judge_bytes (take m buf) ≡ judge_fields (get_or buf 0 0) (word buf 1) kind bytes
  unfolding bytes
  fields = agrees buf m total summed zero small

  pub mislaid : get_or buf 0 0 ≢ m - 5 → judge_bytes (take m buf) ≡ wrong payload_length_mismatch
  mislaid h = fields ∙ fields_mislaid (get_or buf 0 0) (word buf 1) kind bytes (λ e. h (e ∙ sized))

  module _ (right : get_or buf 0 0 ≡ m - 5) where
    len : get_or buf 0 0 ≡ length bytes
    len = right ∙ sym sized

    pub says_data : kind ≡ 0 → judge_bytes (take m buf) ≡ says 0 (word buf 1) (take (m - 5) (drop 4 buf))
    unfolding bytes
    says_data z = fields ∙ plain (get_or buf 0 0) (word buf 1) kind bytes len z

    pub unknown : 5 < kind → judge_bytes (take m buf) ≡ wrong (unsupported_record_type kind)
    unknown h = fields ∙ fields_unknown (get_or buf 0 0) (word buf 1) kind bytes len h

    module _ (few : kind ≤ 5) (special : kind ≢ 0) where
      pub misfit : size kind ≢ length (take (m - 5) (drop 4 buf)) → judge_bytes (take m buf) ≡ wrong invalid_length_for_type
      unfolding bytes
      misfit h = fields ∙ fields_misfit (get_or buf 0 0) (word buf 1) kind bytes len few (size_misfits kind (length bytes) special h)

      pub says_special : size kind ≡ length (take (m - 5) (drop 4 buf)) → judge_bytes (take m buf) ≡ says kind (word buf 1) (take (m - 5) (drop 4 buf))
      unfolding bytes
      says_special e = fields ∙ fields_fit (get_or buf 0 0) (word buf 1) kind bytes len few (size_fits kind (length bytes) special e)
