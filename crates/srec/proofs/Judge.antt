-- The judge, on the bytes as they lie in the buffer: they are laid out as a record's, so the laws of the format's layout apply.
-- Assumes nothing.
use Rattle.std.proofs.Common.{◌≡◌, ℕ, suc, ◌+◌, ◌-◌, ◌%◌, ◌<◌, ◌≤◌, true, ltb, ◌≢◌, List, [], ◌∷◌, ◌++◌, length, get_or, take, drop, sym, ap, ◌∙◌, ap₂, arith, drop-cons, take-suc, drop-drop, take-add, le-ltb, lt-ltb, eq-eqb, ne_eqb}
use Rattle.checksum.specs.Checksum.{sum}
use Rattle.checksum.proofs.Laws.{sum_snoc}
use Rattle.record.specs.Refusals.{checksum_mismatch, payload_length_mismatch, invalid_length_for_type}
use Rattle.digits.specs.Digits.{big_endian}
use Rattle.record.specs.Line.{says, wrong}
use Rattle.digits.proofs.Tests.{or_true}
use Rattle.digits.proofs.Parts.{part_length}
use Rattle.srec.specs.Types.{width, fits}
use Rattle.srec.specs.Line.{complement_sum, count_of, judge_fields, judge_bytes}
use Rattle.srec.specs.Format.{body, layout}
use Rattle.srec.specs.Helpers.{Summed}
use Rattle.srec.proofs.Judging.{judge_layout, fields_mislaid, fields_misfit, fields_fit}

-- the address and the data of m bytes in a buffer
abbrev pub place_in : (w : ℕ) (buf : List ℕ) → List ℕ
place_in w buf = take w (drop 1 buf)

abbrev pub data_in : (w : ℕ) (buf : List ℕ) (m : ℕ) → List ℕ
data_in w buf m = take (m - 1 - w - 1) (drop (1 + w) buf)

module _ (kind : ℕ) (buf : List ℕ) (m total : ℕ) (s : Summed kind buf m total) where
  pub data_length : length (data_in (width kind) buf m) ≡ m - 1 - width kind - 1
  data_length = part_length buf (1 + width kind) (m - 1 - width kind - 1) (omega (arith, s.least, s.most, s.room))

  place_length : length (place_in (width kind) buf) ≡ width kind
  place_length = part_length buf 1 (width kind) (omega (arith, s.least, s.most, s.room))

  front : List ℕ
  front = body (get_or buf 0 0) (place_in (width kind) buf) (data_in (width kind) buf m)

  laid_out : take m buf ≡ layout (get_or buf 0 0) (place_in (width kind) buf) (data_in (width kind) buf m) (get_or buf (m - 1) 0)
  laid_out =
      let least : width kind + 2 ≤ m = s.least in
      let most : m ≤ 256 = s.most in
      let room : 256 ≤ length buf = s.room in
      let w = width kind in
      let n = m - 1 - w - 1 in
      let e : m ≡ suc (m - 1) = omega arith in
      let f : m - 1 ≡ suc (w + n) = omega arith in
      let h : m - 1 < length buf = omega arith in
      let z : 0 < length buf = omega arith in
      ap (λ (k : ℕ). take k buf) e
      ∙ take-suc buf (m - 1) 0 h
      ∙ ap (λ (l : List ℕ). l ++ (get_or buf (m - 1) 0 ∷ []))
      (ap (λ (k : ℕ). take k buf) f
      ∙ ap (take (suc (w + n))) (drop-cons buf 0 0 z)
      ∙ ap (λ (l : List ℕ). get_or buf 0 0 ∷ l) (take-add w n (drop 1 buf) ∙ ap (λ (l : List ℕ). take w (drop 1 buf) ++ take n l) (drop-drop w 1 buf)))

  all : total ≡ (sum front + get_or buf (m - 1) 0) % 256
  unfolding front
  all = s.sums ∙ ap (λ (l : List ℕ). sum l % 256) laid_out ∙ ap (λ (k : ℕ). k % 256) (sum_snoc front (get_or buf (m - 1) 0))

  pub differs : (r : ℕ) → total ≢ 255 → (r + get_or buf (m - 1) 0) % 256 ≡ total → r < 256 → get_or buf (m - 1) 0 < 256
      → judge_bytes kind (take m buf) ≡ wrong (checksum_mismatch (255 - r) (get_or buf (m - 1) 0))
  unfolding complement_sum front
  differs r z d small last =
      let t = all in
      let c : complement_sum front ≡ 255 - r = omega arith in
      let ne : complement_sum front ≢ get_or buf (m - 1) 0 = λ q. z (omega arith) in
      ap (judge_bytes kind) laid_out
      ∙ judge_layout kind (get_or buf 0 0) (place_in (width kind) buf) (data_in (width kind) buf m) (get_or buf (m - 1) 0) place_length
      ∙ rw (ne_eqb _ _ ne, c)

  pub agrees : total ≡ 255 → get_or buf (m - 1) 0 < 256
      → judge_bytes kind (take m buf) ≡ judge_fields kind (get_or buf 0 0) (big_endian (place_in (width kind) buf)) (data_in (width kind) buf m)
  unfolding complement_sum front
  agrees z small =
      let t = all in
      let c : complement_sum front ≡ get_or buf (m - 1) 0 = omega arith in
      ap (judge_bytes kind) laid_out
      ∙ judge_layout kind (get_or buf 0 0) (place_in (width kind) buf) (data_in (width kind) buf m) (get_or buf (m - 1) 0) place_length
      ∙ rw (eq-eqb _ _ c)

  -- what the code's tests decide, with w the address's size
  module _ (w : ℕ) (ew : w ≡ width kind) (z : total ≡ 255) (small : get_or buf (m - 1) 0 < 256) where
    size : length (data_in w buf m) ≡ m - 1 - w - 1
    size = rw ew data_length

    opened : judge_bytes kind (take m buf) ≡ judge_fields kind (get_or buf 0 0) (big_endian (place_in w buf)) (data_in w buf m)
    opened = rw ew (agrees z small)

    counts : get_or buf 0 0 ≡ m - 1 → get_or buf 0 0 ≡ count_of kind (data_in w buf m)
    counts e = omega (arith, size, s.least)

    pub said_mislaid : get_or buf 0 0 ≢ m - 1 → judge_bytes kind (take m buf) ≡ wrong payload_length_mismatch
    said_mislaid h = opened ∙ fields_mislaid kind (get_or buf 0 0) (big_endian (place_in w buf)) (data_in w buf m) (λ e. h (omega (arith, size, s.least)))

    pub said_misfit : get_or buf 0 0 ≡ m - 1 → 4 ≤ kind → m - 1 - w - 1 ≢ 0 → judge_bytes kind (take m buf) ≡ wrong invalid_length_for_type
    said_misfit e k h =
        opened
        ∙ fields_misfit kind (get_or buf 0 0) (big_endian (place_in w buf)) (data_in w buf m) (counts e)
        (rw (le-ltb kind 4 k) (ne_eqb _ _ (λ q. h (sym size ∙ q))))

    module _ (d a : ℕ) (ed : d ≡ kind) (ea : a ≡ big_endian (place_in w buf)) (e : get_or buf 0 0 ≡ m - 1) where
      fit : fits kind (length (data_in w buf m)) ≡ true → judge_bytes kind (take m buf) ≡ says d a (data_in w buf m)
      fit f = opened ∙ fields_fit kind (get_or buf 0 0) (big_endian (place_in w buf)) (data_in w buf m) (counts e) f ∙ ap₂ (λ (x y : ℕ). says x y (data_in w buf m)) (sym ed) (sym ea)

      pub said_data : kind < 4 → judge_bytes kind (take m buf) ≡ says d a (data_in w buf m)
      said_data k = fit (rw (lt-ltb kind 4 k))

      pub said_bare : m - 1 - w - 1 ≡ 0 → judge_bytes kind (take m buf) ≡ says d a (data_in w buf m)
      said_bare h = fit (rw (size ∙ h) (or_true (ltb kind 4)))
