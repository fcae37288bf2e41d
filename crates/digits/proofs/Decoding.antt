-- The loop of `decode_pairs`: what holds at its head, that it holds at first and after a turn, and what it gives at each of its ends.
-- Assumes nothing.
use Rattle.std.proofs.Common.{◌≡◌, ℕ, zero, suc, ◌+◌, ◌*◌, ◌/◌, ◌%◌, ◌<◌, ◌≤◌, min, Bool, true, false, List, [], ◌∷◌, ◌++◌, length, get_or, take, drop, set, sym, refl, ap, ◌∙◌, add-one, arith, length-set, drop_of_length-le, length-take-le, take_all, take-suc, take_at}
use Rattle.checksum.specs.Checksum.{sum}
use Rattle.checksum.proofs.Laws.{sum_snoc}
use Rattle.digits.specs.Common.{pasted}
use Rattle.digits.specs.Digits.{digit, all_digits, leading, bytes}
use Rattle.digits.proofs.Pasting.{pasted_none, pasted_one, pasted_more}
use Rattle.digits.specs.Reading.{Decodable, pairs, led, Decoded}
use Rattle.digits.proofs.Leading.{lead_more, lead_found, found_other, found_all, leading_all}

-- ---- pairs

pub bytes_length : (ds : List ℕ) → length (bytes ds) ≡ length ds / 2
unfolding bytes
bytes_length [] = refl
bytes_length (a ∷ []) = omega arith
bytes_length (a ∷ b ∷ cs) = let e = bytes_length cs in omega arith

bytes_at : (ds : List ℕ) (i : ℕ) → 2 * i + 1 < length ds → get_or (bytes ds) i 0 ≡ digit (get_or ds (2 * i) 0) * 16 + digit (get_or ds (2 * i + 1) 0)
unfolding bytes
bytes_at [] i h = absurd (omega arith)
bytes_at (a ∷ []) i h = absurd (omega arith)
bytes_at (a ∷ b ∷ cs) zero h = refl
bytes_at (a ∷ b ∷ cs) (suc i) h =
    let e : 2 * suc i ≡ suc (suc (2 * i)) = omega arith in
    let f : 2 * suc i + 1 ≡ suc (suc (2 * i + 1)) = omega arith in
    rw (f, e) (bytes_at cs i (omega arith))

pub led_all : (ds : List ℕ) → all_digits ds ≡ true → led ds ≡ bytes ds
led_all ds d = let e = leading_all ds d in let n = bytes_length ds in take_all (leading ds / 2) (bytes ds) (omega arith)

-- where the pairs are whole and there is room for all, they are all characters
pub pairs_all : (ds : List ℕ) (room : ℕ) → length ds % 2 ≡ 0 → length ds ≤ 2 * room → pairs ds room ≡ ds
pairs_all ds room e h = take_all (2 * min (length ds / 2) room) ds (omega arith)

-- ---- the loop

-- where it is, at byte i
pub record Turn (ds buf₀ : List ℕ) (buf : List ℕ) (total i : ℕ) : Type 0 where
  pub inside : i ≤ length ds / 2
  pub same : length buf ≡ length buf₀
  pub leads : 2 * i + leading (drop (2 * i) ds) ≡ leading ds
  pub summed : total ≡ sum (take i (bytes ds)) % 256
  pub left : buf ≡ pasted buf₀ 0 (take i (bytes ds))

module _ (ds buf₀ : List ℕ) (ready : Decodable ds buf₀) where
  pub turn_first : Turn ds buf₀ buf₀ 0 0
  unfolding sum
  turn_first = record { inside = omega arith; same = refl; leads = omega arith; summed = refl; left = sym (pasted_none buf₀ 0) }

  -- the loop ends with so many digits passed
  ended : (buf : List ℕ) (total i good : ℕ) (whole : Bool) → Turn ds buf₀ buf total i → good ≡ leading ds → good / 2 ≡ i → whole ≡ all_digits ds
      → Decoded ds buf₀ whole total buf
  ended buf total i good whole t g h w =
      let k : i ≡ leading ds / 2 = omega arith in
      record { digits = w; sums = t.summed ∙ ap (λ (k : ℕ). sum (take k (bytes ds)) % 256) k; left = t.left ∙ ap (λ (k : ℕ). pasted buf₀ 0 (take k (bytes ds))) k }

  -- a character that is not a digit ends it
  stopped : (buf : List ℕ) (total i good : ℕ) → Turn ds buf₀ buf total i → good ≡ leading ds → good / 2 ≡ i → good < length ds
      → Decoded ds buf₀ false total buf
  stopped buf total i good t g h o = ended buf total i good false t g h (sym (found_other ds (omega arith)))

  module _ (buf : List ℕ) (total i high : ℕ) (t : Turn ds buf₀ buf total i) (h : i < length ds / 2) (eh : high ≡ digit (get_or ds (2 * i) 0)) where
    -- both characters of a byte are there
    pair_inside : 2 * i + 1 < length ds
    pair_inside = omega arith

    pub turn_high : 16 ≤ high → Decoded ds buf₀ false total buf
    turn_high b =
        stopped buf total i (2 * i) t (sym (lead_found ds (2 * i) (omega (arith, pair_inside)) (omega arith)) ∙ t.leads) (omega arith) (omega (arith, pair_inside))

    module _ (good : high < 16) (low : ℕ) (el : low ≡ digit (get_or ds (2 * i + 1) 0)) where
      -- the high digit is passed
      passed : (2 * i + 1) + leading (drop (2 * i + 1) ds) ≡ leading ds
      passed = lead_more ds (2 * i) (omega (arith, pair_inside)) (omega arith) ∙ t.leads

      pub turn_low : 16 ≤ low → Decoded ds buf₀ false total buf
      turn_low b = stopped buf total i (2 * i + 1) t (sym (lead_found ds (2 * i + 1) pair_inside (omega arith)) ∙ passed) (omega arith) pair_inside

      pub turn_more : low < 16 → (byte total' : ℕ) → byte ≡ (high * 16 + low) % 256 → total' ≡ (total + byte) % 256
          → Turn ds buf₀ (set buf i byte) total' (i + 1)
      turn_more b byte total' eb et =
          let room : length ds ≤ 2 * length buf₀ = ready.room in
          let n = bytes_length ds in
          let at : i < length (bytes ds) = omega arith in
          let here : get_or (bytes ds) i 0 ≡ byte = bytes_at ds i pair_inside ∙ omega arith in
          let more : take (i + 1) (bytes ds) ≡ take i (bytes ds) ++ (byte ∷ []) =
          ap (λ (k : ℕ). take k (bytes ds)) (add-one i) ∙ take-suc (bytes ds) i 0 at ∙ ap (λ (b : ℕ). take i (bytes ds) ++ (b ∷ [])) here in
          let len : length (take i (bytes ds)) ≡ i = length-take-le i (bytes ds) (omega arith) in
          let same : length buf ≡ length buf₀ = t.same in
          let two : 2 * (i + 1) ≡ 2 * i + 1 + 1 = omega arith in
          let was : total ≡ sum (take i (bytes ds)) % 256 = t.summed in
          let snoc = sum_snoc (take i (bytes ds)) byte in
          record {
            inside = omega arith;
            same = simp length-set t.same;
            leads = rw two (lead_more ds (2 * i + 1) pair_inside (omega arith) ∙ passed);
            summed = rw more (omega arith);
            left =
                pasted_more buf₀ 0 (take i (bytes ds)) (omega arith) (byte ∷ []) i t.left (omega arith) (pasted_one buf i byte (omega arith))
                ∙ ap (pasted buf₀ 0) (sym more);
          }

  pub turn_last : (buf : List ℕ) (total i : ℕ) → Turn ds buf₀ buf total i → length ds / 2 ≤ i → Decoded ds buf₀ true total buf
  unfolding leading
  turn_last buf total i t h =
      let e : length ds % 2 ≡ 0 = ready.even in
      let k : 2 * i ≡ length ds = omega (arith, t.inside) in
      let none : drop (2 * i) ds ≡ [] = drop_of_length-le ds {i = 2 * i} (omega arith) in
      let g : 2 * i + 0 ≡ leading ds = rw none at t.leads in
      ended buf total i (2 * i) true t (omega arith) (omega arith) (sym (found_all ds (omega arith)))

-- ---- what was decoded, where each character is a digit

pub decoded_all : {ds buf : List ℕ} {whole : Bool} {total : ℕ} {buf' : List ℕ} → Decoded ds buf whole total buf' → all_digits ds ≡ true
    → (take (length ds / 2) buf' ≡ bytes ds) × (total ≡ sum (bytes ds) % 256)
decoded_all {ds} {buf} {whole} {total} {buf'} x d = (
  ap (take (length ds / 2)) (x.left ∙ ap (pasted buf 0) (led_all ds d)) ∙ take_at (bytes ds) (drop (0 + length (bytes ds)) buf) (length ds / 2) (bytes_length ds),
  x.sums ∙ ap (λ (bs : List ℕ). sum bs % 256) (led_all ds d),
)
