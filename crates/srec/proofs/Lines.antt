-- A line is put row by row: its S and type, its count, its address and its data two digits a byte, its checksum.
-- Assumes nothing.
use Rattle.std.proofs.Common.{◌≡◌, ℕ, ◌+◌, ◌-◌, ◌*◌, ◌/◌, ◌%◌, ◌<◌, ◌≤◌, List, [], ◌∷◌, ◌++◌, length, set, sym, ap, ◌∙◌, arith, length-append, w32}
use Rattle.std.specs.Int.{to_be_bytes}
use Rattle.checksum.specs.Checksum.{sum}
use Rattle.checksum.proofs.Laws.{sum_append}
use Rattle.digits.specs.Common.{pasted}
use Rattle.digits.specs.Spelling.{spelt}
use Rattle.digits.proofs.Spelt.{spelt_length, spelt_append}
use Rattle.digits.proofs.Pasting.{pasted_two, pasted_more}
use Rattle.record.specs.Written.{four_bytes}
use Rattle.srec.specs.Types.{width}
use Rattle.srec.specs.Line.{complement_sum, count_of}
use Rattle.srec.specs.Format.{body}
use Rattle.srec.specs.Written.{in_bytes, written}
use Rattle.srec.specs.Helpers.{Row, Fitting}
use Rattle.srec.proofs.Writing.{address_length}

-- an address's four bytes, high byte first
pub four_are : (a : ℕ) → a < 4294967296 → to_be_bytes w32 a ≡ four_bytes a
four_are a small =
    let p : a / 16777216 % 256 ≡ a / 65536 / 256 = omega arith in
    let r : a / 256 % 256 ≡ a % 65536 / 256 = omega arith in
    let s : a % 256 ≡ a % 65536 % 256 = omega arith in
    cc

one_more : (a b x y : ℕ) → x ≡ a % 256 → y ≡ (x + b) % 256 → y ≡ (a + b) % 256
one_more a b x y e f = omega arith

-- the sums of count, address and data, one after the other, are that of all
sums_to : (count : ℕ) (place payload : List ℕ) (first second total : ℕ) → first ≡ (0 + sum (count ∷ [])) % 256 → second ≡ (first + sum place) % 256
    → total ≡ (second + sum payload) % 256 → total ≡ sum (body count place payload) % 256
unfolding sum
sums_to count place payload first second total e f g =
    let one : first ≡ count % 256 = omega arith in
    let two = one_more count (sum place) first second one f in
    let all : count + sum place + sum payload ≡ sum (body count place payload) = let s = sum_append place payload in omega arith in
    one_more (count + sum place) (sum payload) second total two g ∙ ap (λ (n : ℕ). n % 256) all

check_is : (bytes : List ℕ) (total : ℕ) → total ≡ sum bytes % 256 → 255 - total ≡ complement_sum bytes
unfolding complement_sum
check_is bytes total e = omega arith

module _ (kind address : ℕ) (payload out place : List ℕ) (fit : Fitting kind payload out) (ep : place ≡ in_bytes (width kind) address) where
  pub place_length : length place ≡ width kind
  place_length = ap length ep ∙ address_length kind address fit.named

  front : List ℕ
  front = body (count_of kind payload) place payload

  -- the rows that were put, one after the other, are the line
  joined : (check : ℕ) → check ≡ complement_sum front → 83 ∷ (48 + kind) ∷ spelt (count_of kind payload ∷ []) ++ spelt place ++ spelt payload ++ spelt (check ∷ []) ≡ written kind address payload
  unfolding written spelt front
  joined check e =
      ap (λ (l : List ℕ). 83 ∷ (48 + kind) ∷ spelt (count_of kind payload ∷ []) ++ l)
      (sym (spelt_append (place ++ payload) (check ∷ []) ∙ ap (λ (l : List ℕ). l ++ spelt (check ∷ [])) (spelt_append place payload)))
      ∙ ap (λ (c : ℕ). 83 ∷ (48 + kind) ∷ spelt (front ++ (c ∷ []))) e
      ∙ ap (λ (l : List ℕ). let b = body (count_of kind payload) l payload in 83 ∷ (48 + kind) ∷ spelt (b ++ (complement_sum b ∷ []))) ep

  pub line_put : (w n count first second total r : ℕ) {out₁ out₂ out₃ out₄ : List ℕ}
      → w ≡ width kind → n ≡ length payload → count ≡ w + n + 1
      → Row (count ∷ []) 0 (set (set out 0 83) 1 (48 + kind)) 2 first out₁ → Row place first out₁ 4 second out₂
      → Row payload second out₂ (4 + 2 * w) total out₃ → Row ((255 - total) ∷ []) 0 out₃ (4 + 2 * w + 2 * n) r out₄
      → out₄ ≡ pasted out 0 (written kind address payload)
  unfolding spelt front
  line_put w n count first second total r {out₁} {out₂} {out₃} {out₄} ew en ec p₁ p₂ p₃ p₄ =
      let room : 6 + 2 * width kind + 2 * length payload ≤ length out = fit.room in
      let len = place_length in
      let a = spelt_length place in
      let b = spelt_length payload in
      let c : count ≡ count_of kind payload = omega arith in
      let k : List ℕ = 83 ∷ (48 + kind) ∷ spelt (count_of kind payload ∷ []) in
      let right : 255 - total ≡ complement_sum front =
      check_is front total (sums_to count place payload first second total p₁.sums p₂.sums p₃.sums ∙ ap (λ (x : ℕ). sum (body x place payload) % 256) c) in
      let q₀ : set (set out 0 83) 1 (48 + kind) ≡ pasted out 0 (83 ∷ (48 + kind) ∷ []) = pasted_two out 0 83 (48 + kind) (omega arith) in
      let q₁ : out₁ ≡ pasted out 0 k =
      pasted_more out 0 (83 ∷ (48 + kind) ∷ []) (omega arith) (spelt (count_of kind payload ∷ [])) 2 q₀ (omega arith) (p₁.left ∙ ap (λ (x : ℕ). pasted (set (set out 0 83) 1 (48 + kind)) 2 (spelt (x ∷ []))) c) in
      let q₂ : out₂ ≡ pasted out 0 (k ++ spelt place) = pasted_more out 0 k (omega arith) (spelt place) 4 q₁ (omega arith) p₂.left in
      let l₂ = length-append k (spelt place) in
      let q₃ : out₃ ≡ pasted out 0 ((k ++ spelt place) ++ spelt payload) =
      pasted_more out 0 (k ++ spelt place) (omega arith) (spelt payload) (4 + 2 * w) q₂ (omega arith) p₃.left in
      let l₃ = length-append (k ++ spelt place) (spelt payload) in
      let q₄ : out₄ ≡ pasted out 0 (((k ++ spelt place) ++ spelt payload) ++ spelt ((255 - total) ∷ [])) =
      pasted_more out 0 ((k ++ spelt place) ++ spelt payload) (omega arith) (spelt ((255 - total) ∷ [])) (4 + 2 * w + 2 * n) q₃ (omega arith) p₄.left in
      q₄ ∙ ap (pasted out 0) (joined (255 - total) right)
