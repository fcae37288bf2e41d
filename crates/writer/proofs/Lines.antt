-- A line is put row by row: its head, its payload two digits a byte, its checksum.
-- Assumes nothing.
use Rattle.std.proofs.Common.{◌≡◌, ℕ, ◌+◌, ◌-◌, ◌*◌, ◌/◌, ◌%◌, ◌<◌, ◌≤◌, List, [], ◌∷◌, ◌++◌, length, take, drop, sym, ap, ◌∙◌, arith, length-drop}
use Rattle.checksum.specs.Checksum.{sum, negated_sum}
use Rattle.digits.specs.Common.{pasted}
use Rattle.record.specs.Written.{written}
use Rattle.digits.proofs.Spelt.{spelt_length, spelt_append}
use Rattle.digits.proofs.Pasting.{pasted_length, pasted_more}
use Rattle.digits.specs.Spelling.{Spell, spelt}
use Rattle.digits.proofs.Parts.{rest_is, rest_pasted}
use Rattle.writer.specs.Helpers.{front, Head, Fitting}

-- a line, whole
pub line_put : (kind address : ℕ) (payload out : List ℕ) (at first total check last : ℕ) {out₁ part out₂ part₂ out₃ : List ℕ}
    → Fitting payload out at → check < 256
    → Head (length payload) address kind out at first out₁ → length out₁ ≡ length out
    → Spell payload first (take (length out₁ - (at + 9)) (drop (at + 9) out₁)) total part
    → out₂ ≡ take (at + 9) out₁ ++ (part ++ drop (length out₁ - (at + 9)) (drop (at + 9) out₁))
    → (check + total) % 256 ≡ 0
    → Spell (check ∷ []) 0 (take (length out₂ - (at + 9 + 2 * length payload)) (drop (at + 9 + 2 * length payload) out₂)) last part₂
    → out₃ ≡ take (at + 9 + 2 * length payload) out₂ ++ (part₂ ++ drop (length out₂ - (at + 9 + 2 * length payload)) (drop (at + 9 + 2 * length payload) out₂))
    → out₃ ≡ pasted out at (written kind address payload)
unfolding spelt sum negated_sum written
line_put kind address payload out at first total check last {out₁} {part} {out₂} {part₂} {out₃} fit small h same p back c p₂ back₂ =
    let room : at + (11 + 2 * length payload) ≤ length out = fit.room in
    let place : ℕ = at + 9 + 2 * length payload in
    let l = spelt_length payload in
    let s₁ = h.sums in
    let q : Spell payload first (drop (at + 9) out₁) total part = rw (rest_is out₁ (at + 9)) at p in
    let p₁ = q.written (omega (arith, length-drop (at + 9) out₁)) in
    let s₂ = p₁.sums in
    let b : List ℕ = length payload ∷ (address / 256) ∷ (address % 256) ∷ kind ∷ payload in
    let right : check ≡ negated_sum b = omega arith in
    let h₂ : out₂ ≡ pasted out at (58 ∷ spelt b) =
    pasted_more out at (58 ∷ spelt (front (length payload) address kind)) (omega arith) (spelt payload) (at + 9) h.left (omega arith)
    (back ∙ rest_pasted out₁ (at + 9) (spelt payload) p₁.left) in
    let same₂ : length out₂ ≡ length out = ap length h₂ ∙ pasted_length out at (58 ∷ spelt b) (omega arith) in
    let q₂ : Spell (check ∷ []) 0 (drop place out₂) last part₂ = rw (rest_is out₂ place) at p₂ in
    let w₂ = q₂.written (omega (arith, length-drop place out₂)) in
    pasted_more out at (58 ∷ spelt b) (omega arith) (spelt (check ∷ [])) place h₂ (omega arith)
    (back₂ ∙ rest_pasted out₂ place (spelt (check ∷ [])) w₂.left)
    ∙ ap (λ (k : ℕ). pasted out at (58 ∷ spelt b ++ spelt (k ∷ []))) right
    ∙ ap (λ (cs : List ℕ). pasted out at (58 ∷ cs)) (sym (spelt_append b (negated_sum b ∷ [])))
