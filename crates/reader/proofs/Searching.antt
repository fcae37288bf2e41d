-- The search for the next line that has a byte, line by line: an empty first line is passed, any other is the one.
-- Assumes nothing.
use Rattle.std.proofs.Common.{◌≡◌, ℕ, suc, ◌+◌, ◌-◌, ◌<◌, ◌≤◌, Bool, true, false, ◌&&◌, ◌||◌, eqb, List, [], ◌∷◌, ◌++◌, length, take, drop, sym, refl, ap, ◌∙◌, subst, add-one, arith, length-append, length-drop, drop-drop, take_at, Bor}
use lib.Seq.{take-length}
use Rattle.std.specs.Prelude.{if◌then◌else◌}
use Rattle.digits.proofs.Tests.{both}
use Rattle.reader.specs.Lines.{LF, CR, at_LF, first_line, rest, a_line, next_line}
use Rattle.reader.specs.Text.{FirstLine}
use Rattle.reader.specs.Helpers.{Ahead}
use Rattle.reader.proofs.Cutting.{at_LF_is, cut}
use Rattle.reader.proofs.Feeds.{rest_shorter, rest_drop}

-- ---- one line

pub pass_empty : (n : ℕ) (text : List ℕ) → 0 < length text → length (first_line text) ≡ 0 → next_line n text ≡ next_line (suc n) (rest text)
unfolding next_line first_line rest
pass_empty n [] h e = absurd (omega arith)
pass_empty n (c ∷ text) h e = go (eqb c LF) refl (eqb c CR && at_LF text) refl e
  where
    go : (b₁ : Bool) → eqb c LF ≡ b₁ → (b₂ : Bool) → eqb c CR && at_LF text ≡ b₂
        → length (if b₁ || b₂ then [] else c ∷ first_line text) ≡ 0
        → (if b₁ then next_line (suc n) text else (if b₁ || b₂ then next_line n text else a_line n (if b₁ || b₂ then [] else c ∷ first_line text) (if b₁ then text else rest text)))
        ≡ next_line (suc n) (if b₁ then text else rest text)
    go true e₁ b₂ e₂ z = refl
    go false e₁ true e₂ z =
        let (t, l) = at_LF_is text (both (eqb c CR) (at_LF text) e₂).1 in
        rw l
    go false e₁ false e₂ z = absurd (omega arith)

pub find_first : (n : ℕ) (text : List ℕ) → 0 < length (first_line text) → next_line n text ≡ a_line n (first_line text) (rest text)
unfolding next_line first_line rest
find_first n [] h = absurd (omega arith)
find_first n (c ∷ text) h = go (eqb c LF) (eqb c CR && at_LF text) h
  where
    go : (b₁ b₂ : Bool) → 0 < length (if b₁ || b₂ then [] else c ∷ first_line text)
        → (if b₁ then next_line (suc n) text else (if b₁ || b₂ then next_line n text else a_line n (if b₁ || b₂ then [] else c ∷ first_line text) (if b₁ then text else rest text)))
        ≡ a_line n (if b₁ || b₂ then [] else c ∷ first_line text) (if b₁ then text else rest text)
    go true b₂ z = absurd (omega arith)
    go false true z = absurd (omega arith)
    go false false z = refl

-- ---- where a line lies

-- a part from a place to the end
pub tail_is : (text : List ℕ) (from : ℕ) → take (length text - from) (drop from text) ≡ drop from text
tail_is text from = ap (λ (k : ℕ). take k (drop from text)) (sym (length-drop from text)) ∙ take-length (drop from text)

pub first_line_prefix : (text : List ℕ) → take (length (first_line text)) text ≡ first_line text
first_line_prefix text = ap (take (length (first_line text))) (cut text).whole ∙ take_at (first_line text) ((cut text).end ++ rest text) (length (first_line text)) refl

pub first_line_length : (text : List ℕ) → length (first_line text) ≤ length text
first_line_length text =
    let e : length text ≡ length (first_line text) + length ((cut text).end ++ rest text) = ap length (cut text).whole ∙ length-append (first_line text) ((cut text).end ++ rest text) in
    omega arith

module _ (text : List ℕ) (from : ℕ) (inside : from < length text) (n : ℕ) (place : n ≡ length (drop from text) - length (rest (drop from text))) where
  pub behind_inside : from + n ≤ length text
  behind_inside = let l = length-drop from text in omega arith

  pub behind_moves : 0 < n
  behind_moves = let l = length-drop from text in let s = shorter (drop from text) (omega arith) in omega arith
    where
      shorter : (t : List ℕ) → 0 < length t → length (rest t) < length t
      shorter [] h = absurd (omega arith)
      shorter (c ∷ t) h = rest_shorter c t

  pub rest_behind : drop (from + n) text ≡ rest (drop from text)
  rest_behind = sym (drop-drop n from text) ∙ ap (λ (k : ℕ). drop k (drop from text)) place ∙ rest_drop (drop from text)

-- ---- a turn of `find_line`

-- what is known of a first line by its bytes
pub record CutOff (text line : List ℕ) (behind : ℕ) : Type 0 where
  pub first : line ≡ first_line text
  pub place : behind ≡ length text - length (rest text)

pub cut_off : {text line : Bor (List ℕ)} {behind : ℕ} → FirstLine text line behind → CutOff text.now line.now behind
cut_off f = record { first = f.first; place = f.place }

module _ (text : List ℕ) (position from empties : ℕ) (line : List ℕ) (n : ℕ)
    (held : next_line 0 (drop position text) ≡ next_line empties (drop from text)) (few : empties ≤ from) (inside : from < length text)
    (known : CutOff (take (length text - from) (drop from text)) line n) where
  here : CutOff (drop from text) line n
  here = rw (tail_is text from) at known

  pub turn_inside : from + n ≤ length text
  turn_inside = behind_inside text from inside n here.place

  pub turn_moves : 0 < n
  turn_moves = behind_moves text from inside n here.place

  pub turn_on : length line ≡ 0 → (next_line 0 (drop position text) ≡ next_line (empties + 1) (drop (from + n) text)) × (empties + 1 ≤ from + n)
  turn_on e =
      let l = length-drop from text in
      let z : length (first_line (drop from text)) ≡ 0 = ap length (sym here.first) ∙ e in
      let m = turn_moves in
      (held ∙ pass_empty empties (drop from text) (omega arith) z ∙ rw (add-one, rest_behind text from inside n here.place), omega arith)

  pub turn_found : 0 < length line → Ahead text position line (from + n) empties
  turn_found h =
      let f : 0 < length (first_line (drop from text)) = subst (λ (l : List ℕ). 0 < length l) here.first h in
      record {
        found = held ∙ find_first empties (drop from text) f ∙ rw (here.first, rest_behind text from inside n here.place);
        beyond = turn_inside;
        small = omega arith;
      }
