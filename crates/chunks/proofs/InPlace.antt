-- A line that lies whole in the text is found where it lies: the byte before the rest tells whether it has ended.
-- Assumes nothing.
use Rattle.std.proofs.Common.{◌≡◌, ℕ, zero, suc, ◌+◌, ◌-◌, ◌<◌, ◌≤◌, Bool, true, false, ◌||◌, eqb, ◌≢◌, List, [], ◌∷◌, length, get_or, take, drop, sym, refl, ap, ◌∙◌, arith, length-drop, get_or-drop, eq-eqb, eqb-true}
use mathlib.Core.Option.{Option, some}
use borrow.Author.Tests.{eqb-false}
use Rattle.std.specs.Prelude.{if◌then◌else◌}
use Rattle.digits.proofs.Tests.{or_true}
use Rattle.reader.specs.Lines.{LF, CR, first_line, rest}
use Rattle.reader.proofs.Searching.{tail_is, first_line_prefix, first_line_length, behind_inside, behind_moves, rest_behind, CutOff}
use Rattle.chunks.specs.Begun.{Kept, Begun, nothing, is_empty, brief, add, counted, Sought, ended, seek}
use Rattle.chunks.specs.Helpers.{seek_at, WholeLine, OpenLine}
use Rattle.chunks.proofs.Waiting.{waiting, whole, settle_CR, whole_more, brief_empty}
use Rattle.chunks.proofs.Pass.{step_over}

-- ---- a LF in a text

unfoldable pub has_LF : List ℕ → Bool
has_LF [] = false
has_LF (c ∷ text) = eqb c LF || has_LF text

LF_at : (text : List ℕ) (k : ℕ) → k < length text → get_or text k 0 ≡ LF → has_LF text ≡ true
unfolding has_LF
LF_at [] k h e = absurd (omega arith)
LF_at (c ∷ text) zero h e = rw (eq-eqb c LF e)
LF_at (c ∷ text) (suc k) h e = rw (LF_at text k (omega arith) e) (or_true (eqb c LF))

-- in what is left of a text
pub LF_from : (text : List ℕ) (from k : ℕ) → from ≤ k → k < length text → get_or text k 0 ≡ LF → has_LF (drop from text) ≡ true
LF_from text from k h l e =
    let is : from + (k - from) ≡ k = omega arith in
    let size : length (drop from text) ≡ length text - from = length-drop from text in
    LF_at (drop from text) (k - from) (omega arith) (get_or-drop from text (k - from) 0 ∙ ap (λ (j : ℕ). get_or text j 0) is ∙ e)

-- it stands before the rest
pub record EndsBeforeRest (text : List ℕ) : Type 0 where
  pub shorter : length (rest text) < length text
  pub feed : get_or text (length text - length (rest text) - 1) 0 ≡ LF

pub LF_before_rest : (text : List ℕ) → has_LF text ≡ true → EndsBeforeRest text
unfolding has_LF rest
LF_before_rest [] h = let z : ◌≡◌ {A = ℕ} 0 1 = cc in absurd (omega arith)
LF_before_rest (c ∷ text) h = go (eqb c LF) refl h (LF_before_rest text)
  where
    go : (b : Bool) → eqb c LF ≡ b → b || has_LF text ≡ true → (has_LF text ≡ true → EndsBeforeRest text) → EndsBeforeRest (c ∷ text)
    go true e h ih =
        let r : rest (c ∷ text) ≡ text = rw e in
        let n : length (c ∷ text) - length (rest (c ∷ text)) - 1 ≡ 0 = rw r (omega arith) in
        record { shorter = rw r (omega arith); feed = ap (λ (k : ℕ). get_or (c ∷ text) k 0) n ∙ eqb-true c LF e }
    go false e h ih =
        let i = ih h in
        let r : rest (c ∷ text) ≡ rest text = rw e in
        let n : length (c ∷ text) - length (rest (c ∷ text)) - 1 ≡ suc (length text - length (rest text) - 1) = rw r (omega (arith, i.shorter)) in
        record { shorter = rw r (omega (arith, i.shorter)); feed = ap (λ (k : ℕ). get_or (c ∷ text) k 0) n ∙ i.feed }

-- ---- a line that ends

-- at its LF
unfoldable pub settled : Option (List ℕ) → (empties : ℕ) (kept : Kept) (rest : List ℕ) → Sought
settled start empties kept rest = if is_empty kept.bytes then seek (some rest) (counted empties) nothing rest else ended start empties kept rest

at_feed : (start : Option (List ℕ)) (empties : ℕ) (kept : Kept) (cr : Bool) (text : List ℕ)
    → seek start empties (record { kept = kept; cr = cr }) (LF ∷ text) ≡ settled start empties (whole (record { kept = kept; cr = cr }) (LF ∷ text)) (rest (LF ∷ text))
unfolding seek settled waiting first_line rest
at_feed start empties kept true text = refl
at_feed start empties kept false text = refl

pub at_LF : (start : Option (List ℕ)) (empties : ℕ) (b : Begun) (c : ℕ) (text : List ℕ) → c ≡ LF → seek start empties b (c ∷ text) ≡ settled start empties b.kept text
unfolding seek settled
at_LF start empties b c text e = rw e

pub rest_on : (c : ℕ) (text : List ℕ) → eqb c LF ≡ false → rest (c ∷ text) ≡ rest text
unfolding rest
rest_on c text e = rw e

pub feed_in : (text : List ℕ) (start : Option (List ℕ)) (empties : ℕ) (b : Begun) → has_LF text ≡ true
    → seek start empties b text ≡ settled start empties (whole b text) (rest text)
unfolding has_LF
feed_in [] start empties b h = let z : ◌≡◌ {A = ℕ} 0 1 = cc in absurd (omega arith)
feed_in (c ∷ text) start empties b h = go (eqb c LF) refl h (feed_in text start empties (add b c))
  where
    go : (t : Bool) → eqb c LF ≡ t → t || has_LF text ≡ true
        → (has_LF text ≡ true → seek start empties (add b c) text ≡ settled start empties (whole (add b c) text) (rest text))
        → seek start empties b (c ∷ text) ≡ settled start empties (whole b (c ∷ text)) (rest (c ∷ text))
    go true e h ih = rw (eqb-true c LF e) (at_feed start empties b.kept b.cr text)
    go false e h ih =
        step_over start empties b c text (eqb-false c LF e)
        ∙ ih h
        ∙ ap (λ (r : List ℕ). settled start empties (whole (add b c) text) r) (sym (rest_on c text e))
        ∙ ap (λ (k : Kept). settled start empties k (rest (c ∷ text))) (sym (settle_CR b.kept b.cr c text e ∙ whole_more b c text e (eqb c CR) refl))

-- from its first byte on
pub line_in : (text : List ℕ) (start : Option (List ℕ)) (empties : ℕ) → has_LF text ≡ true
    → seek start empties nothing text ≡ settled start empties (brief (first_line text)) (rest text)
unfolding waiting
line_in text start empties h = feed_in text start empties nothing h

pub ends_some : (start : Option (List ℕ)) (empties : ℕ) (l rest : List ℕ) → 0 < length l → settled start empties (brief l) rest ≡ ended start empties (brief l) rest
unfolding settled is_empty
ends_some start empties [] rest h = absurd (omega arith)
ends_some start empties (c ∷ l) rest h = rw (brief_empty (c ∷ l))

pub ends_none : (start : Option (List ℕ)) (empties : ℕ) (l rest : List ℕ) → length l ≡ 0 → settled start empties (brief l) rest ≡ seek (some rest) (counted empties) nothing rest
unfolding settled is_empty
ends_none start empties [] rest h = refl
ends_none start empties (c ∷ l) rest h = absurd (omega arith)

-- ---- a turn of `find`

-- what a turn comes to, by the byte before the rest and by the line's length
pub record Turn (chunk : List ℕ) (position empties from passed : ℕ) (line : List ℕ) (n : ℕ) : Type 0 where
  pub inside : from + n ≤ length chunk
  pub moves : 0 < n
  pub opens : get_or chunk (from + n - 1) 0 ≢ LF → OpenLine chunk position empties from passed
  pub finds : get_or chunk (from + n - 1) 0 ≡ LF → 0 < length line → WholeLine chunk position empties from (length line) (from + n) passed
  pub goes_on : get_or chunk (from + n - 1) 0 ≡ LF → length line ≡ 0 → seek_at chunk position empties ≡ seek_at chunk (from + n) (counted passed)

module _ (chunk : List ℕ) (position empties from passed : ℕ) (line : List ℕ) (n : ℕ)
    (held : seek_at chunk position empties ≡ seek_at chunk from passed) (inside : from < length chunk)
    (known : CutOff (take (length chunk - from) (drop from chunk)) line n) where
  here : CutOff (drop from chunk) line n
  here = rw (tail_is chunk from) at known

  turn_inside : from + n ≤ length chunk
  turn_inside = behind_inside chunk from inside n here.place

  turn_moves : 0 < n
  turn_moves = behind_moves chunk from inside n here.place

  last_is : get_or (drop from chunk) (n - 1) 0 ≡ get_or chunk (from + n - 1) 0
  last_is =
      let m = turn_moves in
      let e : from + (n - 1) ≡ from + n - 1 = omega arith in
      get_or-drop from chunk (n - 1) 0 ∙ ap (λ (k : ℕ). get_or chunk k 0) e

  has_feed : get_or chunk (from + n - 1) 0 ≡ LF → has_LF (drop from chunk) ≡ true
  has_feed e =
      let m = turn_moves in
      let i = turn_inside in
      LF_from chunk from (from + n - 1) (omega arith) (omega arith) e

  turn_open : get_or chunk (from + n - 1) 0 ≢ LF → OpenLine chunk position empties from passed
  turn_open ne = record { goes_on = held; inside = omega arith; no_feed = no_feed }
    where
      no_feed : (k : ℕ) → from ≤ k → k < length chunk → get_or chunk k 0 ≢ LF
      no_feed k a b e =
          let h = LF_from chunk from k a b e in
          ne (sym last_is ∙ ap (λ (j : ℕ). get_or (drop from chunk) (j - 1) 0) here.place ∙ (LF_before_rest (drop from chunk) h).feed)

  behind_is : rest (drop from chunk) ≡ drop (from + n) chunk
  behind_is = sym (rest_behind chunk from inside n here.place)

  ended_so : get_or chunk (from + n - 1) 0 ≡ LF → seek_at chunk position empties ≡ settled (some (drop from chunk)) passed (brief (first_line (drop from chunk))) (drop (from + n) chunk)
  ended_so e =
      held ∙ line_in (drop from chunk) (some (drop from chunk)) passed (has_feed e)
      ∙ ap (settled (some (drop from chunk)) passed (brief (first_line (drop from chunk)))) behind_is

  turn_found : get_or chunk (from + n - 1) 0 ≡ LF → 0 < length line → WholeLine chunk position empties from (length line) (from + n) passed
  turn_found e h =
      let l : length line ≡ length (first_line (drop from chunk)) = ap length here.first in
      let p : first_line (drop from chunk) ≡ take (length line) (drop from chunk) =
      sym (ap (λ (k : ℕ). take k (drop from chunk)) l ∙ first_line_prefix (drop from chunk)) in
      record {
        line =
            ended_so e ∙ ends_some (some (drop from chunk)) passed (first_line (drop from chunk)) (drop (from + n) chunk) (omega arith)
            ∙ ap (λ (k : List ℕ). ended (some (drop from chunk)) passed (brief k) (drop (from + n) chunk)) p;
        size = l;
        inside = omega (arith, first_line_length (drop from chunk), length-drop from chunk);
        beyond = turn_inside;
      }

  turn_on : get_or chunk (from + n - 1) 0 ≡ LF → length line ≡ 0 → seek_at chunk position empties ≡ seek_at chunk (from + n) (counted passed)
  turn_on e z =
      ended_so e ∙ ends_none (some (drop from chunk)) passed (first_line (drop from chunk)) (drop (from + n) chunk) (ap length (sym here.first) ∙ z)

  pub turn : Turn chunk position empties from passed line n
  turn = record { inside = turn_inside; moves = turn_moves; opens = turn_open; finds = turn_found; goes_on = turn_on }
