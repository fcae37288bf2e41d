-- A begun line and the text behind it: the whole line is what is kept, and then the first line of the text with the CR that waits put before it.
-- Assumes nothing.
use Rattle.std.proofs.Common.{◌≡◌, ℕ, suc, ◌≤◌, Bool, true, false, eqb, ltb, List, [], ◌∷◌, ◌++◌, length, get_or, take, refl, arith, ltb-false, eqb-true}
use mathlib.Core.List.{foldl}
use Rattle.std.specs.Prelude.{if◌then◌else◌}
use Rattle.digits.specs.Digits.{is_digit}
use Rattle.digits.specs.Reading.{named}
use Rattle.reader.specs.Lines.{LF, CR, ends_line, first_line}
use Rattle.chunks.specs.Begun.{Kept, none_kept, Begun, is_empty, push, brief, with_CR, add}

unfoldable pub waiting : Bool → List ℕ → List ℕ
waiting true text = CR ∷ text
waiting false text = text

-- what is kept of the line in the end
abbrev pub whole : Begun → List ℕ → Kept
whole b text = foldl push b.kept (first_line (waiting b.cr text))

own_CR : (c : ℕ) (text : List ℕ) → eqb c LF ≡ false → first_line (CR ∷ c ∷ text) ≡ CR ∷ first_line (c ∷ text)
unfolding first_line ends_line
own_CR c text e = rw e

-- a byte that is no LF: the CR before it, if one waits, is the line's
pub settle_CR : (kept : Kept) (cr : Bool) (c : ℕ) (text : List ℕ) → eqb c LF ≡ false
    → whole (record { kept = kept; cr = cr }) (c ∷ text) ≡ foldl push (with_CR (record { kept = kept; cr = cr })) (first_line (c ∷ text))
unfolding waiting with_CR
settle_CR kept true c text e = rw (own_CR c text e)
settle_CR kept false c text e = refl

pub whole_more : (b : Begun) (c : ℕ) (text : List ℕ) → eqb c LF ≡ false → (t : Bool) → eqb c CR ≡ t
    → foldl push (with_CR b) (first_line (c ∷ text)) ≡ whole (add b c) text
unfolding waiting add first_line ends_line
whole_more b c text lf true e = rw (e, eqb-true c CR e)
whole_more b c text lf false e = rw (e, lf)

-- ---- nothing becomes empty, or not empty, by being kept

pub push_some : (k : Kept) (c : ℕ) → is_empty (push k c).bytes ≡ false
unfolding push is_empty
push_some k c = go (ltb (length k.bytes) 522) refl (is_digit (get_or k.bytes 521 0))
  where
    behind : (l : List ℕ) → is_empty (l ++ (c ∷ [])) ≡ false
    behind [] = refl
    behind (x ∷ l) = refl

    some : (l : List ℕ) → 522 ≤ length l → is_empty l ≡ false
    some [] h = absurd (omega arith)
    some (x ∷ l) h = refl

    go : (t : Bool) → ltb (length k.bytes) 522 ≡ t → (u : Bool)
        → let k' : Kept = if t then record { bytes = k.bytes ++ (c ∷ []); skipped = k.skipped } else if u then record { bytes = take 521 k.bytes ++ (c ∷ []); skipped = named (suc k.skipped) } else k in
        is_empty k'.bytes ≡ false
    go true e u = behind k.bytes
    go false e true = behind (take 521 k.bytes)
    go false e false = some k.bytes (ltb-false (length k.bytes) 522 e)

pub pushes_some : (l : List ℕ) (k : Kept) → is_empty k.bytes ≡ false → is_empty (foldl push k l).bytes ≡ false
pushes_some [] k e = e
pushes_some (c ∷ l) k e = pushes_some l (push k c) (push_some k c)

pub brief_empty : (l : List ℕ) → is_empty (brief l).bytes ≡ is_empty l
unfolding is_empty
brief_empty [] = refl
brief_empty (c ∷ l) = pushes_some l (push none_kept c) (push_some none_kept c)
