-- The lines of a text, by the rules of `str::lines` in Rust's standard library: a line ends at LF, or at CR directly followed by
-- LF. Neither belongs to the line. Any other CR is a byte of its line. The last line needs no end, and an empty text has no line.
-- Assumes nothing.
use Rattle.std.specs.Prelude.{◌≡◌, ℕ, zero, suc, Bool, false, ◌&&◌, ◌||◌, ◌≢◌, List, [], ◌∷◌, ◌++◌, ◌==◌, nat_eq}
use Rattle.std.proofs.Math.Option.{Option, none, some, map}
use mathlib.Core.List.{Memᴰ}
use Rattle.std.specs.Prelude.{if◌then◌else◌}

abbrev pub LF : ℕ
LF = 10

abbrev pub CR : ℕ
CR = 13

-- Does the text begin with LF?
unfoldable pub at_LF : List ℕ → Bool
at_LF [] = false
at_LF (c ∷ text) = c == LF

-- Does a line end at the byte c, with `text` behind it? At LF, and at a CR directly before LF.
unfoldable pub ends_line : ℕ → List ℕ → Bool
unfolding at_LF
ends_line c text = c == LF || (c == CR && at_LF text)

-- A text's first line, without its end.
unfoldable pub first_line : List ℕ → List ℕ
unfolding ends_line
first_line [] = []
first_line (c ∷ text) = if ends_line c text then [] else c ∷ first_line text

-- The text behind the first LF.
unfoldable pub rest : List ℕ → List ℕ
rest [] = []
rest (c ∷ text) = if c == LF then text else rest text

-- The same said without a function: the text is a line, the line's end and the rest. The line has no LF. Its end is CR LF, or
-- LF behind a line that does not end in CR, or the end of the text.
pub data Ended : (line end rest : List ℕ) → Type 0 where
  with_CRLF : {line rest : List ℕ} → Ended line (CR ∷ LF ∷ []) rest
  with_LF : {line rest : List ℕ} → ((front : List ℕ) → line ≢ front ++ (CR ∷ [])) → Ended line (LF ∷ []) rest
  with_text : {line : List ℕ} → Ended line [] []

pub record Cut (text line rest : List ℕ) : Type 0 where
  pub end : List ℕ
  pub whole : text ≡ line ++ (end ++ rest)
  pub no_LF : ¬ Memᴰ LF line
  pub ended : Ended line end rest

-- Lines and their ends, one behind the other, are the text.
pub data Joins : (text : List ℕ) (lines : List (List ℕ)) → Type 0 where
  nothing : Joins [] []
  more : {text line rest : List ℕ} {ls : List (List ℕ)} → text ≢ [] → Cut text line rest → Joins rest ls → Joins text (line ∷ ls)

-- A text with a byte has a first line; its later lines are those of the text behind the first LF.
unfoldable mutual
  unfolding first_line

  pub lines : List ℕ → List (List ℕ)
  lines [] = []
  lines (c ∷ text) = first_line (c ∷ text) ∷ (if nat_eq c LF then lines text else later text)

  pub later : List ℕ → List (List ℕ)
  later [] = []
  later (c ∷ text) = if c == LF then lines text else later text

-- The text through its n-th LF, if it has as many.
unfoldable pub through : ℕ → List ℕ → Option (List ℕ)
through zero text = some []
through (suc n) [] = none
through (suc n) (c ∷ text) = map (λ part. c ∷ part) (if nat_eq c LF then through n text else through (suc n) text)

-- The first line of a text that has a byte: how many empty lines stand ahead of it (behind `empties` that were met already), the
-- line, and the text behind its LF.
pub data Found : Type 0 where
  a_line : (empties : ℕ) (line rest : List ℕ) → Found
  no_line : (empties : ℕ) → Found

unfoldable pub next_line : (empties : ℕ) → List ℕ → Found
unfolding ends_line first_line rest
next_line n [] = no_line n
next_line n (c ∷ text) =
    if c == LF then next_line (suc n) text else
    if ends_line c text then next_line n text else
    a_line n (first_line (c ∷ text)) (rest (c ∷ text))
