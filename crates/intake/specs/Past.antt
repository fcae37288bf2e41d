-- A text that is passed over: of a source's lines only the one that ends the text does anything. So a tail is passed over through its end record. What is
-- claimed of a line's end is proved in `proofs/Past.antt`, with the claims on tails in `Claims`.
-- Assumes nothing.
use Rattle.std.specs.Prelude.{◌≡◌, ℕ, Bool, true, false, List, [], ◌∷◌}
use Prim.Native.String.{String}
use Rattle.digits.specs.Common.{Every, text}
use Rattle.std.specs.Prelude.{if◌then◌else◌}
use Rattle.steps.specs.Steps.{Action, places, starts, counts, finishes, fails}
use Rattle.steps.specs.Source.{Source}
use Rattle.intel.specs.Placing.{intel}
use Rattle.srecload.specs.Placing.{s_records}

-- does one of these actions end the text?
abbrev pub ends : List Action → Bool
ends [] = false
ends (places what ∷ acts) = ends acts
ends (starts s ∷ acts) = ends acts
ends (counts n ∷ acts) = ends acts
ends (finishes ∷ acts) = true
ends (fails r ∷ acts) = ends acts

-- does this line end a text of the source?
abbrev pub ends_text : {S : Type 0} → Source S → (line : List ℕ) → Bool
ends_text src line = ends (src.act src.beginning line)

-- what a line does that is passed over: the end ends the text, and any other line does nothing
abbrev pub passed : (at_end : Bool) → List Action
passed at_end = if at_end then finishes ∷ [] else []

-- the source that passes over a text of another: nothing is placed, and no line is refused
abbrev pub past : {S : Type 0} → Source S → Source Unit
past src = record { beginning = tt; act = λ s line. passed (ends_text src line); next = λ s line. tt }

-- ---- whether a line ends the text does not depend on the state

abbrev pub EndsAlike : {S : Type 0} → Source S → Type 0
EndsAlike {S} src = (s s' : S) (line : List ℕ) → ends (src.act s line) ≡ ends (src.act s' line)

-- ---- examples

-- a line of Intel HEX and one of S-records, and whether it ends the text
pub record Example : Type 0 where
  pub line : String
  pub at_end : Bool

abbrev example : String → Bool → Example
example l e = record { line = l; at_end = e }

abbrev pub hex_lines : List Example
hex_lines =
    example ":00000001FF" true
    ∷ example ":0100000001FE" false
    ∷ example ":00000001FE" false
    ∷ example ":020000040000FA" false
    ∷ example "x" false
    ∷ example "S9030000FC" false
    ∷ []

abbrev pub s_lines : List Example
s_lines =
    example "S9030000FC" true
    ∷ example "S804000000FB" true
    ∷ example "S70500000000FA" true
    ∷ example "S9030000FD" false
    ∷ example "S5030003F9" false
    ∷ example "S0030001FB" false
    ∷ example ":00000001FF" false
    ∷ []

abbrev pub PastExamples : Type 0
PastExamples =
    Every (λ (e : Example). (past intel).act tt (text e.line) ≡ passed e.at_end) hex_lines
    × Every (λ (e : Example). (past s_records).act tt (text e.line) ≡ passed e.at_end) s_lines
