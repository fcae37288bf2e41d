-- Listening to the bytes of a text, by what a load of it comes to: where it is decided, and where it ends. Each claim is proved in
-- `proofs/Texts.antt`.
-- Assumes nothing.
use Rattle.std.specs.Prelude.{ℕ, ◌≡◌, Bool, List, [], ◌∷◌, ◌++◌}
use Rattle.std.proofs.Math.Option.{Option, none, some}
use Rattle.reader.specs.Lines.{LF, CR, lines, through}
use Rattle.steps.specs.Steps.{nothing_yet, Verdict, Decision, by, decision, verdict, stated}
use Rattle.steps.specs.Source.{Source, steps_of}
use Rattle.intake.specs.Past.{past}
use Rattle.listen.specs.Listen.{front, skipping, said, reaching, mode_after, silent, first, listen, stretch}
use Rattle.listen.specs.Claims.{Begins}

-- what a load of the text decides
abbrev pub decided_by : {S : Type 0} → Source S → (inside : ℕ → Bool) → (text : List ℕ) → Option Decision
decided_by src inside text = decision inside nothing_yet (steps_of src text)

-- the text is `left` after the LF of its line n
abbrev pub LeftAfter : (n : ℕ) (text left : List ℕ) → Type 0
LeftAfter n text left = (head : List ℕ) × (through n text ≡ some head) × (head ++ left ≡ text)

-- no line that has its LF decides a load of the text
abbrev pub WaitsForMore : {S : Type 0} → Source S → (inside : ℕ → Bool) → (text : List ℕ) → Type 0
WaitsForMore src inside text = (n : ℕ) (v : Verdict) → decided_by src inside text ≡ some (by n v) → through n text ≡ none

-- a line's end before a dump is dropped
abbrev pub DropsEmptyLines : Type 1
DropsEmptyLines =
    (S : Type 0) (src : Source S) (inside : ℕ → Bool) (text : List ℕ)
    → (listen src inside front (lines (LF ∷ text)) ≡ listen src inside front (lines text))
    × (listen src inside front (lines (CR ∷ LF ∷ text)) ≡ listen src inside front (lines text))

-- a text whose first line has a byte, decided by line n: that is said, and what is left is heard
abbrev pub HearsADump : Type 1
HearsADump =
    (S : Type 0) (src : Source S) (inside : ℕ → Bool) (text left : List ℕ) (n : ℕ) (v : Verdict)
    → Begins (lines text) → decided_by src inside text ≡ some (by n v) → LeftAfter n text left
    → listen src inside front (lines text) ≡ first (said v (reaching v (stated (steps_of src text))) ∷ []) (listen src inside (mode_after v) (lines left))

-- a text that is passed over through line n: nothing is said, and a dump begins with what is left
abbrev pub HearsATail : Type 1
HearsATail =
    (S : Type 0) (src : Source S) (inside : ℕ → Bool) (text left : List ℕ) (n : ℕ) (v : Verdict)
    → decided_by (past src) inside text ≡ some (by n v) → LeftAfter n text left
    → listen src inside skipping (lines text) ≡ listen src inside front (lines left)

-- a text that waits for more when a pause comes: it has the verdict of a load of it, and the next byte begins a dump
abbrev pub PausesInADump : Type 1
PausesInADump =
    (S : Type 0) (src : Source S) (inside : ℕ → Bool) (text : List ℕ) → Begins (lines text) → WaitsForMore src inside text
    → let v = verdict (decided_by src inside text) in
    stretch src inside front (lines text) ≡ record { says = said v (reaching v (stated (steps_of src text))) ∷ []; mode = front }

-- a text that is being passed over when a pause comes: nothing is said
abbrev pub PausesInATail : Type 1
PausesInATail =
    (S : Type 0) (src : Source S) (inside : ℕ → Bool) (text : List ℕ) → WaitsForMore (past src) inside text
    → stretch src inside skipping (lines text) ≡ silent front
