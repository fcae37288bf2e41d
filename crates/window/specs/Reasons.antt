-- Why a load answers as it does, said of the text's lines: the same for every source, by what its format says of a line, and for one window and a table.
-- The claims are made of each loader, and proved in `proofs/Reasons.antt`.
-- Assumes nothing.
use Rattle.std.specs.Prelude.{◌≡◌, ℕ, Bool, List, [], length}
use Rattle.record.specs.Refusals.{Refusal, missing_end_of_file_record, bad_window, bad_table}
use Rattle.reader.specs.Lines.{lines}
use Rattle.steps.specs.Steps.{Verdict, refused, stated}
use Rattle.steps.specs.Source.{Source, steps_of}
use Rattle.steps.specs.Account.{Account, AllPass, Decided}
use Rattle.window.specs.Window.{within}
use Rattle.window.specs.Claims.{Window}
use Rattle.window.specs.Load.{load_window}
use Rattle.window.specs.declared.Row.{Row}
use Rattle.window.specs.Table.{inside_of, BadTable}
use Rattle.window.specs.Tables.{load_table}

-- a reason for an answer: where the load goes is bad, which is this refusal; no line stops the load; or a line does, with this verdict
pub data WhyIn {S : Type 0} (src : Source S) (account : (inside : ℕ → Bool) → Account) (text : List ℕ) (Good Bad : Type 0) (bad : Refusal) (inside : ℕ → Bool) : Verdict → Type 0 where
  bad_one : Bad → WhyIn src account text Good Bad bad inside (refused bad 0)
  no_end : Good → AllPass (account inside) [] (lines text) → WhyIn src account text Good Bad bad inside (refused missing_end_of_file_record 0)
  at_line : (n : ℕ) (v : Verdict) → Good → Decided (account inside) (lines text) (stated (steps_of src text)) n v → WhyIn src account text Good Bad bad inside v

-- through one window
abbrev pub Why : {S : Type 0} → Source S → (account : (inside : ℕ → Bool) → Account) → (text : List ℕ) (first : ℕ) (page marks : List ℕ) → Verdict → Type 0
Why src account text first page marks = WhyIn src account text (Window first page marks) (¬ Window first page marks) bad_window (within first (length page))

-- each answer has a reason
abbrev pub LoadReasons : {S : Type 0} → Source S → (account : (inside : ℕ → Bool) → Account) → Type 0
LoadReasons src account =
    (text : List ℕ) (first : ℕ) (page marks : List ℕ) → Why src account text first page marks (load_window src text first page marks).answer

-- and no other answer has one: each refusal is given exactly when its reason holds
abbrev pub LoadOneReason : {S : Type 0} → Source S → (account : (inside : ℕ → Bool) → Account) → Type 0
LoadOneReason src account =
    (text : List ℕ) (first : ℕ) (page marks : List ℕ) (v v' : Verdict) → Why src account text first page marks v → Why src account text first page marks v' → v ≡ v'

-- through a table
abbrev pub WhyTable : {S : Type 0} → Source S → (account : (inside : ℕ → Bool) → Account) → (owner : ℕ) → List Row → (text pool marks : List ℕ) → Verdict → Type 0
WhyTable src account owner rows text pool marks =
    let Bad = BadTable owner (length pool) (length marks) rows in WhyIn src account text (¬ Bad) Bad bad_table (inside_of owner rows)

abbrev pub TableReasons : {S : Type 0} → Source S → (account : (inside : ℕ → Bool) → Account) → Type 0
TableReasons src account =
    (owner : ℕ) (rows : List Row) (text pool marks : List ℕ) → WhyTable src account owner rows text pool marks (load_table src owner rows text pool marks).answer

abbrev pub TableOneReason : {S : Type 0} → Source S → (account : (inside : ℕ → Bool) → Account) → Type 0
TableOneReason src account =
    (owner : ℕ) (rows : List Row) (text pool marks : List ℕ) (v v' : Verdict)
    → WhyTable src account owner rows text pool marks v → WhyTable src account owner rows text pool marks v' → v ≡ v'
