-- What a question returns, by name.
-- Assumes nothing.
use Rattle.std.specs.declared.ops.ControlFlow.{ControlFlow}
use Rattle.std.specs.Prelude.{ℕ, Option, Result, Err}
use Rattle.query.specs.declared.Walk.{Walk}
use Rattle.steps.specs.declared.LoaderError.{LoaderError}
use Rattle.steps.specs.declared.Refused.{Refused}

-- the byte that the records so far state last at the address, if one does
abbrev pub Found : Type 0
Found = Option ℕ

-- the byte that the text states last, if it states one, or a refusal and the number of its line
abbrev pub Asked : Type 0
Asked = Result Found Refused

-- a refusal at a line
abbrev pub refuse_asked : LoaderError → ℕ → Asked
refuse_asked why line = Err (record { why = why; line = line })

-- what a line comes to in code: the walk after it, or the answer
abbrev pub CodeTurn : Type 0
CodeTurn = ControlFlow Asked Walk
