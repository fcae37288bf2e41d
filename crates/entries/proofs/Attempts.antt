-- An attempt to write what may not be given: with nothing given it is `BadRecord`, and otherwise it is what the writer answers.
-- Assumes nothing.
use Prim.Native.Nat.{ℕ}
use mathlib.Core.Path.{◌≡◌, refl, ap}
use mathlib.Core.Option.{Option, none, some, map}
use mathlib.Core.List.{List}
use Rattle.writer.specs.Told.{ToldWritten}
use Rattle.writer.specs.Text.{Text, Leaves}
use Rattle.entries.specs.Attempts.{Attempts}

module _ {A : Type 0} (text : A → Text) (given : Option A) (out : List ℕ) where
  pub not_given : given ≡ none → Attempts (map text given) out none out
  not_given e = rw e (record { answer = refl; left = refl })

  pub made : (x : A) (t : ToldWritten) (out' : List ℕ) → given ≡ some x → Leaves (text x) out 0 t out' → Attempts (map text given) out (some t) out'
  made x t out' e y = rw e (record { answer = ap some y.answer; left = y.left })
