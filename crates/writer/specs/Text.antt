-- A text that is to be written at a place of the output: the answer, and the output behind it.
-- Assumes nothing.
use Rattle.std.specs.Prelude.{◌≡◌, ℕ, ◌+◌, List, length, nat_le}
use Rattle.std.proofs.Math.Option.{Option, none, some}
use Rattle.digits.specs.Common.{pasted}
use Rattle.std.specs.Prelude.{if◌then◌else◌}
use Rattle.record.specs.Refusals.{Refusal, output_full}
use Rattle.writer.specs.Aliases.{Written}
use Rattle.writer.specs.Told.{ToldWritten, wrote, refuses, told_written}

-- a text, or the refusal that stands in its place
pub data Text : Type 0 where
  chars : List ℕ → Text
  refused : Refusal → Text

abbrev pub unless : Option Refusal → List ℕ → Text
unless none cs = chars cs
unless (some r) cs = refused r

-- the place behind the text, if it starts at a place
abbrev pub place_behind : Text → (at : ℕ) → ToldWritten
place_behind (chars cs) at = wrote (at + length cs)
place_behind (refused r) at = refuses r

-- the same, where an output has this much room
abbrev pub if_room : ToldWritten → (room : ℕ) → ToldWritten
if_room (wrote place) room = if nat_le place room then wrote place else refuses output_full
if_room (refuses r) room = refuses r

-- the output with the text at the place, if it has the room
abbrev pub put_at : Text → (out : List ℕ) (at : ℕ) → List ℕ
put_at (chars cs) out at = if nat_le (at + length cs) (length out) then pasted out at cs else out
put_at (refused r) out at = out

-- what a writer of a text tells, and leaves in the output
pub record Leaves (text : Text) (out : List ℕ) (at : ℕ) (t : ToldWritten) (out' : List ℕ) : Type 0 where
  pub answer : t ≡ if_room (place_behind text at) (length out)
  pub left : out' ≡ put_at text out at

-- the same of an answer
abbrev pub Writes : (text : Text) (out : List ℕ) (at : ℕ) → Written → (out' : List ℕ) → Type 0
Writes text out at r out' = Leaves text out at (told_written r) out'
