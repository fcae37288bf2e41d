-- A line that is listened to, dump after dump, over any source: where the listener stands, what is said of each dump, and where the next one begins.
-- After an accepted dump the next begins with the line after its end record. After a refused one, and where listening begins at an unknown place,
-- everything through the next end record is skipped. A pause is a known beginning.
-- Assumes nothing.
use Rattle.std.specs.Prelude.{ℕ, suc, Bool, false, List, [], ◌∷◌, ◌++◌}
use Rattle.std.specs.Prelude.{if◌then◌else◌}
use Rattle.record.specs.Refusals.{missing_end_of_file_record}
use Rattle.steps.specs.Steps.{Placement, Verdict, accepted, refused}
use Rattle.steps.specs.Source.{Source}
use Rattle.steps.specs.Taken.{Standing, at_first, Went, on, stopped, at_line}
use Rattle.intake.specs.Past.{ends_text}

-- where a listener stands between two lines: at the front of the next dump, within a dump after so many of its lines, or skipping through the next
-- end record
pub data Mode (S : Type 0) : Type 0 where
  front : Mode S
  within : (lines : ℕ) → Standing S → Mode S
  skipping : Mode S

-- what is said of a dump as soon as it is decided: the verdict, and what of it reaches the page
pub data Saying : Type 0 where
  said : Verdict → (reaching : List Placement) → Saying

-- what reaches the page of a dump that stated these: all of it where it is accepted, and else nothing
abbrev pub reaching : Verdict → (stated : List Placement) → List Placement
reaching (accepted t) ps = ps
reaching (refused r n) ps = []

-- what lines come to: what is said, in order, and where the listener stands after them
pub record Listened (S : Type 0) : Type 0 where
  pub says : List Saying
  pub mode : Mode S

-- nothing is said
abbrev pub silent : {S : Type 0} → Mode S → Listened S
silent m = record { says = []; mode = m }

-- these are said first, and then the rest
abbrev pub first : {S : Type 0} → List Saying → Listened S → Listened S
first ss h = record { says = ss ++ h.says; mode = h.mode }

-- ---- lines

-- is a line an end record? An empty line is none
unfoldable pub is_end : {S : Type 0} → Source S → (line : List ℕ) → Bool
is_end src [] = false
is_end src (c ∷ line) = ends_text src (c ∷ line)

-- after a dump: an accepted one ends where the next begins, and a refused one is to be skipped
abbrev pub mode_after : {S : Type 0} → Verdict → Mode S
mode_after (accepted t) = front
mode_after (refused r n) = skipping

-- what line n of a dump comes to: the dump goes on, or it is decided
abbrev pub taken : {S : Type 0} → (n : ℕ) → Went S → Listened S
taken n (on st) = silent (within n st)
taken n (stopped v ps) = record { says = said v (reaching v ps) ∷ []; mode = mode_after v }

-- what one line comes to. Before a dump an empty line is dropped, and within one it is passed and counted
unfoldable pub hear : {S : Type 0} → Source S → (inside : ℕ → Bool) → Mode S → (line : List ℕ) → Listened S
unfolding at_line is_end
hear src inside front [] = silent front
hear src inside front (c ∷ line) = taken 1 (at_line src inside 1 (at_first src) (c ∷ line))
hear src inside (within n st) [] = silent (within (suc n) st)
hear src inside (within n st) (c ∷ line) = taken (suc n) (at_line src inside (suc n) st (c ∷ line))
hear src inside skipping line = if is_end src line then silent front else silent skipping

-- line after line
unfoldable pub listen : {S : Type 0} → Source S → (inside : ℕ → Bool) → Mode S → List (List ℕ) → Listened S
unfolding hear
listen src inside m [] = silent m
listen src inside m (line ∷ ls) = first (hear src inside m line).says (listen src inside (hear src inside m line).mode ls)

-- ---- pauses

-- a pause: a dump that no line has decided is refused, for its end record is missing. The next line begins a dump
abbrev pub pause : {S : Type 0} → Mode S → Listened S
pause front = silent front
pause (within n st) = record { says = said (refused missing_end_of_file_record 0) [] ∷ []; mode = front }
pause skipping = silent front

-- a stretch of lines up to a pause; its last line may lack its LF. A CR that waits alone before a dump is not one of them: at a pause a listener drops it
abbrev pub stretch : {S : Type 0} → Source S → (inside : ℕ → Bool) → Mode S → List (List ℕ) → Listened S
stretch src inside m ls = first (listen src inside m ls).says (pause (listen src inside m ls).mode)

-- stretch after stretch, with a pause after each
unfoldable pub listen_on : {S : Type 0} → Source S → (inside : ℕ → Bool) → Mode S → (stretches : List (List (List ℕ))) → Listened S
unfolding listen
listen_on src inside m [] = silent m
listen_on src inside m (ls ∷ later) = first (stretch src inside m ls).says (listen_on src inside (stretch src inside m ls).mode later)
