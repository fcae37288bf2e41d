-- What `next_line` and `last_line` find and leave, for every state, chunk and carry.
-- Assumes nothing.
use Rattle.std.specs.Prelude.{◌≡◌, ℕ, ◌+◌, ◌-◌, ◌≤◌, Bool, true, false, List, [], length, take, drop}
use Rattle.std.proofs.Math.Option.{Option, none, some}
use Rattle.std.specs.Prelude.{if◌then◌else◌}
use Rattle.reader.specs.Lines.{first_line}
use Rattle.chunks.specs.declared.Chunks.{Chunks}
use Rattle.chunks.specs.declared.LineReply.{LineReply}
use Rattle.chunks.specs.declared.LineReply.TheVariants.{InChunk, InCarry, UsedUp, Done, CarryTooSmall}
use Rattle.chunks.specs.declared.LineStep.{LineStep}
use Rattle.chunks.specs.Begun.{Kept, none_kept, is_empty, brief, with_CR, Sought, ended, unended, look}
use Rattle.chunks.specs.Next.{kept_in, begun, holding, past_line, over, number_behind, in_carry, too_small}

-- ---- places

-- what is kept of the line that lies there; nothing where none was found
abbrev pub kept_at : LineReply → (chunk carry : List ℕ) → Kept
kept_at (InChunk from len) chunk carry = brief (take len (drop from chunk))
kept_at (InCarry len skipped) chunk carry = kept_in carry len skipped
kept_at UsedUp chunk carry = none_kept
kept_at Done chunk carry = none_kept
kept_at CarryTooSmall chunk carry = none_kept

-- it lies inside the chunk, or in the first 522 bytes of the carry
abbrev pub Inside : LineReply → (chunk carry : List ℕ) → Type 0
Inside (InChunk from len) chunk carry = from + len ≤ length chunk
Inside (InCarry len skipped) chunk carry = (len ≤ 522) × (len ≤ length carry)
Inside UsedUp chunk carry = Unit
Inside Done chunk carry = Unit
Inside CarryTooSmall chunk carry = Unit

-- a line begun in this chunk lies in the chunk, an older one in the carry
unfoldable pub line_place : (chunk : List ℕ) (start : Option (List ℕ)) → Kept → LineReply
unfolding first_line
line_place chunk (some text) k = InChunk (length chunk - length text) (length (first_line text))
line_place chunk none k = InCarry (length k.bytes) k.skipped

-- ---- outcomes

pub record LineOutcome : Type 0 where
  pub reply : LineReply
  pub state : Chunks
  -- what is kept of the line that was found
  pub kept : Kept
  -- what the carry begins with; its bytes after that are anything
  pub carried : List ℕ

-- nothing happened
unfoldable pub idle : LineReply → Chunks → (carry : List ℕ) → LineOutcome
idle reply s carry = record { reply = reply; state = s; kept = none_kept; carried = carry }

-- a line was found: the state is the one after it
unfoldable pub found_line : Chunks → (chunk : List ℕ) (start : Option (List ℕ)) (empties : ℕ) → Kept → (position : ℕ) (last : Bool) → LineOutcome
unfolding line_place in_carry
found_line s chunk start empties k position last =
    record { reply = line_place chunk start k; state = past_line s position (number_behind s empties) last; kept = k; carried = in_carry start k }

unfoldable pub of_found : Chunks → (chunk : List ℕ) → Sought → LineOutcome
unfolding found_line
of_found s chunk (ended start empties kept rest) = found_line s chunk start empties kept (length chunk - length rest) false
of_found s chunk (unended empties b) = record { reply = UsedUp; state = holding s empties b; kept = none_kept; carried = b.kept.bytes }

unfoldable pub next_line_outcome : Chunks → (chunk carry : List ℕ) → LineOutcome
unfolding too_small idle of_found look
next_line_outcome s chunk carry =
    if too_small s carry then idle CarryTooSmall s carry else
    if s.finished then idle Done s carry else
    of_found s chunk (look s.empties (begun s carry) (drop s.position chunk))

-- what is begun is the last line, if it has a byte
unfoldable pub last_line_outcome : Chunks → (carry : List ℕ) → LineOutcome
unfolding too_small idle found_line is_empty with_CR
last_line_outcome s carry =
    if too_small s carry then idle CarryTooSmall s carry else
    if s.finished then idle Done s carry else
    if is_empty (with_CR (begun s carry)).bytes
    then record { reply = Done; state = over s; kept = none_kept; carried = [] }
    else found_line s [] none s.empties (with_CR (begun s carry)) 0 true

-- ---- contracts

pub record Finds (o : LineOutcome) (chunk : List ℕ) (r : LineStep) (carry' : List ℕ) : Type 0 where
  pub answer : r.reply ≡ o.reply
  pub state : r.state ≡ o.state
  pub line : kept_at r.reply chunk carry' ≡ o.kept
  pub inside : Inside r.reply chunk carry'
  pub carry : take (length o.carried) carry' ≡ o.carried

-- the contract of `Chunks::next_line`
abbrev pub NextLine : Chunks → (chunk carry : List ℕ) → LineStep → (carry' : List ℕ) → Type 0
NextLine s chunk carry r carry' = Finds (next_line_outcome s chunk carry) chunk r carry'

-- of `Chunks::last_line`
abbrev pub LastLine : Chunks → (carry : List ℕ) → LineStep → (carry' : List ℕ) → Type 0
LastLine s carry r carry' = Finds (last_line_outcome s carry) [] r carry'
