-- What `list`, and what lists one line, answer and leave in the output.
-- Assumes nothing.
use Rattle.std.specs.Prelude.{ℕ, ◌+◌, ◌*◌, ◌≡◌, Bool, ◌&&◌, List, ◌++◌, leb, length, drop}
use Rattle.std.specs.Prelude.{if◌then◌else◌}
use Rattle.record.specs.declared.Record.{Record}
use Rattle.record.specs.declared.Record.TheVariants.{Data, EndOfFile, ExtendedSegmentAddress, StartSegmentAddress, ExtendedLinearAddress, StartLinearAddress}
use Rattle.reader.specs.Aliases.{Reply}
use Rattle.listing.specs.Aliases.{Listed}
use Rattle.listing.specs.Listing.{shown, heading, count_line, listing}
use Rattle.std.specs.Prelude.{Err, None, Ok, Some}

pub data ToldListed : Type 0 where
  wrote : (n : ℕ) → ToldListed
  no_room : ToldListed

abbrev pub told_listed : Listed → ToldListed
told_listed (Some n) = wrote n
told_listed None = no_room

-- the characters stand at the output's beginning where there is room, and else the output is as it was
pub record Writes (room : Bool) (characters out : List ℕ) (r : Listed) (out' : List ℕ) : Type 0 where
  pub answer : told_listed r ≡ (if room then wrote (length characters) else no_room)
  pub left : out' ≡ (if room then characters ++ drop (length characters) out else out)

-- an output of so many bytes has room for the listing of any text of the given length
abbrev pub text_room : (given out : ℕ) → Bool
text_room given out = leb (3 * given + 32) out

-- and for a line with a payload of the given length
abbrev pub line_room : (given out : ℕ) → Bool
line_room given out = leb (2 * given + 32) out

-- the same of a record, whose payload lies in a pool of so many bytes
abbrev pub record_room : Record → (pool out : ℕ) → Bool
record_room (Data offset at len) pool out = leb (at + len) pool && line_room len out
record_room EndOfFile pool out = line_room 0 out
record_room (ExtendedSegmentAddress a) pool out = line_room 0 out
record_room (StartSegmentAddress cs ip) pool out = line_room 0 out
record_room (ExtendedLinearAddress a) pool out = line_room 0 out
record_room (StartLinearAddress a) pool out = line_room 0 out

abbrev pub reply_room : Reply → (pool out : ℕ) → Bool
reply_room (Some (Ok r)) pool out = record_room r pool out
reply_room (Some (Err e)) pool out = line_room 0 out
reply_room None pool out = line_room 0 out

-- the contract of `list`
abbrev pub Lists : (input out : List ℕ) (r : Listed) (out' : List ℕ) → Type 0
Lists input out r out' = Writes (text_room (length input) (length out)) (listing input) out r out'

-- the contract of `list_reply`
abbrev pub ListsReply : (reply : Reply) (pool out : List ℕ) (r : Listed) (out' : List ℕ) → Type 0
ListsReply reply pool out r out' = Writes (reply_room reply (length pool) (length out)) (shown reply pool) out r out'

-- the contract of `list_first`
abbrev pub ListsFirst : (out : List ℕ) (r : Listed) (out' : List ℕ) → Type 0
ListsFirst out r out' = Writes (line_room 0 (length out)) heading out r out'

-- the contract of `list_last`
abbrev pub ListsLast : (count : ℕ) (out : List ℕ) (r : Listed) (out' : List ℕ) → Type 0
ListsLast count out r out' = Writes (line_room 0 (length out)) (count_line count) out r out'
