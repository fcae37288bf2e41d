-- Where the program begins, which call it makes, and what it makes of the chunk reader's replies.
-- Assumes nothing.
use Rattle.std.specs.Prelude.{◌≡◌, ℕ, Bool, true, false, List, [], ◌∷◌}
use Rattle.reader.specs.Aliases.{Reply}
use Rattle.chunks.specs.declared.Chunks.{Chunks}
use Rattle.chunks.specs.declared.ChunkReply.{ChunkReply}
use Rattle.chunks.specs.declared.ChunkReply.TheVariants.{Read, Refused, UsedUp, Done, CarryTooSmall}
use Rattle.chunks.specs.declared.ChunkStep.{ChunkStep}
use Rattle.chunks.specs.Next.{new_chunks, NextChunk, Finish}
use Rattle.listing.specs.Listing.{listing_options}
use Rattle.listing.specs.Status.{no_line}
use Rattle.ihexfollow.specs.declared.Progress.{Progress}
use Rattle.std.specs.Prelude.{Err, None, Ok, Some}

-- the reply that is listed; "done" where a call gave no answer
abbrev pub reply_of : ChunkReply → Reply
reply_of (Read r) = Some (Ok r)
reply_of (Refused e) = Some (Err e)
reply_of UsedUp = None
reply_of Done = None
reply_of CarryTooSmall = None

-- a record or a refused line
abbrev pub is_answer : ChunkReply → Bool
is_answer (Read r) = true
is_answer (Refused e) = true
is_answer UsedUp = false
is_answer Done = false
is_answer CarryTooSmall = false

-- only then is there more to read
abbrev pub is_used_up : ChunkReply → Bool
is_used_up (Read r) = false
is_used_up (Refused e) = false
is_used_up UsedUp = true
is_used_up Done = false
is_used_up CarryTooSmall = false

-- the contract of `ask`: a chunk of no bytes is the end of the text
abbrev pub Asks : Chunks → (chunk carry pool : List ℕ) → ChunkStep → (carry' pool' : List ℕ) → Type 0
Asks s [] carry pool r carry' pool' = Finish s carry pool 0 r carry' pool'
Asks s (c ∷ chunk) carry pool r carry' pool' = NextChunk s (c ∷ chunk) carry pool 0 r carry' pool'

-- the contract of `begin`: at the beginning of a text, with the stops of a listing, no line and no answer
pub record Begins (r : Progress) : Type 0 where
  pub state_is : r.state ≡ new_chunks listing_options
  pub verdict_is : r.verdict ≡ no_line
  pub count_is : r.count ≡ 0
  pub more_is : r.more ≡ true
