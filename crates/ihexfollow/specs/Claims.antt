-- What is claimed of the lines that the program prints, and of its exit status; proved in `proofs/Claims.antt`.
-- Assumes nothing.
use Rattle.std.specs.Prelude.{◌≡◌, ℕ, suc, ◌<◌, ◌≤◌, true, false, List, [], ◌∷◌, ◌++◌, length}
use Rattle.digits.specs.Common.{Every}
use Rattle.chunks.specs.declared.Chunks.{Chunks}
use Rattle.chunks.specs.declared.ChunkStep.{ChunkStep}
use Rattle.chunks.specs.Next.{new_chunks}
use Rattle.chunks.specs.Rows.{joined}
use Rattle.listing.specs.declared.Verdict.{Verdict}
use Rattle.listing.specs.Listing.{shown, entries, listing_options, answers}
use Rattle.listing.specs.Status.{row_status, no_line, after_reply, status_of}
use Rattle.ihexfollow.specs.Replies.{reply_of, is_answer, is_used_up, Asks}

-- the chunk that is asked; none is left at the end of the input
abbrev pub first : List (List ℕ) → List ℕ
first [] = []
first (chunk ∷ chunks) = chunk

-- What the program does with a row of chunks: it asks; it prints an answer and asks again; after a chunk that is used up it goes on with
-- the next one; on any other reply it stops. `printed` is what it prints between the first line of the listing and the last, `count` is how many
-- lines that is, and `end` is what the answers come to. All that is known of a call is its contract, and that a lent slice keeps its length.
pub data Follows : (s : Chunks) (carry pool : List ℕ) (chunks : List (List ℕ)) (verdict : Verdict) → (printed : List ℕ) (count : ℕ) (end : Verdict) → Type 0 where
  prints : {s : Chunks} {carry pool : List ℕ} {chunks : List (List ℕ)} {verdict : Verdict} {printed : List ℕ} {count : ℕ} {end : Verdict} (r : ChunkStep) (carry' pool' : List ℕ)
      → Asks s (first chunks) carry pool r carry' pool' → length carry' ≡ length carry → length pool' ≡ length pool → is_answer r.reply ≡ true
      → Follows r.state carry' pool' chunks (after_reply verdict (reply_of r.reply)) printed count end
      → Follows s carry pool chunks verdict (shown (reply_of r.reply) pool' ++ printed) (suc count) end
  goes_on : {s : Chunks} {carry pool chunk : List ℕ} {chunks : List (List ℕ)} {verdict : Verdict} {printed : List ℕ} {count : ℕ} {end : Verdict} (r : ChunkStep) (carry' pool' : List ℕ)
      → Asks s chunk carry pool r carry' pool' → length carry' ≡ length carry → length pool' ≡ length pool → is_used_up r.reply ≡ true
      → Follows r.state carry' pool' chunks verdict printed count end → Follows s carry pool (chunk ∷ chunks) verdict printed count end
  stops : {s : Chunks} {carry pool : List ℕ} {chunks : List (List ℕ)} {verdict : Verdict} (r : ChunkStep) (carry' pool' : List ℕ)
      → Asks s (first chunks) carry pool r carry' pool' → length carry' ≡ length carry → is_answer r.reply ≡ false → is_used_up r.reply ≡ false
      → Follows s carry pool chunks verdict [] 0 verdict

-- wherever the input is cut, that is the listing of the whole input, with its count and its exit status
abbrev pub FollowsTheListing : Type 0
FollowsTheListing =
    (carry pool : List ℕ) (chunks : List (List ℕ)) (printed : List ℕ) (count : ℕ) (end : Verdict) → 522 ≤ length carry → 255 ≤ length pool
    → Every (λ (chunk : List ℕ). 0 < length chunk) chunks → Follows (new_chunks listing_options) carry pool chunks no_line printed count end
    → let row = answers (joined chunks) in (printed ≡ entries row) × (count ≡ length row) × (status_of end ≡ row_status row)
