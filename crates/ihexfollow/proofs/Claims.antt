-- The claim of `specs/Claims.antt`, proved: the program's calls are calls of the chunk reader, whose row is that of the joined chunks, and what
-- is printed of each reply is what the listing has for its line.
-- Assumes nothing.
use Rattle.std.proofs.Common.{◌≡◌, ℕ, suc, ◌%◌, ◌^◌, ◌<◌, ◌≤◌, Bool, true, false, ◌⊎◌, List, [], ◌∷◌, ◌++◌, length, take, drop, sym, refl, ap, ◌∙◌, subst, ap₂, inl, inr, arith}
use mathlib.Core.Option.{Option, none as no_note, some as note}
use Rattle.digits.specs.Common.{Every}
use Rattle.std.specs.Prelude.{if◌then◌else◌}
use Rattle.record.specs.Refusals.{number_of, carry_too_small}
use Rattle.record.specs.Line.{Said, says, wrong, judge}
use Rattle.record.specs.Meaning.{Meaning, data_at, end_of_file, extended_segment, start_segment, extended_linear, start_linear, meaning}
use Rattle.digits.proofs.Tests.{branch, if_false}
use Rattle.record.proofs.Standing.{Stands, stands, fault_few}
use Rattle.reader.specs.Aliases.{Reply}
use Rattle.reader.specs.Told.{Told, gives, refuses, done}
use Rattle.reader.specs.Answer.{fits_pool, given, answered, poured}
use Rattle.reader.specs.Lines.{lines}
use Rattle.reader.specs.Row.{Numbered, on, sayings, stops, through_stop, row}
use Rattle.reader.specs.Text.{told_reply, is_full}
use Rattle.reader.specs.Calls.{Call}
use Rattle.reader.proofs.Room.{never_full, ends_stops}
use Rattle.reader.proofs.Stays.{never_done}
use Rattle.chunks.specs.declared.Chunks.{Chunks}
use Rattle.chunks.specs.declared.ChunkReply.{ChunkReply}
use Rattle.chunks.specs.declared.ChunkReply.TheVariants.{Read, Refused, UsedUp, Done, CarryTooSmall}
use Rattle.chunks.specs.declared.ChunkStep.{ChunkStep}
use Rattle.chunks.specs.Begun.{Sought, ended, unended, stands_for, look}
use Rattle.chunks.specs.Next.{Word, tells, used_up, word_of, begun, at_place, Outcome, unchanged, answered_line, of_sought, too_small, next_outcome, finish_outcome, Meets, NextChunk}
use Rattle.chunks.specs.Rows.{joined, Seen, seen_with, Heard, Stepped, Fed, no_more, told_next, next_chunk, told_last, Nth, nth, numbered, seen_for, showing}
use Rattle.chunks.proofs.Claims.{any_cuts}
use Rattle.listing.specs.declared.Verdict.{Verdict}
use Rattle.listing.specs.Listing.{shown, entries, listing_options, answers}
use Rattle.listing.specs.Status.{no_line, verdict_from, after_reply, status_of}
use Rattle.listing.specs.Claims.{Answers}
use Rattle.listing.proofs.Claims.{shown_as_listed}
use Rattle.listing.proofs.Judging.{verdict_by_reply, status_by_verdict}
use Rattle.ihexfollow.specs.Replies.{reply_of, is_answer, is_used_up, Asks}
use Rattle.ihexfollow.specs.Claims.{first, Follows, prints, goes_on, stops as stops-there, FollowsTheListing}

-- ---- calls

-- a reply that is no answer: "done", or refusal 18
abbrev Over : Told → Type 0
Over t = (t ≡ done) ⊎ (t ≡ refuses carry_too_small)

-- what is printed of what calls were given, the last of which was over
data Printed : List Seen → (verdict : Verdict) → (printed : List ℕ) (count : ℕ) (end : Verdict) → Type 0 where
  over : {x : Seen} {verdict : Verdict} → Over x.given.told → Printed (x ∷ []) verdict [] 0 verdict
  more : {x : Seen} {seen : List Seen} {verdict : Verdict} {printed : List ℕ} {count : ℕ} {end : Verdict} (reply : Reply)
      → told_reply reply ≡ x.given.told → (x.given.told ≡ done → ⊥) → Printed seen (after_reply verdict reply) printed count end
      → Printed (x ∷ seen) verdict (shown reply x.given.pool ++ printed) (suc count) end

abbrev at_front : (pool : List ℕ) → Call
at_front pool = record { pool = pool; at = 0 }

-- the calls of a run, each at the front of a pool
abbrev calls : List (List ℕ) → List Call
calls [] = []
calls (pool ∷ pools) = at_front pool ∷ calls pools

record Called (s : Chunks) (carry pool : List ℕ) (chunks : List (List ℕ)) (verdict : Verdict) (printed : List ℕ) (count : ℕ) (end : Verdict) : Type 0 where
  pools : List (List ℕ)
  seen : List Seen
  fed : Fed s carry chunks (calls (pool ∷ pools)) seen
  rooms : Every (λ (p : List ℕ). 255 ≤ length p) (pool ∷ pools)
  said : Printed seen verdict printed count end

never : {A : Type 0} → ◌≡◌ {A = ℕ} 0 1 → A
never e = absurd (omega arith)

answer_told : (x : ChunkReply) → is_answer x ≡ true → word_of x ≡ tells (told_reply (reply_of x))
answer_told (Read r) e = refl
answer_told (Refused r) e = refl
answer_told UsedUp e = never (cc)
answer_told Done e = never (cc)
answer_told CarryTooSmall e = never (cc)

answer_goes_on : (x : ChunkReply) → is_answer x ≡ true → told_reply (reply_of x) ≡ done → ⊥
answer_goes_on (Read r) e d = never (cc)
answer_goes_on (Refused r) e d = never (cc)
answer_goes_on UsedUp e d = never (cc)
answer_goes_on Done e d = never (cc)
answer_goes_on CarryTooSmall e d = never (cc)

used_word : (x : ChunkReply) → is_used_up x ≡ true → word_of x ≡ used_up
used_word (Read r) e = never (cc)
used_word (Refused r) e = never (cc)
used_word UsedUp e = refl
used_word Done e = never (cc)
used_word CarryTooSmall e = never (cc)

over_told : (x : ChunkReply) → is_answer x ≡ false → is_used_up x ≡ false → (t : Told) × (word_of x ≡ tells t) × Over t
over_told (Read r) i u = never (cc)
over_told (Refused r) i u = never (cc)
over_told UsedUp i u = never (cc)
over_told Done i u = (done, refl, inl refl)
over_told CarryTooSmall i u = (refuses carry_too_small, refl, inr refl)

-- a chunk that is used up leaves the pool as it was
used_keeps : (s : Chunks) (chunk carry pool : List ℕ) (at : ℕ) → (next_outcome s chunk carry pool at).word ≡ used_up → (next_outcome s chunk carry pool at).pool ≡ pool
unfolding next_outcome of_sought answered_line unchanged
used_keeps s chunk carry pool at =
    branch Keeps (too_small s carry) _ _ (λ _ e. told_not_used e)
    (λ _. branch Keeps s.finished _ _ (λ _ e. told_not_used e) (λ _. found (look s.empties (begun s carry) (drop s.position chunk))))
  where
    Keeps : Outcome → Type 0
    Keeps o = o.word ≡ used_up → o.pool ≡ pool

    told_not_used : {A : Type 0} {t : Told} → tells t ≡ used_up → A
    told_not_used e = never (cc)

    found : (f : Sought) → Keeps (of_sought s (take s.used carry) chunk pool at f)
    found (ended start empties kept rest) = branch Keeps (is_full (answered (judge (stands_for kept)) (length pool) at)) _ _ (λ _ e. told_not_used e) (λ _ e. told_not_used e)
    found (unended empties b) = λ e. refl

-- what is seen of a call that is told t
abbrev seen_at : Told → (pool : List ℕ) → ChunkStep → (chunk carry : List ℕ) → Seen
seen_at t pool r chunk carry = record { given = record { told = t; pool = pool; line = r.state.line }; shown = at_place r.lies chunk carry }

-- a call by its contract, with the note that its word makes
module _ (o : Outcome) (chunk : List ℕ) (r : ChunkStep) (carry' pool' : List ℕ) where
  abbrev heard : Option Seen → Heard Seen
  heard x = record { note = x; state = r.state; carry = carry' }

  stepped : (w : Word) → Meets o chunk r carry' pool' → word_of r.reply ≡ w → Stepped o chunk (heard (seen_with w pool' r.state.line (at_place r.lies chunk carry')))
  stepped w m e = record { step = r; pool = pool'; meets = m; note_is = ap (λ (x : Word). seen_with x pool' r.state.line (at_place r.lies chunk carry')) (sym e); state_is = refl }

module _ (s : Chunks) (carry pool : List ℕ) (r : ChunkStep) (carry' pool' : List ℕ) where
  asks_next : (chunk : List ℕ) → 0 < length chunk → Asks s chunk carry pool r carry' pool' → NextChunk s chunk carry pool 0 r carry' pool'
  asks_next [] h a = absurd (omega arith)
  asks_next (c ∷ chunk) h a = a

  asks_fed : (chunks : List (List ℕ)) (t : Told) (cs : List Call) (seen : List Seen) → Every (λ (chunk : List ℕ). 0 < length chunk) chunks
      → Asks s (first chunks) carry pool r carry' pool' → length carry' ≡ length carry → word_of r.reply ≡ tells t
      → Fed r.state carry' chunks cs seen → Fed s carry chunks (at_front pool ∷ cs) (seen_at t pool' r (first chunks) carry' ∷ seen)
  asks_fed [] t cs seen some a l w f =
      let o = finish_outcome s carry pool 0 in
      told_last (heard o [] r carry' pool' (note (seen_at t pool' r [] carry'))) (stepped o [] r carry' pool' (tells t) a w) l refl f
  asks_fed (chunk ∷ chunks) t cs seen some a l w f =
      let o = next_outcome s chunk carry pool 0 in
      told_next (heard o chunk r carry' pool' (note (seen_at t pool' r chunk carry'))) (stepped o chunk r carry' pool' (tells t) (asks_next chunk some.0 a) w) l refl f

called : {s : Chunks} {carry pool : List ℕ} {chunks : List (List ℕ)} {verdict : Verdict} {printed : List ℕ} {count : ℕ} {end : Verdict}
    → Follows s carry pool chunks verdict printed count end → 255 ≤ length pool → Every (λ (chunk : List ℕ). 0 < length chunk) chunks
    → Called s carry pool chunks verdict printed count end
called (prints {s} {carry} {pool} {chunks} {verdict} {printed} {count} {end} r carry' pool' a l p i f) h some =
    let k = called f (omega arith) some in
    let t = told_reply (reply_of r.reply) in
    record {
      pools = pool' ∷ k.pools;
      seen = seen_at t pool' r (first chunks) carry' ∷ k.seen;
      fed = asks_fed s carry pool r carry' pool' chunks t (calls (pool' ∷ k.pools)) k.seen some a l (answer_told r.reply i) k.fed;
      rooms = (h, k.rooms);
      said = more (reply_of r.reply) refl (answer_goes_on r.reply i) k.said;
    }
called (goes_on {s} {carry} {pool} {chunk} {chunks} {verdict} {printed} {count} {end} r carry' pool' a l p u f) h some =
    let n = asks_next s carry pool r carry' pool' chunk some.0 a in
    let w = used_word r.reply u in
    let e : pool' ≡ pool = n.left ∙ used_keeps s chunk carry pool 0 (sym n.answer ∙ w) in
    let k = subst (λ (x : List ℕ). Called r.state carry' x chunks verdict printed count end) e (called f (omega arith) some.1) in
    let o = next_outcome s chunk carry pool 0 in
    record {
      pools = k.pools;
      seen = k.seen;
      fed = next_chunk (heard o chunk r carry' pool' no_note) (stepped o chunk r carry' pool' used_up n w) l refl k.fed;
      rooms = k.rooms;
      said = k.said;
    }
called (stops-there {s} {carry} {pool} {chunks} {verdict} r carry' pool' a l i u) h some =
    let o = over_told r.reply i u in
    record {
      pools = [];
      seen = seen_at o.0 pool' r (first chunks) carry' ∷ [];
      fed = asks_fed s carry pool r carry' pool' chunks o.0 [] [] some a l o.1 no_more;
      rooms = (h, tt);
      said = over o.2;
    }

-- ---- the row

record Result (answers : List Numbered) (verdict : Verdict) (printed : List ℕ) (count : ℕ) (end : Verdict) : Type 0 where
  printed_is : printed ≡ entries answers
  count_is : count ≡ length answers
  end_is : end ≡ verdict_from verdict answers

first_told : List Seen → Told
first_told [] = done
first_told (x ∷ seen) = x.given.told

first_pool : List Seen → List ℕ
first_pool [] = []
first_pool (x ∷ seen) = x.given.pool

rest : List Seen → List Seen
rest [] = []
rest (x ∷ seen) = seen

-- nothing is left to read
none : (last : ℕ) (pools : List (List ℕ)) (seen : List Seen) {verdict : Verdict} {printed : List ℕ} {count : ℕ} {end : Verdict}
    → seen ≡ showing listing_options last [] (calls pools) → Printed seen verdict printed count end → Result [] verdict printed count end
unfolding showing entries verdict_from first_told
none last pools seen e (over o) = record { printed_is = refl; count_is = refl; end_is = refl }
none last [] seen e (more reply t d p) = never (cc)
none last (pool ∷ pools) seen e (more reply t d p) = absurd (d (ap first_told e))

-- no line is answered as a run ends
number_told : Told → ℕ
number_told (gives kind numbers) = 0
number_told (refuses r) = number_of r
number_told done = 0

given_few : (m : Meaning) (n at : ℕ) → number_told (given m n at) < 18
unfolding given number_told
given_few (data_at offset bytes) n at = branch (λ (t : Told). number_told t < 18) (fits_pool n at bytes) _ _ (λ _. omega arith) (λ _. omega arith)
given_few end_of_file n at = omega arith
given_few (extended_segment number) n at = omega arith
given_few (start_segment cs ip) n at = omega arith
given_few (extended_linear number) n at = omega arith
given_few (start_linear number) n at = omega arith

not_over : (line : List ℕ) (n : ℕ) → Over (answered (judge line) n 0) → ⊥
unfolding answered number_told
not_over line n (inl e) = never_done (judge line) n 0 e
not_over line n (inr e) = go (judge line) refl (ap number_told e)
  where
    go : (said : Said) → judge line ≡ said → number_told (answered said n 0) ≡ 18 → ⊥
    go (says kind address payload) j e = omega (arith, given_few (meaning kind address payload) n 0)
    go (wrong r) j e = omega (arith, fault_few (subst (Stands line) j (stands line)))

-- a line, and what is left after it
module _ (line : List ℕ) (n : ℕ) (pool : List ℕ) (size : 255 ≤ length pool) (reply : Reply) (told_is : told_reply reply ≡ answered (judge line) (length pool) 0) where
  one : (left : List Numbered) (verdict : Verdict) (printed : List ℕ) (count : ℕ) (end : Verdict) → Result left (after_reply verdict reply) printed count end
      → Result (on n (judge line) ∷ left) verdict (shown reply (poured (judge line) pool 0) ++ printed) (suc count) end
  unfolding entries verdict_from
  one left verdict printed count end r =
      let a : Answers line pool reply (poured (judge line) pool 0) = record { size = size; tells = told_is; holds = refl } in
      record {
        printed_is = ap₂ (λ (x y : List ℕ). x ++ y) (shown_as_listed line pool reply (poured (judge line) pool 0) a) r.printed_is;
        count_is = ap suc r.count_is;
        end_is = r.end_is ∙ ap (λ (v : Verdict). verdict_from v left) (verdict_by_reply line pool reply (poured (judge line) pool 0) a verdict);
      }

-- what calls are given that have a line to read
show_line : (last m : ℕ) (line : List ℕ) (left : List Nth) (pool : List ℕ) (pools : List (List ℕ)) → 255 ≤ length pool
    → showing listing_options last (nth m line ∷ left) (calls (pool ∷ pools))
    ≡ seen_for (nth m line) (at_front pool) ∷ showing listing_options m (if stops listing_options (judge line) then [] else left) (calls pools)
unfolding showing
show_line last m line left pool pools h =
    let f = never_full line (length pool) 0 (omega arith) in
    if_false (is_full (answered (judge line) (length pool) 0)) _ _ f
    ∙ ap (λ (b : Bool). seen_for (nth m line) (at_front pool) ∷ showing listing_options m (if b then [] else left) (calls pools)) (ends_stops listing_options (judge line) (length pool) 0 f)

-- what the calls after a line come to
abbrev GoesOn : (m : ℕ) (left : List Nth) (row-left : List Numbered) → Type 0
GoesOn m left row-left =
    (pools : List (List ℕ)) (seen : List Seen) (verdict : Verdict) (printed : List ℕ) (count : ℕ) (end : Verdict)
    → Every (λ (p : List ℕ). 255 ≤ length p) pools → seen ≡ showing listing_options m left (calls pools) → Printed seen verdict printed count end
    → Result row-left verdict printed count end

from_there : (b : Bool) (m : ℕ) (left : List Nth) (row-left : List Numbered) → GoesOn m left row-left → GoesOn m (if b then [] else left) (if b then [] else row-left)
from_there true m left row-left k = λ pools seen verdict printed count end rooms e p. none m pools seen e p
from_there false m left row-left k = k

at_line : (line : List ℕ) (n m last : ℕ) (left : List Nth) (row-left : List Numbered) → GoesOn m left row-left
    → (pools : List (List ℕ)) (seen : List Seen) {verdict : Verdict} {printed : List ℕ} {count : ℕ} {end : Verdict}
    → Every (λ (p : List ℕ). 255 ≤ length p) pools → seen ≡ showing listing_options last (nth m line ∷ left) (calls pools) → Printed seen verdict printed count end
    → Result (on n (judge line) ∷ (if stops listing_options (judge line) then [] else row-left)) verdict printed count end
unfolding showing first_told first_pool rest
at_line line n m last left row-left k [] seen rooms e (over o) = never (cc)
at_line line n m last left row-left k [] seen rooms e (more reply t d p) = never (cc)
at_line line n m last left row-left k (pool ∷ pools) seen rooms e (over o) =
    absurd (not_over line (length pool) (subst Over (ap first_told (e ∙ show_line last m line left pool pools rooms.0)) o))
at_line line n m last left row-left k (pool ∷ pools) seen rooms e (more {x} {seen = seen'} {verdict} {printed} {count} {end} reply t d p) =
    let q = e ∙ show_line last m line left pool pools rooms.0 in
    let b = stops listing_options (judge line) in
    let r = from_there b m left row-left k pools seen' (after_reply verdict reply) printed count end rooms.1 (ap rest q) p in
    subst (λ (y : List ℕ). Result (on n (judge line) ∷ (if b then [] else row-left)) verdict (shown reply y ++ printed) (suc count) end) (sym (ap first_pool q))
    (one line n pool rooms.0 reply (t ∙ ap first_told q) (if b then [] else row-left) verdict printed count end r)

met : (ls : List (List ℕ)) (n last : ℕ) → GoesOn last (numbered n ls) (through_stop listing_options (sayings n ls))
unfolding numbered sayings through_stop
met [] n last pools seen verdict printed count end rooms e p = none last pools seen e p
met ([] ∷ ls) n last pools seen verdict printed count end rooms e p = met ls (suc n) last pools seen verdict printed count end rooms e p
met ((c ∷ line) ∷ ls) n last pools seen verdict printed count end rooms e p =
    at_line (c ∷ line) n (n % 2 ^ 64) last (numbered (suc n) ls) (through_stop listing_options (sayings (suc n) ls)) (met ls (suc n) (n % 2 ^ 64)) pools seen rooms e p

pub follows_the_listing : FollowsTheListing
unfolding row
follows_the_listing carry pool chunks printed count end big size some f =
    let k = called f size some in
    let e = any_cuts listing_options carry chunks (calls (pool ∷ k.pools)) k.seen big k.fed in
    let r = met (lines (joined chunks)) 1 0 (pool ∷ k.pools) k.seen no_line printed count end k.rooms e k.said in
    (r.printed_is, r.count_is, ap status_of r.end_is ∙ status_by_verdict (answers (joined chunks)))
