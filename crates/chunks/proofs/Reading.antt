-- A line that was found is read: what `next_line` and `last_line` find, read and settled, is what `next` and `finish` answer.
-- Assumes nothing.
use Rattle.std.proofs.Common.{◌≡◌, ℕ, ◌+◌, ◌-◌, ◌<◌, ◌≤◌, Bool, true, false, List, [], length, take, drop, sym, refl, ap, ◌∙◌, subst, arith, take-take}
use mathlib.Core.Option.{Option, none, some}
use Rattle.record.specs.Line.{judge}
use Rattle.digits.proofs.Parts.{part_length}
use Rattle.reader.specs.Aliases.{Answer}
use Rattle.reader.specs.Told.{told}
use Rattle.reader.specs.Answer.{Reads, answered}
use Rattle.reader.specs.Lines.{first_line}
use Rattle.chunks.specs.declared.Chunks.{Chunks}
use Rattle.chunks.specs.declared.Place.{Place}
use Rattle.chunks.specs.declared.Place.TheVariants.{Nowhere, InChunk, InCarry}
use Rattle.chunks.specs.declared.LineReply.{LineReply}
use Rattle.chunks.specs.declared.LineReply.TheVariants as found
use Rattle.chunks.specs.declared.LineStep.{LineStep}
use Rattle.chunks.specs.declared.ChunkReply.{ChunkReply}
use Rattle.chunks.specs.declared.ChunkReply.TheVariants.{UsedUp, Done, CarryTooSmall}
use Rattle.chunks.specs.declared.ChunkStep.{ChunkStep}
use Rattle.chunks.specs.Begun.{Kept, is_empty, brief, stands_for, with_CR, Sought, ended, unended, look}
use Rattle.chunks.specs.Next.{word_of, is_record, kept_in, begun, number_behind, place, at_place, in_carry, unchanged, answered_line, of_sought, too_small, NextChunk, Finish, Meets}
use Rattle.chunks.specs.Line.{kept_at, Inside, line_place, LineOutcome, idle, found_line, of_found, Finds, NextLine, LastLine}
use Rattle.chunks.specs.Helpers.{Settles, Plain, ReadsLine}
use Rattle.chunks.proofs.Brief.{judge_brief, brief_short, stands_itself}
use Rattle.chunks.proofs.Front.{Keeps, carried_by, keeps_CR, look_keeps}
use Rattle.chunks.proofs.Outcomes.{met, record_short, full_kept, record_kept}
use Rattle.chunks.proofs.FirstTests.{next_18, next_over, next_on, finish_18, finish_over, finish_on, line_18, line_over, line_on, no_last, last_18, last_over, last_on}

-- a record's line is kept as it is
pub as_it_is : (l : List ℕ) (n at : ℕ) → is_record (answered (judge (stands_for (brief l))) n at) ≡ true → stands_for (brief l) ≡ l
as_it_is l n at rec =
    let short : length l < 522 = record_short l n at (rw (judge_brief l) at rec) in
    ap stands_for (brief_short l (omega arith)) ∙ stands_itself l

module _ (s : Chunks) (chunk carry pool : List ℕ) (at : ℕ) (step : LineStep) (r : ChunkStep) (carry' pool' : List ℕ) where
  abbrev used : List ℕ
  used = take s.used carry

  -- what was read, of a reply that is known
  module _ (last : Bool) (reply : LineReply) (is : step.reply ≡ reply) (read : ReadsLine s step.reply step.state chunk carry' pool at last r pool') where
    known : ReadsLine s reply step.state chunk carry' pool at last r pool'
    known = subst (λ (x : LineReply). ReadsLine s x step.state chunk carry' pool at last r pool') is read

  -- no line was found
  handed : (reply : ChunkReply) (o : LineOutcome) → Finds o chunk step carry' → Plain reply step.state r × (pool' ≡ pool)
      → Meets (record { word = word_of reply; state = o.state; lies = Nowhere; shows = []; carried = o.carried; pool = pool }) chunk r carry' pool'
  handed reply o f (p, same) =
      record {
        answer = ap word_of p.reply_is;
        state = p.state_is ∙ f.state;
        lies = p.lies_is;
        shows = ap (λ (x : Place). at_place x chunk carry') p.lies_is;
        carry = f.carry;
        left = same;
      }

  module _ (empties : ℕ) (k : Kept) (position : ℕ) (last : Bool) where
    -- its number and the place after it are those of the state
    settles : (a : Answer) (lies : Place) (start : Option (List ℕ)) → Finds (found_line s chunk start empties k position last) chunk step carry'
        → Settles s (told a) step.state.position step.state.line last lies r → Settles s (told a) position (number_behind s empties) last lies r
    unfolding found_line
    settles a lies start f x = subst (λ (st : Chunks). Settles s (told a) st.position st.line last lies r) f.state x

    -- what was used before is still there
    still : (c : List ℕ) → Keeps used c → take (length c) carry' ≡ c → length c < 522 → take (length used) carry' ≡ used
    still c keeps front few =
        let (n, e) = keeps few in
        sym (take-take (length used) (length c) carry' n) ∙ ap (take (length used)) front ∙ e

    module _ (text : List ℕ) (f : Finds (found_line s chunk (some text) empties k position last) chunk step carry')
        (read : ReadsLine s step.reply step.state chunk carry' pool at last r pool') (keeps : Keeps used []) where
      abbrev from : ℕ
      from = length chunk - length text

      abbrev len : ℕ
      len = length (first_line text)

      abbrev line : List ℕ
      line = take len (drop from chunk)

      is_there : step.reply ≡ found.InChunk from len
      unfolding found_line line_place
      is_there = f.answer

      kept_so : brief line ≡ k
      unfolding found_line
      kept_so = subst (λ (x : LineReply). kept_at x chunk carry' ≡ k) is_there f.line

      inside : from + len ≤ length chunk
      inside = subst (λ (x : LineReply). Inside x chunk carry') is_there f.inside

      stood : is_record (answered (judge (stands_for k)) (length pool) at) ≡ true → stands_for k ≡ line
      stood rec =
          ap stands_for (sym kept_so) ∙ as_it_is line (length pool) at (subst (λ (x : Kept). is_record (answered (judge (stands_for x)) (length pool) at) ≡ true) (sym kept_so) rec)

      read_in_chunk : Meets (answered_line s used chunk pool at (some text) empties k position last) chunk r carry' pool'
      unfolding place in_carry
      read_in_chunk =
          let (a, reads, settled) = known last (found.InChunk from len) is_there read in
          met s used chunk pool at (some text) empties k position last (number_behind s empties) (InChunk from len) a r carry' pool'
          (subst (λ (x : Kept). Reads (judge (stands_for x)) pool at a pool') kept_so (rw (judge_brief line) reads))
          (settles a (InChunk from len) (some text) f settled) refl
          (λ rec. ap (InChunk from) (sym (part_length chunk from len inside) ∙ ap length (sym (stood rec)))) (λ rec. sym (stood rec))
          (λ _. still [] keeps refl (omega arith)) refl

    module _ (f : Finds (found_line s chunk none empties k position last) chunk step carry')
        (read : ReadsLine s step.reply step.state chunk carry' pool at last r pool') (keeps : Keeps used k.bytes) where
      in_there : step.reply ≡ found.InCarry (length k.bytes) k.skipped
      unfolding found_line line_place
      in_there = f.answer

      front : take (length k.bytes) carry' ≡ k.bytes
      unfolding found_line in_carry
      front = f.carry

      read_in_carry : Meets (answered_line s used chunk pool at none empties k position last) chunk r carry' pool'
      unfolding place in_carry found_line
      read_in_carry =
          let n : ℕ = length k.bytes in
          let (a, reads, settled) = known last (found.InCarry n k.skipped) in_there read in
          let kept_so : kept_in carry' n k.skipped ≡ k = subst (λ (x : LineReply). kept_at x chunk carry' ≡ k) in_there f.line in
          met s used chunk pool at none empties k position last (number_behind s empties) (InCarry n) a r carry' pool'
          (subst (λ (x : Kept). Reads (judge (stands_for x)) pool at a pool') kept_so reads)
          (settles a (InCarry n) none f settled) refl
          (λ rec. ap InCarry (ap length (sym (record_kept k (length pool) at rec)))) (λ rec. front ∙ sym (record_kept k (length pool) at rec))
          (λ full. still k.bytes keeps front (full_kept k (length pool) at full)) front

    read_found : (start : Option (List ℕ)) → Finds (found_line s chunk start empties k position last) chunk step carry'
        → ReadsLine s step.reply step.state chunk carry' pool at last r pool' → Keeps used (in_carry start k)
        → Meets (answered_line s used chunk pool at start empties k position last) chunk r carry' pool'
    unfolding in_carry
    read_found (some text) f read keeps = read_in_chunk text f read keeps
    read_found none f read keeps = read_in_carry f read keeps

  by_sought : (g : Sought) → Keeps used (carried_by g) → Finds (of_found s chunk g) chunk step carry'
      → ReadsLine s step.reply step.state chunk carry' pool at false r pool' → Meets (of_sought s used chunk pool at g) chunk r carry' pool'
  unfolding of_found of_sought carried_by
  by_sought (ended start empties k rest) keeps f read = read_found empties k (length chunk - length rest) false start f read keeps
  by_sought (unended empties b) keeps f read = handed UsedUp (of_found s chunk (unended empties b)) f (known false found.UsedUp f.answer read)

  pub next_reads : NextLine s chunk carry step carry' → ReadsLine s step.reply step.state chunk carry' pool at false r pool' → NextChunk s chunk carry pool at r carry' pool'
  unfolding idle unchanged
  next_reads f read = go (too_small s carry) refl s.finished refl
    where
      go : (t : Bool) → too_small s carry ≡ t → (d : Bool) → s.finished ≡ d → NextChunk s chunk carry pool at r carry' pool'
      go true t d e =
          let g : Finds (idle found.CarryTooSmall s carry) chunk step carry' = rw (line_18 s chunk carry t) at f in
          rw (next_18 s chunk carry pool at t) (handed CarryTooSmall (idle found.CarryTooSmall s carry) g (known false found.CarryTooSmall g.answer read))
      go false t true e =
          let g : Finds (idle found.Done s carry) chunk step carry' = rw (line_over s chunk carry t e) at f in
          rw (next_over s chunk carry pool at t e) (handed Done (idle found.Done s carry) g (known false found.Done g.answer read))
      go false t false e =
          rw (next_on s chunk carry pool at t e)
          (by_sought (look s.empties (begun s carry) (drop s.position chunk)) (look_keeps (drop s.position chunk) s.empties (begun s carry)) (rw (line_on s chunk carry t e) at f) read)

module _ (s : Chunks) (carry pool : List ℕ) (at : ℕ) (step : LineStep) (r : ChunkStep) (carry' pool' : List ℕ) where
  pub finish_reads : LastLine s carry step carry' → ReadsLine s step.reply step.state [] carry' pool at true r pool' → Finish s carry pool at r carry' pool'
  unfolding idle unchanged in_carry
  finish_reads f read = go (too_small s carry) refl s.finished refl (is_empty (with_CR (begun s carry)).bytes) refl
    where
      go : (t : Bool) → too_small s carry ≡ t → (d : Bool) → s.finished ≡ d → (b : Bool) → is_empty (with_CR (begun s carry)).bytes ≡ b → Finish s carry pool at r carry' pool'
      go true t d e b n =
          let g : Finds (idle found.CarryTooSmall s carry) [] step carry' = rw (last_18 s carry t) at f in
          rw (finish_18 s carry pool at t) (handed s [] carry pool at step r carry' pool' CarryTooSmall (idle found.CarryTooSmall s carry) g (known s [] carry pool at step r carry' pool' true found.CarryTooSmall g.answer read))
      go false t true e b n =
          let g : Finds (idle found.Done s carry) [] step carry' = rw (last_over s carry t e) at f in
          rw (finish_over s carry pool at t e) (handed s [] carry pool at step r carry' pool' Done (idle found.Done s carry) g (known s [] carry pool at step r carry' pool' true found.Done g.answer read))
      go false t false e true n =
          let g : Finds (no_last s) [] step carry' = rw (last_on s carry t e true n) at f in
          rw (finish_on s carry pool at t e true n) (handed s [] carry pool at step r carry' pool' Done (no_last s) g (known s [] carry pool at step r carry' pool' true found.Done g.answer read))
      go false t false e false n =
          rw (finish_on s carry pool at t e false n)
          (read_found s [] carry pool at step r carry' pool' s.empties (with_CR (begun s carry)) 0 true none (rw (last_on s carry t e false n) at f) read (keeps_CR (begun s carry)))
