-- From an answer to a line to the outcome of a call.
-- Assumes nothing.
use Rattle.std.proofs.Common.{◌≡◌, ℕ, suc, ◌<◌, ◌≤◌, Bool, true, false, ◌||◌, eqb, ltb, List, [], ◌∷◌, length, take, drop, replicate, sym, refl, ap, ◌∙◌, arith, length-append, length-drop, length-take-le, ltb-false, ltb-true}
use mathlib.Core.Option.{Option}
use Rattle.std.specs.Prelude.{if◌then◌else◌}
use Rattle.record.specs.Refusals.{missing_start_code, contains_invalid_characters, record_too_long}
use Rattle.digits.specs.Digits.{all_digits, leading}
use Rattle.record.specs.Line.{wrong, judge}
use Rattle.digits.specs.Reading.{named}
use Rattle.record.specs.declared.Record.{Record}
use Rattle.digits.proofs.Tests.{split}
use Rattle.reader.specs.Aliases.{Answer}
use Rattle.reader.specs.declared.ReaderError.{ReaderError}
use Rattle.reader.specs.Told.{Told, gives, refuses, done, told, is_pool_full}
use Rattle.reader.specs.Answer.{Reads, answered, poured}
use Rattle.reader.specs.Text.{is_full, ends_row}
use Rattle.reader.proofs.Reading.{full_by_number, full_keeps}
use Rattle.chunks.specs.declared.Chunks.{Chunks}
use Rattle.chunks.specs.declared.Place.{Place}
use Rattle.chunks.specs.declared.Place.TheVariants.{Nowhere}
use Rattle.chunks.specs.declared.ChunkReply.TheVariants as reply
use Rattle.chunks.specs.declared.ChunkStep.{ChunkStep}
use Rattle.chunks.specs.Begun.{Kept, behind_digits, stands_for}
use Rattle.chunks.specs.Next.{tells, word_of, is_record, past_line, number_behind, place, at_place, in_carry, answered_line, Meets}
use Rattle.chunks.specs.Helpers.{Settles, Plain}
use Rattle.chunks.proofs.Brief.{judge_over}
use Rattle.chunks.proofs.Moved.{short_stands}
use Rattle.std.specs.Prelude.{Err, Ok}

-- ---- one answer

module _ (s : Chunks) (answer : Answer) (position line : ℕ) (last : Bool) (lies : Place) where
  pub settle_read : (r : Record) (state : Chunks) (finished : Bool) → answer ≡ Ok r → state ≡ past_line s position line finished
      → finished ≡ (last || ends_row s.options (told (Ok r)))
      → Settles s (told answer) position line last lies (record { reply = reply.Read r; state = state; lies = lies })
  unfolding is_full is_record
  settle_read r state finished e f g = rw (e, f, g) (record { answer = refl; state = refl; place = refl })

  pub settle_full : (e : ReaderError) (r : ChunkStep) → answer ≡ Err e → is_pool_full e ≡ true → Plain (reply.Refused e) s r
      → Settles s (told answer) position line last lies r
  unfolding is_full is_record
  settle_full e r a n p =
      rw a (record { answer = ap word_of p.reply_is; state = p.state_is ∙ rw (sym (full_by_number e) ∙ n); place = p.lies_is })

  pub settle_refused : (e : ReaderError) (state : Chunks) (finished : Bool) (r : ChunkStep) → answer ≡ Err e → is_pool_full e ≡ false
      → state ≡ past_line s position line finished → finished ≡ (last || s.options.stop_after_first_error) → Plain (reply.Refused e) state r
      → Settles s (told answer) position line last lies r
  unfolding is_full is_record ends_row
  settle_refused e state finished r a n f g p =
      rw a (record {
        answer = ap word_of p.reply_is;
        state = p.state_is ∙ f ∙ rw (sym (full_by_number e) ∙ n, g);
        place = p.lies_is;
      })

-- ---- a line over 521 bytes gives neither a record nor PoolFull

record Refusing (t : Told) : Type 0 where
  not_full : is_full t ≡ false
  no_record : is_record t ≡ false

long : (colon digits : Bool) (place n at : ℕ)
    → Refusing (answered (if colon then (if digits then wrong record_too_long else wrong (contains_invalid_characters place)) else wrong missing_start_code) n at)
unfolding answered is_full is_record
long true true place n at = record { not_full = refl; no_record = refl }
long true false place n at = record { not_full = refl; no_record = refl }
long false digits place n at = record { not_full = refl; no_record = refl }

long_refused : (l : List ℕ) (n at : ℕ) → 521 < length l → Refusing (answered (judge l) n at)
long_refused [] n at h = absurd (omega arith)
long_refused (c ∷ ds) n at h = rw (judge_over c ds (omega arith)) (long (eqb c 58) (all_digits ds) (named (suc (leading ds))) n at)

-- so what holds of an answer and of no refusal tells a short line
short : (P : Told → Bool) (l : List ℕ) (n at : ℕ) → (521 < length l → P (answered (judge l) n at) ≡ false) → P (answered (judge l) n at) ≡ true → length l < 522
short P l n at h e = go (ltb (length l) 522) refl
  where
    go : (t : Bool) → ltb (length l) 522 ≡ t → length l < 522
    go true f = ltb-true (length l) 522 f
    go false f =
        let g : ◌≡◌ {A = Bool} true false = sym e ∙ h (omega (arith, ltb-false (length l) 522 f)) in
        let z : ◌≡◌ {A = ℕ} 0 1 = cc in absurd (omega arith)

pub full_short : (l : List ℕ) (n at : ℕ) → is_full (answered (judge l) n at) ≡ true → length l < 522
full_short l n at e = short is_full l n at (λ h. (long_refused l n at h).not_full) e

pub record_short : (l : List ℕ) (n at : ℕ) → is_record (answered (judge l) n at) ≡ true → length l < 522
record_short l n at e = short is_record l n at (λ h. (long_refused l n at h).no_record) e

-- what is kept stands for a line so short only where it is that line
module _ (k : Kept) where
  pub stood_short : length (stands_for k) < 522 → length k.bytes ≤ 521
  unfolding stands_for
  stood_short h =
      split (length k.bytes) 521 (λ g. g)
      (λ g. absurd (omega (arith, length-append (take 521 k.bytes) (behind_digits k.skipped (drop 521 k.bytes)), length-take-le 521 k.bytes (omega arith), some_behind k.skipped (drop 521 k.bytes) (omega (arith, length-drop 521 k.bytes)))))
    where
      some_behind : (n : ℕ) (l : List ℕ) → 0 < length l → 0 < length (behind_digits n l)
      some_behind n [] h = absurd (omega arith)
      some_behind n (c ∷ l) h = omega (arith, length-append (replicate n 48) (c ∷ l))

  pub full_kept : (n at : ℕ) → is_full (answered (judge (stands_for k)) n at) ≡ true → length k.bytes < 522
  full_kept n at e = omega (arith, stood_short (full_short (stands_for k) n at e))

  pub record_kept : (n at : ℕ) → is_record (answered (judge (stands_for k)) n at) ≡ true → stands_for k ≡ k.bytes
  record_kept n at e = short_stands k (stood_short (record_short (stands_for k) n at e))

-- ---- a line is answered

pub full_no_record : (t : Told) → is_full t ≡ true → is_record t ≡ false
unfolding is_full is_record
full_no_record (gives kind numbers) e = let z : ◌≡◌ {A = ℕ} 0 1 = cc in absurd (omega arith)
full_no_record (refuses r) e = refl
full_no_record done e = refl

module _ (s : Chunks) (used chunk pool : List ℕ) (at : ℕ) (start : Option (List ℕ)) (empties : ℕ) (k : Kept) (position : ℕ) (last : Bool) (line : ℕ) (lies : Place)
    (a : Answer) (r : ChunkStep) (carry' pool' : List ℕ) where
  t : Told
  t = answered (judge (stands_for k)) (length pool) at

  pub met : Reads (judge (stands_for k)) pool at a pool' → Settles s (told a) position line last lies r → line ≡ number_behind s empties
      → (is_record (answered (judge (stands_for k)) (length pool) at) ≡ true → lies ≡ place chunk start (stands_for k))
      → (is_record (answered (judge (stands_for k)) (length pool) at) ≡ true → at_place lies chunk carry' ≡ stands_for k)
      → (is_full (answered (judge (stands_for k)) (length pool) at) ≡ true → take (length used) carry' ≡ used)
      → take (length (in_carry start k)) carry' ≡ in_carry start k
      → Meets (answered_line s used chunk pool at start empties k position last) chunk r carry' pool'
  unfolding answered_line t
  met reads settles number placed seen keeps holds = go (is_full t) refl
    where
      put_at : (b : Bool) → is_record t ≡ b → (if b then lies else Nowhere) ≡ (if b then place chunk start (stands_for k) else Nowhere)
      put_at true e = placed e
      put_at false e = refl

      stands : (b : Bool) → is_record t ≡ b → at_place (if b then lies else Nowhere) chunk carry' ≡ (if b then stands_for k else [])
      stands true e = seen e
      stands false e = refl

      lies_is : r.lies ≡ (if is_record t then lies else Nowhere)
      lies_is = settles.place ∙ ap (λ (x : Told). if is_record x then lies else Nowhere) reads.answer

      nowhere : is_full t ≡ true → r.lies ≡ Nowhere
      nowhere e = lies_is ∙ rw (full_no_record t e)

      state_is : r.state ≡ (if is_full t then s else past_line s position line (last || ends_row s.options t))
      state_is = settles.state ∙ ap (λ (x : Told). if is_full x then s else past_line s position line (last || ends_row s.options x)) reads.answer

      go : (f : Bool) → is_full t ≡ f
          → Meets (if f
          then record { word = tells t; state = s; lies = Nowhere; shows = []; carried = used; pool = pool }
          else record {
            word = tells t;
            state = past_line s position (number_behind s empties) (last || ends_row s.options t);
            lies = if is_record t then place chunk start (stands_for k) else Nowhere;
            shows = if is_record t then stands_for k else [];
            carried = in_carry start k;
            pool = poured (judge (stands_for k)) pool at;
          }) chunk r carry' pool'
      go true e =
          record {
            answer = settles.answer ∙ ap tells reads.answer;
            state = state_is ∙ rw e;
            lies = nowhere e;
            shows = ap (λ (p : Place). at_place p chunk carry') (nowhere e);
            carry = keeps e;
            left = reads.left ∙ full_keeps (judge (stands_for k)) pool at e;
          }
      go false e =
          record {
            answer = settles.answer ∙ ap tells reads.answer;
            state = state_is ∙ rw (e, number);
            lies = lies_is ∙ put_at (is_record t) refl;
            shows = ap (λ (p : Place). at_place p chunk carry') lies_is ∙ stands (is_record t) refl;
            carry = holds;
            left = reads.left;
          }
