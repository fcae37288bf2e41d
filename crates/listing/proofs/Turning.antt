-- A turn of the listing: the call answers the first that is unread, its line is put behind the others, and the rest stays unread.
-- Assumes nothing.
use Prim.Native.Nat.{ℕ, ◌+◌, ◌*◌, ◌^◌, ◌≤◌, ◌<◌}
use mathlib.Core.Path.{◌≡◌, refl, sym, ◌∙◌, ap, ap₂, subst}
use mathlib.Core.Bool.{Bool, true, false, ◌&&◌}
use mathlib.Core.List.{List, [], ◌∷◌, ◌++◌, append_assoc, append-nil}
use native.Mathlib.Omega.{arith}
use lib.Dec.{leb}
use lib.ListN.{length, drop, length-append}
use lib.Seq.{take-append_seam}
use borrow.Author.Tests.{ne_eqb, le-leb}
use Rattle.digits.specs.Common.{pasted}
use Rattle.std.specs.Prelude.{if◌then◌else◌}
use Rattle.record.specs.Refusals.{Refusal, number_of}
use Rattle.record.specs.Line.{Said, says, wrong, judge}
use Rattle.record.specs.Meaning.{Meaning, data_at, end_of_file, extended_segment, start_segment, extended_linear, start_linear, meaning}
use Rattle.record.specs.Written.{Sayable}
use Rattle.record.specs.declared.Record.{Record}
use Rattle.record.specs.declared.Record.TheVariants.{Data, EndOfFile, ExtendedSegmentAddress, StartSegmentAddress, ExtendedLinearAddress, StartLinearAddress}
use Rattle.record.proofs.Writing.{said_is_sayable}
use Rattle.record.proofs.Standing.{Stands, stands}
use Rattle.reader.specs.Aliases.{Reply}
use Rattle.reader.specs.declared.State.{State}
use Rattle.reader.specs.declared.Replied.{Replied}
use Rattle.reader.specs.Told.{refuses, done, told, refusal_of}
use Rattle.reader.specs.Answer.{given, kept, answered, poured}
use Rattle.reader.specs.Row.{Numbered, on, is_end, stops, through_stop, row}
use Rattle.reader.specs.Text.{told_reply, is_full, ends_row, new_state, outcome, Meets}
use Rattle.reader.proofs.Claims.{told_apart}
use Rattle.reader.specs.Along.{unread, Countable}
use Rattle.reader.proofs.Along.{heard, ended as finished, unread_judged}
use Rattle.reader.proofs.Stays.{never_done}
use Rattle.listing.specs.Listing.{record_entry, refusal_entry, entry, ended, shown, entries, listing_options, answers}
use Rattle.listing.specs.Listed.{record_room, reply_room}
use Rattle.listing.specs.Helpers.{Puts, Lies, FitsIn, EntriesPut}
use Rattle.listing.specs.declared.Verdict.{Verdict}
use Rattle.listing.specs.Status.{after_record, after_said, after_reply}
use Rattle.listing.proofs.Putting.{put_none, put_then, put_as}
use Rattle.listing.proofs.Entry.{not_full}
use Rattle.reader.proofs.Texts.{lines_few, cut_behind}
use Rattle.std.specs.Prelude.{Err, None, Ok, Some}
use Rattle.std.specs.Option.{is_some}

-- ---- one reply

-- a reply that tells what is said, with the pool behind it: never PoolFull, shown and judged as what is said, as much the last, and with room in 542 bytes
pub record Spoken (said : Said) (n : ℕ) (reply : Reply) (pool' : List ℕ) : Type 0 where
  pub taken : is_full (answered said n 0) ≡ false
  pub last : ends_row listing_options (answered said n 0) ≡ stops listing_options said
  pub shows : shown reply pool' ≡ ended (entry said)
  pub judged : (verdict : Verdict) → after_reply verdict reply ≡ after_said verdict said
  pub lies : Lies reply pool'
  pub room : (out : ℕ) → 542 ≤ out → reply_room reply (length pool') out ≡ true

reply_is : (reply : Reply) (r : Record) → told_reply reply ≡ told (Ok r) → reply ≡ Some (Ok r)
reply_is (Some (Ok x)) r e = ap Some (told_apart (Ok x) (Ok r) e)
reply_is (Some (Err x)) r e = let z : ◌≡◌ {A = ℕ} 0 1 = cc in absurd (omega arith)
reply_is None r e = let z : ◌≡◌ {A = ℕ} 0 1 = cc in absurd (omega arith)

module _ (pool : List ℕ) (size : 255 ≤ length pool) (reply : Reply) (pool' : List ℕ) where
  -- a refused line
  spoken_wrong : (line : List ℕ) (r : Refusal) → judge line ≡ wrong r → told_reply reply ≡ refuses r → Spoken (wrong r) (length pool) reply pool'
  unfolding answered is_full ends_row stops entry
  spoken_wrong line r j t = go reply t
    where
      go : (reply : Reply) → told_reply reply ≡ refuses r → Spoken (wrong r) (length pool) reply pool'
      go (Some (Ok x)) t = let z : ◌≡◌ {A = ℕ} 0 1 = cc in absurd (omega arith)
      go (Some (Err e)) t =
          let n : number_of r < 10 = not_full line r (subst (Stands line) j (stands line)) in
          let same : refusal_of e ≡ r = cc in
          record {
            taken = ne_eqb (number_of r) 10 (λ q. omega arith);
            last = refl;
            shows = ap (λ (x : Refusal). ended (refusal_entry x)) same;
            judged = λ verdict. refl;
            lies = tt;
            room = λ out h. le-leb 32 out (omega arith);
          }
      go None t = let z : ◌≡◌ {A = ℕ} 0 1 = cc in absurd (omega arith)

  -- a record, by what it means
  pub record Meant (m : Meaning) : Type 0 where
    pub taken : is_full (given m (length pool) 0) ≡ false
    pub last : ends_row listing_options (given m (length pool) 0) ≡ is_end m && true
    pub shows : shown reply pool' ≡ ended (record_entry m)
    pub judged : (verdict : Verdict) → after_reply verdict reply ≡ after_record verdict (is_end m)
    pub lies : Lies reply pool'
    pub room : (out : ℕ) → 542 ≤ out → reply_room reply (length pool') out ≡ true

  -- a record without payload
  plain : (r : Record) → ((out : ℕ) → record_room r (length pool') out ≡ leb 32 out) → reply ≡ Some (Ok r) → (out : ℕ) → 542 ≤ out → reply_room reply (length pool') out ≡ true
  plain r f e out h = ap (λ (x : Reply). reply_room x (length pool') out) e ∙ f out ∙ le-leb 32 out (omega arith)

  meant_as : (m : Meaning) → Sayable m → told_reply reply ≡ given m (length pool) 0 → pool' ≡ kept m pool 0 → Meant m
  unfolding given kept is_full ends_row is_end
  meant_as (data_at offset bytes) (o, l, b) t p =
      let w : leb (0 + length bytes) (length pool) ≡ true = le-leb (0 + length bytes) (length pool) (omega arith) in
      let e : reply ≡ Some (Ok (Data offset 0 (length bytes))) = reply_is reply (Data offset 0 (length bytes)) (t ∙ rw w) in
      let q : pool' ≡ pasted pool 0 bytes = p ∙ rw w in
      let n : length (pasted pool 0 bytes) ≡ length bytes + length (drop (0 + length bytes) pool) = length-append bytes (drop (0 + length bytes) pool) in
      record {
        taken = rw w;
        last = rw w;
        shows = ap₂ shown e q ∙ ap (λ (bs : List ℕ). ended (record_entry (data_at offset bs))) (take-append_seam bytes (drop (0 + length bytes) pool));
        judged = λ verdict. ap (after_reply verdict) e;
        lies = subst (λ (x : Reply). Lies x pool') (sym e) (subst (λ (x : List ℕ). 0 + length bytes ≤ length x) (sym q) (omega arith));
        room = λ out h. ap (λ (x : Reply). reply_room x (length pool') out) e ∙ rw (le-leb (0 + length bytes) (length pool') (omega (arith, ap length q))) (le-leb (2 * length bytes + 32) out (omega arith));
      }
  meant_as end_of_file s t p =
      let e = reply_is reply EndOfFile t in
      record { taken = refl; last = refl; shows = ap (λ (x : Reply). shown x pool') e; judged = λ verdict. ap (after_reply verdict) e; lies = subst (λ (x : Reply). Lies x pool') (sym e) tt; room = plain _ (λ out. refl) e }
  meant_as (extended_segment number) s t p =
      let e = reply_is reply (ExtendedSegmentAddress number) t in
      record { taken = refl; last = refl; shows = ap (λ (x : Reply). shown x pool') e; judged = λ verdict. ap (after_reply verdict) e; lies = subst (λ (x : Reply). Lies x pool') (sym e) tt; room = plain _ (λ out. refl) e }
  meant_as (start_segment cs ip) s t p =
      let e = reply_is reply (StartSegmentAddress cs ip) t in
      record { taken = refl; last = refl; shows = ap (λ (x : Reply). shown x pool') e; judged = λ verdict. ap (after_reply verdict) e; lies = subst (λ (x : Reply). Lies x pool') (sym e) tt; room = plain _ (λ out. refl) e }
  meant_as (extended_linear number) s t p =
      let e = reply_is reply (ExtendedLinearAddress number) t in
      record { taken = refl; last = refl; shows = ap (λ (x : Reply). shown x pool') e; judged = λ verdict. ap (after_reply verdict) e; lies = subst (λ (x : Reply). Lies x pool') (sym e) tt; room = plain _ (λ out. refl) e }
  meant_as (start_linear number) s t p =
      let e = reply_is reply (StartLinearAddress number) t in
      record { taken = refl; last = refl; shows = ap (λ (x : Reply). shown x pool') e; judged = λ verdict. ap (after_reply verdict) e; lies = subst (λ (x : Reply). Lies x pool') (sym e) tt; room = plain _ (λ out. refl) e }

  pub spoken : (line : List ℕ) (said : Said) → judge line ≡ said → told_reply reply ≡ answered said (length pool) 0 → pool' ≡ poured said pool 0 → Spoken said (length pool) reply pool'
  unfolding answered poured stops entry
  spoken line (wrong r) j t p = spoken_wrong line r j t
  spoken line (says kind address payload) j t p =
      let m = meant_as (meaning kind address payload) (said_is_sayable line kind address payload j) t p in
      record { taken = m.taken; last = m.last; shows = m.shows; judged = m.judged; lies = m.lies; room = m.room }

-- ---- one call

-- what is left to be listed
abbrev pub left : State → (input : List ℕ) → List Numbered
left s input = through_stop listing_options (unread s input)

-- the reader of a listing on its way, with a pool that has room for every payload
pub record UnderWay (input pool : List ℕ) (s : State) : Type 0 where
  pub same_options : s.options ≡ listing_options
  pub countable : Countable s input
  pub pool_size : length pool ≡ 256

pub first_way : (input pool : List ℕ) (s : State) → s ≡ new_state listing_options → length pool ≡ 256 → length input < 2 ^ 64 → UnderWay input pool s
first_way input pool s e p h = rw e (record { same_options = refl; countable = omega (arith, (lines_few input).0); pool_size = p })

-- a call that answered: one saying is shown, and the rest is left
pub record Shown (input : List ℕ) (s : State) (reply : Reply) (s' : State) (pool' : List ℕ) : Type 0 where
  pub said : Said
  pub n : ℕ
  pub listed : left s input ≡ on n said ∷ left s' input
  pub shows : shown reply pool' ≡ ended (entry said)
  pub judged : (verdict : Verdict) → after_reply verdict reply ≡ after_said verdict said
  pub lies : Lies reply pool'
  pub on_way : (pool : List ℕ) → length pool ≡ 256 → UnderWay input pool s'

module _ (input : List ℕ) (s : State) (pool : List ℕ) (way : UnderWay input pool s)
    (step : Replied) (pool' : List ℕ) (met : Meets (outcome s input pool 0) step pool') where
  heard_said : (n : ℕ) (said : Said) (more : List Numbered) → unread s input ≡ on n said ∷ more → Shown input s step.reply step.state pool'
  unfolding through_stop
  heard_said n said more u =
      let h = heard s input pool 0 way.countable n said more u in
      let j = unread_judged s input n said more u in
      let p = spoken pool (omega (arith, way.pool_size)) step.reply pool' j.0 said j.1 (met.answer ∙ h.tells) (met.left ∙ h.poured_in) in
      let rest : unread step.state input ≡ (if stops listing_options said then [] else more) =
      ap (λ (x : State). unread x input) met.state ∙ h.left p.taken
      ∙ ap (λ (o : _). if ends_row o (answered said (length pool) 0) then [] else more) way.same_options
      ∙ ap (λ (b : Bool). if b then [] else more) p.last in
      record {
        said = said;
        n = n;
        listed = ap (through_stop listing_options) u ∙ ap (λ (l : List Numbered). on n said ∷ l) (cut_behind listing_options (stops listing_options said) more ∙ sym (ap (through_stop listing_options) rest));
        shows = p.shows;
        judged = p.judged;
        lies = p.lies;
        on_way = λ pool z.
            record {
              same_options = ap (λ (x : State). x.options) met.state ∙ h.options ∙ way.same_options;
              countable = subst (λ (x : State). Countable x input) (sym met.state) h.countable;
              pool_size = z;
            };
      }

  pub turned : is_some step.reply ≡ true → Shown input s step.reply step.state pool'
  turned d = go (unread s input) refl
    where
      not_done : (reply : Reply) → is_some reply ≡ true → told_reply reply ≡ done → ⊥
      not_done (Some (Ok r)) d e = let z : ◌≡◌ {A = ℕ} 0 1 = cc in omega arith
      not_done (Some (Err r)) d e = let z : ◌≡◌ {A = ℕ} 0 1 = cc in omega arith
      not_done None d e = let z : ◌≡◌ {A = ℕ} 0 1 = cc in omega arith

      go : (u : List Numbered) → unread s input ≡ u → Shown input s step.reply step.state pool'
      go [] u = absurd (not_done step.reply d (met.answer ∙ (finished s input pool 0 way.countable u).tells))
      go (on n said ∷ more) u = heard_said n said more u

  pub ran_out : is_some step.reply ≡ false → left s input ≡ []
  unfolding through_stop
  ran_out d = go (unread s input) refl
    where
      is_told : (reply : Reply) → is_some reply ≡ false → told_reply reply ≡ done
      is_told (Some (Ok r)) d = let z : ◌≡◌ {A = ℕ} 0 1 = cc in absurd (omega arith)
      is_told (Some (Err r)) d = let z : ◌≡◌ {A = ℕ} 0 1 = cc in absurd (omega arith)
      is_told None d = refl

      go : (u : List Numbered) → unread s input ≡ u → left s input ≡ []
      go [] u = ap (through_stop listing_options) u
      go (on n said ∷ more) u =
          absurd (never_done said (length pool) 0 (sym (heard s input pool 0 way.countable n said more u).tells ∙ sym met.answer ∙ is_told step.reply d))

-- ---- the loop

-- what was put, with the entries of what is left, is the whole
pub record Turn (input out₀ : List ℕ) (at : ℕ) (out pool : List ℕ) (s : State) (place count : ℕ) : Type 0 where
  pub written : List ℕ
  pub puts : Puts out₀ at written place out
  pub whole : written ++ entries (left s input) ≡ entries (answers input)
  pub counted : count + length (left s input) ≡ length (answers input)
  pub way : UnderWay input pool s
  pub kept_length : length out ≡ length out₀

pub turn_first : (input out : List ℕ) (at : ℕ) (pool : List ℕ) (s : State) → s ≡ new_state listing_options → length pool ≡ 256 → length input < 2 ^ 64 → Turn input out at out pool s at 0
unfolding unread row entries
turn_first input out at pool s e p h =
    let n : left s input ≡ answers input = ap (λ (x : State). left x input) e in
    record {
      written = [];
      puts = put_none out at;
      whole = ap entries n;
      counted = omega (arith, ap length n);
      way = first_way input pool s e p h;
      kept_length = refl;
    }

module _ (input out₀ : List ℕ) (at : ℕ) (out pool : List ℕ) (s : State) (place count : ℕ) (t : Turn input out₀ at out pool s place count)
    (room : at + length (entries (answers input)) ≤ length out₀) where
  pub turn_last : left s input ≡ [] → EntriesPut input out₀ at place count out
  unfolding entries
  turn_last e =
      record {
        puts = put_as out₀ at (sym (append-nil t.written) ∙ ap (λ (l : List Numbered). t.written ++ entries l) (sym e) ∙ t.whole) t.puts;
        counts = omega (arith, t.counted, ap length e);
      }

  module _ (reply : Reply) (s' : State) (pool' : List ℕ) (h : Shown input s reply s' pool') where
    all : t.written ++ shown reply pool' ++ entries (left s' input) ≡ entries (answers input)
    unfolding entries
    all =
        append_assoc t.written (shown reply pool') (entries (left s' input))
        ∙ ap (λ (l : List ℕ). t.written ++ (l ++ entries (left s' input))) h.shows
        ∙ ap (λ (l : List Numbered). t.written ++ entries l) (sym h.listed)
        ∙ t.whole

    all_length : length t.written + length (shown reply pool') + length (entries (left s' input)) ≡ length (entries (answers input))
    all_length =
        omega (arith, ap length all, length-append (t.written ++ shown reply pool') (entries (left s' input)), length-append t.written (shown reply pool'))

    pub turn_room : FitsIn reply pool' out place
    turn_room = record { lies = h.lies; room = omega (arith, all_length, t.puts.place, t.kept_length, room) }

    pub turn_count : count + 1 + length (left s' input) ≡ length (answers input)
    turn_count = omega (arith, t.counted, ap length h.listed)

    pub turn_more : (out' : List ℕ) (place' : ℕ) → Puts out place (shown reply pool') place' out' → length out' ≡ length out → length pool' ≡ 256
        → Turn input out₀ at out' pool' s' place' (count + 1)
    turn_more out' place' p k z =
        record {
          written = t.written ++ shown reply pool';
          puts = put_then out₀ at (omega (arith, all_length, room)) t.puts p;
          whole = all;
          counted = turn_count;
          way = h.on_way pool' z;
          kept_length = k ∙ t.kept_length;
        }
