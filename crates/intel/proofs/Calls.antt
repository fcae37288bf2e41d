-- What a call of the reader's `next` tells a walk that lends it a pool with room for every record: the first of what is left to be
-- said, and that the record which comes back means it. And what a call of `read_record` tells of its line.
-- Assumes nothing.
use mathlib.Core.Path.{◌≡◌, refl, sym, ap, ◌∙◌, subst}
use Prim.Native.Nat.{ℕ, ◌+◌, ◌-◌, ◌^◌, ◌≤◌, ◌<◌}
use native.Mathlib.Omega.{arith}
use mathlib.Core.Bool.{Bool, true, false, ◌&&◌}
use mathlib.Core.List.{List, [], ◌∷◌}
use lib.ListN.{length, drop, length-take, length-drop}
use lib.Seq.{take_at, length-take-le}
use borrow.Author.Tests.{le-leb}
use Rattle.std.specs.Prelude.{if◌then◌else◌}
use Rattle.record.specs.Line.{Said, says, wrong, judge}
use Rattle.record.specs.Meaning.{Meaning, data_at, end_of_file, extended_segment, start_segment, extended_linear, start_linear, meaning}
use Rattle.record.specs.Record.{type_of, numbers_of, meant}
use Rattle.record.specs.Written.{Sayable}
use Rattle.record.specs.declared.Record.{Record}
use Rattle.record.specs.declared.Record.TheVariants.{Data, EndOfFile, ExtendedSegmentAddress, StartSegmentAddress, ExtendedLinearAddress, StartLinearAddress}
use Rattle.record.proofs.Writing.{said_is_sayable}
use Rattle.reader.specs.Aliases.{Answer}
use Rattle.reader.specs.declared.ReaderError.{ReaderError}
use Rattle.reader.specs.declared.ReaderOptions.{ReaderOptions}
use Rattle.reader.specs.declared.State.{State}
use Rattle.reader.specs.declared.Replied.{Replied}
use Rattle.reader.specs.Told.{Told, gives, refuses, done, refusal_of, told}
use Rattle.reader.specs.Answer.{given, kept, answered, poured, ReadRecord}
use Rattle.reader.specs.Lines.{Found, a_line, no_line, next_line}
use Rattle.reader.specs.Row.{Numbered, on, is_end, stops}
use Rattle.reader.specs.Text.{default_options, new_state, told_reply, is_full, ends_row, behind, next_number, Outcome, of_found, outcome, Next}
use Rattle.reader.proofs.Claims.{told_apart}
use Rattle.reader.proofs.Texts.{lines_few}
use Rattle.reader.proofs.Room.{never_full, ends_stops}
use Rattle.reader.specs.Along.{unread, Countable}
use Rattle.reader.proofs.Along.{heard, ended, unread_judged}
use Rattle.intel.specs.Records.{Short, LiesIn, UnderWay}
use Rattle.std.specs.Prelude.{Err, None, Ok, Some}

-- ---- a record, in a pool with room for every one

-- the record that comes back for what is meant
rec_of : Meaning → Record
rec_of (data_at offset bytes) = Data offset 0 (length bytes)
rec_of end_of_file = EndOfFile
rec_of (extended_segment n) = ExtendedSegmentAddress n
rec_of (start_segment cs ip) = StartSegmentAddress cs ip
rec_of (extended_linear n) = ExtendedLinearAddress n
rec_of (start_linear n) = StartLinearAddress n

module _ (pool : List ℕ) (room : length pool ≡ 255) where
  rec_told : (m : Meaning) → Sayable m → told (Ok (rec_of m)) ≡ given m (length pool) 0
  unfolding given rec_of
  rec_told (data_at offset bytes) s = let h : 0 + length bytes ≤ length pool = omega (arith, s.1) in rw (le-leb (0 + length bytes) (length pool) h)
  rec_told end_of_file s = refl
  rec_told (extended_segment n) s = refl
  rec_told (start_segment cs ip) s = refl
  rec_told (extended_linear n) s = refl
  rec_told (start_linear n) s = refl

  rec_means : (m : Meaning) → Sayable m → meant (rec_of m) (kept m pool 0) ≡ m
  unfolding kept rec_of
  rec_means (data_at offset bytes) s =
      let h : 0 + length bytes ≤ length pool = omega (arith, s.1) in
      rw (le-leb (0 + length bytes) (length pool) h) (ap (data_at offset) (take_at bytes (drop (0 + length bytes) pool) (length bytes) refl))
  rec_means end_of_file s = refl
  rec_means (extended_segment n) s = refl
  rec_means (start_segment cs ip) s = refl
  rec_means (extended_linear n) s = refl
  rec_means (start_linear n) s = refl

  -- no other record tells the same
  rec_only : (m : Meaning) → Sayable m → (x : Record) → told (Ok x) ≡ given m (length pool) 0 → x ≡ rec_of m
  rec_only m s x e = again (told_apart (Ok x) (Ok (rec_of m)) (e ∙ sym (rec_told m s)))
    where
      again : {a b : Record} → ◌≡◌ {A = Answer} (Ok a) (Ok b) → a ≡ b
      again e = cc

rec_lies : (pool : List ℕ) → length pool ≡ 255 → (m : Meaning) → Sayable m → LiesIn (rec_of m) pool
unfolding rec_of
rec_lies pool room (data_at offset bytes) s = (omega (arith, s.1), simp length-take (omega (arith, s.1)))
rec_lies pool room end_of_file s = (tt, omega arith)
rec_lies pool room (extended_segment n) s = (tt, omega arith)
rec_lies pool room (start_segment cs ip) s = (tt, omega arith)
rec_lies pool room (extended_linear n) s = (tt, omega arith)
rec_lies pool room (start_linear n) s = (tt, omega arith)

-- a record whose payload lies in a pool is as short as that
pub short_record : (x : Record) (pool : List ℕ) → LiesIn x pool → Short x
short_record (Data offset at len) pool (i, s) = omega (arith, i, s, length-take-le len (drop at pool) (omega (arith, i, length-drop at pool)))
short_record EndOfFile pool l = tt
short_record (ExtendedSegmentAddress n) pool l = tt
short_record (StartSegmentAddress cs ip) pool l = tt
short_record (ExtendedLinearAddress n) pool l = tt
short_record (StartLinearAddress n) pool l = tt

-- ---- one line, read into a pool with room for every record

-- a record was read, and its payload lies in this pool
pub record ReadAs (line pool' : List ℕ) (x : Record) : Type 0 where
  pub kind : ℕ
  pub address : ℕ
  pub payload : List ℕ
  pub is_said : judge line ≡ says kind address payload
  pub means : meant x pool' ≡ meaning kind address payload
  pub lies : length pool' ≡ 255 → LiesIn x pool'

module _ (line pool pool' : List ℕ) (room : length pool ≡ 255) where
  pub line_read : (x : Record) → ReadRecord line pool 0 (Ok x) pool' → ReadAs line pool' x
  unfolding answered poured
  line_read x reads = go (judge line) refl reads.answer reads.left
    where
      go : (said : Said) → judge line ≡ said → told (Ok x) ≡ answered said (length pool) 0 → pool' ≡ poured said pool 0 → ReadAs line pool' x
      go (wrong w) j t l = let z : ◌≡◌ {A = ℕ} 0 1 = cc in absurd (omega arith)
      go (says kind address payload) j t l =
          let m = meaning kind address payload in
          let sm : Sayable m = said_is_sayable line kind address payload j in
          let x-is : x ≡ rec_of m = rec_only pool room m sm x t in
          record {
            kind = kind;
            address = address;
            payload = payload;
            is_said = j;
            means = ap (meant x) l ∙ ap (λ (y : Record). meant y (kept m pool 0)) x-is ∙ rec_means pool room m sm;
            lies = λ k. subst (λ (y : Record). LiesIn y pool') (sym x-is) (rec_lies pool' k m sm);
          }

  pub line_refused : (e : ReaderError) → ReadRecord line pool 0 (Err e) pool' → judge line ≡ wrong (refusal_of e)
  unfolding answered
  line_refused e reads = go (judge line) refl reads.answer
    where
      go : (said : Said) → judge line ≡ said → refuses (refusal_of e) ≡ answered said (length pool) 0 → judge line ≡ wrong (refusal_of e)
      go (wrong w) j t = let w-is : w ≡ refusal_of e = cc in j ∙ ap wrong w-is
      go (says kind address payload) j t =
          let h = rec_told pool room (meaning kind address payload) (said_is_sayable line kind address payload j) in
          let c = t ∙ sym h in
          let z : ◌≡◌ {A = ℕ} 0 1 = cc in
          absurd (omega arith)

-- ---- a call

cut_shorter : (b : Bool) (more : List Numbered) → length (if b then [] else more) ≤ length more
cut_shorter true more = omega arith
cut_shorter false more = omega arith

-- a call that uses a line up ends the reading exactly where its answer ends it
finishes_so : (s : State) (text pool : List ℕ) → is_full (outcome s text pool 0).told ≡ false
    → (outcome s text pool 0).state.finished ≡ ends_row s.options (outcome s text pool 0).told
unfolding outcome of_found ends_row
finishes_so s text pool = go s.finished refl (next_line 0 (drop s.position text))
  where
    used : (t : Told) (b : Bool) → is_full t ≡ b → (position line : ℕ) (pool₁ : List ℕ)
        → let o : Outcome = if b then record { told = t; state = s; pool = pool } else record { told = t; state = behind s position line (ends_row s.options t); pool = pool₁ } in
        is_full o.told ≡ false → o.state.finished ≡ ends_row s.options o.told
    used t true e position line pool₁ f = let z : true ≡ false = sym e ∙ f in let w : ◌≡◌ {A = ℕ} 0 1 = cc in absurd (omega arith)
    used t false e position line pool₁ f = refl

    go : (b : Bool) → s.finished ≡ b → (f : Found)
        → let o : Outcome = if b then record { told = done; state = s; pool = pool } else of_found s (length text) pool 0 f in
        is_full o.told ≡ false → o.state.finished ≡ ends_row s.options o.told
    go true e f = λ h. e
    go false e (no_line n) = λ h. refl
    go false e (a_line n line left) =
        used (answered (judge line) (length pool) 0) (is_full (answered (judge line) (length pool) 0)) refl
        (length text - length left) (next_number s n) (poured (judge line) pool 0)

module _ {opts : ReaderOptions} (s : State) (text pool : List ℕ) (r : Replied) (pool' : List ℕ) (o : s.options ≡ opts) (c : Countable s text) (room : length pool ≡ 255) (next : Next s text pool 0 r pool') where
  -- the pool has room for whatever a line says
  fits : (line : List ℕ) (said : Said) → judge line ≡ said → is_full (answered said (length pool) 0) ≡ false
  fits line said j = subst (λ (y : Said). is_full (answered y (length pool) 0) ≡ false) j (never_full line (length pool) 0 (omega arith))

  pub came_done : r.reply ≡ None → unread s text ≡ []
  unfolding answered
  came_done e = go (unread s text) refl
    where
      tells : done ≡ (outcome s text pool 0).told
      tells = ap told_reply (sym e) ∙ next.answer

      go : (row : List Numbered) → unread s text ≡ row → row ≡ []
      go [] u = refl
      go (on n (wrong w) ∷ more) u = let t = tells ∙ (heard s text pool 0 c n (wrong w) more u).tells in let z : ◌≡◌ {A = ℕ} 0 1 = cc in absurd (omega arith)
      go (on n (says kind address payload) ∷ more) u =
          let (line, j) = unread_judged s text n (says kind address payload) more u in
          let h = rec_told pool room (meaning kind address payload) (said_is_sayable line kind address payload j) in
          let t = tells ∙ (heard s text pool 0 c n (says kind address payload) more u).tells in
          let z : ◌≡◌ {A = ℕ} 0 1 = cc in
          absurd (omega arith)

  pub came_refused : (e : ReaderError) → r.reply ≡ Some (Err e)
      → (more : List Numbered) × (unread s text ≡ on r.state.line (wrong (refusal_of e)) ∷ more)
  unfolding answered
  came_refused e q = go (unread s text) refl
    where
      tells : refuses (refusal_of e) ≡ (outcome s text pool 0).told
      tells = ap told_reply (sym q) ∙ next.answer

      go : (row : List Numbered) → unread s text ≡ row → (more : List Numbered) × (row ≡ on r.state.line (wrong (refusal_of e)) ∷ more)
      go [] u = let t = tells ∙ (ended s text pool 0 c u).tells in let z : ◌≡◌ {A = ℕ} 0 1 = cc in absurd (omega arith)
      go (on n (wrong w) ∷ more) u =
          let h = heard s text pool 0 c n (wrong w) more u in
          let (line, j) = unread_judged s text n (wrong w) more u in
          let t = tells ∙ h.tells in
          let w-is : w ≡ refusal_of e = cc in
          let n-is : r.state.line ≡ n = ap (λ (x : State). x.line) next.state ∙ h.line (fits line (wrong w) j) in
          (more, rw (n-is, w-is))
      go (on n (says kind address payload) ∷ more) u =
          let (line, j) = unread_judged s text n (says kind address payload) more u in
          let h = rec_told pool room (meaning kind address payload) (said_is_sayable line kind address payload j) in
          let t = tells ∙ (heard s text pool 0 c n (says kind address payload) more u).tells in
          let z : ◌≡◌ {A = ℕ} 0 1 = cc in
          absurd (omega arith)

  -- a line was refused: what is left after it
  pub record AfterRefused (e : ReaderError) : Type 0 where
    pub more : List Numbered
    pub first : unread s text ≡ on r.state.line (wrong (refusal_of e)) ∷ more
    pub left : unread r.state text ≡ (if opts.stop_after_first_error then [] else more)
    pub options : r.state.options ≡ opts
    pub countable : Countable r.state text

  pub after_refused : (e : ReaderError) → r.reply ≡ Some (Err e) → AfterRefused e
  unfolding answered stops
  after_refused e q =
      let (more, u) = came_refused e q in
      let n = r.state.line in
      let said = wrong (refusal_of e) in
      let h = heard s text pool 0 c n said more u in
      let (line, j) = unread_judged s text n said more u in
      let nf = fits line said j in
      record {
        more = more;
        first = u;
        left = ap (λ (y : State). unread y text) next.state ∙ h.left nf
            ∙ ap (λ (b : Bool). if b then [] else more) (ends_stops s.options said (length pool) 0 nf ∙ ap (λ (y : ReaderOptions). stops y said) o);
        options = ap (λ (y : State). y.options) next.state ∙ h.options ∙ o;
        countable = subst (λ (y : State). Countable y text) (sym next.state) h.countable;
      }

  -- a record was read
  pub record One (x : Record) : Type 0 where
    pub kind : ℕ
    pub address : ℕ
    pub payload : List ℕ
    pub more : List Numbered
    pub first : unread s text ≡ on r.state.line (says kind address payload) ∷ more
    pub means : meant x pool' ≡ meaning kind address payload
    pub lies : length pool' ≡ 255 → LiesIn x pool'
    pub left : unread r.state text ≡ (if is_end (meaning kind address payload) && opts.stop_after_eof then [] else more)
    pub finished : r.state.finished ≡ is_end (meaning kind address payload) && opts.stop_after_eof
    pub options : r.state.options ≡ opts
    pub countable : Countable r.state text

  pub came_read : (x : Record) → r.reply ≡ Some (Ok x) → One x
  unfolding answered poured stops
  came_read x q = go (unread s text) refl
    where
      tells : gives (type_of x) (numbers_of x) ≡ (outcome s text pool 0).told
      tells = ap told_reply (sym q) ∙ next.answer

      go : (row : List Numbered) → unread s text ≡ row → One x
      go [] u = let t = tells ∙ (ended s text pool 0 c u).tells in let z : ◌≡◌ {A = ℕ} 0 1 = cc in absurd (omega arith)
      go (on n (wrong w) ∷ more) u = let t = tells ∙ (heard s text pool 0 c n (wrong w) more u).tells in let z : ◌≡◌ {A = ℕ} 0 1 = cc in absurd (omega arith)
      go (on n (says kind address payload) ∷ more) u =
          let m = meaning kind address payload in
          let (line, j) = unread_judged s text n (says kind address payload) more u in
          let sm : Sayable m = said_is_sayable line kind address payload j in
          let h = heard s text pool 0 c n (says kind address payload) more u in
          let nf : is_full (given m (length pool) 0) ≡ false = fits line (says kind address payload) j in
          let x-is : x ≡ rec_of m = rec_only pool room m sm x (tells ∙ h.tells) in
          let n-is : r.state.line ≡ n = ap (λ (y : State). y.line) next.state ∙ h.line nf in
          record {
            kind = kind;
            address = address;
            payload = payload;
            more = more;
            first = u ∙ ap (λ (k : ℕ). on k (says kind address payload) ∷ more) (sym n-is);
            means = ap (meant x) (next.left ∙ h.poured_in) ∙ ap (λ (y : Record). meant y (kept m pool 0)) x-is ∙ rec_means pool room m sm;
            lies = λ l. subst (λ (y : Record). LiesIn y pool') (sym x-is) (rec_lies pool' l m sm);
            left = ap (λ (y : State). unread y text) next.state ∙ h.left nf ∙ ap (λ (b : Bool). if b then [] else more) (ends kind address payload nf);
            finished = ap (λ (y : State). y.finished) next.state ∙ finishes_so s text pool (ap is_full h.tells ∙ nf) ∙ ap (ends_row s.options) h.tells ∙ ends kind address payload nf;
            options = ap (λ (y : State). y.options) next.state ∙ h.options ∙ o;
            countable = subst (λ (y : State). Countable y text) (sym next.state) h.countable;
          }
        where
          ends : (kind address : ℕ) (payload : List ℕ) → is_full (given (meaning kind address payload) (length pool) 0) ≡ false
              → ends_row s.options (given (meaning kind address payload) (length pool) 0) ≡ is_end (meaning kind address payload) && opts.stop_after_eof
          ends kind address payload nf =
              ends_stops s.options (says kind address payload) (length pool) 0 nf ∙ ap (λ (y : ReaderOptions). stops y (says kind address payload)) o

  -- unless it is the end, what follows is still unread
  pub more_unread : (x : Record) (one : One x) → is_end (meant x pool') ≡ false → one.more ≡ unread r.state text
  more_unread x one e = sym (one.left ∙ rw (ap is_end (sym one.means) ∙ e))

  -- a record less is left
  pub fewer_unread : (x : Record) → One x → length (unread r.state text) < length (unread s text)
  fewer_unread x one =
      rw (one.first, one.left) (omega (arith, cut_shorter (is_end (meaning one.kind one.address one.payload) && opts.stop_after_eof) one.more))

-- ---- the beginning

pub start_under_way : (text : List ℕ) → length text < 2 ^ 64 → UnderWay text (new_state default_options)
start_under_way text h = record { options = refl; countable = omega (arith, (lines_few text).0) }
