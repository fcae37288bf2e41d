-- A load through a window table: what `steps` proves for any source and any room, of the places of one owner, and of packed marks.
-- Assumes nothing.
use mathlib.Core.Path.{◌≡◌, refl, sym, ap, ap₂, ◌∙◌, subst}
use Prim.Native.Nat.{ℕ, ◌+◌, ◌-◌, ◌*◌, ◌^◌, ◌≤◌, ◌<◌}
use native.Mathlib.Omega.{arith}
use mathlib.Core.Bool.{Bool, true, false, not, ◌&&◌}
use mathlib.Core.Option.{Option, none, some}
use mathlib.Core.List.{List, [], ◌∷◌, map}
use lib.Dec.{eqb, leb}
use lib.ListN.{length, get_or}
use borrow.Author.Tests.{eqb-true, leb-true, not-true}
use Rattle.std.specs.Prelude.{if◌then◌else◌}
use Rattle.digits.proofs.Tests.{both, and_false}
use Rattle.record.specs.Refusals.{Refusal, bad_table}
use Rattle.marks.specs.Marks.{row_length, mark_at, flags, bits, packed}
use Rattle.marks.specs.Claims.{Bytes, AllFlags, RowOf}
use Rattle.marks.proofs.Below.{split}
use Rattle.marks.proofs.Rows.{flags_length}
use Rattle.marks.proofs.Claims.{bits_length, bits_say, flags_made_so, flags_are_flags, row_made_so, row_unpacks, row_holds_places, same_bits}
use Rattle.steps.specs.Aliases.{Loading}
use Rattle.steps.specs.declared.LoaderError.TheVariants.{BadTable}
use Rattle.steps.specs.Told.{loader_refusal, tallied, told_loading, is_accepted}
use Rattle.steps.specs.Steps.{Step, Tally, nothing_yet, Verdict, accepted, refused, decision, verdict, stated}
use Rattle.steps.specs.Source.{Source, steps_of}
use Rattle.steps.specs.Sites.{Loaded, Room, mark_shown, painted, marked, store, stopping_by, load_steps}
use Rattle.steps.specs.Runs.{as_mark}
use Rattle.steps.proofs.Runs.{marks_by_ones}
use Rattle.steps.specs.Sites as sites
use Rattle.steps.specs.Packed.{row_after}
use Rattle.steps.specs.Owners.{Buffers, Event, load_by, loads_of, after, answer_of, answers_to}
use Rattle.steps.specs.Owners as owners
use Rattle.steps.proofs.Told.{told_apart}
use Rattle.steps.proofs.Sites as general
use Rattle.steps.proofs.Packed.{stored_flags}
use Rattle.steps.proofs.Places.{marked_at, length_marked}
use Rattle.steps.proofs.Owners.{after_lengths, kept_mark, beyond, isolation}
use Rattle.window.specs.declared.Row.{Row}
use Rattle.window.specs.Table.{has, site_of, inside_of, good_row, good_rows, is_owner, any_clash, Sound, fits, owned}
use Rattle.window.specs.Promises.{Painted, ClearMarks}
use Rattle.window.specs.Window.{within, unfit, one_window}
use Rattle.window.specs.Load.{load_window}
use Rattle.window.specs.Tables.{stopping_by_table, load_rows, load_table, LoadTable, AlikeFor, TableNonInterference, TableWhatIsStored, TableUnusedStay, TableRefusalChangesNothing, TableSizesKept, LoadTableUnique, TableAsWindow, Cabinet, cabinet_after, answers_for, SameFor, TableIsolation}
use Rattle.window.proofs.Tests.{within_true}
use Rattle.window.proofs.Loads as loads
use Rattle.window.proofs.Table.{owners_apart, one_window_table}
use Rattle.steps.specs.Aliases.{refuse}

-- ---- every bit a place

eight : (n : ℕ) → row_length (8 * n) ≡ n
unfolding row_length
eight n = omega arith

bits_flags : (marks : List ℕ) → AllFlags (bits marks)
unfolding bits
bits_flags marks = flags_are_flags (8 * length marks) marks

-- a row of whole bytes, unpacked again
bits_packed : (list : List ℕ) (n : ℕ) → length list ≡ 8 * n → AllFlags list → (bits (packed list) ≡ list) × (length (packed list) ≡ n)
unfolding bits
bits_packed list n e f =
    let r = row_made_so list f in
    let l : length (packed list) ≡ n = r.as_many ∙ ap row_length e ∙ eight n in
    let m : 8 * length (packed list) ≡ length list = omega (arith, l) in
    (ap (λ (k : ℕ). flags k (packed list)) m ∙ row_unpacks list (packed list) r, l)

-- ---- a load of steps

module _ (owner : ℕ) (rows : List Row) (steps : List Step) (pool marks : List ℕ) where
  abbrev pub room : Room
  room = owned owner (length pool) (length marks) rows

  abbrev pub plain : Loaded
  plain = load_steps room steps pool (bits marks)

  pub plain_answer : plain.answer ≡ general.judged room steps
  unfolding load_steps
  plain_answer = general.stored_answer room.site (stated steps) pool (bits marks) (general.judged room steps)

  plain_lengths : (length plain.page ≡ length pool) × (length plain.marks ≡ length (bits marks))
  unfolding after
  plain_lengths = after_lengths room steps (record { page = pool; marks = bits marks })

  -- the bits after it, and the bytes
  pub as_plain : ((load_rows owner rows steps pool marks).answer ≡ plain.answer) × ((load_rows owner rows steps pool marks).page ≡ plain.page)
  unfolding load_rows
  as_plain = (refl, refl)

  pub as_bits : (bits (load_rows owner rows steps pool marks).marks ≡ plain.marks) × (length (load_rows owner rows steps pool marks).marks ≡ length marks)
  unfolding load_rows row_after load_steps store
  as_bits = go (general.judged room steps) refl
    where
      go : (v : Verdict) → general.judged room steps ≡ v
          → (bits (row_after (store room.site (stated steps) pool (bits marks) v).answer marks (store room.site (stated steps) pool (bits marks) v).marks) ≡ (store room.site (stated steps) pool (bits marks) v).marks)
          × (length (row_after (store room.site (stated steps) pool (bits marks) v).answer marks (store room.site (stated steps) pool (bits marks) v).marks) ≡ length marks)
      go (accepted t) e =
          let z = general.stored_sizes room.site (stated steps) pool (bits marks) (accepted t) in
          bits_packed (marked room.site 0 (stated steps) (bits marks)) (length marks) (z.1 ∙ bits_length marks) (stored_flags room.site (stated steps) pool (bits marks) (accepted t) (bits_flags marks))
      go (refused r n) e = (refl, refl)

  -- so each mark is the other load's
  pub mark_of : (i : ℕ) → mark_at (load_rows owner rows steps pool marks).marks i ≡ get_or plain.marks i 0
  mark_of i = sym (bits_say (load_rows owner rows steps pool marks).marks i) ∙ ap (λ (l : List ℕ). get_or l i 0) as_bits.0

pub table_sizes_kept : TableSizesKept
unfolding load_table
table_sizes_kept S src owner rows text pool marks =
    let s = steps_of src text in
    (ap length (as_plain owner rows s pool marks).1 ∙ (plain_lengths owner rows s pool marks).0, (as_bits owner rows s pool marks).1)

pub table_refusal_changes_nothing : TableRefusalChangesNothing
unfolding load_table load_rows row_after load_steps store
table_refusal_changes_nothing S src owner rows text pool marks r line =
    go (general.judged (owned owner (length pool) (length marks) rows) (steps_of src text))
  where
    go : (v : Verdict) → (store (owned owner (length pool) (length marks) rows).site (stated (steps_of src text)) pool (bits marks) v).answer ≡ refused r line
        → ((store (owned owner (length pool) (length marks) rows).site (stated (steps_of src text)) pool (bits marks) v).page ≡ pool)
        × (row_after (store (owned owner (length pool) (length marks) rows).site (stated (steps_of src text)) pool (bits marks) v).answer marks (store (owned owner (length pool) (length marks) rows).site (stated (steps_of src text)) pool (bits marks) v).marks ≡ marks)
    go (accepted t) e = let z : ◌≡◌ {A = ℕ} 0 1 = cc in absurd (omega arith)
    go (refused r' n) e = (refl, refl)

-- ---- a table that is not refused

accepted_fits : (owner pool marks : ℕ) (rows : List Row) (s : List Step) (k : Tally) → general.judged (owned owner pool marks rows) s ≡ accepted k → fits owner pool marks rows ≡ true
unfolding owned stopping_by verdict
accepted_fits owner pool marks rows s k = go (fits owner pool marks rows) refl
  where
    go : (b : Bool) → fits owner pool marks rows ≡ b → verdict (stopping_by (if b then none else some bad_table) (owned owner pool marks rows).inside s) ≡ accepted k → fits owner pool marks rows ≡ true
    go true e v = e
    go false e v = let z : ◌≡◌ {A = ℕ} 0 1 = cc in absurd (omega arith)

fits_marks : (owner pool marks : ℕ) (rows : List Row) → fits owner pool marks rows ≡ true → (marks ≡ row_length pool) × (good_rows pool rows ≡ true) × (any_clash rows ≡ false)
unfolding fits
fits_marks owner pool marks rows e =
    let e₁ = (both (is_owner owner) (leb (length rows) 16 && (leb pool 65536 && (eqb marks (row_length pool) && (good_rows pool rows && not (any_clash rows))))) e).1 in
    let e₂ = (both (leb (length rows) 16) (leb pool 65536 && (eqb marks (row_length pool) && (good_rows pool rows && not (any_clash rows)))) e₁).1 in
    let e₃ = (both (leb pool 65536) (eqb marks (row_length pool) && (good_rows pool rows && not (any_clash rows))) e₂).1 in
    let (m, e₄) = both (eqb marks (row_length pool)) (good_rows pool rows && not (any_clash rows)) e₃ in
    let (g, n) = both (good_rows pool rows) (not (any_clash rows)) e₄ in
    (eqb-true marks (row_length pool) m, g, not-true (any_clash rows) n)

-- a place after the pool shows nothing
pub after_pool : (owner pool : ℕ) (rows : List Row) → good_rows pool rows ≡ true → (i : ℕ) → pool ≤ i → site_of owner rows i ≡ none
unfolding site_of
after_pool owner pool [] g i h = refl
after_pool owner pool (r ∷ rows) g i h =
    let (g₁, g₂) = both (good_row pool r) (good_rows pool rows) g in
    go (has owner i r) refl g₁ (after_pool owner pool rows g₂ i h)
  where
    go : (b : Bool) → has owner i r ≡ b → good_row pool r ≡ true → site_of owner rows i ≡ none → (if b then some (r.first + (i - r.place)) else site_of owner rows i) ≡ none
    go true e g later =
        let w = within_true r.place r.size i (both (eqb r.owner owner) (within r.place r.size i) e).1 in
        let ends = (both (is_owner r.owner) (leb (r.first + r.size) (2 ^ 32) && leb (r.place + r.size) pool) g).1 in
        let p = leb-true (r.place + r.size) pool (both (leb (r.first + r.size) (2 ^ 32)) (leb (r.place + r.size) pool) ends).1 in
        absurd (omega (arith, w.1))
    go false e g later = later

pub table_what_is_stored : TableWhatIsStored
unfolding load_table sites.load owned
table_what_is_stored S src owner rows text pool marks tally e i h =
    let s = steps_of src text in
    let a = as_plain owner rows s pool marks in
    let v : general.judged (owned owner (length pool) (length marks) rows) s ≡ accepted tally = sym (plain_answer owner rows s pool marks) ∙ sym a.0 ∙ e in
    let m = (fits_marks owner (length pool) (length marks) rows (accepted_fits owner (length pool) (length marks) rows s tally v)).0 in
    let w = general.what_is_stored S src (owned owner (length pool) (length marks) rows) text pool (bits marks) tally (sym a.0 ∙ e) i h (omega (arith, bits_length marks, m, row_holds_places (length pool))) in
    rw (mark_of owner rows s pool marks i, ← bits_say marks i) w

module _ (owner : ℕ) (rows : List Row) (s : List Step) (pool marks : List ℕ) where
  accepted_marks : (t : Tally) → general.judged (owned owner (length pool) (length marks) rows) s ≡ accepted t
      → (load_steps (owned owner (length pool) (length marks) rows) s pool (bits marks)).marks ≡ marked (site_of owner rows) 0 (stated s) (bits marks)
  unfolding load_steps store owned
  accepted_marks t e = rw e

  -- after the pool, in either case
  after_stays : (i : ℕ) → length pool ≤ i → (v : Verdict) → general.judged (owned owner (length pool) (length marks) rows) s ≡ v
      → mark_at (load_rows owner rows s pool marks).marks i ≡ mark_at marks i
  unfolding load_rows row_after load_steps store
  after_stays i h (refused r n) e = ap (λ (v : Verdict). mark_at (row_after (store (owned owner (length pool) (length marks) rows).site (stated s) pool (bits marks) v).answer marks (store (owned owner (length pool) (length marks) rows).site (stated s) pool (bits marks) v).marks) i) e
  after_stays i h (accepted t) e =
      let g = (fits_marks owner (length pool) (length marks) rows (accepted_fits owner (length pool) (length marks) rows s t e)).1 in
      mark_of owner rows s pool marks i ∙ ap (λ (l : List ℕ). get_or l i 0) (accepted_marks t e)
      ∙ split (length (bits marks)) i
      (λ l. beyond (marked (site_of owner rows) 0 (stated s) (bits marks)) (bits marks) (length_marked (site_of owner rows) (stated s) 0 (bits marks)) i (omega (arith, length_marked (site_of owner rows) (stated s) 0 (bits marks))))
      (λ l. marked_at (site_of owner rows) (stated s) (bits marks) i l ∙ kept_mark (site_of owner rows i) (stated s) (get_or (bits marks) i 0) (after_pool owner (length pool) rows g i h))
      ∙ bits_say marks i

pub table_unused_stay : TableUnusedStay
unfolding load_table
table_unused_stay S src owner rows text pool marks i h = after_stays owner rows (steps_of src text) pool marks i h (general.judged (owned owner (length pool) (length marks) rows) (steps_of src text)) refl

-- ---- two loads

site_is : (owner pool marks : ℕ) (rows : List Row) → (owned owner pool marks rows).site ≡ site_of owner rows
unfolding owned
site_is owner pool marks rows = refl

by_site : (site site' : ℕ → Option ℕ) (l₁ l₂ l₂' : Loaded) → site ≡ site' → l₂ ≡ l₂' → sites.Alike site l₁ l₂ → sites.Alike site' l₁ l₂'
by_site site site' l₁ l₂ l₂' e q a = subst (λ (l : Loaded). sites.Alike site' l₁ l) q (subst (λ (x : ℕ → Option ℕ). sites.Alike x l₁ l₂) e a)

pub table_non_interference : TableNonInterference
unfolding stopping_by_table load_table sites.load
table_non_interference S src owner rows text₁ text₂ pool₁ marks₁ pool₂ marks₂ lp lm n v e head t₁ t₂ =
    let room₁ = owned owner (length pool₁) (length marks₁) rows in
    let q : room₁ ≡ owned owner (length pool₂) (length marks₂) rows = ap₂ (λ (p m : ℕ). owned owner p m rows) lp lm in
    whole (by_site room₁.site (site_of owner rows) (plain owner rows (steps_of src text₁) pool₁ marks₁) (load_steps room₁ (steps_of src text₂) pool₂ (bits marks₂))
    (plain owner rows (steps_of src text₂) pool₂ marks₂) (site_is owner (length pool₁) (length marks₁) rows) (ap (λ (r : Room). load_steps r (steps_of src text₂) pool₂ (bits marks₂)) q)
    (general.non_interference S src room₁ text₁ text₂ pool₁ (bits marks₁) pool₂ (bits marks₂) lp
    (bits_length marks₁ ∙ ap (λ (k : ℕ). 8 * k) lm ∙ sym (bits_length marks₂)) n v e head t₁ t₂))
  where
    whole : sites.Alike (site_of owner rows) (plain owner rows (steps_of src text₁) pool₁ marks₁) (plain owner rows (steps_of src text₂) pool₂ marks₂)
        → AlikeFor owner rows (length pool₁) (load_rows owner rows (steps_of src text₁) pool₁ marks₁) (load_rows owner rows (steps_of src text₂) pool₂ marks₂)
    whole a =
        record {
          answers = a₁ ∙ a.answers ∙ sym a₂;
          marks = λ t q i h x. mark_of owner rows s₁ pool₁ marks₁ i ∙ a.marks t (sym a₁ ∙ q) i (inside t q i h) x ∙ sym (mark_of owner rows s₂ pool₂ marks₂ i);
          bytes = λ t q i h x m.
              ap (λ (l : List ℕ). get_or l i 0) (as_plain owner rows s₁ pool₁ marks₁).1
              ∙ a.bytes t (sym a₁ ∙ q) i (omega (arith, (plain_lengths owner rows s₁ pool₁ marks₁).0)) (inside t q i h) x (sym (mark_of owner rows s₁ pool₁ marks₁ i) ∙ m)
              ∙ sym (ap (λ (l : List ℕ). get_or l i 0) (as_plain owner rows s₂ pool₂ marks₂).1);
        }
      where
        s₁ : List Step
        s₁ = steps_of src text₁

        s₂ : List Step
        s₂ = steps_of src text₂

        a₁ : (load_rows owner rows s₁ pool₁ marks₁).answer ≡ (plain owner rows s₁ pool₁ marks₁).answer
        a₁ = (as_plain owner rows s₁ pool₁ marks₁).0

        a₂ : (load_rows owner rows s₂ pool₂ marks₂).answer ≡ (plain owner rows s₂ pool₂ marks₂).answer
        a₂ = (as_plain owner rows s₂ pool₂ marks₂).0

        -- an accepted load has a mark for each place of the pool
        inside : (t : Tally) → (load_rows owner rows s₁ pool₁ marks₁).answer ≡ accepted t → (i : ℕ) → i < length pool₁ → i < length (plain owner rows s₁ pool₁ marks₁).marks
        inside t q i h =
            let j = sym (plain_answer owner rows s₁ pool₁ marks₁) ∙ sym a₁ ∙ q in
            let m = (fits_marks owner (length pool₁) (length marks₁) rows (accepted_fits owner (length pool₁) (length marks₁) rows s₁ t j)).0 in
            omega (arith, (plain_lengths owner rows s₁ pool₁ marks₁).1, bits_length marks₁, m, row_holds_places (length pool₁))

pub load_table_unique : LoadTableUnique
load_table_unique S src owner rows text pool marks r r' p p' m m' x y =
    (told_apart r r' (x.answer ∙ sym y.answer), x.pool ∙ sym y.pool, x.marks ∙ sym y.marks)

-- ---- one window that fills the pool

-- old marks matter to no answer and to no byte
other_marks : (room : Room) (s : List Step) (pool m₁ m₂ : List ℕ)
    → ((load_steps room s pool m₁).answer ≡ (load_steps room s pool m₂).answer) × ((load_steps room s pool m₁).page ≡ (load_steps room s pool m₂).page)
unfolding load_steps store
other_marks room s pool m₁ m₂ = go (general.judged room s)
  where
    go : (v : Verdict)
        → ((store room.site (stated s) pool m₁ v).answer ≡ (store room.site (stated s) pool m₂ v).answer) × ((store room.site (stated s) pool m₁ v).page ≡ (store room.site (stated s) pool m₂ v).page)
    go (accepted t) = (refl, refl)
    go (refused r n) = (refl, refl)

-- and where they are the same at a place, they leave the same there
other_mark : (room : Room) (s : List Step) (pool m₁ m₂ : List ℕ) (i : ℕ) → i < length m₁ → i < length m₂ → get_or m₁ i 0 ≡ get_or m₂ i 0
    → get_or (load_steps room s pool m₁).marks i 0 ≡ get_or (load_steps room s pool m₂).marks i 0
unfolding load_steps store
other_mark room s pool m₁ m₂ i h₁ h₂ same = go (general.judged room s)
  where
    go : (v : Verdict) → get_or (store room.site (stated s) pool m₁ v).marks i 0 ≡ get_or (store room.site (stated s) pool m₂ v).marks i 0
    go (accepted t) = marked_at room.site (stated s) m₁ i h₁ ∙ ap (λ (old : ℕ). mark_shown (room.site i) (stated s) old) same ∙ sym (marked_at room.site (stated s) m₂ i h₂)
    go (refused r n) = same

module _ {S : Type 0} (src : Source S) (owner first : ℕ) (text pool marks : List ℕ) (o : is_owner owner ≡ true) (u : unfit first (length pool) (length marks) ≡ false) where
  abbrev only : List Row
  only = record { owner = owner; first = first; size = length pool; place = 0 } ∷ []

  abbrev its_window : Room
  its_window = one_window first (length pool) (length marks)

  room_same : owned owner (length pool) (length marks) only ≡ its_window
  room_same = one_window_table owner first (length pool) (length marks) o u

  -- the table's load, and the window's, each with the marks unpacked
  answer_same : (load_rows owner only (steps_of src text) pool marks).answer ≡ (load_window src text first pool marks).answer
  unfolding sites.load
  answer_same =
      (as_plain owner only (steps_of src text) pool marks).0 ∙ ap (λ (r : Room). (load_steps r (steps_of src text) pool (bits marks)).answer) room_same
      ∙ (other_marks its_window (steps_of src text) pool (bits marks) (flags (length pool) marks)).0 ∙ sym (loads.as_plain src text first pool marks).answers

  page_same : (load_rows owner only (steps_of src text) pool marks).page ≡ (load_window src text first pool marks).page
  unfolding sites.load
  page_same =
      (as_plain owner only (steps_of src text) pool marks).1 ∙ ap (λ (r : Room). (load_steps r (steps_of src text) pool (bits marks)).page) room_same
      ∙ (other_marks its_window (steps_of src text) pool (bits marks) (flags (length pool) marks)).1 ∙ sym (loads.as_plain src text first pool marks).pages

  mark_same : (i : ℕ) → i < length pool → (v : Verdict) → (load_window src text first pool marks).answer ≡ v
      → mark_at (load_rows owner only (steps_of src text) pool marks).marks i ≡ mark_at (load_window src text first pool marks).marks i
  unfolding sites.load load_table
  mark_same i h (refused r n) e =
      ap (λ (l : List ℕ). mark_at l i)
      ((table_refusal_changes_nothing S src owner only text pool marks r n (answer_same ∙ e)).1 ∙ sym (loads.refusal_changes_nothing S src text first pool marks r n e).1)
  mark_same i h (accepted t) e =
      let w = loads.fit_window src text first pool marks t e in
      let m = w.row in
      mark_of owner only (steps_of src text) pool marks i ∙ ap (λ (r : Room). get_or (load_steps r (steps_of src text) pool (bits marks)).marks i 0) room_same
      ∙ other_mark its_window (steps_of src text) pool (bits marks) (flags (length pool) marks) i (omega (arith, bits_length marks, m, row_holds_places (length pool)))
      (omega (arith, flags_length (length pool) marks)) (bits_say marks i ∙ sym ((flags_made_so (length pool) marks).say i h))
      ∙ sym (loads.mark_of src text first pool marks t e i h)

pub table_as_window : TableAsWindow
unfolding load_table
table_as_window S src owner first text pool marks o u = (
  answer_same src owner first text pool marks o u,
  page_same src owner first text pool marks o u,
  λ i h. mark_same src owner first text pool marks o u i h (load_window src text first pool marks).answer refl,
)

-- ---- the load in code

module _ {S : Type 0} (src : Source S) (owner : ℕ) (rows : List Row) (text pool marks : List ℕ) where
  -- what a load returns and leaves is its contract
  as_loaded : (a : Loading) (p m : List ℕ) → load_table src owner rows text pool marks ≡ record { answer = told_loading a; page = p; marks = m } → LoadTable src owner rows text pool marks a p m
  as_loaded a p m l = record { answer = ap (λ (x : Loaded). x.answer) (sym l); pool = ap (λ (x : Loaded). x.page) (sym l); marks = ap (λ (x : Loaded). x.marks) (sym l) }

  abbrev judged : Verdict
  judged = general.judged (owned owner (length pool) (length marks) rows) (steps_of src text)

  refused_load : (r : Refusal) (n : ℕ) → judged ≡ refused r n → load_table src owner rows text pool marks ≡ record { answer = refused r n; page = pool; marks = marks }
  unfolding load_table load_rows row_after load_steps store
  refused_load r n e = rw e

  accepted_load : (t : Tally) → judged ≡ accepted t
      → load_table src owner rows text pool marks
      ≡ record { answer = accepted t; page = painted (site_of owner rows) 0 (stated (steps_of src text)) pool; marks = packed (marked (site_of owner rows) 0 (stated (steps_of src text)) (bits marks)) }
  unfolding load_table load_rows row_after load_steps store owned
  accepted_load t e = rw e

  pub load_bad_table : fits owner (length pool) (length marks) rows ≡ false → LoadTable src owner rows text pool marks (refuse BadTable 0) pool marks
  unfolding owned stopping_by verdict
  load_bad_table e = as_loaded (refuse BadTable 0) pool marks (refused_load bad_table 0 (rw e))

  module _ (fit : fits owner (length pool) (length marks) rows ≡ true) (a : Loading) (h : told_loading a ≡ verdict (decision (inside_of owner rows) nothing_yet (steps_of src text))) where
    judged_so : judged ≡ told_loading a
    unfolding owned stopping_by
    judged_so = rw fit (sym h)

    pub load_table_refused : is_accepted a ≡ false → LoadTable src owner rows text pool marks a pool marks
    load_table_refused f =
        let (e, n, q) = loads.turned_away a f in
        as_loaded a pool marks (rw q (refused_load (loader_refusal e) n (judged_so ∙ ap told_loading q)))

    pub load_table_accepted : is_accepted a ≡ true → Bytes marks → (marks₀ pool' marks' : List ℕ) → ClearMarks owner rows marks marks₀
        → Painted (site_of owner rows) (stated (steps_of src text)) pool marks₀ pool' marks' → LoadTable src owner rows text pool marks a pool' marks'
    load_table_accepted t b marks₀ pool' marks' c p =
        let (k, q) = loads.passed a t in
        let ps = stated (steps_of src text) in
        let list = marked (site_of owner rows) 0 ps (bits marks) in
        let says : bits marks' ≡ list = p.marks ∙ ap (painted (site_of owner rows) 0 (map as_mark ps)) c.marks ∙ sym (marks_by_ones (site_of owner rows) ps (bits marks)) in
        let n : length marks' ≡ length marks = p.row.same_length ∙ c.row.same_length in
        let flagged : AllFlags list = rw says at (bits_flags marks') in
        let size : length list ≡ 8 * length marks' = sym (ap length says) ∙ bits_length marks' in
        let row : RowOf list (packed list) = row_made_so list flagged in
        let again = bits_packed list (length marks') size flagged in
        let m : marks' ≡ packed list = same_bits marks' (packed list) (p.row.bytes (c.row.bytes b)) row.bytes (sym again.1) (says ∙ sym again.0) in
        as_loaded a pool' marks' (rw (p.page, m, q) (accepted_load (tallied k) (judged_so ∙ ap told_loading q)))

-- a table that is not refused is sound
pub fits_sound : (owner pool marks : ℕ) (rows : List Row) → fits owner pool marks rows ≡ true → Sound pool rows
fits_sound owner pool marks rows e = let (m, g, n) = fits_marks owner pool marks rows e in (g, n)

-- ---- isolation

-- each owner's room, for a pool and marks of these lengths
rooms_of : (rows : List Row) (pool marks : ℕ) → ℕ → Room
rooms_of rows pool marks owner = owned owner pool marks rows

-- a cabinet with its marks unpacked
opened : Cabinet → Buffers
opened b = record { page = b.pool; marks = bits b.marks }

module _ (rows : List Row) (pool marks : ℕ) where
  -- a load does the same to both
  load_opened : (owner : ℕ) (steps : List Step) (b : Cabinet) → length b.pool ≡ pool → length b.marks ≡ marks
      → (opened (record { pool = (load_rows owner rows steps b.pool b.marks).page; marks = (load_rows owner rows steps b.pool b.marks).marks }) ≡ after (rooms_of rows pool marks owner) steps (opened b))
      × ((load_rows owner rows steps b.pool b.marks).answer ≡ answer_of (rooms_of rows pool marks owner) steps (opened b))
  unfolding opened after answer_of rooms_of
  load_opened owner steps b lp lm =
      rw (← lp, ← lm) (
        ap (λ (m : List ℕ). record { page = (load_rows owner rows steps b.pool b.marks).page; marks = m }) (as_bits owner rows steps b.pool b.marks).0
            ∙ ap (λ (q : List ℕ). record { page = q; marks = (plain owner rows steps b.pool b.marks).marks }) (as_plain owner rows steps b.pool b.marks).1,
        (as_plain owner rows steps b.pool b.marks).0,
      )

  -- and so do rows of loads
  row_opened : (me : ℕ) (events : List Event) (b : Cabinet) → length b.pool ≡ pool → length b.marks ≡ marks
      → (opened (cabinet_after rows events b) ≡ owners.row_after (rooms_of rows pool marks) events (opened b))
      × (answers_for me rows events b ≡ answers_to me (rooms_of rows pool marks) events (opened b))
  unfolding cabinet_after answers_for owners.row_after answers_to
  row_opened me [] b lp lm = (refl, refl)
  row_opened me (load_by owner steps ∷ events) b lp lm =
      let (p, a) = load_opened owner steps b lp lm in
      let l = load_rows owner rows steps b.pool b.marks in
      let next : Cabinet = record { pool = l.page; marks = l.marks } in
      let lp' : length l.page ≡ pool = ap length (as_plain owner rows steps b.pool b.marks).1 ∙ (plain_lengths owner rows steps b.pool b.marks).0 ∙ lp in
      let (q, r) = row_opened me events next lp' ((as_bits owner rows steps b.pool b.marks).1 ∙ lm) in (
        q ∙ ap (owners.row_after (rooms_of rows pool marks) events) p,
        ap₂ (λ (v : Verdict) (vs : List Verdict). if eqb owner me then v ∷ vs else vs) a (r ∙ ap (answers_to me (rooms_of rows pool marks) events) p),
      )

-- a table with a clash refuses every load, which then changes nothing
module _ (rows : List Row) (c : any_clash rows ≡ true) where
  no_fit : (owner pool marks : ℕ) → fits owner pool marks rows ≡ false
  unfolding fits
  no_fit owner pool marks = rw c (none_true (is_owner owner) (leb (length rows) 16) (leb pool 65536) (eqb marks (row_length pool)) (good_rows pool rows))
    where
      none_true : (x₁ x₂ x₃ x₄ x₅ : Bool) → x₁ && (x₂ && (x₃ && (x₄ && (x₅ && false)))) ≡ false
      none_true false x₂ x₃ x₄ x₅ = refl
      none_true true false x₃ x₄ x₅ = refl
      none_true true true false x₄ x₅ = refl
      none_true true true true false x₅ = refl
      none_true true true true true x₅ = and_false x₅

  all_refused : (owner : ℕ) (steps : List Step) (pool marks : List ℕ) → load_rows owner rows steps pool marks ≡ record { answer = refused bad_table 0; page = pool; marks = marks }
  unfolding load_rows row_after load_steps store owned stopping_by verdict
  all_refused owner steps pool marks = rw (no_fit owner (length pool) (length marks))

  unchanged : (events : List Event) (b : Cabinet) → cabinet_after rows events b ≡ b
  unfolding cabinet_after
  unchanged [] b = refl
  unchanged (load_by owner steps ∷ events) b =
      ap (λ (l : Loaded). cabinet_after rows events (record { pool = l.page; marks = l.marks })) (all_refused owner steps b.pool b.marks) ∙ unchanged events b

  -- so the answers go by the owner's loads alone
  by_loads : (me : ℕ) (events : List Event) (b b' : Cabinet) → answers_for me rows events b ≡ answers_for me rows (loads_of me events) b'
  unfolding answers_for loads_of
  by_loads me [] b b' = refl
  by_loads me (load_by owner steps ∷ events) b b' = go (eqb owner me) refl (by_loads me events)
    where
      go : (t : Bool) → eqb owner me ≡ t → ((x x' : Cabinet) → answers_for me rows events x ≡ answers_for me rows (loads_of me events) x')
          → (if t then (load_rows owner rows steps b.pool b.marks).answer ∷ answers_for me rows events (record { pool = (load_rows owner rows steps b.pool b.marks).page; marks = (load_rows owner rows steps b.pool b.marks).marks })
          else answers_for me rows events (record { pool = (load_rows owner rows steps b.pool b.marks).page; marks = (load_rows owner rows steps b.pool b.marks).marks }))
          ≡ answers_for me rows (if t then load_by owner steps ∷ loads_of me events else loads_of me events) b'
      go true e later =
          rw e (ap₂ (λ (v : Verdict) (vs : List Verdict). v ∷ vs)
          (ap (λ (l : Loaded). l.answer) (all_refused owner steps b.pool b.marks) ∙ sym (ap (λ (l : Loaded). l.answer) (all_refused owner steps b'.pool b'.marks)))
          (later (record { pool = (load_rows owner rows steps b.pool b.marks).page; marks = (load_rows owner rows steps b.pool b.marks).marks })
          (record { pool = (load_rows owner rows steps b'.pool b'.marks).page; marks = (load_rows owner rows steps b'.pool b'.marks).marks })))
      go false e later = later (record { pool = (load_rows owner rows steps b.pool b.marks).page; marks = (load_rows owner rows steps b.pool b.marks).marks }) b'

-- where no two windows clash, by the law of `steps`
isolated : (me : ℕ) (rows : List Row) → any_clash rows ≡ false → (events₁ events₂ : List Event) → loads_of me events₁ ≡ loads_of me events₂
    → (b₁ b₂ : Cabinet) → length b₁.pool ≡ length b₂.pool → length b₁.marks ≡ length b₂.marks → SameFor me rows b₁ b₂
    → (answers_for me rows events₁ b₁ ≡ answers_for me rows events₂ b₂) × SameFor me rows (cabinet_after rows events₁ b₁) (cabinet_after rows events₂ b₂)
unfolding opened rooms_of owned
isolated me rows c events₁ events₂ e b₁ b₂ lp lm s =
    let pool = length b₂.pool in
    let marks = length b₂.marks in
    let (p₁, a₁) = row_opened rows pool marks me events₁ b₁ lp lm in
    let (p₂, a₂) = row_opened rows pool marks me events₂ b₂ refl refl in
    let (a, k) =
    isolation me (rooms_of rows pool marks) (λ owner ne. owners_apart owner me rows ne c) events₁ events₂ e (opened b₁) (opened b₂) lp
    (bits_length b₁.marks ∙ ap (λ (n : ℕ). 8 * n) lm ∙ sym (bits_length b₂.marks))
    (record { bytes = s.bytes; marks = λ i x. bits_say b₁.marks i ∙ s.marks i x ∙ sym (bits_say b₂.marks i) }) in (
      a₁ ∙ a ∙ sym a₂,
      record {
        bytes = λ i x. ap (λ (b : Buffers). get_or b.page i 0) p₁ ∙ k.bytes i x ∙ sym (ap (λ (b : Buffers). get_or b.page i 0) p₂);
        marks = λ i x. sym (bits_say (cabinet_after rows events₁ b₁).marks i) ∙ ap (λ (b : Buffers). get_or b.marks i 0) p₁ ∙ k.marks i x
            ∙ sym (ap (λ (b : Buffers). get_or b.marks i 0) p₂) ∙ bits_say (cabinet_after rows events₂ b₂).marks i;
      },
    )

pub table_isolation : TableIsolation
table_isolation me rows events₁ events₂ e b₁ b₂ lp lm s = go (any_clash rows) refl
  where
    go : (c : Bool) → any_clash rows ≡ c → (answers_for me rows events₁ b₁ ≡ answers_for me rows events₂ b₂) × SameFor me rows (cabinet_after rows events₁ b₁) (cabinet_after rows events₂ b₂)
    go true c = (
      by_loads rows c me events₁ b₁ b₂ ∙ ap (λ (l : List Event). answers_for me rows l b₂) e ∙ sym (by_loads rows c me events₂ b₂ b₂),
      rw (unchanged rows c events₁ b₁, unchanged rows c events₂ b₂) s,
    )
    go false c = isolated me rows c events₁ events₂ e b₁ b₂ lp lm s
