-- A run upon a site, place by place.
-- Assumes nothing.
use mathlib.Core.Path.{◌≡◌, refl, sym, ap, ◌∙◌}
use mathlib.Core.Logic.{◌⊎◌, inl, inr}
use Prim.Native.Nat.{ℕ, ◌+◌, ◌-◌, ◌≤◌, ◌<◌, min}
use native.Mathlib.Omega.{arith}
use mathlib.Core.Bool.{Bool, true, false, ◌&&◌}
use mathlib.Core.Option
use mathlib.Core.Option.{Option, none, some}
use mathlib.Core.List.{List}
use lib.ListN.{length, get_or, take, drop, replicate, length-replicate, get_or-replicate, get_or-eq_default, length-drop}
use lib.Seq.{ext_get_or, length-take-le, get_or-take, get_or-drop}
use lib.Dec.{ltb}
use borrow.Author.Tests.{lt-ltb, le-ltb, ltb-true}
use Rattle.std.specs.Prelude.{if◌then◌else◌}
use Rattle.digits.proofs.Tests.{both}
use Rattle.marks.proofs.Below.{split}
use Rattle.marks.specs.Marks.{mark_at, bits, marked_run}
use Rattle.marks.specs.Claims.{RunMarked}
use Rattle.marks.proofs.Claims.{run_made_so, bits_length, bits_say}
use Rattle.steps.specs.Sites.{byte_shown, painted}
use Rattle.steps.specs.Runs.{run}
use Rattle.steps.proofs.Places.{length_painted, painted_at}
use Rattle.steps.proofs.Runs.{last_before, last_within, last_beyond, marks_of_run}
use Rattle.window.specs.declared.Part.{Part}
use Rattle.window.specs.declared.Row.{Row}
use Rattle.window.specs.Window.{within, window}
use Rattle.window.specs.Promises.{Parted, Copied, Painted, stretch, PutIn}
use Rattle.window.specs.Claims.{Beside, StoredRun, RunIsStored}
use Rattle.window.proofs.Tests.{within_true, true_within}

-- ---- what a window shows

pub shows : (first size i : ℕ) → i < size → window first size i ≡ some (first + i)
unfolding window
shows first size i h = rw (lt-ltb i size h)

pub shows_not : (first size i : ℕ) → size ≤ i → window first size i ≡ none
unfolding window
shows_not first size i h = rw (le-ltb i size h)

-- ---- a run upon a list of places

module _ (site : ℕ → Option ℕ) (address : ℕ) (bytes old : List ℕ) where
  abbrev new : List ℕ
  new = painted site 0 (run address bytes) old

  pub run_there : (i k : ℕ) → i < length old → k < length bytes → site i ≡ some (address + k) → get_or new i 0 ≡ get_or bytes k 0
  unfolding byte_shown
  run_there i k h l e = rw (painted_at site (run address bytes) old i h, e, last_within address k bytes l)

  -- a place that the run does not state, or that shows nothing
  kept : (x : ℕ) (s : Option ℕ) → Beside address (length bytes) s → byte_shown s (run address bytes) x ≡ x
  unfolding byte_shown
  kept x none b = refl
  kept x (some a) (inl l) = ap (λ (o : Option ℕ). Option.get_or o x) (last_before a address bytes l)
  kept x (some a) (inr u) = ap (λ (o : Option ℕ). Option.get_or o x) (last_beyond a address bytes u)

  pub run_apart : (i : ℕ) → Beside address (length bytes) (site i) → get_or new i 0 ≡ get_or old i 0
  run_apart i b = split (length old) i
      (λ u. get_or-eq_default new 0 {n = i} (omega (arith, length_painted site (run address bytes) 0 old)) ∙ sym (get_or-eq_default old 0 {n = i} u))
      (λ h. painted_at site (run address bytes) old i h ∙ kept (get_or old i 0) (site i) b)

  -- nothing else has these bytes at these places
  pub run_only : (new' : List ℕ) → length new' ≡ length old
      → ((i k : ℕ) → i < length old → k < length bytes → site i ≡ some (address + k) → get_or new' i 0 ≡ get_or bytes k 0)
      → ((i : ℕ) → i < length old → Beside address (length bytes) (site i) → get_or new' i 0 ≡ get_or old i 0) → new' ≡ new
  run_only new' l there apart =
      ext_get_or 0 new' new (l ∙ sym (length_painted site (run address bytes) 0 old)) (λ i h. at i (omega arith) (site i) refl)
    where
      aside : (i : ℕ) → i < length old → Beside address (length bytes) (site i) → get_or new' i 0 ≡ get_or new i 0
      aside i h b = apart i h b ∙ sym (run_apart i b)

      at : (i : ℕ) → i < length old → (s : Option ℕ) → site i ≡ s → get_or new' i 0 ≡ get_or new i 0
      at i h none e = aside i h (rw e tt)
      at i h (some a) e =
          split address a
          (λ l. split (address + length bytes) a (λ u. aside i h (rw e (inr u)))
          (λ u. let k = a - address in
          let q : a ≡ address + k = omega arith in
          let shown : site i ≡ some (address + k) = e ∙ ap some q in
          there i k h (omega arith) shown ∙ sym (run_there i k h (omega arith) shown)))
          (λ l. aside i h (rw e (inl l)))

-- ---- page and marks

module _ (site : ℕ → Option ℕ) (address : ℕ) (bytes page marks : List ℕ) where
  abbrev ones : List ℕ
  ones = replicate (length bytes) 1

  ones_length : length ones ≡ length bytes
  ones_length = length-replicate {A = ℕ} (length bytes) 1

  pub put_is : (page' marks' : List ℕ) → StoredRun site address bytes page marks page' marks' → Painted site (run address bytes) page marks page' marks'
  put_is page' marks' s =
      record {
        page = run_only site address bytes page page' s.page_length s.byte (λ i h b. s.byte_kept i b);
        marks = rw (marks_of_run address bytes) (run_only site address ones (bits marks) (bits marks') (omega (arith, bits_length marks, bits_length marks', s.marks_length))
            (λ i k h l e. bits_say marks' i ∙ s.marked i k (omega (arith, ones_length)) e (omega (arith, bits_length marks)) ∙ sym (get_or-replicate (length bytes) k 1 0 (omega (arith, ones_length))))
            (λ i h b. bits_say marks' i ∙ s.mark_kept i (rw ones_length at b) ∙ sym (bits_say marks i)));
        row = record { same_length = s.marks_length; bytes = s.marks_bytes };
      }

  is_put : (page' marks' : List ℕ) → Painted site (run address bytes) page marks page' marks' → StoredRun site address bytes page marks page' marks'
  is_put page' marks' p =
      rw p.page (record {
        page_length = length_painted site (run address bytes) 0 page;
        marks_length = p.row.same_length;
        marks_bytes = p.row.bytes;
        byte = run_there site address bytes page;
        marked = λ i k l e g. says i ∙ run_there site address ones (bits marks) i k (omega (arith, bits_length marks)) (omega (arith, ones_length)) e ∙ get_or-replicate (length bytes) k 1 0 l;
        byte_kept = run_apart site address bytes page;
        mark_kept = λ i b. says i ∙ run_apart site address ones (bits marks) i (rw ones_length b) ∙ bits_say marks i;
      })
    where
      says : (i : ℕ) → mark_at marks' i ≡ get_or (painted site 0 (run address ones) (bits marks)) i 0
      says i =
          let m : bits marks' ≡ painted site 0 (run address ones) (bits marks) = rw (marks_of_run address bytes) at p.marks in
          sym (bits_say marks' i) ∙ ap (λ (l : List ℕ). get_or l i 0) m

pub run_is_stored : RunIsStored
run_is_stored site address bytes page marks page' marks' = (is_put site address bytes page marks page' marks', put_is site address bytes page marks page' marks')

-- ---- one window of a table

module _ (size : ℕ) (r : Row) (i : ℕ) where
  pub stretch_shows : i < size → r.place ≤ i → i < r.place + r.size → stretch size r i ≡ some (r.first + (i - r.place))
  unfolding stretch
  stretch_shows h l u = rw (lt-ltb i size h, true_within r.place r.size i l u)

  pub stretch_shown : (a : ℕ) → stretch size r i ≡ some a → (i < size) × (r.place ≤ i) × (i < r.place + r.size) × (a ≡ r.first + (i - r.place))
  unfolding stretch
  stretch_shown a = go (ltb i size && within r.place r.size i) refl
    where
      go : (b : Bool) → ltb i size && within r.place r.size i ≡ b → (if b then some (r.first + (i - r.place)) else none) ≡ some a
          → (i < size) × (r.place ≤ i) × (i < r.place + r.size) × (a ≡ r.first + (i - r.place))
      go true e q =
          let (x, y) = both (ltb i size) (within r.place r.size i) e in
          let (l, u) = within_true r.place r.size i y in
          let z : r.first + (i - r.place) ≡ a = cc in
          (ltb-true i size x, l, u, sym z)
      go false e q = let z : ◌≡◌ {A = ℕ} 0 1 = cc in absurd (omega arith)

-- the part of a run that lies in a window, copied and marked
pub put_part : (r : Row) (address : ℕ) (bytes page marks : List ℕ) (start size : ℕ) → start ≡ min r.place (length page) → size ≡ min r.size (length page - start)
    → (part : Part) (place : ℕ) → place ≡ start + part.place → (page' marks' : List ℕ)
    → Parted r.first size address (length bytes) part
    → Copied (take part.len (drop part.skip bytes)) place page page'
    → marks' ≡ marked_run marks place part.len
    → PutIn r address bytes page marks page' marks'
put_part r address bytes page marks start size is-start is-size part place is-place page' marks' q c m =
    put_is (stretch (length page) r) address bytes page marks page' marks' (record {
      page_length = c.same_length;
      marks_length = rw m rm.same_length;
      marks_bytes = λ b. rw m (rm.bytes b);
      byte = byte;
      marked = λ i k l e g. let (x, y) = among i k l e in rw m (rm.inside i x y g);
      byte_kept = λ i b. c.elsewhere i (rw filled (away i b));
      mark_kept = λ i b. rw m (rm.elsewhere i (away i b));
    })
  where
    rm : RunMarked marks place part.len (marked_run marks place part.len)
    rm = run_made_so marks place part.len

    filled : length (take part.len (drop part.skip bytes)) ≡ part.len
    filled = length-take-le part.len (drop part.skip bytes) (omega (arith, q.in_run, length-drop part.skip bytes))

    -- the number of the byte that a place has, in the run and in the part
    found : (i k : ℕ) → k < length bytes → stretch (length page) r i ≡ some (address + k) → (part.skip ≤ k) × (k < part.skip + part.len) × (i ≡ place + (k - part.skip))
    found i k l e =
        let (h, x, y, z) = stretch_shown (length page) r i (address + k) e in
        let (s, t) = q.all (i - r.place) k (omega arith) l (omega arith) in
        (s, t, omega (arith, q.same_address (omega arith)))

    among : (i k : ℕ) → k < length bytes → stretch (length page) r i ≡ some (address + k) → (place ≤ i) × (i < place + part.len)
    among i k l e = let (s, t, z) = found i k l e in (omega arith, omega arith)

    byte : (i k : ℕ) → i < length page → k < length bytes → stretch (length page) r i ≡ some (address + k) → get_or page' i 0 ≡ get_or bytes k 0
    byte i k h l e =
        let (s, t, z) = found i k l e in
        let j = k - part.skip in
        let k-is : part.skip + j ≡ k = omega arith in
        rw z (c.there j (omega (arith, filled)) ∙ get_or-take part.len (drop part.skip bytes) j 0 (omega arith) ∙ get_or-drop part.skip bytes j 0 ∙ ap (λ (n : ℕ). get_or bytes n 0) k-is)

    -- a place of the part shows an address of the run
    not_beside : (i : ℕ) → place ≤ i → i < place + part.len → Beside address (length bytes) (stretch (length page) r i) → ⊥
    not_beside i l u b = go (rw (stretch_shows (length page) r i (omega (arith, q.in_page)) (omega (arith, q.in_page)) (omega (arith, q.in_page))) at b)
      where
        go : (r.first + (i - r.place) < address) ⊎ (address + length bytes ≤ r.first + (i - r.place)) → ⊥
        go (inl x) = omega (arith, q.same_address (omega arith), q.in_page)
        go (inr x) = omega (arith, q.same_address (omega arith), q.in_run, q.in_page)

    away : (i : ℕ) → Beside address (length bytes) (stretch (length page) r i) → (i < place) ⊎ (place + part.len ≤ i)
    away i b = split (place + part.len) i (λ u. inr u) (λ u. split place i (λ v. absurd (not_beside i v u b)) (λ v. inl v))
