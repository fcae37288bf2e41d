-- A run through each window of an owner, one after the other: in a table whose windows share no place it is the run upon the owner's site.
-- Assumes nothing.
use mathlib.Core.Path.{◌≡◌, refl, sym, ap, ap₂, ◌∙◌}
use Prim.Native.Nat.{ℕ, zero, suc, ◌+◌, ◌-◌, ◌*◌, ◌≤◌, ◌<◌}
use native.Mathlib.Numerals.{add-one}
use native.Mathlib.Nat.{add-zero, zero-add}
use native.Mathlib.Omega.{arith}
use mathlib.Core.Bool.{Bool, true, false, ◌&&◌}
use mathlib.Core.Option.{Option, none, some}
use mathlib.Core.List.{List, [], ◌∷◌, map}
use lib.Dec.{eqb}
use lib.ListN.{length, get_or, drop, drop_of_length-le}
use lib.Seq.{ext_get_or, drop-cons}
use borrow.Author.Tests.{lt-ltb, le-ltb, eq-eqb, ne_eqb}
use Rattle.std.specs.Prelude.{if◌then◌else◌}
use Rattle.digits.proofs.Tests.{both, or_false}
use Rattle.marks.specs.Marks.{mark_at, bits, cleared_run}
use Rattle.marks.specs.Claims.{RunCleared}
use Rattle.marks.proofs.Claims.{bits_length, bits_say, run_cleared_so}
use Rattle.marks.proofs.Below.{split}
use Rattle.steps.specs.Steps.{Placement}
use Rattle.steps.specs.Sites.{byte_shown, painted}
use Rattle.steps.specs.Runs.{run, as_mark, clear_at, cleared}
use Rattle.steps.proofs.Places.{length_painted, painted_at}
use Rattle.window.specs.declared.Row.{Row}
use Rattle.window.specs.Window.{within}
use Rattle.window.specs.Promises.{RowKept, stretch, through, PutIn, PutRun, ClearMarks}
use Rattle.window.specs.Table.{nobody, has, site_of, clashes, any_clash, good_rows}
use Rattle.window.specs.Claims.{PutThroughSite}
use Rattle.window.proofs.Packed.{row_same, row_both}
use Rattle.window.proofs.Tests.{within_true, beside}
use Rattle.window.proofs.Table.{not_later}
use Rattle.window.proofs.Tables.{after_pool}

module _ (size owner : ℕ) (ps : List Placement) where
  -- one window
  abbrev step : Row → List ℕ → List ℕ
  step r page = if eqb r.owner owner then painted (stretch size r) 0 ps page else page

  step_length : (r : Row) (page : List ℕ) → length (step r page) ≡ length page
  step_length r page = go (eqb r.owner owner)
    where
      go : (b : Bool) → length (if b then painted (stretch size r) 0 ps page else page) ≡ length page
      go true = length_painted (stretch size r) ps 0 page
      go false = refl

  pub through_length : (rows : List Row) (page : List ℕ) → length (through size owner rows ps page) ≡ length page
  unfolding through
  through_length [] page = refl
  through_length (r ∷ rows) page = through_length rows (step r page) ∙ step_length r page

  -- what the window shows at a place, if it is the owner's and has it
  step_at : (r : Row) (page : List ℕ) (i : ℕ) → i < length page → i < size → get_or (step r page) i 0 ≡ byte_shown (if has owner i r then some (r.first + (i - r.place)) else none) ps (get_or page i 0)
  unfolding stretch byte_shown
  step_at r page i h l = go (eqb r.owner owner)
    where
      go : (b : Bool) → get_or (if b then painted (stretch size r) 0 ps page else page) i 0
          ≡ byte_shown (if b && within r.place r.size i then some (r.first + (i - r.place)) else none) ps (get_or page i 0)
      go true = painted_at (stretch size r) ps page i h ∙ rw (lt-ltb i size l)
      go false = refl

  -- beyond the page's places nothing changes
  step_after : (r : Row) (page : List ℕ) (i : ℕ) → i < length page → size ≤ i → get_or (step r page) i 0 ≡ get_or page i 0
  unfolding stretch byte_shown
  step_after r page i h u = go (eqb r.owner owner)
    where
      go : (b : Bool) → get_or (if b then painted (stretch size r) 0 ps page else page) i 0 ≡ get_or page i 0
      go true = painted_at (stretch size r) ps page i h ∙ rw (le-ltb i size u)
      go false = refl

  pub through_after : (rows : List Row) (page : List ℕ) (i : ℕ) → i < length page → size ≤ i → get_or (through size owner rows ps page) i 0 ≡ get_or page i 0
  unfolding through
  through_after [] page i h u = refl
  through_after (r ∷ rows) page i h u = through_after rows (step r page) i (omega (arith, step_length r page)) u ∙ step_after r page i h u

  -- a place of one of the windows is not a place of another
  pub through_at : (rows : List Row) → any_clash rows ≡ false → (page : List ℕ) (i : ℕ) → i < length page → i < size
      → get_or (through size owner rows ps page) i 0 ≡ byte_shown (site_of owner rows i) ps (get_or page i 0)
  unfolding through site_of byte_shown
  through_at [] c page i h l = refl
  through_at (r ∷ rows) c page i h l =
      let (c₁, c₂) = or_false (clashes r rows) (any_clash rows) c in
      through_at rows c₂ (step r page) i (omega (arith, step_length r page)) l ∙ ap (byte_shown (site_of owner rows i) ps) (step_at r page i h l)
      ∙ go (has owner i r) refl c₁
    where
      go : (b : Bool) → has owner i r ≡ b → clashes r rows ≡ false
          → byte_shown (site_of owner rows i) ps (byte_shown (if b then some (r.first + (i - r.place)) else none) ps (get_or page i 0))
          ≡ byte_shown (if b then some (r.first + (i - r.place)) else site_of owner rows i) ps (get_or page i 0)
      go true e c₁ = rw (not_later owner i r rows c₁ (both (eqb r.owner owner) (within r.place r.size i) e).1)
      go false e c₁ = refl

  -- so it is the run upon the owner's site
  pub through_is : (rows : List Row) → any_clash rows ≡ false → good_rows size rows ≡ true → (page : List ℕ) → through size owner rows ps page ≡ painted (site_of owner rows) 0 ps page
  unfolding byte_shown
  through_is rows c g page =
      ext_get_or 0 (through size owner rows ps page) (painted (site_of owner rows) 0 ps page) (through_length rows page ∙ sym (length_painted (site_of owner rows) ps 0 page))
      (λ i h. at i (omega (arith, through_length rows page)))
    where
      at : (i : ℕ) → i < length page → get_or (through size owner rows ps page) i 0 ≡ get_or (painted (site_of owner rows) 0 ps page) i 0
      at i h =
          split size i
          (λ u. through_after rows page i h u ∙ sym (painted_at (site_of owner rows) ps page i h ∙ ap (λ (s : Option ℕ). byte_shown s ps (get_or page i 0)) (after_pool owner size rows g i u)))
          (λ l. through_at rows c page i h l ∙ sym (painted_at (site_of owner rows) ps page i h))

pub put_through_site : PutThroughSite
put_through_site owner rows address bytes page marks page' marks' (g, c) p =
    record {
      page = p.page ∙ through_is (length page) owner (run address bytes) rows c g page;
      marks = p.marks ∙ through_is (length page) owner (map as_mark (run address bytes)) rows c g (bits marks);
      row = p.row;
    }

-- ---- as code does it

module _ (owner : ℕ) (r : Row) (address : ℕ) (bytes page marks : List ℕ) where
  -- a window of another owner
  pub put_other : (r.owner ≡ owner → ⊥) → PutRun owner (r ∷ []) address bytes page marks page marks
  unfolding through
  put_other n = record { page = rw (ne_eqb r.owner owner n); marks = rw (ne_eqb r.owner owner n); row = row_same marks }

  pub put_mine : (page' marks' : List ℕ) → r.owner ≡ owner → PutIn r address bytes page marks page' marks' → PutRun owner (r ∷ []) address bytes page marks page' marks'
  unfolding through
  put_mine page' marks' o p =
      record { page = rw (eq-eqb r.owner owner o) p.page; marks = rw (eq-eqb r.owner owner o) p.marks; row = p.row }

-- what is left to be done, on page and marks as they are, is all of it on them as they were
pub record Putting (owner : ℕ) (rows : List Row) (address : ℕ) (bytes page₀ marks₀ page marks : List ℕ) (i : ℕ) : Type 0 where
  pub size : length page ≡ length page₀
  pub page_is : through (length page₀) owner (drop i rows) (run address bytes) page ≡ through (length page₀) owner rows (run address bytes) page₀
  pub marks_is : through (length page₀) owner (drop i rows) (map as_mark (run address bytes)) (bits marks) ≡ through (length page₀) owner rows (map as_mark (run address bytes)) (bits marks₀)
  pub row : RowKept marks₀ marks

module _ (owner : ℕ) (rows : List Row) (address : ℕ) (bytes page₀ marks₀ page marks : List ℕ) (i : ℕ) (t : Putting owner rows address bytes page₀ marks₀ page marks i) where
  pub putting_again : i < length rows → (r : Row) → r ≡ get_or rows i nobody → (page' marks' : List ℕ) → PutRun owner (r ∷ []) address bytes page marks page' marks'
      → Putting owner rows address bytes page₀ marks₀ page' marks' (i + 1)
  unfolding through
  putting_again h r is page' marks' p =
      let x = rw t.size at p.page in
      let y = rw t.size at p.marks in
      let next : drop i rows ≡ r ∷ drop (i + 1) rows = rw (add-one i, is) (drop-cons rows i nobody h) in
      record {
        size = ap length p.page ∙ through_length (length page) owner (run address bytes) (r ∷ []) page ∙ t.size;
        page_is = ap (through (length page₀) owner (drop (i + 1) rows) (run address bytes)) x ∙ rw next at t.page_is;
        marks_is = ap (through (length page₀) owner (drop (i + 1) rows) (map as_mark (run address bytes))) y ∙ rw next at t.marks_is;
        row = row_both marks₀ marks marks' t.row p.row;
      }

  pub putting_end : length rows ≤ i → PutRun owner rows address bytes page₀ marks₀ page marks
  unfolding through
  putting_end h =
      let none_left : drop i rows ≡ [] = drop_of_length-le rows h in
      record { page = rw none_left at t.page_is; marks = rw none_left at t.marks_is; row = t.row }

-- ---- marks taken away

module _ (site : ℕ → Option ℕ) where
  cleared_length : (k : ℕ) (marks : List ℕ) → length (cleared site k marks) ≡ length marks
  unfolding cleared
  cleared_length k [] = refl
  cleared_length k (m ∷ marks) = ap suc (cleared_length (suc k) marks)

  cleared_from : (k : ℕ) (marks : List ℕ) (i : ℕ) → i < length marks → get_or (cleared site k marks) i 0 ≡ clear_at (site (k + i)) (get_or marks i 0)
  unfolding cleared
  cleared_from k [] i h = absurd (omega arith)
  cleared_from k (m ∷ marks) zero h = rw add-zero
  cleared_from k (m ∷ marks) (suc i) h = rw (← over k i) (cleared_from (suc k) marks i (omega arith))
    where
      over : (a i : ℕ) → suc a + i ≡ a + suc i
      over a i = omega arith

  cleared_at : (marks : List ℕ) (i : ℕ) → i < length marks → get_or (cleared site 0 marks) i 0 ≡ clear_at (site i) (get_or marks i 0)
  cleared_at marks i h = rw (zero-add i) at (cleared_from 0 marks i h)

module _ (owner : ℕ) (r : Row) where
  -- window by window
  cleared_both : (rows : List Row) (i : ℕ) (marks : List ℕ) → cleared (site_of owner (r ∷ rows)) i marks ≡ cleared (site_of owner rows) i (cleared (site_of owner (r ∷ [])) i marks)
  unfolding cleared site_of
  cleared_both rows i [] = refl
  cleared_both rows i (m ∷ marks) = ap₂ (λ (x : ℕ) (l : List ℕ). x ∷ l) one (cleared_both rows (suc i) marks)
    where
      twice : (s : Option ℕ) → 0 ≡ clear_at s 0
      twice none = refl
      twice (some a) = refl

      go : (b : Bool) (s : Option ℕ) → clear_at (if b then some (r.first + (i - r.place)) else s) m ≡ clear_at s (clear_at (if b then some (r.first + (i - r.place)) else none) m)
      go true s = twice s
      go false s = refl

      one : clear_at (site_of owner (r ∷ rows) i) m ≡ clear_at (site_of owner rows i) (clear_at (site_of owner (r ∷ []) i) m)
      one = go (has owner i r) (site_of owner rows i)

  pub clear_other : (marks : List ℕ) → (r.owner ≡ owner → ⊥) → ClearMarks owner (r ∷ []) marks marks
  unfolding cleared site_of
  clear_other marks n = record { marks = go 0 (bits marks); row = row_same marks }
    where
      go : (i : ℕ) (m : List ℕ) → m ≡ cleared (site_of owner (r ∷ [])) i m
      go i [] = refl
      go i (x ∷ m) = rw (ne_eqb r.owner owner n) (ap (λ (l : List ℕ). x ∷ l) (go (suc i) m))

  pub clear_mine : (marks marks' : List ℕ) → r.owner ≡ owner → marks' ≡ cleared_run marks r.place r.size → ClearMarks owner (r ∷ []) marks marks'
  unfolding site_of
  clear_mine marks marks' o e =
      let c : RunCleared marks r.place r.size marks' = rw e (run_cleared_so marks r.place r.size) in
      record {
        marks = ext_get_or 0 (bits marks') (cleared (site_of owner (r ∷ [])) 0 (bits marks))
            (bits_length marks' ∙ ap (λ (n : ℕ). 8 * n) c.same_length ∙ sym (bits_length marks) ∙ sym (cleared_length (site_of owner (r ∷ [])) 0 (bits marks)))
            (λ i h. bits_say marks' i ∙ at c i (within r.place r.size i) refl ∙ ap (clear_at (site_of owner (r ∷ []) i)) (sym (bits_say marks i))
            ∙ sym (cleared_at (site_of owner (r ∷ [])) (bits marks) i (omega (arith, bits_length marks, bits_length marks', c.same_length))));
        row = record { same_length = c.same_length; bytes = c.bytes };
      }
    where
      at : RunCleared marks r.place r.size marks' → (i : ℕ) (b : Bool) → within r.place r.size i ≡ b → mark_at marks' i ≡ clear_at (site_of owner (r ∷ []) i) (mark_at marks i)
      at c i true w = let (l, u) = within_true r.place r.size i w in rw (eq-eqb r.owner owner o, w) (c.inside i l u)
      at c i false w = rw (eq-eqb r.owner owner o, w) (c.elsewhere i (beside r.place r.size i w))

  pub cleared_more : (rows : List Row) (marks m marks' : List ℕ) → ClearMarks owner (r ∷ []) m marks' → cleared (site_of owner (r ∷ rows)) 0 (bits m) ≡ cleared (site_of owner rows) 0 (bits marks')
  cleared_more rows marks m marks' c = cleared_both rows 0 (bits m) ∙ ap (cleared (site_of owner rows) 0) (sym c.marks)

-- what is left to be cleared
pub record Clearing (owner : ℕ) (rows : List Row) (marks₀ marks : List ℕ) (i : ℕ) : Type 0 where
  pub marks_is : cleared (site_of owner (drop i rows)) 0 (bits marks) ≡ cleared (site_of owner rows) 0 (bits marks₀)
  pub row : RowKept marks₀ marks

module _ (owner : ℕ) (rows : List Row) (marks₀ marks : List ℕ) (i : ℕ) (t : Clearing owner rows marks₀ marks i) where
  pub clearing_again : i < length rows → (r : Row) → r ≡ get_or rows i nobody → (marks' : List ℕ) → ClearMarks owner (r ∷ []) marks marks' → Clearing owner rows marks₀ marks' (i + 1)
  clearing_again h r is marks' c =
      let next : drop i rows ≡ r ∷ drop (i + 1) rows = rw (add-one i, is) (drop-cons rows i nobody h) in
      record {
        marks_is = sym (cleared_more owner r (drop (i + 1) rows) marks₀ marks marks' c) ∙ rw next at t.marks_is;
        row = row_both marks₀ marks marks' t.row c.row;
      }

  pub clearing_end : length rows ≤ i → ClearMarks owner rows marks₀ marks
  unfolding cleared site_of
  clearing_end h = record { marks = sym (none_cleared 0 (bits marks)) ∙ rw (drop_of_length-le rows h) at t.marks_is; row = t.row }
    where
      none_cleared : (k : ℕ) (m : List ℕ) → cleared (site_of owner []) k m ≡ m
      none_cleared k [] = refl
      none_cleared k (x ∷ m) = ap (λ (l : List ℕ). x ∷ l) (none_cleared (suc k) m)
