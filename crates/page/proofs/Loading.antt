-- The file of a page, loaded again: its row is accepted with one data record for each piece and states the marked places, each with its
-- byte; so marks and marked bytes are the page's, and the file tells them.
-- Assumes nothing.
use Prim.Native.Nat.{ℕ, zero, suc, ◌+◌, ◌*◌, ◌%◌, ◌^◌, ◌<◌, ◌≤◌}
use mathlib.Core.Path.{◌≡◌, refl, sym, ◌∙◌, ap, ap₂}
use mathlib.Core.Logic.{◌≢◌, inl, inr}
use mathlib.Core.Bool.{Bool, true, false}
use mathlib.Core.Option
use mathlib.Core.Option.{Option, none, some}
use mathlib.Core.List.{List, [], ◌∷◌, ◌++◌, map, map-append}
use native.Mathlib.Omega.{arith}
use native.Mathlib.Nat.{add-zero, zero-add}
use lib.ListN.{length, get_or, take, drop, get_or-eq_default}
use lib.Seq.{drop-cons, ext_get_or}
use borrow.Author.Tests.{eq-eqb, ne_eqb, le-leb, lt-ltb}
use Rattle.marks.specs.Marks.{row_length, mark_at, flags, packed}
use Rattle.marks.specs.Claims.{Bytes, Flag, AllFlags}
use Rattle.marks.proofs.Rows.{flags_length, flags_say}
use Rattle.marks.proofs.Claims.{one_inside, flags_are_flags, packed_unpacked}
use Rattle.digits.specs.Common.{Every}
use Rattle.std.specs.Prelude.{if◌then◌else◌}
use Rattle.record.specs.declared.Record.{Record}
use Rattle.record.specs.declared.Record.TheVariants.{ExtendedLinearAddress}
use Rattle.record.specs.Record.{meant}
use Rattle.record.specs.Meaning.{Meaning, extended_linear}
use Rattle.record.specs.Written.{Sayable}
use Rattle.digits.proofs.Tests.{split}
use Rattle.record.proofs.Choices.{or_else_none}
use Rattle.record.proofs.Writing.{reads_back}
use Rattle.reader.specs.Row.{Numbered, on}
use Rattle.steps.specs.Steps.{Placement, Tally, nothing_yet, accepted, by, outside, turn, decision, verdict, stated}
use Rattle.intel.specs.Placing.{Base, linear, from_start, byte_address, placed, base_behind, does, act, base_after, intel, along, steps_of, placements}
use Rattle.intel.specs.Records.{left, does_on}
use Rattle.window.specs.Window.{within, window, unfit}
use Rattle.steps.specs.Sites.{last_at, mark, byte_shown, mark_shown, painted, marked, stopping_by, Loaded}
use Rattle.loader.specs.Load.{stopping, load}
use Rattle.window.specs.Claims.{Window}
use Rattle.steps.proofs.Places.{painted_at, marked_at, length_painted, length_marked}
use Rattle.intel.proofs.Rows.{cut_text}
use Rattle.window.proofs.Loads.{fit_stopping, accepted_load}
use Rattle.steps.specs.Runs.{spread}
use Rattle.window.specs.Load.{stopping_by_window}
use Rattle.window.proofs.Claims.{unfit_is_no_window}
use Rattle.window.proofs.Storing.{shows}
use Rattle.page.specs.Pieces.{Piece, is_marked, pieces}
use Rattle.page.specs.File.{upper, data_of, is_latest, records, page_records, file}
use Rattle.page.specs.Shape.{places, held, marked_places}
use Rattle.page.specs.Spoken.{said_of, spoken}
use Rattle.page.specs.Claims.{Page, Restores, LoadsBack, FilesTell}
use Rattle.page.proofs.Spoken.{spoken_row}
use Rattle.page.proofs.Shape.{made_so}
use Rattle.page.proofs.Records.{is_so}
use Rattle.page.proofs.Held.{Good, all_good}
use Rattle.page.proofs.Files.{in_range, all_sayable, file_is_object}

-- ---- one record

-- the steps at the line of a record that a line can hold
steps_said : (n : ℕ) (base : Base) (m : Meaning) (rest : List Numbered) → Sayable m
    → left base (on n (said_of m) ∷ rest) ≡ does_on n base m ++ left (base_behind base m) rest
unfolding along act base_after
steps_said n base m rest h = ap (λ (x : Meaning). does_on n base x ++ left (base_behind base x) rest) (reads_back m h).means

-- the byte of a place of the page, at its address
abbrev placement : (first : ℕ) (page : List ℕ) → ℕ → Placement
placement first page i = record { address = first + i; byte = get_or page i 0 }

abbrev tally : ℕ → Tally
tally n = record { records = n; start = none }

module _ (first : ℕ) (page : List ℕ) (below : first + length page ≤ 2 ^ 32) where
  placed_run : (u offset i at n : ℕ) → 65536 * u + offset + i ≡ first + at → at + n ≤ length page
      → placed (linear u) offset i (take n (drop at page)) ≡ map (placement first page) (places at n)
  unfolding spread places byte_address
  placed_run u offset i at zero e h = refl
  placed_run u offset i at (suc n) e h =
      let z : (65536 * u + offset + i) % 2 ^ 32 ≡ first + at = omega arith in
      rw (drop-cons page at 0 (omega arith))
      (ap₂ (λ (a : ℕ) (l : List Placement). record { address = a; byte = get_or page at 0 } ∷ l) z
      (placed_run u offset (suc i) (suc at) n (omega arith) (omega arith)))

  none_outside : (at n : ℕ) → at + n ≤ length page → outside (within first (length page)) (map (placement first page) (places at n)) ≡ none
  unfolding outside within places
  none_outside at zero h = refl
  none_outside at (suc n) h =
      rw (le-leb first (first + at) (omega arith), lt-ltb (first + at) (first + length page) (omega arith)) (none_outside (suc at) n (omega arith))

  -- ---- all records

  -- from a base and a count, a row is accepted with k data records more, and states these places
  record ComesTo (base : Base) (count k : ℕ) (rest : List Numbered) (stated-places : List ℕ) : Type 0 where
    line : ℕ
    decides : decision (within first (length page)) (tally count) (left base rest) ≡ some (by line (accepted (tally (count + k))))
    states : stated (left base rest) ≡ map (placement first page) stated-places

  module _ (marks : List ℕ) (even : length page ≡ length marks) where
    comes_data : (n count k : ℕ) (p : Piece) (rest : List Numbered) (later : List ℕ) → Good first marks p → Sayable (meant (data_of first p) page)
        → ComesTo (linear (upper first p)) (suc count) k rest later
        → ComesTo (linear (upper first p)) count (suc k) (on n (said_of (meant (data_of first p) page)) ∷ rest) (places p.place p.size ++ later)
    unfolding decision turn stated does base_behind
    comes_data n count k p rest later g s c =
        let said = steps_said n (linear (upper first p)) (meant (data_of first p) page) rest s in
        let h : p.place + p.size ≤ length page = omega (arith, g.inside) in
        let run = placed_run (upper first p) ((first + p.place) % 65536) 0 p.place p.size (omega arith) h in
        let one : suc count + k ≡ count + suc k = omega arith in
        record {
          line = c.line;
          decides = rw (said, run, none_outside p.place p.size h, ← one) c.decides;
          states = rw (said, run, map-append (placement first page) (places p.place p.size) later) (ap (λ (l : List Placement). map (placement first page) (places p.place p.size) ++ l) c.states);
        }

    comes_upper : (n u count k : ℕ) (base : Base) (rest : List Numbered) (later : List ℕ) → Sayable (extended_linear u)
        → ComesTo (linear u) count k rest later → ComesTo base count k (on n (said_of (extended_linear u)) ∷ rest) later
    unfolding does base_behind
    comes_upper n u count k base rest later s c =
        let said = steps_said n base (extended_linear u) rest s in
        record { line = c.line; decides = rw said c.decides; states = rw said c.states }

    -- the records of pieces, behind the latest upper 16 bits
    comes : (n count : ℕ) (base : Base) (latest : Option ℕ) (ps : List Piece) → Every (Good first marks) ps
        → Every (λ r. Sayable (meant r page)) (records first latest ps) → ((u : ℕ) → latest ≡ some u → base ≡ linear u)
        → ComesTo base count (length ps) (spoken n (records first latest ps) page) (held ps)
    unfolding records spoken held decision turn stated along act does
    comes n count base latest [] g s b = record { line = n; decides = rw (add-zero count); states = refl }
    comes n count base latest (p ∷ ps) (g, gs) s b =
        go (is_latest latest (upper first p)) refl s
        (λ m c h. comes m c (linear (upper first p)) (some (upper first p)) ps gs h (λ u e. let z : upper first p ≡ u = cc in ap linear z))
      where
        later : List Record
        later = records first (some (upper first p)) ps

        go : (t : Bool) → is_latest latest (upper first p) ≡ t
            → Every (λ r. Sayable (meant r page)) ((if t then [] else ExtendedLinearAddress (upper first p) ∷ []) ++ (data_of first p ∷ later))
            → ((m c : ℕ) → Every (λ r. Sayable (meant r page)) later → ComesTo (linear (upper first p)) c (length ps) (spoken m later page) (held ps))
            → ComesTo base count (suc (length ps)) (spoken n ((if t then [] else ExtendedLinearAddress (upper first p) ∷ []) ++ (data_of first p ∷ later)) page)
            (places p.place p.size ++ held ps)
        go true e (s, h) ih =
            rw (b (upper first p) (is_so latest (upper first p) e)) (comes_data n count (length ps) p _ _ g s (ih (suc n) (suc count) h))
        go false e (s, (d, h)) ih =
            comes_upper n (upper first p) count (suc (length ps)) base _ _ s
            (comes_data (suc n) count (length ps) p _ _ g d (ih (suc (suc n)) (suc count) h))

-- ---- what is stated at a place

-- the byte of a place, if it is marked
seen : (page : List ℕ) (m i : ℕ) → Option ℕ
seen page m i = if is_marked m then some (get_or page i 0) else none

module _ (first : ℕ) (page : List ℕ) where
  -- a place of a list says nothing of another
  past_place : (x place : ℕ) (b : Bool) (rest : List ℕ) → place ≢ x
      → last_at (first + x) (map (placement first page) (if b then place ∷ rest else rest)) ≡ last_at (first + x) (map (placement first page) rest)
  unfolding last_at
  past_place x place true rest n = rw (ne_eqb (first + place) (first + x) (λ e. n (omega arith))) (or_else_none (last_at (first + x) (map (placement first page) rest)))
  past_place x place false rest n = refl

  before_marked : (x place : ℕ) (marks : List ℕ) → x < place → last_at (first + x) (map (placement first page) (marked_places place marks)) ≡ none
  unfolding marked_places last_at
  before_marked x place [] h = refl
  before_marked x place (m ∷ marks) h =
      past_place x place (is_marked m) (marked_places (suc place) marks) (λ e. omega arith) ∙ before_marked x (suc place) marks (omega arith)

  at_place : (place : ℕ) (b : Bool) (rest : List ℕ) → last_at (first + place) (map (placement first page) rest) ≡ none
      → last_at (first + place) (map (placement first page) (if b then place ∷ rest else rest)) ≡ (if b then some (get_or page place 0) else none)
  unfolding last_at
  at_place place true rest e = rw (e, eq-eqb (first + place) (first + place) refl)
  at_place place false rest e = e

  last_marked : (place i : ℕ) (marks : List ℕ) → i < length marks
      → last_at (first + (place + i)) (map (placement first page) (marked_places place marks)) ≡ seen page (get_or marks i 0) (place + i)
  unfolding marked_places seen
  last_marked place i [] h = absurd (omega arith)
  last_marked place zero (m ∷ marks) h =
      rw (add-zero place) (at_place place (is_marked m) (marked_places (suc place) marks) (before_marked place (suc place) marks (omega arith)))
  last_marked place (suc i) (m ∷ marks) h =
      let s : suc place + i ≡ place + suc i = omega arith in
      past_place (place + suc i) place (is_marked m) (marked_places (suc place) marks) (λ e. omega arith)
      ∙ rw s at (last_marked (suc place) i marks (omega arith))

-- ---- painted and marked again

mark_seen : (page : List ℕ) (m i : ℕ) → Flag m → mark (seen page m i) ≡ m
unfolding mark seen
mark_seen page m i (inl e) = rw e
mark_seen page m i (inr e) = rw e

-- a page and its marks, unpacked, and the old ones
module _ (first : ℕ) (page list old-page old_list : List ℕ) (even : length page ≡ length list) (lp : length old-page ≡ length page) (lm : length old_list ≡ length list) where
  abbrev site : ℕ → Option ℕ
  site = window first (length old-page)

  abbrev there : List Placement
  there = map (placement first page) (marked_places 0 list)

  last_there : (i : ℕ) → i < length list → last_at (first + i) there ≡ seen page (get_or list i 0) i
  last_there i h = rw (zero-add i) at (last_marked first page 0 i list h)

  byte_there : (i : ℕ) → i < length list → get_or (painted site 0 there old-page) i 0 ≡ Option.get_or (seen page (get_or list i 0) i) (get_or old-page i 0)
  unfolding byte_shown
  byte_there i h =
      painted_at site there old-page i (omega arith)
      ∙ rw (shows first (length old-page) i (omega arith)) (ap (λ (o : Option ℕ). Option.get_or o (get_or old-page i 0)) (last_there i h))

  marks_again : AllFlags list → marked site 0 there old_list ≡ list
  unfolding mark_shown
  marks_again g =
      let l = length_marked site there 0 old_list in
      ext_get_or 0 (marked site 0 there old_list) list (l ∙ lm)
      (λ i k. marked_at site there old_list i (omega arith) ∙ rw (shows first (length old-page) i (omega arith)) (ap mark (last_there i (omega arith))) ∙ mark_seen page (get_or list i 0) i (g i))

  bytes_again : (i : ℕ) → get_or list i 0 ≡ 1 → get_or (painted site 0 there old-page) i 0 ≡ get_or page i 0
  unfolding seen
  bytes_again i m = byte_there i (one_inside list i m) ∙ rw m

  others_again : (i : ℕ) → get_or list i 0 ≡ 0 → get_or (painted site 0 there old-page) i 0 ≡ get_or old-page i 0
  unfolding seen
  others_again i m =
      split (length list) i
      (λ h. let l = length_painted site there 0 old-page in
      get_or-eq_default (painted site 0 there old-page) 0 (omega arith) ∙ sym (get_or-eq_default old-page 0 (omega arith)))
      (λ h. byte_there i h ∙ rw m)

-- ---- packed

module _ (first : ℕ) (page marks old-page old-marks : List ℕ) (P : Page first page marks) (bytes : Bytes marks) (lp : length old-page ≡ length page) where
  list : List ℕ
  list = flags (length page) marks

  old_list : List ℕ
  old_list = flags (length old-page) old-marks

  list_length : length list ≡ length page
  unfolding list
  list_length = flags_length (length page) marks

  old_length : length old_list ≡ length list
  unfolding list old_list
  old_length = flags_length (length old-page) old-marks ∙ lp ∙ sym (flags_length (length page) marks)

  -- a marked place is one of the page, and a place of the list says its mark
  list_says : (i : ℕ) → get_or list i 0 ≡ mark_at marks i
  unfolding list
  list_says i =
      split (length page) i
      (λ l. get_or-eq_default (flags (length page) marks) 0 {n = i} (omega (arith, flags_length (length page) marks)) ∙ sym (P.unused i l))
      (λ l. flags_say (length page) marks i l)

  -- a text that is accepted with k data records and states the marked places
  restores : (text : List ℕ) (k : ℕ) → verdict (stopping text first old-page old-marks) ≡ accepted (tally k)
      → placements text ≡ map (placement first page) (marked_places 0 (flags (length page) marks))
      → let l = load text first old-page old-marks in (l.answer ≡ accepted (tally k)) × Restores page marks old-page l
  unfolding list old_list
  restores text k v s =
      rw (accepted_load intel text first old-page old-marks (tally k) v, s) (
        refl,
        record {
          same_marks = ap packed (marks_again first page list old-page old_list (sym list_length) lp old_length (flags_are_flags (length page) marks))
              ∙ packed_unpacked (length page) marks bytes P.window.row P.unused;
          same_bytes = λ i m. bytes_again first page list old-page old_list (sym list_length) lp old_length i (list_says i ∙ m);
          others_kept = λ i m. others_again first page list old-page old_list (sym list_length) lp old_length i (list_says i ∙ m);
        },
      )

-- ---- the claims

pub loads_back : LoadsBack
unfolding stopping_by_window stopping_by verdict page_records
loads_back first page marks old-page old-marks P b bm lp lm =
    let w = P.window in
    let shown : List ℕ = flags (length page) marks in
    let ps : List Piece = pieces first 0 none shown in
    let said = spoken_row (page_records first shown) page (file first page marks) (in_range first page marks w) b (file_is_object first page marks w) in
    let c = comes first page w.below shown (sym (flags_length (length page) marks)) 1 0 from_start none ps (all_good first shown) (all_sayable first page marks w b) (λ u e. cc) in
    let cut = cut_text (λ base. base) (file first page marks) in
    let old : Window first old-page old-marks = record { row = lm ∙ w.row ∙ ap row_length (sym lp); small = omega (arith, w.small); below = omega (arith, w.below) } in
    let fit : unfit first (length old-page) (length old-marks) ≡ false = (unfit_is_no_window first old-page old-marks (unfit first (length old-page) (length old-marks)) (record { answer = refl })).1 old in
    restores first page marks old-page old-marks P bm lp (file first page marks) (length ps)
    (ap verdict (fit_stopping first old-page old-marks (steps_of (file first page marks)) fit ∙ sym (cut.0 (within first (length old-page)) nothing_yet))
    ∙ rw (lp, said, c.decides) (ap (λ (k : ℕ). accepted (tally k)) (zero-add (length ps))))
    (sym cut.1 ∙ rw said (c.states ∙ ap (map (placement first page)) (made_so first shown).holds))

pub files_tell : FilesTell
files_tell first page₁ marks₁ page₂ marks₂ P₁ P₂ b₁ b₂ m₁ m₂ l e =
    let even : length marks₁ ≡ length marks₂ = P₁.window.row ∙ ap row_length l ∙ sym P₂.window.row in
    let r₁ = (loads_back first page₁ marks₁ page₁ marks₁ P₁ b₁ m₁ refl refl).1 in
    let r₂ = (loads_back first page₂ marks₂ page₁ marks₁ P₂ b₂ m₂ l even).1 in
    let same : load (file first page₁ marks₁) first page₁ marks₁ ≡ load (file first page₂ marks₂) first page₁ marks₁ = ap (λ (t : List ℕ). load t first page₁ marks₁) e in
    let marks-same : marks₁ ≡ marks₂ = sym r₁.same_marks ∙ ap (λ (x : Loaded). x.marks) same ∙ r₂.same_marks in (
      marks-same,
      λ i m. sym (r₁.same_bytes i m) ∙ ap (λ (x : Loaded). get_or x.page i 0) same ∙ r₂.same_bytes i (rw marks-same at m),
    )
