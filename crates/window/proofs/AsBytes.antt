-- Packed marks say what marks of a byte each would say, whatever source reads the text.
-- Assumes nothing.
use mathlib.Core.Path.{◌≡◌, refl, sym, ap, ◌∙◌}
use mathlib.Core.Logic.{◌↔◌}
use Prim.Native.Nat.{ℕ, ◌+◌, ◌^◌}
use native.Mathlib.Omega.{arith}
use mathlib.Core.Bool.{Bool, true, false, not, ◌||◌}
use mathlib.Core.Option.{Option, none, some}
use mathlib.Core.List.{List, map}
use lib.Dec.{eqb, ltb}
use lib.ListN.{length, replicate}
use borrow.Author.Tests.{eq-eqb, ne_eqb, eqb-true, eqb-false}
use Rattle.std.specs.Prelude.{if◌then◌else◌}
use Rattle.record.specs.Refusals.{bad_window}
use Rattle.marks.specs.Marks.{row_length, flags}
use Rattle.marks.proofs.Rows.{flags_length}
use Rattle.marks.proofs.Claims.{row_unpacks}
use Rattle.steps.specs.Steps.{Placement, Tally, Verdict, accepted, refused, verdict, stated}
use Rattle.steps.specs.Source as source
use Rattle.steps.specs.Source.{Source}
use Rattle.steps.specs.Runs.{as_mark}
use Rattle.steps.specs.Packed.{AsUnpacked}
use Rattle.steps.specs.Sites as sites
use Rattle.steps.specs.Sites.{Room, painted, marked, store, stopping_in}
use Rattle.steps.proofs.Sites as general
use Rattle.window.specs.Window.{within, window, unfit, one_window}
use Rattle.window.specs.Load.{room_of, load_window}
use Rattle.window.specs.Loads.{byte_unfit, byte_window, byte_load, PackedAsBytes}
use Rattle.window.proofs.Packed.{marks_anew}
use Rattle.window.proofs.Loads.{plain, as_plain, plain_sizes, row, fit_window}

-- ---- one room

-- the two tests of a length agree
same_test : (a b c d : ℕ) → (a ≡ b) ↔ (c ≡ d) → eqb b a ≡ eqb d c
same_test a b c d h = go (eqb b a) refl
  where
    go : (t : Bool) → eqb b a ≡ t → eqb b a ≡ eqb d c
    go true e = e ∙ sym (eq-eqb d c (sym (h.0 (sym (eqb-true b a e)))))
    go false e = e ∙ sym (ne_eqb d c (λ f. eqb-false b a e (sym (h.1 (sym f)))))

module _ (first : ℕ) (page marks byte-marks : List ℕ) (both : (length marks ≡ row_length (length page)) ↔ (length byte-marks ≡ length page)) where
  same_room : one_window first (length page) (length marks) ≡ byte_window first (length page) (length byte-marks)
  unfolding one_window byte_window unfit byte_unfit
  same_room =
      ap (λ (t : Bool). record {
        fault = if not t || ltb 65536 (length page) || ltb (2 ^ 32) (first + length page) then some bad_window else none;
        inside = within first (length page);
        site = window first (length page);
      })
      (same_test (length marks) (row_length (length page)) (length byte-marks) (length page) both)

-- ---- old marks change neither answer nor page

stored_page : (site : ℕ → Option ℕ) (ps : List Placement) (page m m' : List ℕ) (v : Verdict) → (store site ps page m v).page ≡ (store site ps page m' v).page
unfolding store
stored_page site ps page m m' (accepted t) = refl
stored_page site ps page m m' (refused r n) = refl

module _ {S : Type 0} (src : Source S) (room : Room) (text page m m' : List ℕ) where
  same_answer : (sites.load src room text page m).answer ≡ (sites.load src room text page m').answer
  same_answer = general.load_answer src room text page m ∙ sym (general.load_answer src room text page m')

  same_page : (sites.load src room text page m).page ≡ (sites.load src room text page m').page
  unfolding sites.load sites.load_steps
  same_page = stored_page room.site (stated (source.steps_of src text)) page m m' (verdict (stopping_in room (source.steps_of src text)))

-- ---- the claim

pub packed_as_bytes : PackedAsBytes
unfolding byte_load one_window
packed_as_bytes S src text first page marks byte-marks both =
    record {
      answers = p.answers ∙ same_answer src (room_of first page marks) text page places byte-marks ∙ ap (λ (r : Room). (sites.load src r text page byte-marks).answer) rooms;
      pages = p.pages ∙ same_page src (room_of first page marks) text page places byte-marks ∙ ap (λ (r : Room). (sites.load src r text page byte-marks).page) rooms;
      unpacked = unpacked;
      unused = λ t e j l. (row src text first page marks t e).unused j (omega (arith, (plain_sizes src text first page marks).1));
      kept = p.kept;
    }
  where
    places : List ℕ
    places = flags (length page) marks

    p : AsUnpacked marks (load_window src text first page marks) (plain src text first page marks)
    p = as_plain src text first page marks

    rooms : room_of first page marks ≡ byte_window first (length page) (length byte-marks)
    rooms = same_room first page marks byte-marks both

    -- both are ones upon zeros
    same_marks : (t : Tally) → (load_window src text first page marks).answer ≡ accepted t → (plain src text first page marks).marks ≡ (sites.load src (room_of first page marks) text page byte-marks).marks
    same_marks t e =
        let room = room_of first page marks in
        let v = sym (general.load_answer src room text page places) ∙ sym p.answers ∙ e in
        let few : length byte-marks ≡ length page = both.0 (fit_window src text first page marks t e).row in
        ap (λ (l : sites.Loaded). l.marks) (general.accepted_load src room text page places t v)
        ∙ window_marks places (flags_length (length page) marks) ∙ sym (window_marks byte-marks few)
        ∙ sym (ap (λ (l : sites.Loaded). l.marks) (general.accepted_load src room text page byte-marks t v))
      where
        window_marks : (m : List ℕ) → length m ≡ length page → marked (room_of first page marks).site 0 (stated (source.steps_of src text)) m ≡ painted (window first (length page)) 0 (map as_mark (stated (source.steps_of src text))) (replicate (length page) 0)
        window_marks m l = marks_anew first (length page) (stated (source.steps_of src text)) m l

    unpacked : (t : Tally) → (load_window src text first page marks).answer ≡ accepted t → flags (length page) (load_window src text first page marks).marks ≡ (byte_load src text first page byte-marks).marks
    unpacked t e =
        ap (λ (n : ℕ). flags n (load_window src text first page marks).marks) (sym (plain_sizes src text first page marks).1)
        ∙ row_unpacks (plain src text first page marks).marks (load_window src text first page marks).marks (row src text first page marks t e)
        ∙ same_marks t e ∙ ap (λ (r : Room). (sites.load src r text page byte-marks).marks) rooms
