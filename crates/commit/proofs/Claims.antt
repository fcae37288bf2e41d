-- The claims of `specs/Claims.antt`, proved.
-- Assumes nothing.
use Prim.Native.Nat.{ℕ, ◌+◌, ◌<◌}
use mathlib.Core.Path.{◌≡◌, refl, sym, ap, ◌∙◌}
use mathlib.Core.Bool.{Bool, true}
use mathlib.Core.Option
use mathlib.Core.Option.{Option, none, some}
use mathlib.Core.List.{List, []}
use native.Mathlib.Omega.{arith}
use lib.ListN.{length, get_or, replicate, length-replicate}
use Rattle.std.specs.Prelude.{if◌then◌else◌}
use Rattle.marks.specs.Marks.{row_length, mark_at, flags, packed}
use Rattle.marks.specs.Claims.{AllFlags}
use Rattle.marks.proofs.Below.{same_or}
use Rattle.marks.proofs.Rows.{listed_length, listed_at, listed_is, flags_length}
use Rattle.marks.proofs.Claims.{flags_are_flags, row_made_so}
use Rattle.steps.specs.Steps.{Placement, nothing_yet, accepted, stated}
use Rattle.steps.specs.Source.{steps_of}
use Rattle.steps.specs.Sites.{Loaded, last_at, mark, mark_shown, byte_shown, painted, marked, store}
use Rattle.steps.proofs.Places.{length_painted, length_marked, painted_at, marked_at}
use Rattle.steps.proofs.Packed.{stored_flags}
use Rattle.window.specs.Window.{window}
use Rattle.window.specs.Promises.{Painted}
use Rattle.window.proofs.Storing.{shows}
use Rattle.window.proofs.Packed.{packed_anew}
use Rattle.window.proofs.Loads.{load_answer, accepted_load, fit_window}
use Rattle.commit.specs.Commit.{byte_after, committed, lengths_fit}
use Rattle.commit.specs.Claims.{Committed, CommittedMadeSo, CommittedOnlySo, CommitUnique, CommitsWhatWasPainted, CommitsAsLoad, Examples}
use Rattle.commit.proofs.Copying.{after_marked, after_unmarked, fits}

-- ---- place by place

pub committed_made_so : CommittedMadeSo
unfolding committed
committed_made_so stage stated page =
    record {
      same_length = listed_length (byte_after stage stated page) (length page);
      there = λ i h m. listed_at (byte_after stage stated page) (length page) i h ∙ after_marked stage stated page i m;
      elsewhere = λ i h n. listed_at (byte_after stage stated page) (length page) i h ∙ after_unmarked stage stated page i n;
    }

pub committed_only_so : CommittedOnlySo
unfolding committed
committed_only_so stage stated page page' c =
    sym (listed_is (byte_after stage stated page) (length page) page' c.same_length
    (λ i h. same_or (mark_at stated i) 1
    (λ m. after_marked stage stated page i m ∙ sym (c.there i h m))
    (λ n. after_unmarked stage stated page i n ∙ sym (c.elsewhere i h n))))

pub commit_unique : CommitUnique
commit_unique stage stated page marks r r' p p' m m' x y =
    let e : r ≡ r' = x.answer ∙ sym y.answer in (
      e,
      x.page ∙ ap (λ (b : Bool). if b then committed stage stated page else page) e ∙ sym y.page,
      x.marks ∙ ap (λ (b : Bool). if b then stated else marks) e ∙ sym y.marks,
    )

-- ---- staging and a commit, beside a load

module _ (first : ℕ) (ps : List Placement) (page marks stage stage' stated' : List ℕ) (row : length marks ≡ row_length (length page)) (even : length stage ≡ length page)
    (p : Painted (window first (length page)) ps stage (replicate (length marks) 0) stage' stated') where
  abbrev list : List ℕ
  list = marked (window first (length page)) 0 ps (flags (length page) marks)

  row_is : stated' ≡ packed list
  row_is = packed_anew first (length page) ps marks (replicate (length marks) 0) stated' row refl p.marks p.row

  list_flags : AllFlags list
  unfolding store
  list_flags = stored_flags (window first (length page)) ps [] (flags (length page) marks) (accepted nothing_yet) (flags_are_flags (length page) marks)

  -- a place is marked exactly if something is stated for it
  mark_there : (i : ℕ) → i < length page → mark_at stated' i ≡ mark (last_at (first + i) ps)
  unfolding mark_shown
  mark_there i h =
      let site = window first (length page) in
      let all = flags (length page) marks in
      ap (λ (l : List ℕ). mark_at l i) row_is
      ∙ (row_made_so list list_flags).say i (omega (arith, length_marked site ps 0 all, flags_length (length page) marks))
      ∙ marked_at site ps all i (omega (arith, flags_length (length page) marks))
      ∙ ap (λ (s : Option ℕ). mark_shown s ps (get_or all i 0)) (shows first (length page) i h)

  -- what is painted on places of this window
  byte_there : (old : List ℕ) → length old ≡ length page → (i : ℕ) → i < length page
      → get_or (painted (window first (length page)) 0 ps old) i 0 ≡ Option.get_or (last_at (first + i) ps) (get_or old i 0)
  unfolding byte_shown
  byte_there old e i h =
      painted_at (window first (length page)) ps old i (omega arith)
      ∙ ap (λ (s : Option ℕ). byte_shown s ps (get_or old i 0)) (shows first (length page) i h)

  staged : Committed stage' stated' page (painted (window first (length page)) 0 ps page)
  unfolding mark
  staged =
      record {
        same_length = length_painted (window first (length page)) ps 0 page;
        there = λ i h m. byte_there page refl i h ∙ stated_byte i (last_at (first + i) ps) (sym (mark_there i h) ∙ m)
            ∙ sym (ap (λ (l : List ℕ). get_or l i 0) p.page ∙ byte_there stage even i h);
        elsewhere = λ i h n. byte_there page refl i h ∙ own_byte i (last_at (first + i) ps) (λ e. n (mark_there i h ∙ e));
      }
    where
      stated_byte : (i : ℕ) (o : Option ℕ) → mark o ≡ 1 → Option.get_or o (get_or page i 0) ≡ Option.get_or o (get_or stage i 0)
      stated_byte i none e = absurd (omega arith)
      stated_byte i (some b) e = refl

      own_byte : (i : ℕ) (o : Option ℕ) → (mark o ≡ 1 → ⊥) → Option.get_or o (get_or page i 0) ≡ get_or page i 0
      own_byte i none n = refl
      own_byte i (some b) n = absurd (n refl)

  committed_is : committed stage' stated' page ≡ painted (window first (length page)) 0 ps page
  committed_is = sym (committed_only_so stage' stated' page (painted (window first (length page)) 0 ps page) staged)

  fitting : lengths_fit (length stage') (length stated') (length page) (length marks) ≡ true
  fitting =
      fits (length stage') (length stated') (length page) (length marks) (ap length p.page ∙ length_painted (window first (length page)) ps 0 stage ∙ even)
      (p.row.same_length ∙ length-replicate (length marks) 0) row

pub commits_what_was_painted : CommitsWhatWasPainted
commits_what_was_painted first ps page marks stage stage' stated' row even p =
    (committed_is first ps page marks stage stage' stated' row even p, row_is first ps page marks stage stage' stated' row even p)

pub commits_as_load : CommitsAsLoad
commits_as_load S src text first page marks stage stage' stated' tally e even p r page' marks' c =
    let ps = stated (steps_of src text) in
    let row = (fit_window src text first page marks tally e).row in
    let l = accepted_load src text first page marks tally (sym (load_answer src text first page marks) ∙ e) in
    let yes : r ≡ true = c.answer ∙ fitting first ps page marks stage stage' stated' row even p in (
      yes,
      c.page ∙ ap (λ (b : Bool). if b then committed stage' stated' page else page) yes ∙ committed_is first ps page marks stage stage' stated' row even p
          ∙ sym (ap (λ (x : Loaded). x.page) l),
      c.marks ∙ ap (λ (b : Bool). if b then stated' else marks) yes ∙ row_is first ps page marks stage stage' stated' row even p
          ∙ sym (ap (λ (x : Loaded). x.marks) l),
    )

-- ---- examples

pub examples : Examples
unfolding committed
examples = record { copies = refl; unused = refl }
