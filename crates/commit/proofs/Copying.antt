-- How the code commits: run by run. The places that it has passed hold what a commit leaves there, and the others what they held.
-- Assumes nothing.
use Prim.Native.Nat.{ℕ, ◌+◌, ◌-◌, ◌≤◌, ◌<◌}
use mathlib.Core.Path.{◌≡◌, refl, sym, ap, ◌∙◌}
use mathlib.Core.Logic.{inl, inr}
use mathlib.Core.Bool.{true, false}
use mathlib.Core.List.{List, ◌++◌, append-nil}
use native.Mathlib.Omega.{arith}
use lib.ListN.{length, get_or, take, drop, drop_of_length-le}
use lib.Seq.{get_or-take, get_or-drop}
use borrow.Author.Tests.{eq-eqb, ne_eqb}
use Rattle.digits.proofs.Parts.{part_length}
use Rattle.marks.specs.Marks.{row_length, mark_at, Marked, Unmarked, NextMarked, NextUnmarked}
use Rattle.marks.proofs.Below.{split}
use Rattle.marks.proofs.Rows.{listed_is}
use Rattle.window.specs.Promises.{Copied}
use Rattle.commit.specs.Commit.{byte_after, committed, lengths_fit, Commit}

-- ---- a place

module _ (stage stated page : List ℕ) (i : ℕ) where
  pub after_marked : Marked stated i → byte_after stage stated page i ≡ get_or stage i 0
  unfolding byte_after
  after_marked m = rw (eq-eqb (mark_at stated i) 1 m)

  pub after_unmarked : Unmarked stated i → byte_after stage stated page i ≡ get_or page i 0
  unfolding byte_after
  after_unmarked n = rw (ne_eqb (mark_at stated i) 1 n)

-- ---- the walk

-- the places before this one are done, and the others are as they were
pub record SoFar (stage stated page₀ page : List ℕ) (place : ℕ) : Type 0 where
  pub same_length : length page ≡ length page₀
  pub passed : (i : ℕ) → i < place → get_or page i 0 ≡ byte_after stage stated page₀ i
  pub to_come : (i : ℕ) → place ≤ i → get_or page i 0 ≡ get_or page₀ i 0

-- the next run of marked places, from the place from which it was searched on
module _ (stage stated page₀ page : List ℕ) (place start end : ℕ) (even : length stage ≡ length page₀) (h : place < length page) (s : SoFar stage stated page₀ page place)
    (m : NextMarked stated (length page) place start) (u : NextUnmarked stated (length page) start end) where
  in_page : end ≤ length page
  in_page = omega (arith, m.high, u.high)

  run_length : length (take (end - start) (drop start stage)) ≡ end - start
  run_length = part_length stage start (end - start) (omega (arith, in_page, u.low, s.same_length))

  pub run_on : (page' : List ℕ) → Copied (take (end - start) (drop start stage)) start page page' → SoFar stage stated page₀ page' end
  run_on page' c =
      record {
        same_length = c.same_length ∙ s.same_length;
        passed = passed;
        to_come = λ i l. c.elsewhere i (inr (omega (arith, run_length, u.low))) ∙ s.to_come i (omega (arith, m.low, u.low));
      }
    where
      in_run : (i : ℕ) → start ≤ i → i < end → get_or page' i 0 ≡ get_or stage i 0
      in_run i l k =
          let j = i - start in
          let e : start + j ≡ i = omega arith in
          ap (λ (x : ℕ). get_or page' x 0) (sym e) ∙ c.there j (omega (arith, run_length)) ∙ get_or-take (end - start) (drop start stage) j 0 (omega arith)
          ∙ get_or-drop start stage j 0 ∙ ap (λ (x : ℕ). get_or stage x 0) e

      passed : (i : ℕ) → i < end → get_or page' i 0 ≡ byte_after stage stated page₀ i
      passed i k =
          split start i
          (λ l. in_run i l k ∙ sym (after_marked stage stated page₀ i (u.passed i l k)))
          (λ l. c.elsewhere i (inl l) ∙ split place i
          (λ p. s.to_come i p ∙ sym (after_unmarked stage stated page₀ i (m.passed i p l)))
          (λ p. s.passed i p))

pub end_of : (stage stated page₀ page : List ℕ) (place : ℕ) → SoFar stage stated page₀ page place → length page ≤ place → page ≡ committed stage stated page₀
unfolding committed
end_of stage stated page₀ page place s h =
    sym (listed_is (byte_after stage stated page₀) (length page₀) page s.same_length (λ i k. sym (s.passed i (omega (arith, s.same_length)))))

-- ---- the whole

pub fits : (stage stated page marks : ℕ) → stage ≡ page → stated ≡ marks → marks ≡ row_length page → lengths_fit stage stated page marks ≡ true
unfolding lengths_fit
fits stage stated page marks e f g = rw (eq-eqb stage page e, eq-eqb stated marks f, eq-eqb marks (row_length page) g)

module _ (stage stated page marks : List ℕ) where
  -- where the lengths do not fit nothing changes
  refused : lengths_fit (length stage) (length stated) (length page) (length marks) ≡ false → Commit stage stated page marks false page marks
  refused e = record { answer = sym e; page = refl; marks = refl }

  pub other_stage : (length stage ≡ length page → ⊥) → Commit stage stated page marks false page marks
  unfolding lengths_fit
  other_stage n = refused (rw (ne_eqb (length stage) (length page) n))

  pub other_row : length stage ≡ length page → (length stated ≡ length marks → ⊥) → Commit stage stated page marks false page marks
  unfolding lengths_fit
  other_row e n = refused (rw (eq-eqb (length stage) (length page) e, ne_eqb (length stated) (length marks) n))

  pub other_marks : length stage ≡ length page → length stated ≡ length marks → (length marks ≡ row_length (length page) → ⊥) → Commit stage stated page marks false page marks
  unfolding lengths_fit
  other_marks e f n =
      refused (rw (eq-eqb (length stage) (length page) e, eq-eqb (length stated) (length marks) f, ne_eqb (length marks) (row_length (length page)) n))

  -- else the row of marks is copied whole
  pub all_copied : length stage ≡ length page → length stated ≡ length marks → length marks ≡ row_length (length page)
      → (page' marks' : List ℕ) → page' ≡ committed stage stated page → marks' ≡ stated ++ drop (length stated) marks
      → Commit stage stated page marks true page' marks'
  all_copied e f g page' marks' p m =
      record {
        answer = sym (fits (length stage) (length stated) (length page) (length marks) e f g);
        page = p;
        marks = m ∙ rw (drop_of_length-le marks {i = length stated} (omega arith)) (append-nil stated);
      }
