-- The bytes of a record as at most two runs, wherever they lie: so many one after the other, and then those after them.
-- Assumes nothing.
use mathlib.Core.Path.{◌≡◌, refl, sym, ap, ap₂, ◌∙◌}
use Prim.Native.Nat.{ℕ, suc, ◌+◌, ◌-◌, ◌≤◌, ◌<◌}
use native.Mathlib.Nat.{add-zero, zero-add}
use native.Mathlib.Omega.{arith}
use mathlib.Core.Bool.{Bool}
use mathlib.Core.Option
use mathlib.Core.Option.{Option, some}
use mathlib.Core.List.{List, [], ◌∷◌, ◌++◌, map, map-append, append-nil}
use lib.ListN.{length, take, drop, length-drop, take-append-drop, drop_of_length-le}
use lib.Seq.{length-take-le, take_all}
use Rattle.digits.specs.Common.{or_else}
use Rattle.marks.specs.Marks.{bits}
use Rattle.steps.specs.Steps.{Placement, outside}
use Rattle.steps.specs.Sites.{painted}
use Rattle.steps.specs.Runs.{spread, run, as_mark}
use Rattle.steps.proofs.Places.{painted_append}
use Rattle.steps.proofs.Runs.{outside_append}
use Rattle.window.specs.Aliases.{Reach}
use Rattle.window.specs.Promises.{first_byte, FirstOutside, Surveyed, Painted}
use Rattle.window.proofs.Packed.{row_both}
use Rattle.window.proofs.Tests.{outside_nothing}
use Rattle.std.specs.Prelude.{None, Some}

-- ---- bytes one after the other

module _ (at : ℕ → ℕ) where
  one_run : (i a : ℕ) (bytes : List ℕ) → ((k : ℕ) → k < length bytes → at (i + k) ≡ a + k) → spread at i bytes ≡ run a bytes
  unfolding spread run
  one_run i a [] h = refl
  one_run i a (b ∷ bytes) h =
      let e : at i ≡ a = rw (add-zero i, add-zero a) at (h 0 (omega arith)) in
      ap₂ (λ (x : ℕ) (ps : List Placement). record { address = x; byte = b } ∷ ps) e
      (one_run (suc i) (suc a) bytes (λ k l. let p : i + suc k ≡ suc i + k = omega arith in let q : a + suc k ≡ suc a + k = omega arith in rw (p, q) at (h (suc k) (omega arith))))

  spread_append : (i : ℕ) (xs ys : List ℕ) → spread at i (xs ++ ys) ≡ spread at i xs ++ spread at (i + length xs) ys
  unfolding spread
  spread_append i [] ys = rw (add-zero i)
  spread_append i (x ∷ xs) ys =
      let e : i + suc (length xs) ≡ suc i + length xs = omega arith in
      rw e (ap (λ (ps : List Placement). record { address = at i; byte = x } ∷ ps) (spread_append (suc i) xs ys))

-- ---- the two runs of a record

-- so many of the bytes lie one after the other, and so do those after them
pub record Runs (at : ℕ → ℕ) (k len : ℕ) : Type 0 where
  pub low : (i : ℕ) → i < k → at i ≡ at 0 + i
  pub high : (i : ℕ) → k + i < len → at (k + i) ≡ at k + i

module _ (at : ℕ → ℕ) (k len : ℕ) (h : k ≤ len) (r : Runs at k len) (bytes : List ℕ) (l : length bytes ≡ len) where
  front : length (take k bytes) ≡ k
  front = length-take-le k bytes (omega arith)

  as_runs : spread at 0 bytes ≡ run (at 0) (take k bytes) ++ run (at k) (drop k bytes)
  as_runs =
      ap (spread at 0) (sym (take-append-drop k bytes)) ∙ spread_append at 0 (take k bytes) (drop k bytes)
      ∙ ap₂ (λ (ps qs : List Placement). ps ++ qs)
      (one_run at 0 (at 0) (take k bytes) (λ i u. rw (zero-add i) (r.low i (omega (arith, front)))))
      (rw (front, zero-add k) (one_run at k (at k) (drop k bytes) (λ i u. r.high i (omega (arith, length-drop k bytes)))))

  -- ---- what lies outside

  module _ (inside : ℕ → Bool) where
    in_two : outside inside (spread at 0 bytes) ≡ or_else (outside inside (run (at 0) (take k bytes))) (outside inside (run (at k) (drop k bytes)))
    in_two = ap (outside inside) as_runs ∙ outside_append inside (run (at 0) (take k bytes)) (run (at k) (drop k bytes))

    -- the first run leaves the window
    outside_low : (i : ℕ) → FirstOutside inside (at 0) k (Some i) → outside inside (spread at 0 bytes) ≡ some (at i)
    outside_low i o = in_two ∙ rw (o.answer (take k bytes) front) (ap (λ (x : ℕ). some x) (sym (r.low i (o.among i refl))))

    -- it lies inside, and then the second decides
    outside_high : (q : Reach) → FirstOutside inside (at 0) k None → FirstOutside inside (at k) (len - k) q
        → outside inside (spread at 0 bytes) ≡ Option.map (λ i. at k + i) (first_byte q)
    outside_high q o p = in_two ∙ rw (o.answer (take k bytes) front, p.answer (drop k bytes) (length-drop k bytes ∙ ap (λ (x : ℕ). x - k) l))

module _ (at : ℕ → ℕ) (k len : ℕ) (inside : ℕ → Bool) (h : k ≤ len) (r : Runs at k len) where
  surveyed_low : (i : ℕ) → FirstOutside inside (at 0) k (Some i) → Surveyed at len inside (Some i)
  surveyed_low i o =
      record { answer = λ bytes l. outside_low at k len h r bytes l inside i o; among = λ j e. let z : i ≡ j = cc in omega (arith, o.among i refl) }

  surveyed_high : (i : ℕ) → FirstOutside inside (at 0) k None → FirstOutside inside (at k) (len - k) (Some i)
      → Surveyed at len inside (Some (k + i))
  surveyed_high i o p =
      record {
        answer = λ bytes l. outside_high at k len h r bytes l inside (Some i) o p ∙ ap (λ (x : ℕ). some x) (sym (r.high i (omega (arith, p.among i refl))));
        among = λ j e. let z : k + i ≡ j = cc in omega (arith, p.among i refl);
      }

  surveyed_inside : FirstOutside inside (at 0) k None → FirstOutside inside (at k) (len - k) None → Surveyed at len inside None
  surveyed_inside o p =
      record { answer = λ bytes l. outside_high at k len h r bytes l inside None o p; among = λ j e. let z : ◌≡◌ {A = ℕ} 0 1 = cc in absurd (omega arith) }

-- ---- what is stored

-- placements upon others
pub painted_both : (site : ℕ → Option ℕ) (ps qs : List Placement) (page₀ marks₀ page marks page' marks' : List ℕ)
    → Painted site ps page₀ marks₀ page marks → Painted site qs page marks page' marks' → Painted site (ps ++ qs) page₀ marks₀ page' marks'
painted_both site ps qs page₀ marks₀ page marks page' marks' x y =
    record {
      page = y.page ∙ ap (painted site 0 qs) x.page ∙ sym (painted_append site 0 ps qs page₀);
      marks = y.marks ∙ ap (painted site 0 (map as_mark qs)) x.marks
          ∙ sym (painted_append site 0 (map as_mark ps) (map as_mark qs) (bits marks₀))
          ∙ ap (λ (rs : List Placement). painted site 0 rs (bits marks₀)) (sym (map-append as_mark ps qs));
      row = row_both marks₀ marks marks' x.row y.row;
    }

-- ---- as code meets it: the first run begins at `a`, and the second at `b`

module _ (at : ℕ → ℕ) (len : ℕ) (inside : ℕ → Bool) (k : ℕ) (few : k ≤ len) (runs : Runs at k len) (a : ℕ) (is_a : a ≡ at 0) where
  pub code_low : (r : Reach) → FirstOutside inside a k r → (i : ℕ) → r ≡ Some i → Surveyed at len inside (Some i)
  code_low r f i e = surveyed_low at k len inside few runs i (rw (e, is_a) at f)

  -- where the first run is all of them
  pub code_whole : k ≡ len → (r : Reach) → FirstOutside inside a len r → Surveyed at len inside r
  code_whole e (Some i) f = code_low (Some i) (rw e f) i refl
  code_whole e None f = surveyed_inside at k len inside few runs (rw (e, ← is_a) f) (outside_nothing inside (at k) (len - k) (omega arith))

  module _ (r : Reach) (f : FirstOutside inside a k r) (e : r ≡ None) (b : ℕ) (is_b : b ≡ at k) (q : Reach) (g : FirstOutside inside b (len - k) q) where
    pub code_high : (i : ℕ) → q ≡ Some i → Surveyed at len inside (Some (k + i))
    code_high i h = surveyed_high at k len inside few runs i (rw (e, is_a) at f) (rw (h, is_b) at g)

    pub code_inside : q ≡ None → Surveyed at len inside None
    code_inside h = surveyed_inside at k len inside few runs (rw (e, is_a) at f) (rw (h, is_b) at g)

-- the bytes of a record, stored as one run or as two
module _ (at : ℕ → ℕ) (site : ℕ → Option ℕ) (bytes page₀ marks₀ : List ℕ) (k : ℕ) (few : k ≤ length bytes) (runs : Runs at k (length bytes)) (a : ℕ) (is_a : a ≡ at 0)
    (page marks : List ℕ) (p : Painted site (run a (take k bytes)) page₀ marks₀ page marks) where
  in_runs : spread at 0 bytes ≡ run (at 0) (take k bytes) ++ run (at k) (drop k bytes)
  in_runs = as_runs at k (length bytes) few runs bytes refl

  pub stored_twice : (b : ℕ) → b ≡ at k → (page' marks' : List ℕ)
      → Painted site (run b (take (length bytes - k) (drop k bytes))) page marks page' marks' → Painted site (spread at 0 bytes) page₀ marks₀ page' marks'
  stored_twice b is_b page' marks' q =
      let rest = take_all (length bytes - k) (drop k bytes) (omega (arith, length-drop k bytes)) in
      rw in_runs (painted_both site (run (at 0) (take k bytes)) (run (at k) (drop k bytes)) page₀ marks₀ page marks page' marks' (rw is_a at p) (rw (is_b, rest) at q))

  pub stored_once : length bytes ≤ k → Painted site (spread at 0 bytes) page₀ marks₀ page marks
  unfolding run
  stored_once h = rw (in_runs, drop_of_length-le bytes h, append-nil (run (at 0) (take k bytes))) (rw is_a at p)
