-- From the place of the first LF to the first line: each of the cutter's answers cuts the text (`Cut`), and one cut is all there is.
-- Assumes nothing.
use Rattle.std.proofs.Common.{◌≡◌, ℕ, zero, suc, ◌+◌, ◌-◌, ◌<◌, ◌≤◌, eqb, ◌≢◌, ◌⊎◌, List, [], ◌∷◌, ◌++◌, length, get_or, take, drop, sym, refl, ap, ◌∙◌, inl, inr, append-nil, arith, length-append, length-drop, length-take-le, take_all, drop-cons, get_or-take, eq-eqb, ne_eqb}
use mathlib.Core.List.Memᴰ
use mathlib.Core.List.{Memᴰ}
use Rattle.std.specs.Prelude.{if◌then◌else◌}
use Rattle.digits.proofs.Tests.{both_ways, split}
use lib.Seq.{split_at, get_or-append_seam}
use Rattle.reader.specs.Lines.{LF, CR, rest, with_CRLF, with_LF, with_text, Cut}
use Rattle.reader.specs.Helpers.{FirstFeed, LineEnd}
use Rattle.reader.proofs.Cutting.{cut_unique}

-- what no index below r holds is not among the first r
not_in_take : (x : ℕ) (r : ℕ) (text : List ℕ) → r ≤ length text → ((k : ℕ) → k < r → get_or text k 0 ≢ x) → ¬ Memᴰ x (take r text)
not_in_take x zero text l h m = Memᴰ.not-nil m
not_in_take x (suc r) [] l h m = Memᴰ.not-nil m
not_in_take x (suc r) (c ∷ text) l h m =
    go (not_in_take x r text (omega arith) (λ k b. h (suc k) (omega arith))) (Memᴰ.cases_cons m)
  where
    go : ¬ Memᴰ x (take r text) → (x ≡ c) ⊎ Memᴰ x (take r text) → ⊥
    go ih (inl e) = h 0 (omega arith) (sym e)
    go ih (inr m) = ih m

-- a line that does not end in CR, by the byte before its end
not_CR_last : (r : ℕ) (text : List ℕ) → r ≤ length text → ((k : ℕ) → r ≡ suc k → get_or text k 0 ≢ CR) → (front : List ℕ) → take r text ≢ front ++ (CR ∷ [])
not_CR_last r text l h front e =
    let n : r ≡ suc (length front) = sym (length-take-le r text l) ∙ ap length e ∙ length-append front (CR ∷ []) ∙ omega arith in
    h (length front) n (sym (get_or-take r text (length front) 0 (omega arith)) ∙ ap (λ (t : List ℕ). get_or t (length front) 0) e ∙ get_or-append_seam front CR [] 0)

line_of_cut : {text : List ℕ} (r : ℕ) (rest' : List ℕ) → r ≤ length text → Cut text (take r text) rest' → LineEnd text r
line_of_cut r rest' l c = record { inside = l; line = (cut_unique c).0 }

module _ (text : List ℕ) (r : ℕ) (f : FirstFeed text r) where
  -- no LF at all
  pub all_of_it : r ≡ length text → LineEnd text r
  all_of_it e =
      line_of_cut r [] f.inside (record {
        end = [];
        whole = rw (take_all r text (omega arith), append-nil);
        no_LF = not_in_take LF r text f.inside f.before;
        ended = with_text;
      })

  -- LF behind a line that does not end in CR
  up_to_LF : r < length text → ((k : ℕ) → r ≡ suc k → get_or text k 0 ≢ CR) → LineEnd text r
  up_to_LF l h =
      line_of_cut r (drop (suc r) text) f.inside (record {
        end = LF ∷ [];
        whole = rw (← (f.found l)) (split_at text r 0 l);
        no_LF = not_in_take LF r text f.inside f.before;
        ended = with_LF (not_CR_last r text f.inside h);
      })

  -- no byte before the LF or the end
  pub no_byte_before : r ≡ 0 → LineEnd text r
  no_byte_before z = split (length text) 0 (λ h. all_of_it (omega arith)) (λ h. up_to_LF (omega arith) (λ k e. absurd (omega arith)))

  pub with_LF_only : r ≢ length text → get_or text (r - 1) 0 ≢ CR → LineEnd text r
  with_LF_only l h = up_to_LF (omega (arith, f.inside)) (λ k e. let p : r - 1 ≡ k = omega arith in rw (← p) h)

-- CR LF
up_to_CR : (text : List ℕ) (r : ℕ) → FirstFeed text (suc r) → suc r < length text → get_or text r 0 ≡ CR → LineEnd text r
up_to_CR text r f l e =
    line_of_cut r (drop (suc (suc r)) text) (omega arith) (record {
      end = CR ∷ LF ∷ [];
      whole = split_at text r 0 (omega arith) ∙ rw (e, drop-cons text (suc r) 0 l, f.found l);
      no_LF = not_in_take LF r text (omega arith) (λ k b. f.before k (omega arith));
      ended = with_CRLF;
    })

pub with_CR : (text : List ℕ) (r : ℕ) → FirstFeed text r → r ≢ length text → r ≢ 0 → get_or text (r - 1) 0 ≡ CR → LineEnd text (r - 1)
with_CR text r f l z e = let p : r ≡ suc (r - 1) = omega arith in up_to_CR text (r - 1) (rw p at f) (omega (arith, f.inside)) e

-- ---- the rest

rest_at : (text : List ℕ) (r : ℕ) → ((k : ℕ) → k < r → get_or text k 0 ≢ LF) → r < length text → get_or text r 0 ≡ LF → rest text ≡ drop (suc r) text
unfolding rest
rest_at [] r b l f = absurd (omega arith)
rest_at (c ∷ text) zero b l f = rw (eq-eqb c LF f)
rest_at (c ∷ text) (suc r) b l f =
    rw (ne_eqb c LF (b 0 (omega arith))) (rest_at text r (λ k h. b (suc k) (omega arith)) (omega arith) f)

rest_none : (text : List ℕ) → ((k : ℕ) → k < length text → get_or text k 0 ≢ LF) → rest text ≡ []
unfolding rest
rest_none [] b = refl
rest_none (c ∷ text) b = rw (ne_eqb c LF (b 0 (omega arith))) (rest_none text (λ k h. b (suc k) (omega arith)))

module _ (text : List ℕ) (r : ℕ) (f : FirstFeed text r) where
  pub behind_all : r ≡ length text → r ≡ length text - length (rest text)
  behind_all e =
      let n : length (rest text) ≡ 0 = ap length (rest_none text (λ k h. f.before k (omega arith))) in
      omega arith

  pub behind_LF : r ≢ length text → r + 1 ≡ length text - length (rest text)
  behind_LF h =
      let l : r < length text = omega (arith, f.inside) in
      let n : length (rest text) ≡ length text - suc r = ap length (rest_at text r f.before l (f.found l)) ∙ length-drop (suc r) text in
      omega arith

-- the rest is no longer than the text, and begins where its length says
pub rest_length : (text : List ℕ) → length (rest text) ≤ length text
unfolding rest
rest_length [] = omega arith
rest_length (c ∷ text) =
    both_ways (λ b. length (if b then text else rest text) ≤ length (c ∷ text)) (eqb c LF) (omega arith) (let i = rest_length text in omega arith)

pub rest_shorter : (c : ℕ) (text : List ℕ) → length (rest (c ∷ text)) < length (c ∷ text)
unfolding rest
rest_shorter c text =
    both_ways (λ b. length (if b then text else rest text) < length (c ∷ text)) (eqb c LF) (omega arith) (let i = rest_length text in omega arith)

pub rest_drop : (text : List ℕ) → drop (length text - length (rest text)) text ≡ rest text
unfolding rest
rest_drop [] = refl
rest_drop (c ∷ text) =
    both_ways (λ b. drop (length (c ∷ text) - length (if b then text else rest text)) (c ∷ text) ≡ (if b then text else rest text)) (eqb c LF)
    (let e : length (c ∷ text) - length text ≡ 1 = omega arith in rw e)
    (let i = rest_length text in let e : length (c ∷ text) - length (rest text) ≡ suc (length text - length (rest text)) = omega arith in rw e (rest_drop text))
